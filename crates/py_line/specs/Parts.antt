-- Parts of which something is made: the parts and how deep it is, where it is kept.
use Rattle.std.specs.Prelude.{ℕ, ◌+◌, max, nat_le, Option, Some, None, if◌then◌else◌}
use Rattle.py_ast.specs.Tree.{Tree, Trees}
use Rattle.py_grammar.specs.Kept.{Kept, whole, deep, KeptAll, all, one_deep, some_deep}

-- a part and its depth, where it is kept
abbrev pub tree : Kept → Option (Tree × ℕ)
tree (whole a d) = Some (a, d)
tree (deep _) = None

abbrev pub trees : KeptAll → Option (Trees × ℕ)
trees (all ts d) = Some (ts, d)
trees (one_deep _) = None
trees (some_deep _) = None

-- the number, where a tree so deep is kept
abbrev pub within : ℕ → Option ℕ
within d = if nat_le d 60 then Some d else None

abbrev pub with_depth : {A : Type 0} → A → Option ℕ → Option (A × ℕ)
with_depth a None = None
with_depth a (Some d) = Some (a, d)

-- one part more deep
abbrev pub above : {A : Type 0} → Option (A × ℕ) → Option (A × ℕ)
above None = None
above (Some p) = with_depth p.0 (within (1 + p.1))

-- two parts, and how deep the deeper is
abbrev pub both : {A B : Type 0} → Option (A × ℕ) → Option (B × ℕ) → Option ((A × B) × ℕ)
both None q = None
both (Some p) None = None
both (Some p) (Some q) = Some ((p.0, q.0), max p.1 q.1)
