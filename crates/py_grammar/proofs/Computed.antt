-- What is read of given signs, computed, and so what they spell.
use Rattle.std.proofs.Common.{◌≡◌, ℕ, List, [], length, Some, None, sym, ◌∙◌, subst, arith, inl, inr}
use Rattle.std.proofs.lemmas.List.{append-nil}
use Rattle.py_ast.specs.Tree.{Tree, depth}
use Rattle.py_grammar.specs.Grammar.{Exprs, Spells}
use Rattle.py_grammar.specs.Kept.{whole, keep}
use Rattle.py_grammar.specs.Reading.{exprs, nested}
use Rattle.py_grammar.specs.declared.sign.Sign.{Sign}
use Rattle.py_grammar.proofs.Kept.{kept_as}
use Rattle.py_grammar.proofs.Exact.{all_read, one_tree}
use Rattle.py_grammar.proofs.SoundLists.{exprs_sound, nested_sound}

-- a tree that is kept whole is itself
kept_is : (most : ℕ) (a b : Tree) (d : ℕ) → keep most a ≡ whole b d → a ≡ b
kept_is most a b d e =
    elim (kept_as most a) [
      | inl p ↦ let same : whole a (depth a) ≡ whole b d = sym p.1 ∙ e in cc
      | inr p ↦ let same = sym p.1 ∙ e in cc
    ]

pub read_spells : (xs : List Sign) (a : Tree) (d : ℕ) → exprs 60 (nested 60 (length xs)) xs ≡ Some (whole a d, []) → Spells Exprs xs a
read_spells xs a d e =
    let t = exprs_sound 60 (omega arith) (nested 60 (length xs)) (nested_sound 60 (omega arith) (length xs)) xs (whole a d, []) e in
    subst (λ a. Spells Exprs xs a) (kept_is 60 t.is.tree a d t.is.kept)
    (subst (λ z. Spells Exprs z t.is.tree) (sym (t.whole ∙ append-nil t.phrase)) t.is.spells)

-- signs of which that is read spell nothing else
pub read_is : {xs : List Sign} {a : Tree} → Spells Exprs xs a → (b : Tree) (d : ℕ)
    → exprs 60 (nested 60 (length xs)) xs ≡ Some (whole b d, []) → a ≡ b
read_is {xs} {a} s b d e = one_tree Exprs xs a b s (read_spells xs b d e)

-- signs that are not read spell nothing
pub not_read : {xs : List Sign} {a : Tree} → Spells Exprs xs a → exprs 60 (nested 60 (length xs)) xs ≡ None → ⊥
not_read s e = let read = all_read 60 (omega arith) s in cc
