-- Several expressions by how many they are.
use Rattle.std.proofs.Common.{◌≡◌, ◌≢◌, ℕ, ◌==◌, Bool, false, ◌&&◌, List, [], ◌∷◌, length, refl}
use Rattle.py_ast.specs.View.{views}
use Rattle.py_ast.specs.declared.expr.Expr.{Expr}
use Rattle.py_grammar.specs.Kept.{Shape, all, some_deep, push_deep, are_targets, may_be_target, alone, made_tuple}

pub some_before : (xs : List Expr) (s : Shape) (b : Bool) → b ≡ (length xs == 0) → b ≡ false
    → some_deep (are_targets (views xs) && may_be_target s) ≡ push_deep (views xs) s
some_before [] s b e f = cc
some_before (x ∷ xs) s b e f = refl

pub not_alone : (xs : List Expr) (d : ℕ) → length xs ≢ 1 → made_tuple 60 (all (views xs) d) ≡ alone 60 (all (views xs) d)
not_alone [] d h = refl
not_alone (x ∷ []) d h = absurd (h refl)
not_alone (x ∷ y ∷ xs) d h = refl
