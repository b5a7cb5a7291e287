-- Targets among lists of expressions.
use Rattle.std.proofs.Common.{◌≡◌, ℕ, ◌+◌, ◌<◌, ◌≤◌, ◌==◌, Bool, ◌&&◌, false, List, [], ◌∷◌, ◌++◌, length, drop, get_or, refl, ap, ◌∙◌, sym}
use Rattle.std.proofs.lemmas.List.{drop_more, drop_all}
use Rattle.py_ast.specs.Tree.{Tree, Trees, more}
use Rattle.py_ast.specs.View.{view, views}
use Rattle.py_ast.specs.declared.expr.Expr.{Expr}
use Rattle.py_grammar.specs.Kept.{some_of, are_targets, target_of, targets_of}

pub some_row : (xs : List Expr) (b : Bool) → b ≡ (length xs == 0) → b ≡ false → are_targets (views xs) ≡ (some_of (views xs) && are_targets (views xs))
some_row [] b e f = cc
some_row (x ∷ xs) b e f = refl

-- some trees, and then others
abbrev pub before_targets : List Expr → Trees → Trees
before_targets [] ts = ts
before_targets (x ∷ xs) ts = more (view x) (before_targets xs ts)

before_targets_push : (xs : List Expr) (x : Expr) (ts : Trees) → before_targets (xs ++ x ∷ []) ts ≡ before_targets xs (more (view x) ts)
before_targets_push [] x ts = refl
before_targets_push (y ∷ xs) x ts = ap (more (view y)) (before_targets_push xs x ts)

before_targets_end : (xs : List Expr) → before_targets xs (views []) ≡ views xs
before_targets_end [] = refl
before_targets_end (x ∷ xs) = ap (more (view x)) (before_targets_end xs)

pub next_target : (all done new : List Expr) (i : ℕ) (x target : Expr) (whole : Trees) → i < length all → x ≡ get_or all i x → view target ≡ target_of (view x)
    → new ≡ done ++ target ∷ [] → before_targets done (targets_of (views (drop i all))) ≡ whole → before_targets new (targets_of (views (drop (i + 1) all))) ≡ whole
next_target all done new i x target whole inside is e pushed so_far =
    ap (λ (z : List Expr). before_targets z (targets_of (views (drop (i + 1) all)))) pushed
    ∙ before_targets_push done target (targets_of (views (drop (i + 1) all)))
    ∙ ap (λ (z : Tree). before_targets done (more z (targets_of (views (drop (i + 1) all))))) (e ∙ ap (λ (z : Expr). target_of (view z)) is)
    ∙ ap (λ (z : List Expr). before_targets done (targets_of (views z))) (sym (drop_more all i x inside))
    ∙ so_far

pub all_targets : (all done : List Expr) (i : ℕ) (whole : Trees) → length all ≤ i → before_targets done (targets_of (views (drop i all))) ≡ whole → views done ≡ whole
all_targets all done i whole past so_far =
    sym (before_targets_end done) ∙ ap (λ (z : List Expr). before_targets done (targets_of (views z))) (sym (drop_all i all past)) ∙ so_far
