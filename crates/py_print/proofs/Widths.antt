-- The stack of widths of lines that are indented by four spaces for each depth.
use Rattle.std.proofs.Common.{◌≡◌, ℕ, zero, suc, ◌+◌, ◌*◌, ◌-◌, ◌<◌, ◌≤◌, List, [], ◌∷◌, ◌++◌, length, filter, Bool, true, false, cond, ◌==◌, ◌&&◌, ◌||◌, nat_lt, nat_le, if◌then◌else◌, Some, None, refl, sym, ap, ◌∙◌, ◌⊎◌, inl, inr, ⊎_elim, arith, length-append}
use Rattle.std.specs.List.{list_any, list_all}
use Rattle.std.proofs.lemmas.List.{append-nil}
use Rattle.std.proofs.lemmas.List.Elements.{filter-append}
use Rattle.std.proofs.lemmas.List.Folds.{list_any-append, list_all-append}
use Rattle.std.proofs.lemmas.Bool.{cases_lt, and_from, cond-true, cond-false, ne_eqb, eq-eqb, lt-ltb, le-leb, lt-leb}
use Rattle.py_layout.specs.Layout.{stack_after}

abbrev pub widths : ℕ → List ℕ
widths zero = 0 ∷ []
widths (suc d) = widths d ++ 4 * suc d ∷ []

pub widths_length : (d : ℕ) → length (widths d) ≡ d + 1
widths_length zero = omega arith
widths_length (suc d) = let r = widths_length d in let l = length-append (widths d) (4 * suc d ∷ []) in omega arith

all_below : (d w : ℕ) → 4 * d < w → list_all (λ v. nat_lt v w) (widths d) ≡ true
all_below zero w h = and_from (nat_lt 0 w) true (lt-ltb 0 w (omega arith)) refl
all_below (suc d) w h =
    list_all-append (λ v. nat_lt v w) (widths d) (4 * suc d ∷ [])
    ∙ and_from (list_all (λ v. nat_lt v w) (widths d)) (nat_lt (4 * suc d) w && true) (all_below d w (omega arith)) (and_from (nat_lt (4 * suc d) w) true (lt-ltb (4 * suc d) w h) refl)

none_is : (d w : ℕ) → 4 * d < w → list_any (λ v. v == w) (widths d) ≡ false
none_is zero w h = ap (λ z. z || false) (ne_eqb 0 w (λ e. omega arith))
none_is (suc d) w h =
    list_any-append (λ v. v == w) (widths d) (4 * suc d ∷ [])
    ∙ ap (λ z. z || ((4 * suc d == w) || false)) (none_is d w (omega arith))
    ∙ ap (λ z. z || false) (ne_eqb (4 * suc d) w (λ e. omega arith))

or_right : (b : Bool) → (b || true) ≡ true
or_right true = refl
or_right false = refl

-- a number at most the next is that or at most this
at_most : (e d : ℕ) → e ≤ suc d → (e ≤ d) ⊎ (e ≡ suc d)
at_most e d h = ⊎_elim (λ (l : e < suc d). inl (omega arith)) (λ (l : suc d ≤ e). inr (omega arith)) (cases_lt e (suc d))

one_is : (d e : ℕ) → e ≤ d → list_any (λ v. v == 4 * e) (widths d) ≡ true
one_is zero e h = ap (λ z. z || false) (eq-eqb 0 (4 * e) (omega arith))
one_is (suc d) e h =
    list_any-append (λ v. v == 4 * e) (widths d) (4 * suc d ∷ [])
    ∙ ⊎_elim
    (λ (l : e ≤ d). ap (λ z. z || ((4 * suc d == 4 * e) || false)) (one_is d e l))
    (λ (l : e ≡ suc d). ap (λ z. list_any (λ v. v == 4 * e) (widths d) || (z || false)) (eq-eqb (4 * suc d) (4 * e) (omega arith)) ∙ or_right (list_any (λ v. v == 4 * e) (widths d)))
    (at_most e d h)

all_kept : (d w : ℕ) → 4 * d ≤ w → filter (λ v. nat_le v w) (widths d) ≡ widths d
all_kept zero w h = cond-true (nat_le 0 w) (0 ∷ []) [] (le-leb 0 w (omega arith))
all_kept (suc d) w h =
    filter-append (λ v. nat_le v w) (widths d) (4 * suc d ∷ [])
    ∙ ap (λ z. z ++ filter (λ v. nat_le v w) (4 * suc d ∷ [])) (all_kept d w (omega arith))
    ∙ ap (λ z. widths d ++ z) (cond-true (nat_le (4 * suc d) w) (4 * suc d ∷ []) [] (le-leb (4 * suc d) w h))

kept : (d e : ℕ) → e ≤ d → filter (λ v. nat_le v (4 * e)) (widths d) ≡ widths e
kept zero e h = let z : e ≡ 0 = omega arith in ap (λ n. filter (λ v. nat_le v (4 * n)) (widths 0)) z ∙ ap widths (sym z)
kept (suc d) e h =
    ⊎_elim
    (λ (l : e ≤ d).
    filter-append (λ v. nat_le v (4 * e)) (widths d) (4 * suc d ∷ [])
    ∙ ap (λ z. z ++ filter (λ v. nat_le v (4 * e)) (4 * suc d ∷ [])) (kept d e l)
    ∙ ap (λ z. widths e ++ z) (cond-false (nat_le (4 * suc d) (4 * e)) (4 * suc d ∷ []) [] (lt-leb (4 * suc d) (4 * e) (omega arith)))
    ∙ append-nil (widths e))
    (λ (l : e ≡ suc d).
    let same : 4 * suc d ≤ 4 * e = omega arith in
    all_kept (suc d) (4 * e) same ∙ ap widths (sym l))
    (at_most e d h)

pub stack_is : (d e : ℕ) → e ≤ d + 1 → stack_after (widths d) (4 * e) ≡ Some (widths e)
stack_is d e h =
    ⊎_elim
    (λ (l : e ≤ d).
    cond-true (list_any (λ v. v == 4 * e) (widths d)) (Some (filter (λ v. nat_le v (4 * e)) (widths d))) (if list_all (λ v. nat_lt v (4 * e)) (widths d) then Some (widths d ++ 4 * e ∷ []) else None) (one_is d e l)
    ∙ ap Some (kept d e l))
    (λ (l : e ≡ suc d).
    cond-false (list_any (λ v. v == 4 * e) (widths d)) (Some (filter (λ v. nat_le v (4 * e)) (widths d))) (if list_all (λ v. nat_lt v (4 * e)) (widths d) then Some (widths d ++ 4 * e ∷ []) else None) (none_is d (4 * e) (omega arith))
    ∙ cond-true (list_all (λ v. nat_lt v (4 * e)) (widths d)) (Some (widths d ++ 4 * e ∷ [])) None (all_below d (4 * e) (omega arith))
    ∙ ap (λ z. Some (widths d ++ 4 * z ∷ [])) l
    ∙ ap (λ z. Some (widths z)) (sym l))
    (at_most e d (omega arith))
