-- Exact results, and division.
use Rattle.std.proofs.Common.{◌≡◌, ◌≢◌, ℕ, zero, suc, ◌+◌, ◌-◌, ◌*◌, ◌/◌, ◌%◌, ◌^◌, ◌<◌, ◌≤◌, ℤ, pos, negsuc, neg_ℤ, ◌+ℤ◌, ◌-ℤ◌, ◌<ℤ◌, ◌≤ℤ◌, Bool, true, false, cond, ◌==◌, ◌⊎◌, inl, inr, ⊎_elim, Option, Some, None, Ok, Err, SomeIff, ap, sym, ◌∙◌, refl, subst, arith}
use mir.Syntax.{w128}
use mir.Val.{to_z, of_z}
use lib.Signed.{lt_z}
use Rattle.std.specs.Int.RustNames.{FitsSigned, unsigned_abs}
use Rattle.std.specs.Int.{int_div_euclid, int_rem_euclid, int_pow}
use Rattle.std.specs.Option.{ok_or}
use Rattle.std.proofs.lemmas.Int.{ints, to_z-of_z}
use Rattle.std.proofs.lemmas.Bool.{lt-ltb, le-ltb, cases_lt, cases_eq}
use Rattle.std.proofs.lemmas.Nat.{div-mul-add, mod-mul-add, div-add-mod', mod_below}
use Rattle.std.proofs.Math.Nat.{suc-mul, zero-div, zero-mod, pow-suc, pow-le-pow_left, pow-le-pow_right, le_trans}
use Rattle.py_scalars.specs.declared.numbers.NumFault.TheVariants.{Range}
use Rattle.py_scalars.specs.Exact.{fits, exact, divided, floor_quotient, floor_remainder}

-- an exact result that fits, and one that does not
pub exact_fits : (z : ℤ) → FitsSigned w128 z → exact z ≡ Ok z
exact_fits (pos n) h = ap (λ b. cond b (Ok (pos n)) (Err Range)) (lt-ltb n (2 ^ 127) h.sfits)
exact_fits (negsuc n) h = ap (λ b. cond b (Ok (negsuc n)) (Err Range)) (lt-ltb n (2 ^ 127) h.sfits)

pub exact_past : (z : ℤ) → ¬ (FitsSigned w128 z) → exact z ≡ Err Range
exact_past (pos n) h =
    ap (λ b. cond b (Ok (pos n)) (Err Range)) (le-ltb n (2 ^ 127) (⊎_elim (λ l. absurd (h (record { sfits = l }))) (λ l. l) (cases_lt n (2 ^ 127))))
exact_past (negsuc n) h =
    ap (λ b. cond b (Ok (negsuc n)) (Err Range)) (le-ltb n (2 ^ 127) (⊎_elim (λ l. absurd (h (record { sfits = l }))) (λ l. l) (cases_lt n (2 ^ 127))))

pub ok_or-exact : (o : Option ℤ) (z : ℤ) → SomeIff o (FitsSigned w128 z) z → ok_or o Range ≡ exact z
ok_or-exact None z h = sym (exact_past z h)
ok_or-exact (Some n) z h = ap (λ m. Ok m) h.1 ∙ sym (exact_fits z h.0)

-- one more in the dividend
pub next_dividend : (a n : ℕ) → 0 < n → ((suc (a % n) ≡ n) × (suc a / n ≡ suc (a / n)) × (suc a % n ≡ 0)) ⊎ ((suc (a % n) < n) × (suc a / n ≡ a / n) × (suc a % n ≡ suc (a % n)))
next_dividend a n h =
    ⊎_elim
    (λ e. let whole : suc a ≡ suc (a / n) * n + 0 = omega (arith, div-add-mod' a n, suc-mul (a / n) n) in
    inl (e, ap (λ x. x / n) whole ∙ div-mul-add (suc (a / n)) n 0 h, ap (λ x. x % n) whole ∙ mod-mul-add (suc (a / n)) n 0 h))
    (λ ne. let below : suc (a % n) < n = omega (arith, mod_below a n h) in
    let whole : suc a ≡ (a / n) * n + suc (a % n) = omega (arith, div-add-mod' a n) in
    inr (below, ap (λ x. x / n) whole ∙ div-mul-add (a / n) n (suc (a % n)) below, ap (λ x. x % n) whole ∙ mod-mul-add (a / n) n (suc (a % n)) below))
    (cases_eq (suc (a % n)) n)

-- an answer whose divisor is not 0
pub divided-exact : (b z : ℤ) → b ≢ pos 0 → divided b z ≡ exact z
divided-exact (pos zero) z h = absurd (h refl)
divided-exact (pos (suc b)) z h = refl
divided-exact (negsuc b) z h = refl

pub divided_fits : (b z n : ℤ) → b ≢ pos 0 → FitsSigned w128 n → n ≡ z → Ok n ≡ divided b z
divided_fits b z n h fits e = ap (λ m. Ok m) e ∙ sym (exact_fits z (subst (FitsSigned w128) e fits)) ∙ sym (divided-exact b z h)

-- the floor quotient beside the euclidean one
pub quotient_above : (a b : ℤ) → pos 0 <ℤ b → int_div_euclid a b ≡ floor_quotient a b
quotient_above (pos a) (pos b) h = refl
quotient_above (negsuc a) (pos zero) h = absurd (omega (arith, ints))
quotient_above (negsuc a) (pos (suc b)) h = refl
quotient_above (pos a) (negsuc b) h = absurd (omega (arith, ints))
quotient_above (negsuc a) (negsuc b) h = absurd (omega (arith, ints))

pub quotient_even : (a b : ℤ) → b <ℤ pos 0 → int_rem_euclid a b ≡ pos 0 → int_div_euclid a b ≡ floor_quotient a b
quotient_even a (pos b) h e = absurd (omega (arith, ints))
quotient_even (pos zero) (negsuc b) h e = ap (λ n. neg_ℤ (pos n)) (zero-div (suc b))
quotient_even (pos (suc a)) (negsuc b) h e =
    ⊎_elim (λ w. ap (λ n. neg_ℤ (pos n)) w.1) (λ w. let zero_rest : suc a % suc b ≡ 0 = omega (arith, ints) in absurd (omega arith)) (next_dividend a (suc b) (omega arith))
quotient_even (negsuc a) (negsuc b) h e =
    ⊎_elim (λ w. ap (λ n. pos n) (sym w.1)) (λ w. let full : suc b - 1 - a % suc b ≡ 0 = omega (arith, ints) in absurd (omega arith)) (next_dividend a (suc b) (omega arith))

pub quotient_odd : (a b : ℤ) → b <ℤ pos 0 → int_rem_euclid a b ≢ pos 0 → int_div_euclid a b -ℤ pos 1 ≡ floor_quotient a b
quotient_odd a (pos b) h e = absurd (omega (arith, ints))
quotient_odd (pos zero) (negsuc b) h e = absurd (e (ap (λ n. pos n) (zero-mod (suc b))))
quotient_odd (pos (suc a)) (negsuc b) h e =
    ⊎_elim (λ w. absurd (e (ap (λ n. pos n) w.2))) (λ w. ap (λ n. neg_ℤ (pos n) -ℤ pos 1) w.1 ∙ less_one (a / suc b)) (next_dividend a (suc b) (omega arith))
  where
    less_one : (n : ℕ) → neg_ℤ (pos n) -ℤ pos 1 ≡ negsuc n
    less_one n = omega (arith, ints)
quotient_odd (negsuc a) (negsuc b) h e =
    ⊎_elim (λ w. absurd (e (ap (λ n. pos n) (let r : suc b - 1 - a % suc b ≡ 0 = omega arith in r)))) (λ w. less_one (a / suc b) ∙ ap (λ n. pos n) (sym w.1)) (next_dividend a (suc b) (omega arith))
  where
    less_one : (n : ℕ) → pos (suc n) -ℤ pos 1 ≡ pos n
    less_one n = omega (arith, ints)

-- what is left, beside the euclidean rest
pub rest_above : (a b : ℤ) → pos 0 <ℤ b → int_rem_euclid a b ≡ floor_remainder a b
rest_above (pos a) (pos b) h = refl
rest_above (negsuc a) (pos zero) h = absurd (omega (arith, ints))
rest_above (negsuc a) (pos (suc b)) h = ap (λ n. pos n) (omega arith)
rest_above (pos a) (negsuc b) h = absurd (omega (arith, ints))
rest_above (negsuc a) (negsuc b) h = absurd (omega (arith, ints))

pub rest_even : (a b : ℤ) → b <ℤ pos 0 → int_rem_euclid a b ≡ pos 0 → pos 0 ≡ floor_remainder a b
rest_even a (pos b) h e = absurd (omega (arith, ints))
rest_even (pos zero) (negsuc b) h e = refl
rest_even (pos (suc a)) (negsuc b) h e =
    ⊎_elim (λ w. ap (λ n. neg_ℤ (pos n)) (let r : 0 ≡ b - a % suc b = omega arith in r)) (λ w. let zero_rest : suc a % suc b ≡ 0 = omega (arith, ints) in absurd (omega arith)) (next_dividend a (suc b) (omega arith))
rest_even (negsuc a) (negsuc b) h e =
    ⊎_elim (λ w. ap (λ n. neg_ℤ (pos n)) (sym w.2)) (λ w. let full : suc b - 1 - a % suc b ≡ 0 = omega (arith, ints) in absurd (omega arith)) (next_dividend a (suc b) (omega arith))

pub rest_odd : (a b : ℤ) → b <ℤ pos 0 → int_rem_euclid a b ≢ pos 0 → int_rem_euclid a b +ℤ b ≡ floor_remainder a b
rest_odd a (pos b) h e = absurd (omega (arith, ints))
rest_odd (pos zero) (negsuc b) h e = absurd (e (ap (λ n. pos n) (zero-mod (suc b))))
rest_odd (pos (suc a)) (negsuc b) h e =
    ⊎_elim (λ w. absurd (e (ap (λ n. pos n) w.2))) (λ w. omega (arith, ints)) (next_dividend a (suc b) (omega arith))
rest_odd (negsuc a) (negsuc b) h e =
    ⊎_elim (λ w. absurd (e (ap (λ n. pos n) (let r : suc b - 1 - a % suc b ≡ 0 = omega arith in r)))) (λ w. omega (arith, ints)) (next_dividend a (suc b) (omega arith))

-- powers whose exponent is large
zero-pow : (e : ℕ) → 0 < e → 0 ^ e ≡ 0
zero-pow zero h = absurd (omega arith)
zero-pow (suc e) h = pow-suc 0 e ∙ omega arith

one-pow : (e : ℕ) → 1 ^ e ≡ 1
one-pow zero = refl
one-pow (suc e) = pow-suc 1 e ∙ omega (arith, one-pow e)

large : (n e : ℕ) → 2 ≤ n → 128 ≤ e → 2 ^ 128 ≤ n ^ e
large n e h k = le_trans (pow-le-pow_right {n = 2} (omega arith) k) (pow-le-pow_left h e)

pub power_small : (a : ℤ) (e : ℕ) → 128 ≤ e → (a ≡ pos 0) ⊎ (a ≡ pos 1) → int_pow a e ≡ a
power_small (pos a) e k h =
    ap (λ n. pos n) (⊎_elim (λ z. let n : a ≡ 0 = omega (arith, ints) in rw n (zero-pow e (omega arith))) (λ o. let n : a ≡ 1 = omega (arith, ints) in rw n (one-pow e)) h)
power_small (negsuc a) e k h = absurd (⊎_elim (λ z. omega (arith, ints)) (λ o. omega (arith, ints)) h)

pub power_minus_one : (e : ℕ) → int_pow (negsuc 0) e ≡ cond (e % 2 == 0) (pos 1) (negsuc 0)
power_minus_one e = ap (λ n. cond (e % 2 == 0) (pos n) (neg_ℤ (pos n))) (one-pow e)

pub power_large : (a : ℤ) (e : ℕ) → 128 ≤ e → a ≢ pos 0 → a ≢ pos 1 → a ≢ negsuc 0 → exact (int_pow a e) ≡ Err Range
power_large (pos a) e k z o m =
    let two : 2 ≤ a = ⊎_elim (λ l. absurd (small a l z o)) (λ l. l) (cases_lt a 2) in
    exact_past (pos (a ^ e)) (λ h. let f : a ^ e < 2 ^ 127 = h.sfits in omega (arith, large a e two k))
  where
    small : (a : ℕ) → a < 2 → pos a ≢ pos 0 → pos a ≢ pos 1 → ⊥
    small zero l z o = z refl
    small (suc zero) l z o = o refl
    small (suc (suc a)) l z o = omega arith
power_large (negsuc a) e k z o m =
    let two : 2 ≤ suc a = ⊎_elim (λ l. absurd (small a l m)) (λ l. l) (cases_lt (suc a) 2) in
    exact_past (int_pow (negsuc a) e) (λ h. outside (e % 2 == 0) (suc a ^ e) (large (suc a) e two k) h)
  where
    small : (a : ℕ) → suc a < 2 → negsuc a ≢ negsuc 0 → ⊥
    small zero l m = m refl
    small (suc a) l m = omega arith

    outside : (b : Bool) (n : ℕ) → 2 ^ 128 ≤ n → FitsSigned w128 (cond b (pos n) (neg_ℤ (pos n))) → ⊥
    outside true n l h = let f : n < 2 ^ 127 = h.sfits in omega arith
    outside false zero l h = omega arith
    outside false (suc n) l h = let f : n < 2 ^ 127 = h.sfits in omega arith

-- a signed number in the code is the number itself
pub as_itself : (z : ℤ) → FitsSigned w128 z → to_z w128 (of_z w128 z) ≡ z
as_itself z h = to_z-of_z w128 z h

pub both_themselves : (F : ℤ → ℤ → ℤ) (a b r : ℤ) → FitsSigned w128 a → FitsSigned w128 b → r ≡ F (to_z w128 (of_z w128 a)) (to_z w128 (of_z w128 b)) → r ≡ F a b
both_themselves F a b r h k e =
    e ∙ ap (λ x. F x (to_z w128 (of_z w128 b))) (to_z-of_z w128 a h) ∙ ap (F a) (to_z-of_z w128 b k)

pub sum_fits : (r b : ℤ) → pos 0 ≤ℤ r → b <ℤ pos 0 → FitsSigned w128 r → FitsSigned w128 b → FitsSigned w128 (r +ℤ b)
sum_fits r (pos b) h k f g = absurd (omega (arith, ints))
sum_fits (negsuc r) (negsuc b) h k f g = absurd (omega (arith, ints))
sum_fits (pos r) (negsuc b) h k f g = record { sfits = grind (arith, ints) }

pub large_exponent : (b : ℤ) → FitsSigned w128 b → lt_z (to_z w128 (of_z w128 b)) (pos 128) ≡ false → pos 0 ≤ℤ b → 128 ≤ unsigned_abs b
large_exponent (pos b) h l k = omega (arith, ints)
large_exponent (negsuc b) h l k = absurd (omega (arith, ints))
