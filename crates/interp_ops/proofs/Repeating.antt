-- Lists that are repeated.
use Rattle.std.proofs.Common.{◌≡◌, ◌≢◌, ◌+◌, ◌-◌, ◌*◌, ◌++◌, ℕ, zero, suc, List, [], ◌∷◌, length, ap, sym, refl, ◌∙◌, append_assoc, arith, length-append}
use Rattle.std.specs.Prelude.{◌<◌, nat_le, false}
use Rattle.interp_machine.specs.Meaning.{steps}
use Rattle.interp_machine.specs.declared.machine.Machine.{Machine}
use Rattle.interp_ops.specs.Operators.{repeated, turns}

pub repeated_none : {A : Type 0} (n : ℕ) (xs : List A) → length xs ≡ 0 → repeated n xs ≡ []
repeated_none zero xs none = refl
repeated_none (suc n) [] none = repeated_none n [] none
repeated_none (suc n) (x ∷ xs) none = absurd (omega arith)

pub repeated_turns : {A : Type 0} (n : ℕ) (xs : List A) → repeated (turns (length xs) n) xs ≡ repeated n xs
repeated_turns n [] = sym (repeated_none n [] refl)
repeated_turns n (x ∷ xs) = refl

pub repeated_more : {A : Type 0} (n : ℕ) (xs done more : List A) → n ≢ 0 → more ≡ done ++ xs → more ++ repeated (n - 1) xs ≡ done ++ repeated n xs
repeated_more zero xs done more some all = absurd (some refl)
repeated_more (suc n) xs done more some all =
    let less : suc n - 1 ≡ n = omega arith in
    rw (less, all) (append_assoc done xs (repeated n xs))

pub length-repeated : {A : Type 0} (n : ℕ) (xs : List A) → length (repeated n xs) ≡ length xs * n
length-repeated zero xs = omega arith
length-repeated (suc n) xs =
    let e = length-repeated n xs in
    length-append xs (repeated n xs) ∙ ap (λ k. length xs + k) e ∙ grind arith

-- both counts are more than the steps that are left
pub steps_past : (a b : ℕ) (m : Machine) → m.left < a → m.left < b → steps a m ≡ steps b m
unfolding steps
steps_past a b m p q =
    let x : nat_le a m.left ≡ false = grind arith in
    let y : nat_le b m.left ≡ false = grind arith in
    rw (x, y) refl
