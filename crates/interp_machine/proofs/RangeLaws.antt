-- How many members a range has.
use Rattle.std.proofs.Common.{◌≡◌, ◌+◌, ◌-◌, ◌/◌, ◌<◌, ◌∙◌, ℕ, zero, suc, ℤ, pos, negsuc, ◌-ℤ◌, ap, sym, arith}
use Rattle.std.specs.Prelude.{◌<ℤ◌, ◌+ℤ◌, int_lt, nat_abs, true}
use Rattle.std.proofs.Math.Nat.{add-div_right}
use Rattle.std.proofs.lemmas.Int.{ints}
use Rattle.heap_objects.specs.WellFormed.{steps_in}
use Rattle.interp_machine.specs.Walks.{size_of}

-- a distance above 0 has a step more than those that fit into what is one less
distance_steps : (z : ℤ) (s : ℕ) → pos 0 <ℤ z → 0 < s → (nat_abs z - 1) / s + 1 ≡ size_of (steps_in z (pos s))
distance_steps (pos zero) s above some = absurd (omega (arith, ints))
distance_steps (pos (suc k)) zero above some = absurd (omega arith)
distance_steps (pos (suc k)) (suc n) above some =
    let less : suc k - 1 ≡ k = omega arith in
    let up : int_lt (pos 0) (pos (suc k)) ≡ true = grind (arith, ints) in
    let sum : pos (suc k) +ℤ (pos (suc n) -ℤ pos 1) ≡ pos (k + suc n) = omega (arith, ints) in
    rw (less, up, sum) (sym (add-div_right k some))
distance_steps (negsuc k) s above some = absurd (omega (arith, ints))

pub steps_up : (from to : ℤ) (s d : ℕ) → from <ℤ to → 0 < s → d ≡ nat_abs (to -ℤ from) → (d - 1) / s + 1 ≡ size_of (steps_in (to -ℤ from) (pos s))
steps_up from to s d above some e = ap (λ n. (n - 1) / s + 1) e ∙ distance_steps (to -ℤ from) s (omega (arith, ints)) some
