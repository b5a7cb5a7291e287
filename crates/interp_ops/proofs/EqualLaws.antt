-- Levels of equality, and tests from a place on, one by one.
use Rattle.std.proofs.Common.{◌≡◌, ◌≢◌, ◌-◌, ◌<◌, ℕ, zero, suc, Bool, true, false, Ok, Err, refl, arith}
use Rattle.heap_objects.specs.declared.value.Value.{Value}
use Rattle.interp_machine.specs.Meaning.{M}
use Rattle.interp_machine.specs.declared.machine.Machine.{Machine}
use Rattle.interp_machine.specs.declared.stop.Stop.{Stop}
use Rattle.interp_ops.specs.Equality.{all_from, equal_below, equal_with}

pub deeper : (n : ℕ) (a b : Value) (m : Machine) → 0 < n → equal_below n a b m ≡ equal_with (equal_below (n - 1)) a b m
unfolding equal_below
deeper zero a b m some = absurd (omega arith)
deeper (suc n) a b m some = let less : suc n - 1 ≡ n = omega arith in rw less refl

pub all_from_done : (test : ℕ → M Bool) (i n : ℕ) (m : Machine) → n ≡ 0 → all_from test i n m ≡ (Ok true, m)
unfolding all_from
all_from_done test i zero m none = refl
all_from_done test i (suc n) m none = absurd (omega arith)

pub all_from_stops : (test : ℕ → M Bool) (i n : ℕ) (m new : Machine) (e : Stop) → n ≢ 0 → test i m ≡ (Err e, new) → all_from test i n m ≡ (Err e, new)
unfolding all_from
all_from_stops test i zero m new e some given = absurd (some refl)
all_from_stops test i (suc n) m new e some given = rw given refl

pub all_from_fails : (test : ℕ → M Bool) (i n : ℕ) (m new : Machine) → n ≢ 0 → test i m ≡ (Ok false, new) → all_from test i n m ≡ (Ok false, new)
unfolding all_from
all_from_fails test i zero m new some given = absurd (some refl)
all_from_fails test i (suc n) m new some given = rw given refl

pub all_from_more : (test : ℕ → M Bool) (i n : ℕ) (m new : Machine) → n ≢ 0 → test i m ≡ (Ok true, new)
    → all_from test i n m ≡ all_from test (suc i) (n - 1) new
unfolding all_from
all_from_more test i zero m new some given = absurd (some refl)
all_from_more test i (suc n) m new some given = let less : suc n - 1 ≡ n = omega arith in rw (less, given) refl
