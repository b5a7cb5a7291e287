-- Levels of the order, and tests from a place on, one by one.
use Rattle.std.proofs.Common.{◌≡◌, ◌≢◌, ◌-◌, ◌<◌, ℕ, zero, suc, Bool, false, Option, Some, None, Ok, Err, refl, arith}
use Rattle.heap_objects.specs.declared.value.Value.{Value}
use Rattle.interp_machine.specs.Meaning.{M}
use Rattle.interp_machine.specs.declared.machine.Machine.{Machine}
use Rattle.interp_machine.specs.declared.stop.Stop.{Stop}
use Rattle.interp_ops.specs.Equality.{equal_below}
use Rattle.interp_ops.specs.Orders.{first_from, less_below, less_with}

pub less_deeper : (n : ℕ) (a b : Value) (m : Machine) → 0 < n → less_below n a b m ≡ less_with (equal_below (n - 1)) (less_below (n - 1)) false a b m
unfolding less_below
less_deeper zero a b m some = absurd (omega arith)
less_deeper (suc n) a b m some = let less : suc n - 1 ≡ n = omega arith in rw less refl

pub first_from_done : (test : ℕ → M (Option Bool)) (i n : ℕ) (b : Bool) (m : Machine) → n ≡ 0 → first_from test i n b m ≡ (Ok b, m)
unfolding first_from
first_from_done test i zero b m none = refl
first_from_done test i (suc n) b m none = absurd (omega arith)

pub first_from_stops : (test : ℕ → M (Option Bool)) (i n : ℕ) (b : Bool) (m new : Machine) (e : Stop) → n ≢ 0 → test i m ≡ (Err e, new)
    → first_from test i n b m ≡ (Err e, new)
unfolding first_from
first_from_stops test i zero b m new e some given = absurd (some refl)
first_from_stops test i (suc n) b m new e some given = rw given refl

pub first_from_ends : (test : ℕ → M (Option Bool)) (i n : ℕ) (b answer : Bool) (m new : Machine) → n ≢ 0 → test i m ≡ (Ok (Some answer), new)
    → first_from test i n b m ≡ (Ok answer, new)
unfolding first_from
first_from_ends test i zero b answer m new some given = absurd (some refl)
first_from_ends test i (suc n) b answer m new some given = rw given refl

pub first_from_more : (test : ℕ → M (Option Bool)) (i n : ℕ) (b : Bool) (m new : Machine) → n ≢ 0 → test i m ≡ (Ok None, new)
    → first_from test i n b m ≡ first_from test (suc i) (n - 1) b new
unfolding first_from
first_from_more test i zero b m new some given = absurd (some refl)
first_from_more test i (suc n) b m new some given = let less : suc n - 1 ≡ n = omega arith in rw (less, given) refl
