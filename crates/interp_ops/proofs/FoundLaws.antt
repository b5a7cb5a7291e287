-- The search for an equal part, turn by turn.
use Rattle.std.proofs.Common.{◌≡◌, ◌≢◌, ◌-◌, ℕ, zero, suc, false, Some, Ok, Err, refl, arith}
use Rattle.heap_objects.specs.declared.value.Value.{Value}
use Rattle.interp_machine.specs.Walks.{next}
use Rattle.interp_machine.specs.declared.machine.Machine.{Machine}
use Rattle.interp_machine.specs.declared.stop.Stop.{Stop}
use Rattle.interp_machine.specs.declared.walks.Walker.{Walker}
use Rattle.interp_ops.specs.Equality.{equal}
use Rattle.interp_ops.specs.Operators.{found_from}

pub found_more : (v x : Value) (n : ℕ) (w after : Walker) (m mid new : Machine) → n ≢ 0
    → next w m ≡ (Ok (Some x, after), mid) → equal x v mid ≡ (Ok false, new) → found_from v n w m ≡ found_from v (n - 1) after new
found_more v x zero w after m mid new some given same = absurd (some refl)
found_more v x (suc n) w after m mid new some given same = let less : suc n - 1 ≡ n = omega arith in rw (less, given, same) refl

pub found_err : (v x : Value) (n : ℕ) (w after : Walker) (m mid new : Machine) (e : Stop) → n ≢ 0
    → next w m ≡ (Ok (Some x, after), mid) → equal x v mid ≡ (Err e, new) → found_from v n w m ≡ (Err e, new)
found_err v x zero w after m mid new e some given same = absurd (some refl)
found_err v x (suc n) w after m mid new e some given same = rw (given, same) refl
