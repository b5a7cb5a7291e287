-- What is above a class, one step further.
use Rattle.std.proofs.Common.{◌≡◌, ◌≢◌, ◌-◌, ℕ, suc, zero, Option, refl, arith}
use Rattle.heap_objects.specs.State.{State}
use Rattle.heap_objects.specs.declared.value.Value.{Value}
use Rattle.interp_machine.specs.Classes.{exception_above, exception_in}

pub above_step : (s : State) (n : ℕ) (x : Option Value) → n ≢ 0 → exception_above s n x ≡ exception_in (exception_above s (n - 1)) s x
above_step s zero x some = absurd (some refl)
above_step s (suc n) x some = let less : suc n - 1 ≡ n = omega arith in rw less refl
