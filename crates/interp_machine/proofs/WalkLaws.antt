-- Walks, turn by turn.
use Rattle.std.proofs.Common.{◌≡◌, ◌≢◌, ◌-◌, ◌++◌, ◌∷◌, [], ℕ, zero, suc, List, Some, Ok, refl, arith}
use Rattle.heap_objects.specs.declared.value.Value.{Value}
use Rattle.interp_machine.specs.Walks.{gather, next}
use Rattle.interp_machine.specs.declared.machine.Machine.{Machine}
use Rattle.interp_machine.specs.declared.walks.Walker.{Walker}

pub gather_more : (n : ℕ) (w after : Walker) (done more : List Value) (x : Value) (m new : Machine) → n ≢ 0
    → next w m ≡ (Ok (Some x, after), new) → more ≡ done ++ x ∷ [] → gather n w done m ≡ gather (n - 1) after more new
unfolding gather
gather_more zero w after done more x m new some given all = absurd (some refl)
gather_more (suc n) w after done more x m new some given all = let less : suc n - 1 ≡ n = omega arith in rw (less, given, all) refl
