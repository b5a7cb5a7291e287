-- Items that are used one after another.
use Rattle.std.proofs.Common.{◌≡◌, ◌≢◌, ◌-◌, ℕ, zero, suc, List, Option, Ok, refl, arith}
use Rattle.flow_base.specs.declared.numbers.ObjRef.{ObjRef}
use Rattle.heap_objects.specs.State.{item}
use Rattle.heap_objects.specs.declared.value.Value.{Value}
use Rattle.interp_machine.specs.Meaning.{load, steps}
use Rattle.interp_machine.specs.declared.machine.Machine.{Machine}
use Rattle.interp_ops.specs.Subscripts.{used_from, with_part}

pub used_more : (o : ObjRef) (i next n : ℕ) (done more : List Value) (x : Option Value) (m mid new : Machine) → n ≢ 0
    → load (item o i) m ≡ (Ok x, mid) → steps 1 mid ≡ (Ok tt, new) → more ≡ with_part done x → next ≡ suc i
    → used_from o i n done m ≡ used_from o next (n - 1) more new
used_more o i next zero done more x m mid new some given took all after = absurd (some refl)
used_more o i next (suc n) done more x m mid new some given took all after =
    let less : suc n - 1 ≡ n = omega arith in
    rw (less, given, took, all, after) refl
