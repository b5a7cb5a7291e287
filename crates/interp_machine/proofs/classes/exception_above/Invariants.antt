use Rattle.std.proofs.Common.{◌≡◌}
use Rattle.heap_objects.specs.State.{object_at}
use Rattle.interp_machine.specs.Classes.{base_in, exception_above}
use Rattle.interp_machine.proofs.classes.exception_above.Given as goal

abbrev pub invariant-loop-left : goal.invariant-loop-left
invariant-loop-left l =
    exception_above l.m.heap l.left (base_in (object_at l.m.heap l.at)) ≡ exception_above l.m.heap l.count (base_in (object_at l.m.heap l.fn.o))

abbrev pub decreases-loop-left : goal.decreases-loop-left
decreases-loop-left l = l.left
