use Rattle.std.proofs.Common.{◌≡◌, []}
use Rattle.interp_ops.specs.Subscripts.{used_from}
use Rattle.interp_ops.proofs.subscripts.used_from.Given as goal

abbrev pub invariant-loop-left : goal.invariant-loop-left
invariant-loop-left l = used_from l.o l.fn.from l.fn.count [] l.fn.m ≡ used_from l.o l.at l.left l.done.items l.m

abbrev pub decreases-loop-left : goal.decreases-loop-left
decreases-loop-left l = l.left
