use Rattle.std.proofs.Common.{◌≡◌}
use Rattle.interp_ops.specs.Lookups.{find, found_above}
use Rattle.interp_ops.proofs.lookups.find.Given as goal

abbrev pub invariant-loop-left : goal.invariant-loop-left
invariant-loop-left l = find l.fn.a l.fn.class l.fn.m ≡ found_above l.fn.a l.left l.above l.m

abbrev pub decreases-loop-left : goal.decreases-loop-left
decreases-loop-left l = l.left
