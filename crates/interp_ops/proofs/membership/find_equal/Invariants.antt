use Rattle.std.proofs.Common.{◌≡◌, suc}
use Rattle.interp_ops.specs.Operators.{found_from}
use Rattle.interp_ops.proofs.membership.find_equal.Given as goal

abbrev pub invariant-loop-turns : goal.invariant-loop-turns
invariant-loop-turns l = found_from l.v (suc l.fn.m.left) l.fn.walker l.fn.m ≡ found_from l.v l.turns l.rest l.m

abbrev pub decreases-loop-turns : goal.decreases-loop-turns
decreases-loop-turns l = l.turns
