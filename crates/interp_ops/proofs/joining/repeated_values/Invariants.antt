use Rattle.std.proofs.Common.{◌≡◌, ◌++◌, length}
use Rattle.interp_ops.specs.Operators.{repeated, turns}
use Rattle.interp_ops.proofs.joining.repeated_values.Given as goal

abbrev pub invariant-loop-left : goal.invariant-loop-left
invariant-loop-left l = l.all.items ++ repeated l.left l.xs ≡ repeated (turns (length l.xs) l.count) l.xs

abbrev pub decreases-loop-left : goal.decreases-loop-left
decreases-loop-left l = l.left
