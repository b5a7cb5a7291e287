use Rattle.std.proofs.Common.{◌-◌, ◌^◌}
use Rattle.version_store.specs.Dependents.{IsReached}
use Rattle.version_store.proofs.dependents.reached_from.Given as goal

abbrev pub invariant-loop-next : goal.invariant-loop-next
invariant-loop-next l = IsReached l.runs l.held l.from l.next l.reached

abbrev pub decreases-loop-next : goal.decreases-loop-next
decreases-loop-next l = 2 ^ 64 - l.next
