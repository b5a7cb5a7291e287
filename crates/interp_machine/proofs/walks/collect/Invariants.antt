use Rattle.std.proofs.Common.{◌≡◌, [], suc}
use Rattle.interp_machine.specs.Walks.{gather}
use Rattle.interp_machine.proofs.walks.collect.Given as goal

abbrev pub invariant-loop-turns : goal.invariant-loop-turns
invariant-loop-turns l = gather (suc l.fn.m.left) l.fn.walker [] l.fn.m ≡ gather l.turns l.rest l.done.items l.m

abbrev pub decreases-loop-turns : goal.decreases-loop-turns
decreases-loop-turns l = l.turns
