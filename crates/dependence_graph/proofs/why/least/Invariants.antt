use Rattle.std.proofs.Common.{◌≡◌, ◌≤◌, drop, length}
use Rattle.std.specs.Option.{option_copied}
use Rattle.trace_events.specs.Why.{least}
use Rattle.dependence_graph.proofs.why.least.Given as goal

abbrev pub invariant-loop-left : goal.invariant-loop-left
invariant-loop-left l = record {
  within : l.left ≤ length l.versions;
  least : option_copied l.best ≡ least l.names (drop l.left l.versions);
}

abbrev pub decreases-loop-left : goal.decreases-loop-left
decreases-loop-left l = l.left
