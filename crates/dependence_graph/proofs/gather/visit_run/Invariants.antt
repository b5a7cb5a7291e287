use Rattle.std.proofs.Common.{◌≤◌, ◌++◌, ◌-◌, take, length}
use Rattle.trace_events.specs.History.{made, made_upto}
use Rattle.dependence_graph.specs.Visits.{AreGathered}
use Rattle.dependence_graph.proofs.gather.visit_run.Given as goal

abbrev pub invariant-loop-left : goal.invariant-loop-left
invariant-loop-left l = record {
  few : l.left ≤ length l.writes;
  gathered : AreGathered l.versions l.fn.floor.0 l.target (made_upto l.versions (l.run.0 - 1) ++ take l.left (made l.versions l.run.0)) l.marks l.found.items;
}

abbrev pub decreases-loop-left : goal.decreases-loop-left
decreases-loop-left l = l.left
