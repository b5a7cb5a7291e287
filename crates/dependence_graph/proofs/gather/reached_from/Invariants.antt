use Rattle.trace_events.specs.History.{made_upto}
use Rattle.dependence_graph.specs.Visits.{AreGathered}
use Rattle.dependence_graph.proofs.gather.reached_from.Given as goal

abbrev pub invariant-loop-left : goal.invariant-loop-left
invariant-loop-left l = AreGathered l.versions l.floor.0 l.target (made_upto l.versions l.left) l.marks l.found.items

abbrev pub decreases-loop-left : goal.decreases-loop-left
decreases-loop-left l = l.left
