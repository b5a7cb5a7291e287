use Rattle.trace_events.specs.History.{made_upto}
use Rattle.trace_events.specs.Staleness.{Stale}
use Rattle.dependence_graph.specs.Marks.{MarksExactly}
use Rattle.dependence_graph.proofs.why.stale_after.Given as goal

abbrev pub invariant-loop-before : goal.invariant-loop-before
invariant-loop-before l = MarksExactly (made_upto l.versions l.before) (Stale l.versions l.before) l.stale
