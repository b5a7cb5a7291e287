use Rattle.std.proofs.Common.{◌-◌, take}
use Rattle.trace_events.specs.History.{made}
use Rattle.version_store.specs.Dependents.{IsCarried}
use Rattle.dependence_graph.specs.Marks.{MarksExactly}
use Rattle.dependence_graph.proofs.graph.carried_into.Given as goal

abbrev pub invariant-loop-write : goal.invariant-loop-write
invariant-loop-write l = MarksExactly (take l.write-index (made l.versions l.run.0)) (IsCarried l.versions (l.run.0 - 1)) l.fresh
