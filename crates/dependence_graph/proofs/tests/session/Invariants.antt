use Rattle.dependence_graph.specs.Marks.{IsExact}
use Rattle.dependence_graph.proofs.tests.session.Given as goal

abbrev pub invariant-loop-line : goal.invariant-loop-line
invariant-loop-line l = IsExact l.versions l.graph.stale
