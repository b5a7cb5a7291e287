use Rattle.std.proofs.Common.{◌≡◌}
use Rattle.trace_events.specs.Why.{first_overwrite}
use Rattle.dependence_graph.proofs.why.first_overwrite.Given as goal

abbrev pub invariant-loop-before : goal.invariant-loop-before
invariant-loop-before l = first_overwrite l.versions l.before l.fn.last.0 l.version ≡ first_overwrite l.versions l.fn.after.0 l.fn.last.0 l.version
