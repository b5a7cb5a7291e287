use Rattle.std.proofs.Common.{◌≡◌, length}
use Rattle.trace_events.specs.History.{run_of}
use Rattle.trace_events.specs.Why.{why_of}
use Rattle.dependence_graph.proofs.why.find_why.Given as goal

abbrev pub invariant-loop-at : goal.invariant-loop-at
invariant-loop-at l = why_of l.names l.versions l.last.0 l.at ≡ why_of l.names l.versions (length l.versions) l.version

abbrev pub decreases-loop-at : goal.decreases-loop-at
decreases-loop-at l = run_of l.at
