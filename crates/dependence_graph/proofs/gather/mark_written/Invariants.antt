use Rattle.std.proofs.Common.{take}
use Rattle.dependence_graph.specs.Visits.{AddsWritten}
use Rattle.dependence_graph.proofs.gather.mark_written.Given as goal

abbrev pub invariant-loop-version : goal.invariant-loop-version
invariant-loop-version l = AddsWritten l.fn.marks l.marks (take l.version-index l.versions)
