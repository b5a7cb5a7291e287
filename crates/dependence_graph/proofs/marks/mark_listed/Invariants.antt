use Rattle.std.proofs.Common.{take}
use Rattle.dependence_graph.specs.Marks.{AddsListed}
use Rattle.dependence_graph.proofs.marks.mark_listed.Given as goal

abbrev pub invariant-loop-run : goal.invariant-loop-run
invariant-loop-run l = AddsListed l.fn.marks (take l.run-index l.places) l.marks
