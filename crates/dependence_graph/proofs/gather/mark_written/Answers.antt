use Rattle.dependence_graph.proofs.Gathering.{AddsWritten-more}
use Rattle.dependence_graph.proofs.gather.mark_written.Goals as goal

pub loop-version-preserved : goal.loop-version-preserved
loop-version-preserved c =
    AddsWritten-more c.args.marks.now c.loop-version.marks c.mark_one.new.marks c.args.versions.now c.loop-version.version-index c.version-item.result
    c.version-item.is c.loop-version-test.true c.loop-version.invariant c.in_ok-mark_one.ensures
