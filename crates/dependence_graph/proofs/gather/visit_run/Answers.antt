use Rattle.std.proofs.Common.{◌-◌, ap, arith, get_or, sym}
use Rattle.trace_events.specs.declared.summary.Write.{Write}
use Rattle.dependence_graph.proofs.Gathering.{gathered_item}
use Rattle.version_store.proofs.Lawful.{ascends}
use Rattle.dependence_graph.proofs.gather.visit_run.Goals as goal

pub loop-left-preserved : goal.loop-left-preserved
loop-left-preserved c = record {
  few = omega (arith, c.loop-left.invariant.few);
  gathered =
      gathered_item c.args.versions.now (ascends c.args.versions.now c.requires.lawful) c.args.floor.0 c.args.target.now c.args.run.0 c.loop-left.left
      c.writes-writes.result.now c.writes-writes.ensures.writes c.loop-left-test.true c.loop-left.invariant.few
      c.index-writes-left.result c.index-writes-left.is
      (get_or c.writes-writes.result.now (c.loop-left.left - 1) c.index-writes-left.result).place (sym (ap (λ (w : Write). w.place) c.index-writes-left.is))
      c.requires.in_reach
      c.loop-left.marks c.visit.new.marks c.loop-left.found.items c.visit.new.found.items c.loop-left.invariant.gathered c.in_ok-visit.ensures;
}
