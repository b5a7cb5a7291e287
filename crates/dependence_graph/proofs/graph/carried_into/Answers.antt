use Rattle.std.proofs.Common.{refl}
use Rattle.version_store.proofs.Lawful.{ascends}
use Rattle.dependence_graph.proofs.Passes.{carried_item}
use Rattle.dependence_graph.proofs.graph.carried_into.Goals as goal

pub loop-write-preserved : goal.loop-write-preserved
loop-write-preserved c =
    carried_item c.args.versions.now (ascends c.args.versions.now c.requires.lawful) c.args.run.0 c.loop-write.write-index
    c.writes-write-items.result.now c.writes-write-items.ensures.writes
    c.write-item.result c.loop-write-test.true c.write-item.is c.write-item.result.place refl
    c.args.stale.now c.loop-write.fresh c.carry_write.new.fresh c.requires.first c.in_ok-carry_write.ensures c.requires.before c.loop-write.invariant
