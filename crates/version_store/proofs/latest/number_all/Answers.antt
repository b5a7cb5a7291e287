use Rattle.std.proofs.Common.{List, ap, subst, arith}
use Rattle.std.proofs.lemmas.List.{take_all}
use Rattle.trace_events.specs.declared.summary.Write.{Write}
use Rattle.version_store.specs.Table.{AllNumbered}
use Rattle.version_store.proofs.Current.{next_grown, next_numbered}
use Rattle.version_store.proofs.latest.number_all.Goals as goal

pub loop-write-preserved : goal.loop-write-preserved
loop-write-preserved c = record {
  grown = next_grown c.args.locations.now c.loop-write.locations c.add.new.self c.write-item.result.location c.loop-write.invariant.grown c.in_ok-add.ensures.ok;
  numbered = next_numbered c.loop-write.locations c.add.new.self c.args.writes.now c.loop-write.write-index c.write-item.result c.write-item.result.location
      c.loop-write-test.true c.loop-write.invariant.numbered c.in_ok-add.ensures.ok (ap (λ (w : Write). w.location) c.write-item.is);
}

pub returns-clause-numbered : goal.returns-clause-numbered
returns-clause-numbered c =
    subst (λ (ws : List Write). AllNumbered c.loop-write.locations ws) (take_all c.loop-write.write-index c.args.writes.now (omega arith)) c.loop-write.invariant.numbered
