use Rattle.version_store.specs.Hash.{hash_version}
use Rattle.version_store.proofs.Held.{in_first, written_more}
use Rattle.version_store.proofs.PlaceSets.{adds_grows, adds_listed, grows_further, same_grows}
use Rattle.version_store.proofs.followers.list_write.Goals as goal

pub returns-in_err-list_with-clause-grown : goal.returns-in_err-list_with-clause-grown
returns-in_err-list_with-clause-grown c =
    grows_further c.args.index.now c.loop-on.index c.list_with.new.index c.loop-on.invariant.grown
    (same_grows c.loop-on.index c.list_with.new.index c.in_err-list_with.ensures.err)

pub loop-on-preserved : goal.loop-on-preserved
loop-on-preserved c =
    let grows = adds_grows c.loop-on.index c.list_with.new.index (hash_version c.on-item.result) (c.args.run, c.args.place) c.in_ok-list_with.ensures.ok in
    record {
      grown = grows_further c.args.index.now c.loop-on.index c.list_with.new.index c.loop-on.invariant.grown grows;
      listed = written_more c.args.deps.now c.loop-on.on-index c.on-item.result c.loop-on.index c.list_with.new.index (c.args.run, c.args.place) c.loop-on-test.true c.on-item.is
          grows (adds_listed c.loop-on.index c.list_with.new.index (hash_version c.on-item.result) (c.args.run, c.args.place) c.in_ok-list_with.ensures.ok)
          c.loop-on.invariant.listed;
    }

pub returns-clause-listed : goal.returns-clause-listed
returns-clause-listed c = λ u d. c.loop-on.invariant.listed u (in_first c.args.deps.now c.loop-on.on-index u c.loop-on-test.false d)
