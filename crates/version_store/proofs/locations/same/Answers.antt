use Rattle.trace_events.proofs.Writes.{same_test}
use Rattle.version_store.proofs.locations.same.Goals as goal

pub returns : goal.returns
returns c = same_test c.same_loc.result c.args.a.now c.args.b.now c.same_loc.ensures
