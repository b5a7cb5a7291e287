use Rattle.trace_events.proofs.Writes.{same_test}
use Rattle.trace_events.proofs.summary.is_of.Goals as goal

pub returns : goal.returns
returns c = same_test c.same_loc.result c.args.write.now.location c.args.location.now c.same_loc.ensures
