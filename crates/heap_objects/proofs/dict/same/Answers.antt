use Rattle.heap_objects.proofs.EntryLaws.{same_test}
use Rattle.heap_objects.proofs.dict.same.Goals as goal

pub returns : goal.returns
returns c = same_test c.same_key.result c.args.a.now c.args.b.now c.same_key.ensures
