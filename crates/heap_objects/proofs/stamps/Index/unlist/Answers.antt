use Rattle.heap_objects.specs.Stamps.{stamps_at}
use Rattle.heap_objects.proofs.StampLaws.{unlisted_still}
use Rattle.heap_objects.proofs.stamps.Index.unlist.Goals as goal

pub returns-clause-kept : goal.returns-clause-kept
returns-clause-kept c = unlisted_still (stamps_at c.args.self.now.listed) (stamps_at c.unlist_at.new.listed) c.args.number c.args.stamp c.unlist_at.ensures
