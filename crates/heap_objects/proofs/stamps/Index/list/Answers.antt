use Rattle.std.proofs.Common.{ap, ◌∙◌}
use Rattle.heap_objects.specs.Stamps.{has_stamp, stamps_at}
use Rattle.heap_objects.proofs.StampLaws.{either_way, on_ok, listed_still, listed_there}
use Rattle.heap_objects.proofs.stamps.Index.list.Goals as goal

pub returns-clause-listed : goal.returns-clause-listed
returns-clause-listed c =
    on_ok c.list_at.result _ _ (listed_there (stamps_at c.args.self.now.listed) (stamps_at c.list_at.new.listed) c.args.number c.args.stamp) c.list_at.ensures.ok

pub returns-clause-kept : goal.returns-clause-kept
returns-clause-kept c = λ n t h.
    either_way c.list_at.result _ _ _ (λ adds. listed_still (stamps_at c.args.self.now.listed) (stamps_at c.list_at.new.listed) c.args.number c.args.stamp adds n t h)
    (λ same. ap (λ x. has_stamp x t) (same n) ∙ h) c.list_at.ensures.ok c.list_at.ensures.err
