use Rattle.interp_ops.proofs.SortLaws.{none_together, some_together}
use Rattle.interp_ops.proofs.orders.sorts_together.Goals as goal

pub returns-in-empty : goal.returns-in-empty
returns-in-empty c = none_together c.args.values.now c.in-empty.len_below

pub returns-in-len1-up : goal.returns-in-len1-up
returns-in-len1-up c = rw c.all_like.ensures (some_together c.args.values.now c.first-item.result c.in-len1-up.len_at_least c.first-item.is)
