use Rattle.std.proofs.Common.{◌∙◌, sym}
use Rattle.interp_ops.proofs.SortLaws.{all_used}
use Rattle.interp_ops.proofs.orders.+kinds.Goals as goal

pub one_list-returns : goal.one_list-returns
one_list-returns t c =
    c.is_empty.ensures ∙ sym (all_used c.args.xs.now c.loop-x.rest.now c.loop-x.x-index c.loop-x-test.false) ∙ sym c.loop-x.invariant
