use Rattle.std.proofs.Common.{◌≡◌, drop}
use Rattle.interp_ops.specs.Orders.{all_of_kind, kind_of_value}
use Rattle.interp_ops.proofs.orders.all_like.Given as goal

abbrev pub invariant-loop-v : goal.invariant-loop-v
invariant-loop-v l = all_of_kind (kind_of_value l.one) l.values ≡ all_of_kind (kind_of_value l.one) (drop l.v-index l.values)
