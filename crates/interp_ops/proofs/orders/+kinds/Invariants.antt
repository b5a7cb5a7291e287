use Rattle.std.proofs.Common.{◌≡◌, drop}
use Rattle.interp_ops.specs.Orders.{kinds_of_values, one_list}
use Rattle.interp_ops.proofs.orders.+kinds.Given as goal

abbrev pub invariant-one_list-loop-x : goal.invariant-one_list-loop-x
invariant-one_list-loop-x l = one_list (kinds_of_values l.xs) (kinds_of_values l.ys) ≡ one_list (kinds_of_values (drop l.x-index l.xs)) (kinds_of_values l.rest)
