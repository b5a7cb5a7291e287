use Rattle.std.proofs.Common.{◌≡◌, ◌+◌, ◌*◌}
use Rattle.interp_ops.specs.Equality.{equal_below}
use Rattle.interp_ops.specs.Orders.{decided_at, first_from, less_below}
use Rattle.interp_ops.proofs.orders.+less.Given as goal

abbrev pub decreases-less_below : goal.decreases-less_below
decreases-less_below l = l.levels * 8

abbrev pub decreases-both_less : goal.decreases-both_less
decreases-both_less l = l.levels * 8 + 1

abbrev pub decreases-decided_at : goal.decreases-decided_at
decreases-decided_at l = l.levels * 8 + 2

abbrev pub decreases-first_from : goal.decreases-first_from
decreases-first_from l = l.levels * 8 + 3

abbrev pub decreases-less_parts : goal.decreases-less_parts
decreases-less_parts l = l.levels * 8 + 4

abbrev pub decreases-less_pair : goal.decreases-less_pair
decreases-less_pair l = l.levels * 8 + 5

abbrev pub decreases-less_with : goal.decreases-less_with
decreases-less_with l = l.levels * 8 + 6

abbrev pub invariant-first_from-loop-left : goal.invariant-first_from-loop-left
invariant-first_from-loop-left l = record {
  meaning : first_from (decided_at (equal_below l.levels) (less_below l.levels) l.pair) 0 l.count l.otherwise l.fn.m
      ≡ first_from (decided_at (equal_below l.levels) (less_below l.levels) l.pair) l.at l.left l.otherwise l.m;
  ends : l.at + l.left ≡ l.count;
}

abbrev pub decreases-first_from-loop-left : goal.decreases-first_from-loop-left
decreases-first_from-loop-left l = l.left
