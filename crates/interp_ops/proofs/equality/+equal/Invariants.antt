use Rattle.std.proofs.Common.{◌≡◌, ◌+◌, ◌*◌}
use Rattle.interp_ops.specs.Equality.{all_from, equal_below, equal_place, equal_sides}
use Rattle.interp_ops.proofs.equality.+equal.Given as goal

abbrev pub decreases-equal_below : goal.decreases-equal_below
decreases-equal_below l = l.levels * 16

abbrev pub decreases-both_equal : goal.decreases-both_equal
decreases-both_equal l = l.levels * 16 + 1

abbrev pub decreases-equal_sides : goal.decreases-equal_sides
decreases-equal_sides l = l.levels * 16 + 2

abbrev pub decreases-equal_from : goal.decreases-equal_from
decreases-equal_from l = l.levels * 16 + 3

abbrev pub decreases-equal_parts : goal.decreases-equal_parts
decreases-equal_parts l = l.levels * 16 + 4

abbrev pub decreases-equal_at : goal.decreases-equal_at
decreases-equal_at l = l.levels * 16 + 2

abbrev pub decreases-equal_entry : goal.decreases-equal_entry
decreases-equal_entry l = l.levels * 16 + 3

abbrev pub decreases-equal_place : goal.decreases-equal_place
decreases-equal_place l = l.levels * 16 + 4

abbrev pub decreases-equal_entries : goal.decreases-equal_entries
decreases-equal_entries l = l.levels * 16 + 5

abbrev pub decreases-equal_dicts : goal.decreases-equal_dicts
decreases-equal_dicts l = l.levels * 16 + 6

abbrev pub decreases-equal_pair : goal.decreases-equal_pair
decreases-equal_pair l = l.levels * 16 + 7

abbrev pub decreases-equal_with : goal.decreases-equal_with
decreases-equal_with l = l.levels * 16 + 8

abbrev pub invariant-equal_from-loop-left : goal.invariant-equal_from-loop-left
invariant-equal_from-loop-left l = record {
  meaning : all_from (equal_sides (equal_below l.levels) l.pair) 0 l.count l.fn.m ≡ all_from (equal_sides (equal_below l.levels) l.pair) l.at l.left l.m;
  ends : l.at + l.left ≡ l.count;
}

abbrev pub decreases-equal_from-loop-left : goal.decreases-equal_from-loop-left
decreases-equal_from-loop-left l = l.left

abbrev pub invariant-equal_entries-loop-left : goal.invariant-equal_entries-loop-left
invariant-equal_entries-loop-left l = record {
  meaning : all_from (equal_place (equal_below l.levels) l.d l.e) 0 l.count l.fn.m ≡ all_from (equal_place (equal_below l.levels) l.d l.e) l.at l.left l.m;
  ends : l.at + l.left ≡ l.count;
}

abbrev pub decreases-equal_entries-loop-left : goal.decreases-equal_entries-loop-left
decreases-equal_entries-loop-left l = l.left
