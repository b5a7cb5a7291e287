use Rattle.std.proofs.Common.{◌≡◌, ◌+◌, ◌*◌, false, suc}
use Rattle.interp_texts.specs.Shown.{show_entries, show_parts, show_to}
use Rattle.interp_texts.proofs.shown.+show.Given as goal

abbrev pub decreases-arguments_to : goal.decreases-arguments_to
decreases-arguments_to l = l.levels * 8

abbrev pub decreases-show_dict : goal.decreases-show_dict
decreases-show_dict l = l.levels * 8 + 5

abbrev pub decreases-show_entries : goal.decreases-show_entries
decreases-show_entries l = l.levels * 8 + 4

abbrev pub decreases-show_entry : goal.decreases-show_entry
decreases-show_entry l = l.levels * 8 + 3

abbrev pub decreases-show_error : goal.decreases-show_error
decreases-show_error l = l.levels * 8 + 1

abbrev pub decreases-show_item : goal.decreases-show_item
decreases-show_item l = l.levels * 8 + 2

abbrev pub decreases-show_list : goal.decreases-show_list
decreases-show_list l = l.levels * 8 + 3

abbrev pub decreases-show_next : goal.decreases-show_next
decreases-show_next l = l.levels * 8 + 1

abbrev pub decreases-show_pair : goal.decreases-show_pair
decreases-show_pair l = l.levels * 8 + 1

abbrev pub decreases-show_to : goal.decreases-show_to
decreases-show_to l = l.levels * 8

abbrev pub decreases-show_tuple : goal.decreases-show_tuple
decreases-show_tuple l = l.levels * 8 + 3

abbrev pub decreases-show_walk : goal.decreases-show_walk
decreases-show_walk l = l.levels * 8 + 2

abbrev pub decreases-show_with : goal.decreases-show_with
decreases-show_with l = l.levels * 8 + 6

abbrev pub invariant-show_walk-loop-turns : goal.invariant-show_walk-loop-turns
invariant-show_walk-loop-turns l = show_parts (show_to l.levels) l.inside (suc l.fn.m.left) l.fn.walker false l.fn.d l.fn.m
    ≡ show_parts (show_to l.levels) l.inside l.turns l.rest l.follows l.draft l.m

abbrev pub decreases-show_walk-loop-turns : goal.decreases-show_walk-loop-turns
decreases-show_walk-loop-turns l = l.turns

abbrev pub invariant-show_entries-loop-left : goal.invariant-show_entries-loop-left
invariant-show_entries-loop-left l = show_entries (show_to l.levels) l.inside l.o 0 l.count false l.fn.d l.fn.m
    ≡ show_entries (show_to l.levels) l.inside l.o l.i l.left l.follows l.draft l.m

abbrev pub decreases-show_entries-loop-left : goal.decreases-show_entries-loop-left
decreases-show_entries-loop-left l = l.left
