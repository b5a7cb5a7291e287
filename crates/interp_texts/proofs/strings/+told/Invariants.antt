use Rattle.std.proofs.Common.{◌+◌, ◌*◌}
use Rattle.interp_texts.proofs.strings.+told.Given as goal

abbrev pub decreases-str_arguments : goal.decreases-str_arguments
decreases-str_arguments l = l.below * 8 + 2

abbrev pub decreases-str_instance : goal.decreases-str_instance
decreases-str_instance l = l.below * 8 + 3

abbrev pub decreases-str_one : goal.decreases-str_one
decreases-str_one l = l.below * 8 + 1

abbrev pub decreases-str_to : goal.decreases-str_to
decreases-str_to l = l.levels * 8

abbrev pub decreases-str_with : goal.decreases-str_with
decreases-str_with l = l.below * 8 + 4
