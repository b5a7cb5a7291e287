use Rattle.std.proofs.Common.{◌≡◌, drop, map}
use Rattle.py_print.specs.Lines.{name_alone, names}
use Rattle.py_print.specs.Writing.{with_pieces}
use Rattle.py_print.proofs.PrintParts.{listed, to_comma}
use Rattle.py_print.proofs.lines.print_names.Given as goal

abbrev pub invariant-loop-x : goal.invariant-loop-x
invariant-loop-x l = with_pieces l.w (listed to_comma l.before (map name_alone (drop l.x-index l.all))) ≡ with_pieces l.initial.w (names l.all)
