use Rattle.std.proofs.Common.{List, map, ap}
use Rattle.py_print.specs.Lines.{name_alone}
use Rattle.py_print.specs.Pieces.{Piece}
use Rattle.py_print.specs.Writing.{with_pieces}
use Rattle.py_print.proofs.PrintParts.{listed_commas}
use Rattle.py_print.proofs.lines.print_names.Goals as goal

pub loop-x-init : goal.loop-x-init
loop-x-init c = ap (λ (z : List Piece). with_pieces c.args.w.now z) (listed_commas (map name_alone c.args.all.now))
