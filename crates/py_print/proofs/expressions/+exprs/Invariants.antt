use Rattle.std.proofs.Common.{◌≡◌, drop}
use Rattle.py_ast.specs.View.{views}
use Rattle.py_print.specs.Expressions.{compared, members, operands, params_of}
use Rattle.py_print.specs.Parts.{behind_part}
use Rattle.py_print.specs.Pieces.{commas, pairs}
use Rattle.py_print.specs.Writing.{with_pieces}
use Rattle.py_print.proofs.PrintParts.{listed, to_comma, params_from, compared_from}
use Rattle.py_print.proofs.expressions.+exprs.Given as goal

abbrev pub invariant-print_parts-loop-e : goal.invariant-print_parts-loop-e
invariant-print_parts-loop-e l = with_pieces l.w (listed to_comma l.before (members (views (drop l.e-index l.all))))
    ≡ with_pieces l.initial.w (commas (members (views l.all)))

abbrev pub invariant-print_pairs-loop-e : goal.invariant-print_pairs-loop-e
invariant-print_pairs-loop-e l = with_pieces l.w (listed behind_part l.before (members (views (drop l.e-index l.all))))
    ≡ with_pieces l.initial.w (pairs (members (views l.all)))

abbrev pub invariant-print_params-loop-i : goal.invariant-print_params-loop-i
invariant-print_params-loop-i l =
    with_pieces l.w (listed to_comma l.before (params_from l.plain l.names (members (views l.defaults)) l.i))
    ≡ with_pieces l.initial.w (params_of l.names (members (views l.defaults)))

abbrev pub invariant-print_compared-loop-i : goal.invariant-print_compared-loop-i
invariant-print_compared-loop-i l = with_pieces l.w (compared_from l.i l.ops (operands (views (drop l.i l.all))))
    ≡ with_pieces l.initial.w (compared l.ops (operands (views l.all)))
