use Rattle.std.proofs.Common.{◌≡◌, drop}
use Rattle.py_ast.specs.View.{views}
use Rattle.py_print.specs.Expressions.{members}
use Rattle.py_print.specs.Lines.{lefts}
use Rattle.py_print.specs.Writing.{with_pieces}
use Rattle.py_print.proofs.lines.print_lefts.Given as goal

abbrev pub invariant-loop-e : goal.invariant-loop-e
invariant-loop-e l = with_pieces l.w (lefts (members (views (drop l.e-index l.all)))) ≡ with_pieces l.initial.w (lefts (members (views l.all)))
