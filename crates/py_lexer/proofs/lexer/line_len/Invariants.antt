use Rattle.std.proofs.Common.{◌≡◌, ◌+◌, drop}
use Rattle.std.specs.List.{prefix_len}
use Rattle.py_lexer.specs.Cut.{is_inside_line}
use Rattle.py_lexer.proofs.lexer.line_len.Given as goal

abbrev pub invariant-loop-i : goal.invariant-loop-i
invariant-loop-i l = l.i + prefix_len is_inside_line (drop l.i l.text) ≡ prefix_len is_inside_line l.text
