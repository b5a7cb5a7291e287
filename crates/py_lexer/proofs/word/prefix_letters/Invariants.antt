use Rattle.std.proofs.Common.{◌≡◌, ◌+◌, drop}
use Rattle.std.specs.List.{prefix_len}
use Rattle.py_lexer.specs.Form.{is_prefix_letter}
use Rattle.py_lexer.proofs.word.prefix_letters.Given as goal

abbrev pub invariant-loop-i : goal.invariant-loop-i
invariant-loop-i l = l.i + prefix_len is_prefix_letter (drop l.i l.text) ≡ prefix_len is_prefix_letter l.text
