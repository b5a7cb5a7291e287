use Rattle.std.proofs.Common.{◌≡◌, ◌+◌, drop}
use Rattle.py_layout.specs.Layout.{line_len}
use Rattle.py_layout.proofs.layouter.line_len.Given as goal

abbrev pub invariant-loop-i : goal.invariant-loop-i
invariant-loop-i l = l.i + line_len (drop l.i l.tokens) ≡ line_len l.tokens
