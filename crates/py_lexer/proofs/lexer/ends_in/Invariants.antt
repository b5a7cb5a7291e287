use Rattle.std.proofs.Common.{◌≡◌, ◌≤◌, take}
use Rattle.py_lexer.specs.Cut.{ends_in}
use Rattle.py_lexer.proofs.lexer.ends_in.Given as goal

abbrev pub invariant-loop-c : goal.invariant-loop-c
invariant-loop-c l = (l.n ≤ l.c-index) × (l.n ≡ ends_in (take l.c-index l.text))
