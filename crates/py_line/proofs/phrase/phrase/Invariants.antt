use Rattle.std.proofs.Common.{◌≡◌}
use Rattle.py_line.specs.States.{read_from, size}
use Rattle.py_line.specs.Waiting.{phrase}
use Rattle.py_line.proofs.phrase.phrase.Given as goal

abbrev pub invariant-read : goal.invariant-read
invariant-read l = phrase l.fn.goal l.fn.tokens ≡ read_from l.state l.rest

abbrev pub decreases-read : goal.decreases-read
decreases-read l = size l.state l.rest
