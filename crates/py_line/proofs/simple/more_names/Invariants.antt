use Rattle.std.proofs.Common.{◌≡◌, length}
use Rattle.py_grammar.specs.LineReading.{more_names}
use Rattle.py_line.proofs.simple.more_names.Given as goal

abbrev pub invariant-loop-after : goal.invariant-loop-after
invariant-loop-after l = more_names l.fn.first.items l.fn.tokens ≡ more_names l.names.items l.rest

abbrev pub decreases-loop-after : goal.decreases-loop-after
decreases-loop-after l = length l.rest
