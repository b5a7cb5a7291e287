use Rattle.std.proofs.Common.{◌≡◌, length}
use Rattle.py_grammar.specs.Reading.{more_literals}
use Rattle.py_line.proofs.words.more_literals.Given as goal

abbrev pub invariant-loop-more : goal.invariant-loop-more
invariant-loop-more l = more_literals l.points.items l.rest ≡ more_literals l.fn.first l.fn.tokens

abbrev pub decreases-loop-more : goal.decreases-loop-more
decreases-loop-more l = length l.rest
