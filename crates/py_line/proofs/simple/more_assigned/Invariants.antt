use Rattle.std.proofs.Common.{◌≡◌, length}
use Rattle.py_grammar.specs.LineReading.{more_assigned}
use Rattle.py_line.specs.Full.{full}
use Rattle.py_line.specs.Views.{all_of, kept_of}
use Rattle.py_line.proofs.simple.more_assigned.Given as goal

abbrev pub invariant-loop-after : goal.invariant-loop-after
invariant-loop-after l = more_assigned 60 (full 60) (all_of l.fn.first, kept_of l.fn.start) l.fn.tokens ≡ more_assigned 60 (full 60) (all_of l.all, kept_of l.value) l.rest

abbrev pub decreases-loop-after : goal.decreases-loop-after
decreases-loop-after l = length l.rest
