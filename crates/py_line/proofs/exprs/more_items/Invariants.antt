use Rattle.std.proofs.Common.{◌≡◌, length}
use Rattle.py_grammar.specs.Reading.{more_items}
use Rattle.py_line.specs.Full.{full}
use Rattle.py_line.specs.Views.{all_of}
use Rattle.py_line.proofs.exprs.more_items.Given as goal

abbrev pub invariant-loop-after : goal.invariant-loop-after
invariant-loop-after l = more_items 60 (full 60) (all_of l.fn.first) l.fn.tokens ≡ more_items 60 (full 60) (all_of l.all) l.rest

abbrev pub decreases-loop-after : goal.decreases-loop-after
decreases-loop-after l = length l.rest
