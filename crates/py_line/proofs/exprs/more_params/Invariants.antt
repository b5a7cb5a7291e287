use Rattle.std.proofs.Common.{◌≡◌, length}
use Rattle.py_grammar.specs.Reading.{more_params}
use Rattle.py_line.specs.Full.{full}
use Rattle.py_line.specs.Views.{params_of}
use Rattle.py_line.proofs.exprs.more_params.Given as goal

abbrev pub invariant-loop-after : goal.invariant-loop-after
invariant-loop-after l = more_params 60 (full 60) (params_of l.fn.first) l.fn.tokens ≡ more_params 60 (full 60) (params_of l.s) l.rest

abbrev pub decreases-loop-after : goal.decreases-loop-after
decreases-loop-after l = length l.rest
