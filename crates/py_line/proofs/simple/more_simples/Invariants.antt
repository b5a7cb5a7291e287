use Rattle.std.proofs.Common.{option_map, ◌≡◌, length}
use Rattle.py_grammar.specs.LineReading.{more_simples}
use Rattle.py_line.specs.Full.{full}
use Rattle.py_line.specs.Form.{raw_simples_of}
use Rattle.py_line.proofs.simple.more_simples.Given as goal

abbrev pub invariant-loop-after : goal.invariant-loop-after
invariant-loop-after l = more_simples 60 (full 60) (option_map (λ v. raw_simples_of v.items) l.fn.first) l.fn.tokens ≡ more_simples 60 (full 60) (option_map (λ v. raw_simples_of v.items) l.all) l.rest

abbrev pub decreases-loop-after : goal.decreases-loop-after
decreases-loop-after l = length l.rest
