use Rattle.std.proofs.Common.{◌≡◌, ◌++◌, drop}
use Rattle.py_scope.specs.Marks.{marks_of_targets}
use Rattle.py_scope.proofs.gather.+targets.Given as goal

abbrev pub invariant-gather_targets-loop-target : goal.invariant-gather_targets-loop-target
invariant-gather_targets-loop-target l = l.marks ++ marks_of_targets (drop l.target-index l.all) ≡ l.initial.marks ++ marks_of_targets l.all
