use Rattle.std.proofs.Common.{◌≡◌, drop}
use Rattle.py_ast.specs.View.{views}
use Rattle.py_grammar.specs.Kept.{targets_of}
use Rattle.py_line.proofs.TargetForms.{before_targets}
use Rattle.py_line.proofs.targets.+made.Given as goal

abbrev pub invariant-targets_of-loop-e : goal.invariant-targets_of-loop-e
invariant-targets_of-loop-e l = before_targets l.targets.items (targets_of (views (drop l.e-index l.all))) ≡ targets_of (views l.all)
