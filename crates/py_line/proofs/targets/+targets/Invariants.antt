use Rattle.std.proofs.Common.{◌≡◌, drop}
use Rattle.py_ast.specs.View.{views}
use Rattle.py_grammar.specs.Kept.{are_targets}
use Rattle.py_line.proofs.targets.+targets.Given as goal

abbrev pub invariant-are_targets-loop-e : goal.invariant-are_targets-loop-e
invariant-are_targets-loop-e l = are_targets (views (drop l.e-index l.all)) ≡ are_targets (views l.all)
