use Rattle.std.proofs.Common.{◌≡◌, max, drop}
use Rattle.py_ast.specs.Tree.{deepest}
use Rattle.py_ast.specs.View.{views}
use Rattle.py_ast.proofs.depths.+depth.Given as goal

abbrev pub invariant-deepest-loop-e : goal.invariant-deepest-loop-e
invariant-deepest-loop-e l = max l.most (deepest (views (drop l.e-index l.all))) ≡ deepest (views l.all)
