use Rattle.std.proofs.Common.{◌≡◌, drop}
use Rattle.py_scope.specs.Building.{with_spots}
use Rattle.py_scope.specs.Chart.{spots_of_exprs}
use Rattle.py_scope.proofs.walk.+exprs.Given as goal

abbrev pub invariant-walk_exprs-loop-e : goal.invariant-walk_exprs-loop-e
invariant-walk_exprs-loop-e l = with_spots l.b (spots_of_exprs (drop l.e-index l.all) l.round)
    ≡ with_spots l.initial.b (spots_of_exprs l.all l.round)
