use Rattle.py_scope.proofs.Going.{goes_on, with_spots_append}
use Rattle.py_scope.specs.Building.{with_spots}
use Rattle.py_scope.specs.Chart.{spots_of_expr, spots_of_exprs}
use Rattle.py_scope.proofs.walk.+exprs.Goals as goal

pub walk_exprs-loop-e-preserved : goal.walk_exprs-loop-e-preserved
walk_exprs-loop-e-preserved t c =
    goes_on with_spots with_spots_append (λ x. spots_of_expr x c.args.round.now) c.loop-e.e-index c.loop-e.b c.walk_expr.new.b
    (with_spots c.args.b.now (spots_of_exprs c.args.all.now c.args.round.now)) c.args.all.now c.e-item.result c.loop-e-test.true c.e-item.is
    c.in_ok-walk_expr.ensures c.loop-e.invariant
