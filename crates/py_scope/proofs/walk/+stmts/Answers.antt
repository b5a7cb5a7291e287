use Rattle.py_scope.proofs.Going.{goes_on, with_spots_append}
use Rattle.py_scope.specs.Building.{with_spots}
use Rattle.py_scope.specs.Chart.{spots_of_block, spots_of_branch, spots_of_branches, spots_of_handler, spots_of_handlers, spots_of_stmt}
use Rattle.py_scope.proofs.SpotForms.{class_walked, def_walked}
use Rattle.py_scope.proofs.walk.+stmts.Goals as goal

pub walk_block-loop-s-preserved : goal.walk_block-loop-s-preserved
walk_block-loop-s-preserved t c =
    goes_on with_spots with_spots_append (λ x. spots_of_stmt x c.args.round.now) c.loop-s.s-index c.loop-s.b c.walk_stmt.new.b
    (with_spots c.args.b.now (spots_of_block c.args.all.now c.args.round.now)) c.args.all.now c.s-item.result c.loop-s-test.true c.s-item.is
    c.in_ok-walk_stmt.ensures c.loop-s.invariant

pub walk_branches-loop-branch-preserved : goal.walk_branches-loop-branch-preserved
walk_branches-loop-branch-preserved t c =
    goes_on with_spots with_spots_append (λ x. spots_of_branch x c.args.round.now) c.loop-branch.branch-index c.loop-branch.b
    c.walk_branch.new.b
    (with_spots c.args.b.now (spots_of_branches c.args.all.now c.args.round.now)) c.args.all.now c.branch-item.result
    c.loop-branch-test.true
    c.branch-item.is c.in_ok-walk_branch.ensures c.loop-branch.invariant

pub walk_handlers-loop-h-preserved : goal.walk_handlers-loop-h-preserved
walk_handlers-loop-h-preserved t c =
    goes_on with_spots with_spots_append (λ x. spots_of_handler x c.args.round.now) c.loop-h.h-index c.loop-h.b c.walk_handler.new.b
    (with_spots c.args.b.now (spots_of_handlers c.args.all.now c.args.round.now)) c.args.all.now c.h-item.result c.loop-h-test.true
    c.h-item.is
    c.in_ok-walk_handler.ensures c.loop-h.invariant

pub walk_stmt-returns-in_ok-inside-in-Def : goal.walk_stmt-returns-in_ok-inside-in-Def
walk_stmt-returns-in_ok-inside-in-Def t c =
    def_walked c.args.s.now c.in-Def.field-0 c.in-Def.field-1 c.in-Def.params c.in-Def.defaults c.in-Def.body c.as_slice-in-Def.result.now
    c.args.round.now
    c.in_ok-inside-in-Def.inside c.args.b.now c.enter_def.new.b c.walk_block-in-Def.new.b c.walk_block-in-Def.result c.in-Def.is
    c.in_ok-inside-in-Def.ensures.spots c.in_ok-inside-in-Def.ensures.inside c.as_slice-in-Def.ensures c.walk_block-in-Def.ensures

pub walk_stmt-returns-in_ok-inside-in-Class : goal.walk_stmt-returns-in_ok-inside-in-Class
walk_stmt-returns-in_ok-inside-in-Class t c =
    class_walked c.args.s.now c.in-Class.field-0 c.in-Class.field-1 c.in-Class.base c.in-Class.body c.as_slice-in-Class.result.now
    c.args.round.now
    c.in_ok-inside-in-Class.inside c.args.b.now c.enter_class.new.b c.walk_block-in-Class.new.b c.walk_block-in-Class.result c.in-Class.is
    c.in_ok-inside-in-Class.ensures.spots c.in_ok-inside-in-Class.ensures.inside c.as_slice-in-Class.ensures c.walk_block-in-Class.ensures
