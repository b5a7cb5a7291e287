use Rattle.std.proofs.Common.{◌≡◌}
use Rattle.std.proofs.lemmas.Result.{err_from_is_err_and}
use Rattle.py_grammar.specs.Reading.{next_at, items_turn, more_items}
use Rattle.py_grammar.proofs.Loops.{turn_smaller, turn_goes, turn_ends}
use Rattle.py_line.specs.Full.{full}
use Rattle.py_line.specs.Views.{all_of}
use Rattle.py_line.proofs.LineSteps.{turn_fails, items_loop}
use Rattle.py_line.proofs.exprs.more_items.Goals as goal

pub loop-after-smaller : goal.loop-after-smaller
loop-after-smaller c =
    turn_smaller next_at (items_turn 60 (full 60)) items_loop (all_of c.loop-after.all) c.loop-after.rest.now (tt, c.in-Some.after.now)
    (all_of c.in_ok-longer.longer, c.in_ok-longer.after.now) c.in-Some.ensures c.in_ok-longer.ensures

pub loop-after-preserved : goal.loop-after-preserved
loop-after-preserved c =
    turn_goes next_at (items_turn 60 (full 60)) items_loop (more_items 60 (full 60) (all_of c.args.first) c.args.tokens.now) (all_of c.loop-after.all)
    c.loop-after.rest.now c.loop-after.invariant (tt, c.in-Some.after.now) (all_of c.in_ok-longer.longer, c.in_ok-longer.after.now) c.in-Some.ensures
    c.in_ok-longer.ensures

pub returns-in_err-longer : goal.returns-in_err-longer
returns-in_err-longer c =
    let p = err_from_is_err_and c.from_residual.result c.from_residual.ensures.1 in
    rw (p.1, p.2)
    (turn_fails next_at (items_turn 60 (full 60)) items_loop (more_items 60 (full 60) (all_of c.args.first) c.args.tokens.now) (all_of c.loop-after.all)
    c.loop-after.rest.now c.loop-after.invariant (tt, c.in-Some.after.now) c.in-Some.ensures c.in_err-longer.field-0.0 c.in_err-longer.ensures)

pub returns : goal.returns
returns c =
    turn_ends next_at (items_turn 60 (full 60)) items_loop (more_items 60 (full 60) (all_of c.args.first) c.args.tokens.now) (all_of c.loop-after.all)
    c.loop-after.rest.now c.loop-after.invariant c.in_default.ensures
