use Rattle.std.proofs.Common.{◌≡◌}
use Rattle.std.proofs.lemmas.Result.{err_from_is_err_and}
use Rattle.py_grammar.specs.LineReading.{comma_at, name_turn, more_names}
use Rattle.py_grammar.proofs.Loops.{turn_smaller, turn_goes, turn_ends}
use Rattle.py_grammar.proofs.WordReading.{names_shrink}
use Rattle.py_line.proofs.LineSteps.{turn_fails}
use Rattle.py_line.proofs.simple.more_names.Goals as goal

pub loop-after-smaller : goal.loop-after-smaller
loop-after-smaller c =
    turn_smaller comma_at name_turn names_shrink c.loop-after.names.items c.loop-after.rest.now (tt, c.in-Some.after.now)
    (c.in_ok-longer.longer.items, c.in_ok-longer.after.now) c.in-Some.ensures c.in_ok-longer.ensures

pub loop-after-preserved : goal.loop-after-preserved
loop-after-preserved c =
    turn_goes comma_at name_turn names_shrink (more_names c.args.first.items c.args.tokens.now) c.loop-after.names.items
    c.loop-after.rest.now c.loop-after.invariant (tt, c.in-Some.after.now) (c.in_ok-longer.longer.items, c.in_ok-longer.after.now) c.in-Some.ensures
    c.in_ok-longer.ensures

pub returns-in_err-longer : goal.returns-in_err-longer
returns-in_err-longer c =
    let p = err_from_is_err_and c.from_residual.result c.from_residual.ensures.1 in
    rw (p.1, p.2)
    (turn_fails comma_at name_turn names_shrink (more_names c.args.first.items c.args.tokens.now) c.loop-after.names.items
    c.loop-after.rest.now c.loop-after.invariant (tt, c.in-Some.after.now) c.in-Some.ensures c.in_err-longer.field-0.0 c.in_err-longer.ensures)

pub returns : goal.returns
returns c =
    turn_ends comma_at name_turn names_shrink (more_names c.args.first.items c.args.tokens.now) c.loop-after.names.items
    c.loop-after.rest.now c.loop-after.invariant c.in_default.ensures
