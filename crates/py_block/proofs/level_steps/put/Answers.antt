use Rattle.std.proofs.Common.{refl}
use Rattle.py_block.proofs.LevelSteps.{line_put, line_refused}
use Rattle.py_block.proofs.level_steps.put.Goals as goal

pub returns-in-Ok-Some : goal.returns-in-Ok-Some
returns-in-Ok-Some c =
    line_put c.args.levels.now (record { outers = c.args.levels.now.outers; place = c.args.levels.now.place; row = c.in-Ok-Some.row }) c.replace-row.result c.in-Ok-Some.row c.args.form
    c.replace-row.ensures.value (rw c.in-Ok-Some.field-0-is at c.in-Ok-Some.ensures) refl refl refl

pub returns-in-Ok-None : goal.returns-in-Ok-None
returns-in-Ok-None c = line_refused c.args.levels.now c.replace-row.result c.args.form c.replace-row.ensures.value (rw c.in-Ok-None.field-0-is at c.in-Ok-None.ensures)
