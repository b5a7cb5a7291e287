use Rattle.std.proofs.Common.{refl}
use Rattle.py_block.proofs.LevelSteps.{not_settled, refilled}
use Rattle.py_block.proofs.level_steps.close_into.Goals as goal

pub returns-in-Ok-Some : goal.returns-in-Ok-Some
returns-in-Ok-Some c =
    refilled c.args.levels.now (record { outers = c.args.levels.now.outers; place = c.args.levels.now.place; row = c.replace-done.new.dest }) c.refill.new.levels c.args.outer c.replace-done.result c.in-Ok-Some.block c.refill.result
    c.replace-done.ensures.value refl (rw c.in-Ok-Some.field-0-is at c.in-Ok-Some.ensures) c.refill.ensures

pub returns-in-Ok-None : goal.returns-in-Ok-None
returns-in-Ok-None c = not_settled c.args.levels.now c.args.outer c.replace-done.result c.replace-done.ensures.value (rw c.in-Ok-None.field-0-is at c.in-Ok-None.ensures)
