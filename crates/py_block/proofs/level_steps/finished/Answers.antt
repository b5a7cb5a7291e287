use Rattle.py_block.proofs.LevelSteps.{finished_by}
use Rattle.py_block.proofs.level_steps.finished.Goals as goal

pub returns-in-Ok-Some : goal.returns-in-Ok-Some
returns-in-Ok-Some c = finished_by c.args.row c.in-Ok-Some.statements c.cell_of.result (rw c.in-Ok-Some.field-0-is at c.in-Ok-Some.ensures) c.cell_of.ensures
