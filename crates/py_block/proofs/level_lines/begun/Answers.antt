use Rattle.py_block.proofs.LevelLines.{begun_settled, begun_unsettled}
use Rattle.py_block.proofs.level_lines.begun.Goals as goal

pub returns-in-Ok-Some : goal.returns-in-Ok-Some
returns-in-Ok-Some c =
    begun_settled c.args.place c.args.row.done c.args.row.last c.args.waiting c.args.statements.items c.in-Ok-Some.done c.continued.result
    (rw c.in-Ok-Some.field-0-is at c.in-Ok-Some.ensures) c.continued.ensures

pub returns-in-Ok-None : goal.returns-in-Ok-None
returns-in-Ok-None c = begun_unsettled c.args.place c.args.row.done c.args.row.last c.args.waiting c.args.statements.items (rw c.in-Ok-None.field-0-is at c.in-Ok-None.ensures)
