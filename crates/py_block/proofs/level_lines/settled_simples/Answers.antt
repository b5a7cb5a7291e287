use Rattle.py_block.proofs.LevelLines.{simples_settled, simples_unsettled}
use Rattle.py_block.proofs.level_lines.settled_simples.Goals as goal

pub returns-in-Ok-Some : goal.returns-in-Ok-Some
returns-in-Ok-Some c =
    simples_settled c.args.row.done c.args.row.last c.args.statements.items c.in-Ok-Some.done c.appended.result (rw c.in-Ok-Some.field-0-is at c.in-Ok-Some.ensures) c.appended.ensures

pub returns-in-Ok-None : goal.returns-in-Ok-None
returns-in-Ok-None c = simples_unsettled c.args.row.done c.args.row.last c.args.statements.items (rw c.in-Ok-None.field-0-is at c.in-Ok-None.ensures)
