use Rattle.py_block.proofs.LevelLines.{block_put}
use Rattle.py_block.proofs.level_lines.filled_row.Goals as goal

pub returns-in-Ok : goal.returns-in-Ok
returns-in-Ok c = block_put c.args.done c.args.waiting c.args.block c.in-Ok.last c.in-Ok.ensures
