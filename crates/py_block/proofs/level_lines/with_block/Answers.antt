use Rattle.py_block.proofs.LevelLines.{block_same}
use Rattle.py_block.proofs.level_lines.with_block.Goals as goal

pub returns-in-Ok : goal.returns-in-Ok
returns-in-Ok c =
    block_same c.args.done.items c.args.waiting c.in-Ok.block c.args.statements.items c.filled_row.result c.in-Ok.ensures c.filled_row.ensures
