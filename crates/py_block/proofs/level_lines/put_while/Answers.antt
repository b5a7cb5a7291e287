use Rattle.py_block.proofs.LevelLines.{put_while}
use Rattle.py_block.proofs.level_lines.put_while.Goals as goal

pub returns : goal.returns
returns c =
    put_while c.args.place c.args.row.done.items c.args.row.last c.args.i c.args.test c.args.statements c.begun.result c.begun.ensures
