use Rattle.py_block.proofs.LevelLines.{put_try}
use Rattle.py_block.proofs.level_lines.put_try.Goals as goal

pub returns : goal.returns
returns c =
    put_try c.args.place c.args.row.done.items c.args.row.last c.args.i c.args.statements c.begun.result c.begun.ensures
