use Rattle.py_block.proofs.LevelLines.{put_for}
use Rattle.py_block.proofs.level_lines.put_for.Goals as goal

pub returns : goal.returns
returns c =
    put_for c.args.place c.args.row.done.items c.args.row.last c.args.i c.args.target c.args.items c.args.statements c.begun.result c.begun.ensures
