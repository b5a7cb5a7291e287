use Rattle.py_block.proofs.LevelLines.{put_if}
use Rattle.py_block.proofs.level_lines.put_if.Goals as goal

pub returns : goal.returns
returns c =
    put_if c.args.place c.args.row.done.items c.args.row.last c.args.i c.new.result c.args.test c.args.statements c.begun.result c.new.ensures.items c.begun.ensures
