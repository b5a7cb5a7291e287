use Rattle.py_block.proofs.LevelLines.{put_def}
use Rattle.py_block.proofs.level_lines.put_def.Goals as goal

pub returns : goal.returns
returns c =
    put_def c.args.place c.args.row.done.items c.args.row.last c.args.i c.args.name c.args.params c.args.defaults c.args.statements c.begun.result c.begun.ensures
