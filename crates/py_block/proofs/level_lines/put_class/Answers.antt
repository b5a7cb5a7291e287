use Rattle.py_block.proofs.LevelLines.{put_class}
use Rattle.py_block.proofs.level_lines.put_class.Goals as goal

pub returns : goal.returns
returns c =
    put_class c.args.place c.args.row.done.items c.args.row.last c.args.i c.args.name c.args.base c.args.statements c.begun.result c.begun.ensures
