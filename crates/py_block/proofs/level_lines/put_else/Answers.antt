use Rattle.py_block.proofs.LevelLines.{put_else}
use Rattle.py_block.proofs.level_lines.put_else.Goals as goal

pub returns : goal.returns
returns c =
    put_else c.args.place c.args.row.done.items c.args.row.last c.args.statements c.else_next-next.result c.go_on.result c.else_next-next.ensures c.go_on.ensures
