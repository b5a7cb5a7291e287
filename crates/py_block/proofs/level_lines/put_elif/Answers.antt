use Rattle.py_block.proofs.LevelLines.{put_elif}
use Rattle.py_block.proofs.level_lines.put_elif.Goals as goal

pub returns : goal.returns
returns c =
    put_elif c.args.place c.args.row.done.items c.args.row.last c.args.test c.args.statements c.elif_next-next.result c.go_on.result c.elif_next-next.ensures c.go_on.ensures
