use Rattle.py_block.proofs.LevelLines.{put_except}
use Rattle.py_block.proofs.level_lines.put_except.Goals as goal

pub returns : goal.returns
returns c =
    put_except c.args.place c.args.row.done.items c.args.row.last c.args.node c.args.class c.args.name c.args.statements c.except_next-next.result c.go_on.result c.except_next-next.ensures c.go_on.ensures
