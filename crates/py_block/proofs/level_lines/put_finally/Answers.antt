use Rattle.py_block.proofs.LevelLines.{put_finally}
use Rattle.py_block.proofs.level_lines.put_finally.Goals as goal

pub returns-in-Ok : goal.returns-in-Ok
returns-in-Ok c =
    put_finally c.args.place c.args.row.done.items c.args.row.last c.args.statements c.in-Ok.next c.go_on.result c.in-Ok.ensures c.go_on.ensures
