use Rattle.py_block.proofs.LevelLines.{simples_none, some_there}
use Rattle.py_block.proofs.level_lines.put_simples.Goals as goal

pub returns-then-has_none : goal.returns-then-has_none
returns-then-has_none c =
    simples_none c.args.place c.args.row.done.items c.args.row.last c.args.statements.items c.has_none.result c.has_none.ensures c.if-has_none.true

pub some_simples-requires : goal.some_simples-requires
some_simples-requires c = some_there c.args.statements.items c.has_none.result c.has_none.ensures c.if-has_none.false
