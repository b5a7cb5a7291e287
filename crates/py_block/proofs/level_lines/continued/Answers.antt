use Rattle.py_block.proofs.LevelLines.{row_waits, some_there}
use Rattle.py_block.proofs.level_lines.continued.Goals as goal

pub returns-then-has_none : goal.returns-then-has_none
returns-then-has_none c =
    row_waits c.args.place c.args.done c.args.waiting c.args.statements.items c.has_none.result c.has_none.ensures c.if-has_none.true

pub with_statements-requires : goal.with_statements-requires
with_statements-requires c = some_there c.args.statements.items c.has_none.result c.has_none.ensures c.if-has_none.false
