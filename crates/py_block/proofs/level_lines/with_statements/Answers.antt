use Rattle.std.proofs.Common.{List, ap, ◌∙◌}
use Rattle.std.specs.List.{list_all}
use Rattle.py_ast.specs.declared.stmt.Stmt.{Stmt}
use Rattle.py_grammar.specs.Blocks.{is_allowed}
use Rattle.py_line.specs.Form.{statements_of}
use Rattle.py_block.specs.LevelViews.{place_at}
use Rattle.py_block.proofs.LevelLines.{row_filled, row_refused}
use Rattle.py_block.proofs.level_lines.with_statements.Goals as goal

pub returns-then-may_stand : goal.returns-then-may_stand
returns-then-may_stand c =
    row_filled c.args.place c.args.done.items c.args.waiting c.body_within.result c.args.statements.items c.may_stand.result c.with_block.result c.requires c.body_within.ensures
    (λ deep. c.may_stand.ensures deep ∙ ap (λ (z : List Stmt). list_all (is_allowed (place_at deep c.body_within.result)) (statements_of z)) c.as_slice.ensures.value)
    c.if-may_stand.true c.with_block.ensures

pub returns-else-may_stand : goal.returns-else-may_stand
returns-else-may_stand c =
    row_refused c.args.place c.args.done.items c.args.waiting c.body_within.result c.args.statements.items c.may_stand.result c.requires c.body_within.ensures
    (λ deep. c.may_stand.ensures deep ∙ ap (λ (z : List Stmt). list_all (is_allowed (place_at deep c.body_within.result)) (statements_of z)) c.as_slice.ensures.value)
    c.if-may_stand.false
