use Rattle.std.proofs.Common.{List, ap, ◌∙◌}
use Rattle.std.specs.List.{list_all}
use Rattle.py_ast.specs.declared.stmt.Stmt.{Stmt}
use Rattle.py_grammar.specs.Blocks.{is_allowed}
use Rattle.py_line.specs.Form.{statements_of}
use Rattle.py_block.specs.LevelViews.{place_at}
use Rattle.py_block.proofs.LevelLines.{simples_put, simples_refused}
use Rattle.py_block.proofs.level_lines.some_simples.Goals as goal

pub returns-then-may_stand : goal.returns-then-may_stand
returns-then-may_stand c =
    simples_put c.args.place c.args.row.done c.args.row.last c.args.statements c.may_stand.result c.settled_simples.result c.requires
    (λ deep. c.may_stand.ensures deep ∙ ap (λ (z : List Stmt). list_all (is_allowed (place_at deep c.args.place.body)) (statements_of z)) c.as_slice.ensures.value)
    c.if-may_stand.true c.settled_simples.ensures

pub returns-else-may_stand : goal.returns-else-may_stand
returns-else-may_stand c =
    simples_refused c.args.place c.args.row.done.items c.args.row.last c.args.statements.items c.may_stand.result c.requires
    (λ deep. c.may_stand.ensures deep ∙ ap (λ (z : List Stmt). list_all (is_allowed (place_at deep c.args.place.body)) (statements_of z)) c.as_slice.ensures.value)
    c.if-may_stand.false
