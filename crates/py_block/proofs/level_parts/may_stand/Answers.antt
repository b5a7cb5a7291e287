use Rattle.std.proofs.Common.{◌≡◌, ◌≤◌, sym, ◌∙◌, arith}
use Rattle.std.specs.List.{list_all}
use Rattle.std.proofs.lemmas.List.{at_drop_all}
use Rattle.py_grammar.specs.Blocks.{is_allowed}
use Rattle.py_line.specs.Form.{statements_of}
use Rattle.py_block.specs.LevelViews.{place_at}
use Rattle.py_block.proofs.LevelLists.{all_goes_on, all_stops}
use Rattle.py_block.proofs.level_parts.may_stand.Goals as goal

pub returns-then-not-is_allowed : goal.returns-then-not-is_allowed
returns-then-not-is_allowed c deep =
    all_stops (is_allowed (place_at deep c.args.body)) c.args.statements.now c.loop-statement.statement-index c.statement-item.result
    c.loop-statement-test.true c.statement-item.is (c.loop-statement.invariant deep)
    (sym (c.is_allowed.ensures deep) ∙ c.if-not-is_allowed.true)

pub loop-statement-preserved : goal.loop-statement-preserved
loop-statement-preserved c deep =
    all_goes_on (is_allowed (place_at deep c.args.body)) c.args.statements.now c.loop-statement.statement-index c.statement-item.result
    c.loop-statement-test.true c.statement-item.is (c.loop-statement.invariant deep)
    (sym (c.is_allowed.ensures deep) ∙ c.if-not-is_allowed.false)

pub returns : goal.returns
returns c deep =
    sym (at_drop_all (λ xs. list_all (is_allowed (place_at deep c.args.body)) (statements_of xs)) c.args.statements.now c.loop-statement.statement-index (omega arith))
    ∙ c.loop-statement.invariant deep
