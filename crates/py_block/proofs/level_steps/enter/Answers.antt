use Rattle.std.proofs.Common.{sym, ◌∙◌}
use Rattle.std.proofs.lemmas.Bool.{true≢false}
use Rattle.py_block.specs.LevelAnswers.{with_row}
use Rattle.py_block.specs.LevelViews.{opened_of, state_of, waiting_of}
use Rattle.py_block.specs.declared.level_parts.Last.TheVariants.{Waits}
use Rattle.py_block.proofs.LevelSteps.{entered_put, not_entered}
use Rattle.py_block.proofs.level_steps.enter.Goals as goal

pub deepen-requires : goal.deepen-requires
deepen-requires c = c.is_one_below.ensures.0 c.if-is_one_below.true

pub returns-in-Ok : goal.returns-in-Ok
returns-in-Ok c =
    entered_put c.args.levels.now c.args.done c.args.waiting (opened_of c.deepen.new.levels) (opened_of c.put.new.levels) c.args.deep c.args.form c.put.result
    (sym (c.is_one_below.ensures.0 c.if-is_one_below.true)) c.in-Ok.ensures c.put.ensures

pub returns-else-is_one_below : goal.returns-else-is_one_below
returns-else-is_one_below c =
    not_entered (state_of (with_row c.args.levels.now (record { done = c.args.done; last = Waits c.args.waiting }))) (waiting_of c.args.waiting) c.args.deep c.args.form
    (λ e. true≢false (sym (c.is_one_below.ensures.1 (sym e)) ∙ c.if-is_one_below.false))
