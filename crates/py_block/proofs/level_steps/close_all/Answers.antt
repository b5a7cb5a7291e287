use Rattle.std.proofs.Common.{Ok, refl, ap, ◌∙◌, subst}
use Rattle.py_block.specs.LevelAnswers.{IsClosed}
use Rattle.py_block.specs.LevelViews.{opened_of}
use Rattle.py_block.proofs.LevelSteps.{all_closed, closing_on, closing_stuck}
use Rattle.py_block.proofs.level_steps.close_all.Goals as goal

pub loop-alloc-init : goal.loop-alloc-init
loop-alloc-init c = record { same = refl; numbers = refl }

pub loop-alloc-smaller : goal.loop-alloc-smaller
loop-alloc-smaller c = c.close.ensures.shorter (c.in-Ok-true.is ∙ ap Ok c.in-Ok-true.field-0-test)

pub loop-alloc-preserved : goal.loop-alloc-preserved
loop-alloc-preserved c =
    closing_on c.args.levels.now c.loop-alloc.levels c.close.new.levels c.loop-alloc.invariant
    (subst (λ r. IsClosed (opened_of c.loop-alloc.levels) r (opened_of c.close.new.levels)) (c.in-Ok-true.is ∙ ap Ok c.in-Ok-true.field-0-test) c.close.ensures.closed)

pub returns-in-Ok-false : goal.returns-in-Ok-false
returns-in-Ok-false c =
    closing_stuck c.args.levels.now c.loop-alloc.levels c.is_outermost.result c.loop-alloc.invariant c.is_outermost.ensures c.loop-alloc-test.true
    (subst (λ r. IsClosed (opened_of c.loop-alloc.levels) r (opened_of c.close.new.levels)) (c.in-Ok-false.is ∙ ap Ok c.in-Ok-false.field-0-test) c.close.ensures.closed)

pub returns : goal.returns
returns c = all_closed c.args.levels.now c.loop-alloc.levels c.is_outermost.result c.loop-alloc.invariant c.is_outermost.ensures c.loop-alloc-test.false
