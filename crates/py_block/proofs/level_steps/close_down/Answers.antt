use Rattle.std.proofs.Common.{Ok, refl, ap, ◌∙◌, subst}
use Rattle.py_block.specs.LevelAnswers.{IsClosed}
use Rattle.py_block.specs.LevelViews.{opened_of}
use Rattle.py_block.proofs.LevelSteps.{lowered, lowered_stuck, reached}
use Rattle.py_block.proofs.level_steps.close_down.Goals as goal

pub loop-levels-init : goal.loop-levels-init
loop-levels-init c = record { lines = λ line. refl; numbers = refl }

pub loop-levels-smaller : goal.loop-levels-smaller
loop-levels-smaller c = c.close.ensures.shorter (c.in-Ok-true.is ∙ ap Ok c.in-Ok-true.field-0-test)

pub loop-levels-preserved : goal.loop-levels-preserved
loop-levels-preserved c =
    lowered c.args.deep c.args.levels.now c.loop-levels.levels c.close.new.levels c.loop-levels.invariant c.loop-levels-test.true
    (subst (λ r. IsClosed (opened_of c.loop-levels.levels) r (opened_of c.close.new.levels)) (c.in-Ok-true.is ∙ ap Ok c.in-Ok-true.field-0-test) c.close.ensures.closed)

pub returns-in-Ok-false : goal.returns-in-Ok-false
returns-in-Ok-false c =
    lowered_stuck c.args.deep c.args.levels.now c.loop-levels.levels c.loop-levels.invariant c.loop-levels-test.true
    (subst (λ r. IsClosed (opened_of c.loop-levels.levels) r (opened_of c.close.new.levels)) (c.in-Ok-false.is ∙ ap Ok c.in-Ok-false.field-0-test) c.close.ensures.closed)

pub returns : goal.returns
returns c = reached c.args.deep c.args.levels.now c.loop-levels.levels c.loop-levels.invariant c.loop-levels-test.false
