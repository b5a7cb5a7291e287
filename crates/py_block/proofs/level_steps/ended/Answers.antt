use Rattle.std.proofs.Common.{Ok, ap, ◌∙◌, subst}
use Rattle.py_block.specs.LevelAnswers.{IsAllClosed}
use Rattle.py_block.proofs.LevelSteps.{ended_here}
use Rattle.py_block.proofs.level_steps.ended.Goals as goal

pub returns-in-Ok-true : goal.returns-in-Ok-true
returns-in-Ok-true c =
    ended_here c.args.levels c.close_all.new.levels c.finished.result
    (subst (λ r. IsAllClosed c.args.levels r c.close_all.new.levels) (c.in-Ok-true.is ∙ ap Ok c.in-Ok-true.field-0-test) c.close_all.ensures) c.finished.ensures
