use Rattle.std.proofs.Common.{Ok, ap, ◌∙◌, subst}
use Rattle.py_line.specs.Form.{line_of}
use Rattle.py_block.specs.LevelAnswers.{IsReached, with_row}
use Rattle.py_block.specs.LevelViews.{opened_of}
use Rattle.py_block.proofs.LevelSteps.{down_put}
use Rattle.py_block.proofs.level_steps.down.Goals as goal

pub returns-in-Ok-true : goal.returns-in-Ok-true
returns-in-Ok-true c =
    down_put (opened_of (with_row c.args.levels.now c.args.row)) (opened_of c.close_down.new.levels) (opened_of c.put.new.levels) c.args.deep c.args.form c.put.result
    (subst (λ r. IsReached (opened_of (with_row c.args.levels.now c.args.row)) c.args.deep r (opened_of c.close_down.new.levels)) (c.in-Ok-true.is ∙ ap Ok c.in-Ok-true.field-0-test) c.close_down.ensures)
    c.put.ensures

pub returns-in-Ok-false : goal.returns-in-Ok-false
returns-in-Ok-false c =
    (subst (λ r. IsReached (opened_of (with_row c.args.levels.now c.args.row)) c.args.deep r (opened_of c.close_down.new.levels)) (c.in-Ok-false.is ∙ ap Ok c.in-Ok-false.field-0-test) c.close_down.ensures)
    (line_of c.args.form)
