use Rattle.std.proofs.Common.{refl}
use Rattle.py_block.specs.LevelViews.{opened_of}
use Rattle.py_block.specs.declared.level_parts.Last.TheVariants as l
use Rattle.py_block.proofs.LevelSteps.{entered_from, placed_from, row_again, waits_for_none}
use Rattle.py_block.proofs.level_steps.step.Goals as goal

pub returns-in-Waits : goal.returns-in-Waits
returns-in-Waits c =
    entered_from c.args.levels.now (record { outers = c.args.levels.now.outers; place = c.args.levels.now.place; row = c.replace-done.new.dest }) c.replace-done.result.done c.in-Waits.waiting c.args.deep c.args.form c.enter.result (opened_of c.enter.new.levels) refl refl
    (row_again c.replace-done.result c.args.levels.now.row (l.Waits c.in-Waits.waiting) c.replace-done.ensures.value c.in-Waits.is) c.enter.ensures

pub returns-in-Nothing : goal.returns-in-Nothing
returns-in-Nothing c =
    placed_from c.args.levels.now (record { outers = c.args.levels.now.outers; place = c.args.levels.now.place; row = c.replace-done.new.dest }) (record { done = c.replace-done.result.done; last = l.Nothing }) c.args.deep c.args.form c.down.result (opened_of c.down.new.levels) refl refl
    (row_again c.replace-done.result c.args.levels.now.row (l.Nothing) c.replace-done.ensures.value c.in-Nothing.is) refl c.down.ensures

pub returns-in-Whole : goal.returns-in-Whole
returns-in-Whole c =
    placed_from c.args.levels.now (record { outers = c.args.levels.now.outers; place = c.args.levels.now.place; row = c.replace-done.new.dest }) (record { done = c.replace-done.result.done; last = l.Whole c.in-Whole.x }) c.args.deep c.args.form c.down-in-Whole.result (opened_of c.down-in-Whole.new.levels) refl refl
    (row_again c.replace-done.result c.args.levels.now.row (l.Whole c.in-Whole.x) c.replace-done.ensures.value c.in-Whole.is) refl c.down-in-Whole.ensures

pub returns-in-After : goal.returns-in-After
returns-in-After c =
    placed_from c.args.levels.now (record { outers = c.args.levels.now.outers; place = c.args.levels.now.place; row = c.replace-done.new.dest }) (record { done = c.replace-done.result.done; last = l.After c.in-After.after }) c.args.deep c.args.form c.down-in-After.result (opened_of c.down-in-After.new.levels) refl refl
    (row_again c.replace-done.result c.args.levels.now.row (l.After c.in-After.after) c.replace-done.ensures.value c.in-After.is) (waits_for_none c.in-After.after) c.down-in-After.ensures
