use Rattle.std.proofs.Common.{refl, vec_len}
use Rattle.py_block.proofs.LevelSteps.{fewer, none_popped, none_round, popped}
use Rattle.py_block.proofs.level_steps.close.Goals as goal

pub returns-in-Some-clause-closed : goal.returns-in-Some-clause-closed
returns-in-Some-clause-closed c =
    popped c.args.levels.now (record { outers = c.pop.new.self; place = c.args.levels.now.place; row = c.args.levels.now.row }) c.close_into.new.levels c.in-Some.outer c.close_into.result c.in-Some.ensures.items refl c.close_into.ensures

pub returns-in-Some-clause-shorter : goal.returns-in-Some-clause-shorter
returns-in-Some-clause-shorter c =
    fewer c.args.levels.now (record { outers = c.pop.new.self; place = c.args.levels.now.place; row = c.args.levels.now.row }) c.close_into.new.levels c.in-Some.outer c.close_into.result c.in-Some.ensures.items c.close_into.ensures

pub returns-in-None-clause-closed : goal.returns-in-None-clause-closed
returns-in-None-clause-closed c =
    none_round c.args.levels.now
    (none_popped c.args.levels.now.outers.items c.pop.new.self.items (vec_len c.args.levels.now.outers) c.in-None.ensures.items c.in-None.ensures.rest c.in-None.ensures.cases.0)
