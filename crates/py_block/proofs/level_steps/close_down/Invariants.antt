use Rattle.std.proofs.Common.{length}
use Rattle.py_block.proofs.LevelSteps.{Lowered}
use Rattle.py_block.proofs.level_steps.close_down.Given as goal

abbrev pub invariant-loop-levels : goal.invariant-loop-levels
invariant-loop-levels l = Lowered l.deep l.initial.levels l.levels

abbrev pub decreases-loop-levels : goal.decreases-loop-levels
decreases-loop-levels l = length l.levels.outers.items
