use Rattle.std.proofs.Common.{length}
use Rattle.py_block.proofs.LevelSteps.{Closing}
use Rattle.py_block.proofs.level_steps.close_all.Given as goal

abbrev pub invariant-loop-alloc : goal.invariant-loop-alloc
invariant-loop-alloc l = Closing l.initial.levels l.levels

abbrev pub decreases-loop-alloc : goal.decreases-loop-alloc
decreases-loop-alloc l = length l.levels.outers.items
