use Rattle.std.proofs.Common.{◌≡◌, drop}
use Rattle.py_scope.specs.Building.{with_spots}
use Rattle.py_scope.specs.Chart.{spots_of_block, spots_of_branches, spots_of_handlers}
use Rattle.py_scope.proofs.walk.+stmts.Given as goal

abbrev pub invariant-walk_block-loop-s : goal.invariant-walk_block-loop-s
invariant-walk_block-loop-s l = with_spots l.b (spots_of_block (drop l.s-index l.all) l.round)
    ≡ with_spots l.initial.b (spots_of_block l.all l.round)

abbrev pub invariant-walk_branches-loop-branch : goal.invariant-walk_branches-loop-branch
invariant-walk_branches-loop-branch l =
    with_spots l.b (spots_of_branches (drop l.branch-index l.all) l.round) ≡ with_spots l.initial.b (spots_of_branches l.all l.round)

abbrev pub invariant-walk_handlers-loop-h : goal.invariant-walk_handlers-loop-h
invariant-walk_handlers-loop-h l = with_spots l.b (spots_of_handlers (drop l.h-index l.all) l.round)
    ≡ with_spots l.initial.b (spots_of_handlers l.all l.round)
