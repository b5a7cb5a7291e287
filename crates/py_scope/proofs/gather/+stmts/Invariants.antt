use Rattle.std.proofs.Common.{◌≡◌, ◌++◌, drop}
use Rattle.py_scope.specs.Marks.{marks_of_block, marks_of_branches, marks_of_handlers}
use Rattle.py_scope.proofs.gather.+stmts.Given as goal

abbrev pub invariant-gather_block-loop-s : goal.invariant-gather_block-loop-s
invariant-gather_block-loop-s l = l.marks ++ marks_of_block (drop l.s-index l.all) ≡ l.initial.marks ++ marks_of_block l.all

abbrev pub invariant-gather_branches-loop-b : goal.invariant-gather_branches-loop-b
invariant-gather_branches-loop-b l = l.marks ++ marks_of_branches (drop l.b-index l.all) ≡ l.initial.marks ++ marks_of_branches l.all

abbrev pub invariant-gather_handlers-loop-h : goal.invariant-gather_handlers-loop-h
invariant-gather_handlers-loop-h l = l.marks ++ marks_of_handlers (drop l.h-index l.all) ≡ l.initial.marks ++ marks_of_handlers l.all
