use Rattle.std.proofs.Common.{◌≡◌, drop}
use Rattle.py_ast.specs.Statement.{view_block}
use Rattle.plain_cells.specs.Run.{exec_all}
use Rattle.plain_cells.proofs.evaluate.exec_all.Given as goal

abbrev pub invariant-loop-s : goal.invariant-loop-s
invariant-loop-s l = exec_all l.names (view_block (drop l.s-index l.statements)) l.m ≡ exec_all l.names (view_block l.statements) l.initial.m
