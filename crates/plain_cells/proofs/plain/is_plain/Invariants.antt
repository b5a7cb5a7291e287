use Rattle.std.proofs.Common.{◌≡◌, drop}
use Rattle.py_ast.specs.Statement.{view_block}
use Rattle.plain_cells.specs.Plain.{is_plain}
use Rattle.plain_cells.proofs.plain.is_plain.Given as goal

abbrev pub invariant-loop-s : goal.invariant-loop-s
invariant-loop-s l = is_plain (view_block (drop l.s-index l.statements)) ≡ is_plain (view_block l.statements)
