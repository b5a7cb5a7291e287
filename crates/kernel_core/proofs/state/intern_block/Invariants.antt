use Rattle.std.proofs.Common.{◌≡◌, drop}
use Rattle.py_ast.specs.Statement.{view_block}
use Rattle.plain_cells.specs.Plain.{names_in}
use Rattle.kernel_core.specs.State.{with_names}
use Rattle.kernel_core.proofs.state.intern_block.Given as goal

abbrev pub invariant-loop-s : goal.invariant-loop-s
invariant-loop-s l = with_names l.initial.names (names_in (view_block l.statements)) ≡ with_names l.names (names_in (view_block (drop l.s-index l.statements)))
