use Rattle.std.proofs.Common.{◌≡◌, ◌++◌, drop}
use Rattle.py_ast.specs.Statement.{view_block}
use Rattle.kernel_core.specs.Lineage.{live_names}
use Rattle.kernel_core.specs.Marking.{has_name}
use Rattle.kernel_core.proofs.LineageLaws.{live_by}
use Rattle.kernel_core.proofs.lineage.live_names.Given as goal

abbrev pub invariant-loop-s : goal.invariant-loop-s
invariant-loop-s l = l.live.items ++ live_by (has_name l.bound) (view_block (drop l.s-index l.statements)) ≡ live_names (view_block l.statements)
