use Rattle.std.proofs.Common.{◌≡◌, drop}
use Rattle.std.specs.List.{flat_map}
use Rattle.py_scope.specs.NameLists.{with_names}
use Rattle.py_scope.specs.Scopes.{declared, declared_in}
use Rattle.py_scope.proofs.declarations.declared.Given as goal

abbrev pub invariant-loop-mark : goal.invariant-loop-mark
invariant-loop-mark l = with_names l.names (flat_map (declared_in l.way) (drop l.mark-index l.marks)) ≡ declared l.way l.marks
