use Rattle.std.proofs.Common.{◌≡◌, drop}
use Rattle.py_scope.specs.NameLists.{with_names}
use Rattle.py_scope.proofs.declarations.add_names.Given as goal

abbrev pub invariant-loop-name : goal.invariant-loop-name
invariant-loop-name l = with_names l.names (drop l.name-index l.more) ≡ with_names l.initial.names l.more
