use Rattle.std.proofs.Common.{◌≡◌, drop}
use Rattle.std.specs.List.{list_any}
use Rattle.py_scope.specs.Faults.{name_has_fault}
use Rattle.py_scope.proofs.faults.has_fault.Given as goal

abbrev pub invariant-loop-name : goal.invariant-loop-name
invariant-loop-name l =
    list_any (name_has_fault l.params l.round l.other l.way) (drop l.name-index l.names)
    ≡ list_any (name_has_fault l.params l.round l.other l.way) l.names
