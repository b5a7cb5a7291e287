use Rattle.std.proofs.Common.{◌≡◌, drop, filter}
use Rattle.std.specs.List.{flat_map}
use Rattle.py_scope.specs.NameLists.{with_names}
use Rattle.py_scope.specs.Scopes.{bound_in, is_in_neither}
use Rattle.py_scope.proofs.declarations.add_bound.Given as goal

abbrev pub invariant-loop-mark : goal.invariant-loop-mark
invariant-loop-mark l =
    with_names l.locals (filter (is_in_neither l.globals l.nonlocals) (flat_map bound_in (drop l.mark-index l.marks)))
    ≡ with_names l.initial.locals (filter (is_in_neither l.globals l.nonlocals) (flat_map bound_in l.marks))
