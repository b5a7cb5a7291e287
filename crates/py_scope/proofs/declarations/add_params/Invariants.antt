use Rattle.std.proofs.Common.{◌≡◌, drop, filter}
use Rattle.py_scope.specs.NameLists.{with_names}
use Rattle.py_scope.specs.Scopes.{is_in_neither}
use Rattle.py_scope.proofs.declarations.add_params.Given as goal

abbrev pub invariant-loop-name : goal.invariant-loop-name
invariant-loop-name l =
    with_names l.locals (filter (is_in_neither l.globals l.nonlocals) (drop l.name-index l.params))
    ≡ with_names l.initial.locals (filter (is_in_neither l.globals l.nonlocals) l.params)
