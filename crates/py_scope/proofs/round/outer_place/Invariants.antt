use Rattle.std.proofs.Common.{◌≡◌, ◌≤◌, ◌+◌, drop}
use Rattle.py_scope.specs.Scopes.{outer_place}
use Rattle.py_scope.proofs.round.outer_place.Given as goal

abbrev pub invariant-loop-scope : goal.invariant-loop-scope
invariant-loop-scope l =
    (outer_place l.hops (drop l.scope-index l.scopes) l.name ≡ outer_place l.from l.scopes l.name) × (l.hops ≤ l.from + l.scope-index)
