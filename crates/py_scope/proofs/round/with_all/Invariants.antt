use Rattle.std.proofs.Common.{◌≡◌, ◌∷◌, take}
use Rattle.py_scope.proofs.round.with_all.Given as goal

abbrev pub invariant-loop-scope : goal.invariant-loop-scope
invariant-loop-scope l = l.all.items ≡ l.fn.first ∷ take l.scope-index l.rest
