use Rattle.std.proofs.Common.{◌≡◌, ◌++◌, take}
use Rattle.version_store.specs.Dependents.{holders}
use Rattle.version_store.proofs.followers.hold.Given as goal

abbrev pub invariant-loop-i : goal.invariant-loop-i
invariant-loop-i l = l.held.items ≡ l.fn.held.items ++ holders l.runs l.s l.reached l.write (take l.i l.s.writes)
