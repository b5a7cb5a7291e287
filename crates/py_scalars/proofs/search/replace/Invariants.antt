use Rattle.std.proofs.Common.{◌≡◌, ◌≤◌, ◌++◌, ◌-◌, length, drop}
use Rattle.py_scalars.specs.Search.{pieces, joined}
use Rattle.py_scalars.proofs.search.replace.Given as goal

abbrev pub invariant-loop-at : goal.invariant-loop-at
invariant-loop-at l = (l.from ≤ length l.text) × (l.out.items ++ joined l.b (pieces l.a (drop l.from l.text)) ≡ joined l.b (pieces l.a l.text))

abbrev pub decreases-loop-at : goal.decreases-loop-at
decreases-loop-at l = length l.text - l.from
