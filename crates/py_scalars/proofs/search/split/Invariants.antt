use Rattle.std.proofs.Common.{◌≡◌, ◌≤◌, ◌++◌, ◌-◌, length, drop}
use Rattle.py_scalars.specs.Search.{pieces}
use Rattle.py_scalars.proofs.search.split.Given as goal

abbrev pub invariant-loop-at : goal.invariant-loop-at
invariant-loop-at l = (l.from ≤ length l.t) × (l.texts.items ++ pieces l.part (drop l.from l.t) ≡ pieces l.part l.t)

abbrev pub decreases-loop-at : goal.decreases-loop-at
decreases-loop-at l = length l.t - l.from
