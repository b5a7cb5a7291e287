use Rattle.std.proofs.Common.{◌≡◌, ◌≤◌, ◌<◌, ◌+◌, ◌-◌, ℕ, length}
use Rattle.py_scalars.specs.Plan.{point_of}
use Rattle.py_scalars.proofs.search.matched_to.Given as goal

abbrev pub invariant-loop-i : goal.invariant-loop-i
invariant-loop-i l = (l.start ≤ l.i) × (l.i ≤ length l.part) × ((k : ℕ) → l.start ≤ k → k < l.i → point_of l.part k ≡ point_of l.text (l.at + k))

abbrev pub decreases-loop-i : goal.decreases-loop-i
decreases-loop-i l = length l.part - l.i
