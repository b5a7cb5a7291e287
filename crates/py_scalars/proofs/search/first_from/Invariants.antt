use Rattle.std.proofs.Common.{◌≡◌, ◌≤◌, ◌<◌, ◌+◌, ◌-◌, ℕ, length}
use Rattle.memchr.specs.Find.{Nowhere}
use Rattle.py_scalars.specs.Plan.{point_of}
use Rattle.py_scalars.proofs.PlanLemmas.{Stands}
use Rattle.py_scalars.proofs.search.first_from.Given as goal

abbrev pub invariant-loop-at : goal.invariant-loop-at
invariant-loop-at l = record {
  behind : l.from ≤ l.at;
  within : l.at ≤ length l.text + 1;
  before : Nowhere (Stands l.part l.text) l.from l.at;
  inside : l.known ≤ length l.part;
  front : (k : ℕ) → k < l.known → point_of l.part k ≡ point_of l.text (l.at + k);
}

abbrev pub decreases-loop-at : goal.decreases-loop-at
decreases-loop-at l = length l.text + 1 - l.at
