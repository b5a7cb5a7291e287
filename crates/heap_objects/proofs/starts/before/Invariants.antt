use Rattle.std.proofs.Common.{ℕ, ◌<◌, ◌≤◌, ◌-◌, get_or, length}
use Rattle.flow_base.specs.declared.numbers.RunNo.{RunNo}
use Rattle.heap_objects.proofs.starts.before.Given as goal

abbrev pub invariant-loop-low : goal.invariant-loop-low
invariant-loop-low l = record {
  order : l.low ≤ l.high;
  within : l.high ≤ length l.starts;
  below : (i : ℕ) (d : RunNo × ℕ) → i < l.low → (get_or l.starts i d).1 ≤ l.object;
  above : (i : ℕ) (d : RunNo × ℕ) → l.high ≤ i → i < length l.starts → l.object < (get_or l.starts i d).1;
}

abbrev pub decreases-loop-low : goal.decreases-loop-low
decreases-loop-low l = l.high - l.low
