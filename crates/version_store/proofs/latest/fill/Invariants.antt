use Rattle.std.proofs.Common.{◌≡◌, ℕ, ◌-◌, ◌≤◌, length, slice_index_or, vec_len}
use Rattle.std.specs.Prelude.{None}
use Rattle.version_store.proofs.latest.fill.Given as goal

abbrev pub invariant-loop-latest : goal.invariant-loop-latest
invariant-loop-latest l = record {
  same : (i : ℕ) → slice_index_or l.latest.items i None ≡ slice_index_or l.initial.latest.items i None;
  within : length l.latest.items ≤ l.count;
}

abbrev pub decreases-loop-latest : goal.decreases-loop-latest
decreases-loop-latest l = l.count - vec_len l.latest
