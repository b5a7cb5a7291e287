use Rattle.std.proofs.Common.{◌≡◌, ◌-◌, ◌<◌, ◌≤◌, drop, length, slice_index_or}
use Rattle.trace_events.specs.History.{write_at}
use Rattle.trace_events.specs.Trace.{Written}
use Rattle.trace_events.proofs.summary.count_before.Given as goal

abbrev pub invariant-loop-low : goal.invariant-loop-low
invariant-loop-low l = record {
  ordered : l.low ≤ l.high;
  within : l.high ≤ length l.writes;
  rest : write_at (drop l.low l.writes) l.place ≡ write_at l.writes l.place;
  next : (d : Written) → l.high < length l.writes → l.place ≤ (slice_index_or l.writes l.high d).place;
}

abbrev pub decreases-loop-low : goal.decreases-loop-low
decreases-loop-low l = l.high - l.low
