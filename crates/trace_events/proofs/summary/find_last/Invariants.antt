use Rattle.std.proofs.Common.{◌≡◌, take}
use Rattle.trace_events.specs.Trace.{last_write}
use Rattle.trace_events.proofs.summary.find_last.Given as goal

abbrev pub invariant-loop-write : goal.invariant-loop-write
invariant-loop-write l = l.found ≡ last_write l.location (take l.write-index l.writes)
