use Rattle.std.proofs.Common.{◌≡◌, take}
use Rattle.trace_events.specs.Trace.{reading_of}
use Rattle.trace_events.proofs.reader.summarize.Given as goal

abbrev pub invariant-loop-event : goal.invariant-loop-event
invariant-loop-event l = l.reader ≡ reading_of (take l.event-index l.events)
