use Rattle.std.proofs.Common.{◌≡◌, ◌++◌, take}
use Rattle.trace_events.proofs.reader.push_copies.Given as goal

abbrev pub invariant-loop-seen : goal.invariant-loop-seen
invariant-loop-seen l = l.uses.items ≡ l.initial.uses.items ++ take l.seen-index l.more
