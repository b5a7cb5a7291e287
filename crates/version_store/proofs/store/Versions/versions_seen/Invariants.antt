use Rattle.std.proofs.Common.{◌≡◌, map, take}
use Rattle.trace_events.specs.History.{version_seen}
use Rattle.version_store.proofs.store.Versions.versions_seen.Given as goal

abbrev pub invariant-loop-seen : goal.invariant-loop-seen
invariant-loop-seen l = l.versions ≡ map (version_seen l.self l.run.0) (take l.seen-index l.uses)
