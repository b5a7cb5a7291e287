use Rattle.std.proofs.Common.{◌≡◌, take}
use Rattle.std.specs.List.{flat_map}
use Rattle.trace_events.proofs.reader.all_uses.Given as goal

abbrev pub invariant-loop-gathering : goal.invariant-loop-gathering
invariant-loop-gathering l = l.uses.items ≡ flat_map (λ g. g) (take l.gathering-index l.stack)
