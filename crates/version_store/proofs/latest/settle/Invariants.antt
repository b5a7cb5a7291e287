use Rattle.std.proofs.Common.{◌≡◌, take}
use Rattle.version_store.specs.Table.{settled}
use Rattle.version_store.proofs.latest.settle.Given as goal

abbrev pub invariant-loop-write : goal.invariant-loop-write
invariant-loop-write l = l.latest.items ≡ settled l.locations l.run l.initial.latest.items (take l.write-index l.writes)
