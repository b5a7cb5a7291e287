use Rattle.std.proofs.Common.{◌≡◌, take}
use Rattle.version_store.specs.Kept.{resolved}
use Rattle.version_store.proofs.store.Versions.resolve.Given as goal

abbrev pub invariant-loop-write : goal.invariant-loop-write
invariant-loop-write l = l.found ≡ resolved l.self l.run.0 (take l.write-index l.writes)
