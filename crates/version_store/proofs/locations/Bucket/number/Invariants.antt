use Rattle.std.proofs.Common.{◌≡◌, drop}
use Rattle.version_store.specs.Table.{number_in}
use Rattle.version_store.proofs.locations.Bucket.number.Given as goal

abbrev pub invariant-loop-pair : goal.invariant-loop-pair
invariant-loop-pair l = number_in l.location (drop l.pair-index l.pair-items) ≡ number_in l.location l.self
