use Rattle.std.proofs.Common.{◌≡◌, ◌++◌, drop}
use Rattle.kernel_core.specs.Marking.{all_written, stale_among, versions_of}
use Rattle.kernel_core.proofs.lineage.stale_versions.Given as goal

abbrev pub invariant-loop-name : goal.invariant-loop-name
invariant-loop-name l =
    all_written l.stale.items ++ stale_among l.versions (versions_of l.names l.versions (drop l.name-index l.live)) ≡ stale_among l.versions (versions_of l.names l.versions l.live)
