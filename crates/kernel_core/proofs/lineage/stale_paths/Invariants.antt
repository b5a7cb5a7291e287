use Rattle.std.proofs.Common.{◌≡◌, drop, fold, filter, map, length}
use Rattle.std.specs.Prelude.{◌&&◌, Some}
use Rattle.trace_events.specs.Decided.{is_stale}
use Rattle.kernel_core.specs.Lineage.{is_use, path_of, read_paths, version_now, with_path}
use Rattle.kernel_core.proofs.lineage.stale_paths.Given as goal

abbrev pub invariant-loop-read : goal.invariant-loop-read
invariant-loop-read l =
    fold (λ sorted p. with_path p sorted) l.sorted.items (map (λ read. path_of l.names (Some read.location))
    (filter (λ read. is_use read.how && is_stale l.versions (length l.versions) (version_now l.versions read.location)) (drop l.read-index l.summary.reads)))
    ≡ read_paths l.names l.versions l.summary.reads
