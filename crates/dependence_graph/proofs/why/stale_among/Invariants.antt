use Rattle.std.proofs.Common.{◌≡◌, ◌&&◌, take}
use Rattle.std.specs.Prelude.{filter, nat_lt}
use Rattle.trace_events.specs.History.{run_of}
use Rattle.dependence_graph.specs.Marks.{is_marked}
use Rattle.dependence_graph.proofs.why.stale_among.Given as goal

abbrev pub invariant-loop-version : goal.invariant-loop-version
invariant-loop-version l = l.kept.items ≡ filter (λ u. nat_lt (run_of u) l.run.0 && is_marked l.stale u) (take l.version-index l.found)
