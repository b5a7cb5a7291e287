use Rattle.std.proofs.Common.{◌≡◌, take}
use Rattle.std.specs.Prelude.{filter, is_some}
use Rattle.trace_events.specs.Why.{first_overwrite}
use Rattle.dependence_graph.proofs.why.overwritten_among.Given as goal

abbrev pub invariant-loop-version : goal.invariant-loop-version
invariant-loop-version l = l.kept.items ≡ filter (λ u. is_some (first_overwrite l.versions l.after.0 l.last.0 u)) (take l.version-index l.found)
