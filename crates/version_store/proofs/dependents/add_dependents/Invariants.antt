use Rattle.std.proofs.Common.{take}
use Rattle.std.specs.List.{Contains}
use Rattle.trace_events.specs.History.{deps}
use Rattle.version_store.specs.Dependents.{AddsAll, IsListed}
use Rattle.version_store.proofs.dependents.add_dependents.Given as goal

abbrev pub invariant-loop-at : goal.invariant-loop-at
invariant-loop-at l = AddsAll l.fn.reached l.reached (λ v. IsListed (take l.at-index l.at-items) v × Contains (deps l.runs v) l.on)
