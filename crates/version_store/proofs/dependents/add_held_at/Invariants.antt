use Rattle.std.proofs.Common.{take}
use Rattle.std.specs.List.{Contains}
use Rattle.version_store.specs.Dependents.{held_among, AddsAll}
use Rattle.version_store.proofs.dependents.add_held_at.Given as goal

abbrev pub invariant-loop-pair : goal.invariant-loop-pair
invariant-loop-pair l = AddsAll l.fn.reached l.reached (λ v. Contains (held_among l.run l.place (take l.pair-index l.pairs)) v)
