use Rattle.std.proofs.Common.{◌≡◌, ◌^◌, ◌-◌, max, min, map, drop}
use Rattle.heap_objects.specs.Nesting.{kept_nesting, largest}
use Rattle.heap_objects.proofs.value.deepest.Given as goal

abbrev pub invariant-loop-v : goal.invariant-loop-v
invariant-loop-v l = max l.most (min (largest (map kept_nesting (drop l.v-index l.values))) (2 ^ 64 - 1)) ≡ min (largest (map kept_nesting l.values)) (2 ^ 64 - 1)
