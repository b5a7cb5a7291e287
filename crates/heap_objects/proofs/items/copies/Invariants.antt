use Rattle.std.proofs.Common.{◌≡◌, take}
use Rattle.heap_objects.proofs.items.copies.Given as goal

abbrev pub invariant-loop-v : goal.invariant-loop-v
invariant-loop-v l = l.list.items ≡ take l.v-index l.values
