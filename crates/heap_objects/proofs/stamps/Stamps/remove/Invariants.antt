use Rattle.std.proofs.Common.{◌≡◌, false, take}
use Rattle.heap_objects.specs.Stamps.{has_stamp}
use Rattle.heap_objects.proofs.stamps.Stamps.remove.Given as goal

abbrev pub invariant-loop-i : goal.invariant-loop-i
invariant-loop-i l = (l.self-inside.list.items ≡ l.fn.self) × (has_stamp (take l.i l.fn.self) l.stamp ≡ false)
