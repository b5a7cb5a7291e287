use Rattle.std.proofs.Common.{◌≡◌, ◌++◌, ◌-◌}
use Rattle.heap_objects.specs.Calls.{item_writes}
use Rattle.heap_objects.proofs.listing.log_items.Given as goal

abbrev pub invariant-loop-i : goal.invariant-loop-i
invariant-loop-i l = l.fn.events.items ++ item_writes l.o l.from (l.to - l.from) ≡ l.events.items ++ item_writes l.o l.i (l.to - l.i)
