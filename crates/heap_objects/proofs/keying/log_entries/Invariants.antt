use Rattle.std.proofs.Common.{◌≡◌, ◌++◌, drop}
use Rattle.heap_objects.specs.Calls.{entry_writes}
use Rattle.heap_objects.proofs.keying.log_entries.Given as goal

abbrev pub invariant-loop-i : goal.invariant-loop-i
invariant-loop-i l = l.fn.events.items ++ entry_writes l.d l.dict ≡ l.events.items ++ entry_writes l.d (drop l.i l.dict)
