use Rattle.std.proofs.Common.{◌≡◌, drop}
use Rattle.heap_objects.specs.DictRows.{row_among}
use Rattle.heap_objects.specs.Rows.{rows}
use Rattle.heap_objects.proofs.dict.find_row.Given as goal

abbrev pub invariant-loop-stamp : goal.invariant-loop-stamp
invariant-loop-stamp l = row_among (rows l.tree) l.key l.stamps ≡ row_among (rows l.tree) l.key (drop l.stamp-index l.stamps)
