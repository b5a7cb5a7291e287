use Rattle.std.proofs.Common.{◌≡◌, [], length}
use Rattle.heap_objects.specs.Entries.{with_all}
use Rattle.heap_objects.proofs.making.dict_of.Given as goal

abbrev pub invariant-loop-left : goal.invariant-loop-left
invariant-loop-left l = with_all [] l.fn.keys l.fn.values ≡ with_all l.dict l.left l.given

abbrev pub decreases-loop-left : goal.decreases-loop-left
decreases-loop-left l = length l.left
