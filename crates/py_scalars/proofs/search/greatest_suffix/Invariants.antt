use Rattle.std.proofs.Common.{◌+◌, ◌-◌, ◌*◌, length}
use Rattle.memchr.proofs.lemmas.SuffixLemmas.{IsScan}
use Rattle.py_scalars.specs.Plan.{Precedes, point_of}
use Rattle.py_scalars.proofs.search.greatest_suffix.Given as goal

abbrev pub invariant-loop-rival : goal.invariant-loop-rival
invariant-loop-rival l = IsScan (Precedes l.reversed) (point_of l.part) (length l.part) l.start l.period l.rival l.same

abbrev pub decreases-loop-rival : goal.decreases-loop-rival
decreases-loop-rival l = 2 * length l.part + 1 - (l.start + l.rival + l.same)
