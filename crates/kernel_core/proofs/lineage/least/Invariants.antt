use Rattle.std.proofs.Common.{◌≡◌, ℕ, List, length}
use Rattle.std.specs.Prelude.{option_map}
use Rattle.trace_events.specs.Why.{least}
use Rattle.kernel_core.specs.Marking.{all_written, written}
use Rattle.kernel_core.proofs.LineageLaws.{least_onto}
use Rattle.kernel_core.proofs.lineage.least.Given as goal

abbrev pub invariant-loop-version : goal.invariant-loop-version
invariant-loop-version l = (names : List (List ℕ)) → least_onto names (all_written l.stale.items) (option_map written l.best) ≡ least names (all_written l.fn.stale.items)

abbrev pub decreases-loop-version : goal.decreases-loop-version
decreases-loop-version l = length l.stale.items
