use Rattle.std.proofs.Common.{◌≡◌, ◌≤◌, ◌-◌, length}
use Rattle.kernel_core.specs.Lineage.{with_path}
use Rattle.kernel_core.proofs.LineageLaws.{path_from}
use Rattle.kernel_core.proofs.lineage.place_of.Given as goal

abbrev pub invariant-loop-at : goal.invariant-loop-at
invariant-loop-at l = record {
  within : l.at ≤ length l.sorted;
  left : path_from l.path l.sorted l.at ≡ with_path l.path l.sorted;
}

abbrev pub decreases-loop-at : goal.decreases-loop-at
decreases-loop-at l = length l.sorted - l.at
