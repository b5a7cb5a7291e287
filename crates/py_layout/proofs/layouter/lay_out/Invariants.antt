use Rattle.std.proofs.Common.{◌≤◌, ◌+◌, ◌-◌, length, drop}
use Rattle.py_layout.proofs.Laying.{SoFar, spot}
use Rattle.py_layout.proofs.layouter.lay_out.Given as goal

abbrev pub invariant-loop-index : goal.invariant-loop-index
invariant-loop-index l = record {
  far : l.index ≤ length l.tokens;
  room : l.begin ≤ length l.text;
  few : length l.stack ≤ l.index + 1;
  so_far : SoFar l.text l.tokens (spot l.begin l.index l.stack) (drop l.index l.tokens) l.lines;
}

abbrev pub decreases-loop-index : goal.decreases-loop-index
decreases-loop-index l = length l.tokens - l.index
