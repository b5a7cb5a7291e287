use Rattle.std.proofs.Common.{◌≤◌, ◌+◌, ◌-◌, length, drop}
use Rattle.py_lexer.proofs.Cutting.{SoFar, place}
use Rattle.py_lexer.proofs.lexer.cut.Given as goal

abbrev pub invariant-loop-at : goal.invariant-loop-at
invariant-loop-at l = record {
  far : l.at ≤ length l.text;
  lines : l.line ≤ l.at + 1;
  brackets : l.nested ≤ l.at;
  so_far : SoFar l.text (place l.at l.line l.nested) (drop l.at l.text) l.tokens;
}

abbrev pub decreases-loop-at : goal.decreases-loop-at
decreases-loop-at l = length l.text - l.at
