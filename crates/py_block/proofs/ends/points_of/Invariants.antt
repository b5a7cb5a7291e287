use Rattle.std.proofs.Common.{◌≡◌, ◌≤◌, ◌++◌, length, drop}
use Rattle.py_block.specs.Parsed.{line_ends_from, with_line_ends}
use Rattle.py_block.proofs.ends.points_of.Given as goal

abbrev pub invariant-loop-c : goal.invariant-loop-c
invariant-loop-c l = record {
  so_far : with_line_ends l.text ≡ l.out.items ++ line_ends_from l.behind (drop l.c-index l.text);
  few : length l.out.items ≤ l.c-index;
}
