use Rattle.std.proofs.Common.{◌≡◌, ◌++◌, drop}
use Rattle.py_signs.specs.Signs.{signs_of}
use Rattle.py_signs.specs.Limits.{has_wide}
use Rattle.py_signs.proofs.signs.read_signs.Given as goal

abbrev pub invariant-loop-t : goal.invariant-loop-t
invariant-loop-t l = record {
  signs : l.signs.items ++ signs_of l.text (drop l.t-index l.tokens) ≡ signs_of l.text l.tokens;
  narrow : has_wide l.text (drop l.t-index l.tokens) ≡ has_wide l.text l.tokens;
}
