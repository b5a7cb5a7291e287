use Rattle.std.proofs.Common.{◌≡◌, ◌≤◌, drop}
use Rattle.py_signs.specs.Limits.{is_crowded}
use Rattle.py_signs.proofs.limits.is_crowded.Given as goal

abbrev pub invariant-loop-t : goal.invariant-loop-t
invariant-loop-t l = record {
  few : l.nested ≤ 200;
  crowded : is_crowded l.text l.nested (drop l.t-index l.tokens) ≡ is_crowded l.text 0 l.tokens;
}
