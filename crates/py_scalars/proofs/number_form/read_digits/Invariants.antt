use Rattle.std.proofs.Common.{◌≡◌, ◌<◌, ◌^◌, drop}
use Rattle.py_scalars.specs.NumberForm.{digits_within}
use Rattle.py_scalars.proofs.NumberLemmas.{rest_within}
use Rattle.py_scalars.proofs.number_form.read_digits.Given as goal

abbrev pub invariant-loop-c : goal.invariant-loop-c
invariant-loop-c l = (l.number < 2 ^ 127) × (rest_within l.base l.gap l.number (drop l.c-index l.text) ≡ digits_within l.base l.text)
