use Rattle.std.proofs.Common.{◌≡◌, ◌<◌, drop}
use Rattle.py_scalars.specs.TextForm.{scalar_behind}
use Rattle.py_scalars.proofs.text_form.hex_scalar.Given as goal

abbrev pub invariant-loop-c : goal.invariant-loop-c
invariant-loop-c l = (l.code < 0x110000) × (scalar_behind l.code (drop l.c-index l.text) ≡ scalar_behind 0 l.text)
