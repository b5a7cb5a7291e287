use Rattle.std.proofs.Common.{sym, ap, ◌∙◌}
use Rattle.py_scalars.specs.NumberForm.{number_within}
use Rattle.py_signs.proofs.SignLaws.{wide_number}
use Rattle.py_signs.proofs.signs.number_sign.Goals as goal

pub returns : goal.returns
returns c = wide_number _ c.requires.number (sym (ap number_within c.in_ok-digits.ensures) ∙ sym c.read_number.ensures ∙ c.in-None.is)
