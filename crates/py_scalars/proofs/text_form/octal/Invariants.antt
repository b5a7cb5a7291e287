use Rattle.std.proofs.Common.{◌≡◌, ◌≤◌, ◌<◌, ◌+◌, ◌^◌, take, drop}
use Rattle.std.specs.List.{prefix_len}
use Rattle.std.specs.Str.Parse.{digits_value}
use Rattle.py_scalars.specs.NumberForm.{is_digit}
use Rattle.py_scalars.proofs.text_form.octal.Given as goal

abbrev pub invariant-loop-i : goal.invariant-loop-i
invariant-loop-i l =
    (l.i ≤ 3) × (l.code < 8 ^ l.i) × (l.code ≡ digits_value 8 (take l.i l.text))
    × (l.i + prefix_len (is_digit 8) (drop l.i (take 3 l.text)) ≡ prefix_len (is_digit 8) (take 3 l.text))
