use Rattle.std.proofs.Common.{◌≡◌, ◌∷◌, take}
use Rattle.std.specs.List.{flat_map}
use Rattle.py_scalars.specs.TextForm.{shown}
use Rattle.py_scalars.proofs.text_form.repr_text.Given as goal

abbrev pub invariant-loop-c : goal.invariant-loop-c
invariant-loop-c l = l.out.items ≡ l.quote ∷ flat_map (shown l.quote) (take l.c-index l.c-items)
