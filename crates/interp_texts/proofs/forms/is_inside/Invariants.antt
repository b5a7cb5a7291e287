use Rattle.std.proofs.Common.{◌≡◌, drop}
use Rattle.interp_texts.specs.Shown.{is_inside}
use Rattle.interp_texts.proofs.forms.is_inside.Given as goal

abbrev pub invariant-loop-p : goal.invariant-loop-p
invariant-loop-p l = is_inside (drop l.p-index l.inside) l.o ≡ is_inside l.inside l.o
