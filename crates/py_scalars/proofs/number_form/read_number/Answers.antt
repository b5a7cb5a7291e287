use Rattle.std.proofs.Common.{◌-◌, ◌<◌, ◌∷◌, List, ℕ, length, take, drop, ap, sym, ◌∙◌, arith}
use Rattle.std.proofs.lemmas.Slice.{first_rest}
use Rattle.py_scalars.specs.NumberForm.{number_within}
use Rattle.py_scalars.proofs.NumberLemmas.{number-zeros}
use Rattle.py_scalars.proofs.number_form.read_number.Goals as goal

pub returns-then-not-all_zeros : goal.returns-then-not-all_zeros
returns-then-not-all_zeros c =
    let s = c.as_slice-text.result.now in
    let first = c.first-item.result in
    let rest : List ℕ = take (length c.as_slice-text.result.now - 1) (drop 1 c.as_slice-text.result.now) in
    let filled : 0 < length c.as_slice-text.result.now = omega arith in
    sym (number-zeros first rest c.if-first-eq48.true (sym c.base_behind-base.ensures.value ∙ c.if-base-ne0.false) (sym c.if-not-all_zeros.ensures))
    ∙ ap (λ (x : ℕ). number_within (x ∷ rest)) c.first-item.is
    ∙ ap number_within (sym (first_rest s first filled) ∙ c.as_slice-text.ensures)
