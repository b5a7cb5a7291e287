use Rattle.std.proofs.Common.{◌≡◌, ◌-◌, ◌<◌, ◌∷◌, List, ℕ, Some, length, take, drop, ap, sym, ◌∙◌, subst, arith}
use Rattle.std.proofs.lemmas.Slice.{first_rest}
use Rattle.py_scalars.specs.TextForm.{escape_at, letter_escape}
use Rattle.py_scalars.specs.Answers.{IsEscape}
use Rattle.py_scalars.proofs.TextLemmas.{escape-letter}
use Rattle.py_scalars.proofs.text_form.push_escape.Goals as goal

pub returns-clause-value : goal.returns-clause-value
returns-clause-value c =
    let text = c.args.text.now in
    let first = c.c-item.result in
    let rest : List ℕ = take (length c.args.text.now - 1) (drop 1 c.args.text.now) in
    let filled : 0 < length c.args.text.now = omega arith in
    let letter = escape-letter first rest (sym c.is_digit.ensures.value ∙ c.if-is_digit.false) c.if-c-eq120.false c.if-c-eq117.false c.if-c-eq85.false c.if-c-eq78.false in
    let whole : escape_at c.args.text.now ≡ Some (letter_escape c.c-item.result) = ap escape_at (first_rest text first filled) ∙ ap (λ (x : ℕ). escape_at (x ∷ rest)) (sym c.c-item.is) ∙ letter in
    subst (λ e. IsEscape e c.args.out.now.items c.push_letter.new.out.items c.push_letter.result) (sym whole) c.push_letter.ensures.value
