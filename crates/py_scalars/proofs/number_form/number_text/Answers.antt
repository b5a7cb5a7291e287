use Rattle.std.proofs.Common.{◌≡◌, IfOk, List, ℕ, ap, subst, ◌∙◌}
use Rattle.std.specs.Fmt.{signed_decimal}
use Rattle.std.specs.Str.{chars}
use Rattle.py_scalars.proofs.ExactNumbers.{as_itself}
use Rattle.py_scalars.proofs.WideText.{chars-signed_wide}
use Rattle.py_scalars.proofs.number_form.number_text.Goals as goal

pub returns : goal.returns
returns c =
    subst (λ (x : List ℕ). IfOk c.from_str.result (λ t. t ≡ x)) (ap chars (c.as_str.ensures.value ∙ c.in_ok-text.ensures.ok) ∙ ap (λ z. chars (signed_decimal z)) (as_itself c.args.n c.ranges.n) ∙ chars-signed_wide c.args.n c.ranges.n.sfits) c.from_str.ensures
