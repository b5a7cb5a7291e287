use Rattle.std.proofs.Common.{◌≡◌, ◌++◌, ℕ, ℤ, List, ap, ◌∙◌, rules}
use Rattle.std.specs.Fmt.{signed_decimal}
use Rattle.py_scalars.proofs.ExactNumbers.{as_itself}
use Rattle.py_print.specs.Writing.{with_piece}
use Rattle.py_print.proofs.writer.Writer.number.Goals as goal

pub returns : goal.returns
unfolding with_piece
returns c =
    let e : c.self.inside.points.items ≡ c.args.self.now = search rules in
    c.in_ok-extend_from_slice.ensures.items ∙ ap (λ (z : List ℕ). z ++ c.as_slice.result.now) e
    ∙ ap (λ (z : List ℕ). c.args.self.now ++ z)
    (c.as_slice.ensures ∙ (c.in_ok-text.ensures ∙ ap (λ (z : ℤ). signed_decimal z) (as_itself c.args.n c.ranges.n)))
