use Rattle.std.proofs.Common.{sym, ap, ◌∙◌}
use Rattle.py_grammar.specs.declared.sign.Sign.TheVariants.{Name}
use Rattle.py_signs.proofs.SignLaws.{keyword_sign, ascii_sign}
use Rattle.py_signs.proofs.signs.named_sign.Goals as goal

pub returns-then-is_keyword : goal.returns-then-is_keyword
returns-then-is_keyword c =
    keyword_sign _ (rw c.as_slice.ensures at (c.is_ascii.ensures.0 c.if-not-is_ascii.false))
    (sym (rw c.as_slice.ensures at c.is_keyword.ensures) ∙ c.if-is_keyword.true)

pub returns : goal.returns
returns c =
    ap Name c.in_ok-part.ensures
    ∙ ascii_sign _ (rw c.as_slice.ensures at (c.is_ascii.ensures.0 c.if-not-is_ascii.false))
    (sym (rw c.as_slice.ensures at c.is_keyword.ensures) ∙ c.if-is_keyword.false)
