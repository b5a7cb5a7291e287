use Rattle.std.proofs.Common.{◌≡◌, drop, true, ap, sym, ◌∙◌, arith}
use Rattle.std.proofs.lemmas.List.{take_rest}
use Rattle.py_lexer.specs.Scan.{has_digit}
use Rattle.py_lexer.proofs.Numbers.{spaced_step}
use Rattle.py_lexer.proofs.number.spaced_len.Goals as goal

pub loop-at-preserved : goal.loop-at-preserved
loop-at-preserved c =
    let base = c.args.base in
    let text = c.args.text.now in
    let at = c.loop-at.at in
    let goes_on : has_digit c.args.base (drop c.loop-at.at c.args.text.now) ≡ true = ap (has_digit base) (sym (take_rest text at)) ∙ sym c.has_digit.ensures ∙ c.if-not-has_digit.false in
    let step = spaced_step base text at c.loop-at-test.true goes_on in
    let kept = c.loop-at.invariant.1 in
    (omega arith, omega arith)
