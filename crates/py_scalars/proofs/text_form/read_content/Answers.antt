use Rattle.std.proofs.Common.{◌≡◌, ◌+◌, length, drop, false, ap, sym, ◌∙◌, arith}
use Rattle.std.proofs.lemmas.List.{take_rest, length-drop}
use Rattle.py_scalars.specs.Search.{begins_with}
use Rattle.py_scalars.specs.TextForm.{escape_at}
use Rattle.py_scalars.proofs.TextLemmas.{content_plain, content_escape}
use Rattle.py_scalars.proofs.text_form.read_content.Goals as goal

pub loop-at-preserved-then-c-ne92 : goal.loop-at-preserved-then-c-ne92
loop-at-preserved-then-c-ne92 c =
    let quotes = c.args.quotes.now in
    let text = c.args.text.now in
    let at = c.loop-at.at in
    let goes_on : begins_with c.args.quotes.now (drop c.loop-at.at c.args.text.now) ≡ false = ap (begins_with quotes) (sym (take_rest text at)) ∙ sym c.begins.ensures ∙ c.if-begins.false in (
      omega arith,
      content_plain quotes text at c.index-text-at.result c.loop-at.out.items _ _ c.loop-at-test.true c.index-text-at.is goes_on (sym c.ends_line.ensures ∙ c.if-ends_line.false) c.if-c-ne92.true c.in_ok-push.ensures.items c.loop-at.invariant.1,
    )

pub loop-at-preserved : goal.loop-at-preserved
loop-at-preserved c =
    let quotes = c.args.quotes.now in
    let text = c.args.text.now in
    let at = c.loop-at.at in
    let goes_on : begins_with c.args.quotes.now (drop c.loop-at.at c.args.text.now) ≡ false = ap (begins_with quotes) (sym (take_rest text at)) ∙ sym c.begins.ensures ∙ c.if-begins.false in
    let w = c.in_ok-at.ensures.value in (
      omega (arith, ap length (take_rest text (at + 1)), length-drop (at + 1) text, c.in_ok-at.ensures.within),
      content_escape quotes text at c.index-text-at.result c.in_ok-at.field-0 w.0 c.loop-at.out.items _ _ c.loop-at-test.true c.index-text-at.is goes_on (sym c.ends_line.ensures ∙ c.if-ends_line.false) c.if-c-ne92.false (ap escape_at (sym (take_rest text (at + 1))) ∙ w.1) w.2 c.loop-at.invariant.1,
    )
