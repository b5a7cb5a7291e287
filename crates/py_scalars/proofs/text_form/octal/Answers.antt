use Rattle.std.proofs.Common.{◌+◌, ◌*◌, ◌<◌, ap, sym, ◌∙◌, subst, arith, rules}
use Rattle.std.specs.Char.{digit_value}
use Rattle.py_scalars.proofs.TextLemmas.{octal-stop, octal-more, octal_below, octal_room, octal_next, digits_more}
use Rattle.py_scalars.proofs.text_form.octal.Goals as goal

pub returns-in_default-clause-count : goal.returns-in_default-clause-count
returns-in_default-clause-count c =
    let kept = c.loop-i.invariant in
    octal-stop c.args.text.now c.loop-i.i c.index-text-i.result _ (omega arith) c.loop-i-test.true c.index-text-i.is c.in_default.ensures.value kept.3

pub returns-in_default-clause-small : goal.returns-in_default-clause-small
returns-in_default-clause-small c =
    let kept = c.loop-i.invariant in
    octal_below c.loop-i.i c.loop-i.code kept.0 kept.1

pub overflow_mul-code : goal.overflow_mul-code
overflow_mul-code c =
    let kept = c.loop-i.invariant in
    let room : c.loop-i.code < 64 = octal_room c.loop-i.i c.loop-i.code (omega arith) kept.1 in
    search rules

pub overflow_add-code : goal.overflow_add-code
overflow_add-code c =
    let kept = c.loop-i.invariant in
    let room : c.loop-i.code < 64 = octal_room c.loop-i.i c.loop-i.code (omega arith) kept.1 in
    let digit : c.in-Some.digit < 8 = subst (λ d. d < 8) (sym c.in-Some.ensures.value.1) c.in-Some.ensures.value.0 in
    search rules

pub loop-i-preserved : goal.loop-i-preserved
loop-i-preserved c =
    let kept = c.loop-i.invariant in
    let value = c.in-Some.ensures.value in
    let digit : c.in-Some.digit < 8 = subst (λ d. d < 8) (sym value.1) value.0 in (
      omega arith,
      octal_next c.loop-i.i c.loop-i.code c.in-Some.digit kept.1 digit,
      ap (λ d. c.loop-i.code * 8 + d) value.1 ∙ ap (λ n. n * 8 + digit_value c.index-text-i.result) kept.2 ∙ sym (digits_more 8 c.args.text.now c.loop-i.i c.index-text-i.result c.loop-i-test.true c.index-text-i.is),
      octal-more c.args.text.now c.loop-i.i c.index-text-i.result _ (omega arith) c.loop-i-test.true c.index-text-i.is value.0 kept.3,
    )
