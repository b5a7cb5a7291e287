use Rattle.std.proofs.Common.{◌+◌, ◌*◌, ◌^◌, ◌≤◌, subst, arith}
use Rattle.std.specs.Char.{digit_value}
use Rattle.py_scalars.proofs.NumberLemmas.{digits-large}
use Rattle.py_scalars.proofs.number_form.read_digits.Goals as goal

pub returns-in_default-appended : goal.returns-in_default-appended
returns-in_default-appended c =
    let digit = c.in-Some.ensures.value in
    let large : 2 ^ 127 ≤ c.loop-c.number * c.args.base + digit_value c.c-item.result =
    subst (λ d. 2 ^ 127 ≤ c.loop-c.number * c.args.base + d) digit.1 (omega (arith, c.in_default-appended.ensures)) in
    digits-large c.args.base c.loop-c.number c.loop-c.c-index c.c-item.result c.loop-c.gap c.args.text.now _ (omega arith) c.loop-c-test.true c.c-item.is c.if-c-eq95.false digit.0 large c.loop-c.invariant.1
