use Rattle.std.proofs.Common.{◌+◌, ◌*◌, ◌≤◌, subst, arith}
use Rattle.std.specs.Char.{digit_value}
use Rattle.py_scalars.proofs.TextLemmas.{hex-large}
use Rattle.py_scalars.proofs.text_form.hex_scalar.Goals as goal

pub returns-then-code-gt1114111 : goal.returns-then-code-gt1114111
returns-then-code-gt1114111 c =
    let large : 0x110000 ≤ c.loop-c.code * 16 + digit_value c.c-item.result = subst (λ d. 0x110000 ≤ c.loop-c.code * 16 + d) c.in_ok-code.ensures.value.1 (omega arith) in
    hex-large c.loop-c.code c.loop-c.c-index c.c-item.result c.args.text.now _ c.loop-c-test.true c.c-item.is large c.loop-c.invariant.1
