use Rattle.std.proofs.Common.{arith, sym}
use Rattle.py_line.specs.States.{all_waiting}
use Rattle.py_line.specs.declared.frame.Frame.TheVariants as f
use Rattle.py_line.proofs.Going.{compare_less, one_longer}
use Rattle.py_line.proofs.after.comparisons.Goals as goal

pub returns-in_ok-with-in-Some-clause-less : goal.returns-in_ok-with-in-Some-clause-less
returns-in_ok-with-in-Some-clause-less c =
    let less = compare_less c.in-Some.o c.args.rest.now c.in-Some.rest.now (sym c.in-Some.ensures) in
    let more = one_longer (all_waiting c.args.waiting) (all_waiting c.in_ok-with-in-Some.field-0) (f.Chain c.in_ok-chain-in-Some.chain c.in-Some.o) c.in_ok-with-in-Some.ensures.waiting in
    omega arith
