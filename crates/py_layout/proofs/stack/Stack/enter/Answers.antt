use Rattle.std.proofs.Common.{ap, length, nat_le, arith}
use Rattle.py_layout.proofs.Laying.{filter_few}
use Rattle.py_layout.proofs.stack.Stack.enter.Goals as goal

pub returns-then-holds-clause-few : goal.returns-then-holds-clause-few
returns-then-holds-clause-few c = omega (arith, ap length c.pop_above.ensures, filter_few (λ v. nat_le v c.args.width) c.args.self.now)
