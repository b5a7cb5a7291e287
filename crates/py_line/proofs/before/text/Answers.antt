use Rattle.std.proofs.Common.{arith}
use Rattle.py_line.proofs.Beginning.{literals_within}
use Rattle.py_line.proofs.before.text.Goals as goal

pub returns-clause-less : goal.returns-clause-less
returns-clause-less c =
    let within = literals_within c.args.first.now c.in_ok-text.text c.args.tokens.now c.in_ok-text.rest.now c.in_ok-text.ensures in
    omega arith
