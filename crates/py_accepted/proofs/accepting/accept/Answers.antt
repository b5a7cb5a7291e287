use Rattle.py_accepted.proofs.AcceptedLaws.{told}
use Rattle.py_accepted.proofs.accepting.accept.Goals as goal

pub returns-in-Err-clause-exact : goal.returns-in-Err-clause-exact
returns-in-Err-clause-exact c = told c.args.text.now c.in-Err.fault c.in-Err.ensures.exact
