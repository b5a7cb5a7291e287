use Rattle.py_scalars.proofs.PlanLemmas.{Precedes-above, Precedes-below}
use Rattle.py_scalars.proofs.search.precedes.Goals as goal

pub returns-then-reversed : goal.returns-then-reversed
returns-then-reversed c = Precedes-above c.args.reversed c.args.a c.args.b c.if-reversed.true

pub returns-else-reversed : goal.returns-else-reversed
returns-else-reversed c = Precedes-below c.args.reversed c.args.a c.args.b c.if-reversed.false
