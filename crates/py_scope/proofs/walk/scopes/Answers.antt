use Rattle.py_scope.proofs.WholeCell.{finished}
use Rattle.py_scope.proofs.walk.scopes.Goals as goal

pub returns : goal.returns
returns c = finished c.args.c.now c.in_ok-b.b c.finish.result c.in_ok-b.ensures c.finish.ensures
