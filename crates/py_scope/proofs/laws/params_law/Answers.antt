use Rattle.py_scope.proofs.ParamLaws.{params_first}
use Rattle.py_scope.proofs.laws.params_law.Goals as goal

pub returns : goal.returns
returns c = params_first
