use Rattle.std.proofs.Common.{rules}
use Rattle.std.specs.FinMap.{gets}
use Rattle.py_scope_tests.proofs.tests.cells_of_runs.Goals as goal

pub add-requires : goal.add-requires
add-requires g c = grind (gets, rules)
