use Rattle.py_ast.proofs.NodeLists.{number_at}
use Rattle.py_ast.proofs.laws.numbers_law.Goals as goal

pub returns-clause-lawful : goal.returns-clause-lawful
returns-clause-lawful c = λ cell lawful. lawful.numbered

pub returns-clause-place : goal.returns-clause-place
returns-clause-place c = number_at
