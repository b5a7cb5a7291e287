use Rattle.py_ast.specs.Statement.{view_cell}
use Rattle.py_block.proofs.CellLaws.{spelled_parsed}
use Rattle.py_block.proofs.NodeLaws.{as_many, begins, one_place}
use Rattle.py_block.proofs.laws.line_law.Goals as goal

pub returns-clause-as_many : goal.returns-clause-as_many
returns-clause-as_many c = λ text cell s. as_many text cell s (spelled_parsed text (view_cell cell) s)

pub returns-clause-begins : goal.returns-clause-begins
returns-clause-begins c = begins

pub returns-clause-one_line : goal.returns-clause-one_line
returns-clause-one_line c = λ text cut. one_place text cut.tokens cut.lines
