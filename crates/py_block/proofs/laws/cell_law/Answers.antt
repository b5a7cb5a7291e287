use Rattle.py_block.proofs.LawfulCells.{cell_lawful}
use Rattle.py_block.proofs.CellLaws.{is_parsed, parsed_is, spelled_parsed, one_cell}
use Rattle.py_block.proofs.laws.cell_law.Goals as goal

pub returns-clause-sound : goal.returns-clause-sound
returns-clause-sound c = is_parsed

pub returns-clause-exact : goal.returns-clause-exact
returns-clause-exact c = parsed_is

pub returns-clause-complete : goal.returns-clause-complete
returns-clause-complete c = spelled_parsed

pub returns-clause-one_cell : goal.returns-clause-one_cell
returns-clause-one_cell c = one_cell

pub returns-clause-lawful : goal.returns-clause-lawful
returns-clause-lawful c = cell_lawful
