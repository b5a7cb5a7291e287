use Rattle.py_grammar.proofs.Lines.{one_line, line_found, line_deep, line_none}
use Rattle.py_grammar.proofs.laws.line_law.Goals as goal

pub returns-clause-one_line : goal.returns-clause-one_line
returns-clause-one_line c = one_line

pub returns-clause-found : goal.returns-clause-found
returns-clause-found c = line_found

pub returns-clause-deep : goal.returns-clause-deep
returns-clause-deep c = line_deep

pub returns-clause-none : goal.returns-clause-none
returns-clause-none c = line_none
