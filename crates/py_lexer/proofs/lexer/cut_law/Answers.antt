use Rattle.py_lexer.proofs.Cutting.{one_list, one_line, not_both}
use Rattle.py_lexer.proofs.lexer.cut_law.Goals as goal

pub returns-clause-one : goal.returns-clause-one
returns-clause-one c = one_list

pub returns-clause-stops : goal.returns-clause-stops
returns-clause-stops c = one_line

pub returns-clause-not_both : goal.returns-clause-not_both
returns-clause-not_both c = not_both
