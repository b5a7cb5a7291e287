use Rattle.py_ast.specs.Lawful.{top}
use Rattle.py_print.proofs.Rows.{lines_spelled}
use Rattle.py_print.proofs.laws.line_law.Goals as goal

pub returns : goal.returns
returns c = record { spelled = lines_spelled top }
