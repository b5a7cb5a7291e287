use Rattle.py_print.proofs.ExpressionLaws.{expr_at_spelled}
use Rattle.py_print.proofs.laws.expression_law.Goals as goal

pub returns : goal.returns
returns c = record { spelled = expr_at_spelled }
