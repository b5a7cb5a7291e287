use Rattle.std.proofs.Common.{◌∙◌}
use Rattle.py_line.proofs.TargetForms.{some_row}
use Rattle.py_line.proofs.targets.+targets.Goals as goal

pub is_row-returns : goal.is_row-returns
is_row-returns t c = c.are_targets.ensures ∙ some_row c.args.all.now c.is_empty.result c.is_empty.ensures c.if-is_empty.false
