use Rattle.std.proofs.Common.{ap, ◌∙◌}
use Rattle.py_grammar.specs.Kept.{some_deep}
use Rattle.py_line.specs.Views.{shape_of}
use Rattle.py_line.proofs.SeveralForms.{some_before}
use Rattle.py_line.proofs.made.push_deep.Goals as goal

pub returns : goal.returns
returns c =
    ap some_deep c.are_targets_with.ensures
    ∙ some_before c.args.es.now (shape_of c.args.s) c.is_empty.result c.is_empty.ensures c.if-is_empty.false
