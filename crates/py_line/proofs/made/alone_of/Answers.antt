use Rattle.std.proofs.Common.{◌≡◌, ◌≢◌, length, arith, ◌∙◌}
use Rattle.std.proofs.lemmas.Result.{IfOk-weaker}
use Rattle.py_ast.specs.View.{views}
use Rattle.py_grammar.specs.Kept.{all, alone}
use Rattle.py_line.specs.Views.{kept_of}
use Rattle.py_line.specs.declared.kept.Kept.{Kept}
use Rattle.py_line.proofs.SeveralForms.{not_alone}
use Rattle.py_line.proofs.made.alone_of.Goals as goal

pub returns : goal.returns
returns c =
    let several : length c.args.es.items ≢ 1 = omega arith in
    IfOk-weaker c.tuple.result _ (λ (x : Kept). kept_of x ≡ alone 60 (all (views c.args.es.items) c.args.d))
    (λ x is. is ∙ not_alone c.args.es.items c.args.d several)
    c.tuple.ensures
