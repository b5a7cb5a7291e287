use Rattle.std.proofs.Common.{◌≡◌, List, ap, ◌∙◌}
use Rattle.std.proofs.lemmas.Result.{IfOk-weaker}
use Rattle.py_ast.specs.View.{views}
use Rattle.py_ast.specs.declared.expr.Expr.{Expr}
use Rattle.py_grammar.specs.Kept.{targets_of}
use Rattle.py_line.proofs.TargetForms.{next_target, all_targets}
use Rattle.py_line.proofs.targets.+made.Goals as goal

pub targets_of-loop-e-preserved : goal.targets_of-loop-e-preserved
targets_of-loop-e-preserved t c =
    next_target c.args.all.now c.loop-e.targets.items c.push.new.self.items c.loop-e.e-index c.e-item.result c.in_ok-target.target (targets_of (views c.args.all.now))
    c.loop-e-test.true c.e-item.is c.in_ok-target.ensures c.in_ok-push.ensures.items c.loop-e.invariant

pub targets_of-returns : goal.targets_of-returns
targets_of-returns t c =
    IfOk-weaker c.from_vec.result _ (λ (ts : List Expr). views ts ≡ targets_of (views c.args.all.now))
    (λ ts is. ap views is ∙ all_targets c.args.all.now c.loop-e.targets.items c.loop-e.e-index (targets_of (views c.args.all.now)) c.loop-e-test.false c.loop-e.invariant)
    c.from_vec.ensures
