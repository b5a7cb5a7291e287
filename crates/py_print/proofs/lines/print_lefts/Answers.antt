use Rattle.std.proofs.Common.{◌+◌, drop}
use Rattle.py_ast.specs.View.{view, views}
use Rattle.py_print.specs.Expressions.{members, printed}
use Rattle.py_print.specs.Lines.{lefts}
use Rattle.py_print.specs.Writing.{with_pieces}
use Rattle.py_print.proofs.PrintParts.{lefts_step, members_at}
use Rattle.py_print.proofs.lines.print_lefts.Goals as goal

pub loop-e-preserved : goal.loop-e-preserved
loop-e-preserved c =
    let x = c.e-item.result in
    let all = c.args.all.now in
    let i = c.loop-e.e-index in
    lefts_step c.loop-e.w c.print_expr.new.w c.between.new.self (printed (view x)) (members (views (drop i all)))
    (members (views (drop (i + 1) all))) (with_pieces c.args.w.now (lefts (members (views all))))
    (members_at i all x c.loop-e-test.true c.e-item.is) c.in_ok-print_expr.ensures c.in_ok-between.ensures c.loop-e.invariant
