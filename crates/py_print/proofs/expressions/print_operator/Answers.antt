use Rattle.std.proofs.Common.{◌≡◌, ◌-◌, ◌<◌, suc, ℕ, List, OnOk, length, sym, ap, ◌∙◌, subst, arith}
use Rattle.py_ast.specs.declared.expr.CompareOp.TheVariants.{Less}
use Rattle.py_print.specs.Parts.{before_operand}
use Rattle.py_print.specs.Pieces.{Piece}
use Rattle.py_print.specs.Writing.{with_pieces}
use Rattle.py_print.proofs.PrintParts.{operator_at}
use Rattle.py_print.proofs.expressions.print_operator.Goals as goal

pub returns : goal.returns
returns c =
    let few = c.requires in
    let some = c.if-i-eq0.false in
    let inside : c.args.i - 1 < length c.args.ops.now = omega arith in
    let next : suc (c.args.i - 1) ≡ c.args.i = omega arith in
    let is = sym (operator_at (c.args.i - 1) c.args.ops.now Less inside) ∙ ap (λ (z : ℕ). before_operand z c.args.ops.now) next in
    subst (λ (z : List Piece). OnOk c.comparison.result (c.comparison.new.self ≡ with_pieces c.args.w.now z)) is c.comparison.ensures
