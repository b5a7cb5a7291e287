use Rattle.std.proofs.Common.{◌≡◌, ◌+◌, ◌-◌, ◌∷◌, [], ℕ, List, Option, None, OnOk, drop, length, sym, ap, ◌∙◌, subst}
use Rattle.py_ast.specs.View.{view, views}
use Rattle.py_ast.specs.declared.expr.Expr.{Expr}
use Rattle.py_grammar.specs.Grammar.{Sum}
use Rattle.py_grammar.specs.declared.mark.Mark.{Mark}
use Rattle.py_print.specs.Expressions.{compared, expr_at, members, operands, params_of, printed}
use Rattle.py_print.specs.Parts.{behind_part, default_of}
use Rattle.py_print.specs.Pieces.{Piece, commas, name, pairs, params}
use Rattle.py_print.specs.Writing.{with_pieces}
use Rattle.py_print.proofs.PrintParts.{compared_from, compared_more, compared_none, default_none, default_some, drop_all, listed, listed_commas, listed_pairs, listed_step, members_at, operands_at, params_at, params_from, params_start, to_comma}
use Rattle.py_print.proofs.expressions.+exprs.Goals as goal

pub print_default-returns-in_ok-mark-in-Some : goal.print_default-returns-in_ok-mark-in-Some
print_default-returns-in_ok-mark-in-Some t c =
    let there = c.in-Some.ensures.lookup in
    subst (λ (z : List Piece). OnOk c.print_expr.result (c.print_expr.new.w ≡ with_pieces c.args.w.now z))
    (sym (default_some c.args.plain c.args.i c.args.defaults.now c.in-Some.e.now c.if-i-plain.false there.3.0 there.1))
    (subst (λ (z : List ℕ). OnOk c.print_expr.result (c.print_expr.new.w ≡ with_pieces z (printed (view c.in-Some.e.now)))) c.in_ok-mark-in-Some.ensures c.print_expr.ensures)

pub print_default-returns-in-None : goal.print_default-returns-in-None
print_default-returns-in-None t c =
    ap (λ (z : List Piece). with_pieces c.args.w.now z) (sym (default_none c.args.plain c.args.i c.args.defaults.now c.if-i-plain.false c.in-None.ensures.lookup.3))

pub print_parts-loop-e-init : goal.print_parts-loop-e-init
print_parts-loop-e-init t c = ap (λ (z : List Piece). with_pieces c.args.w.now z) (listed_commas (members (views c.args.all.now)))

pub print_parts-loop-e-preserved : goal.print_parts-loop-e-preserved
print_parts-loop-e-preserved t c =
    let x = c.e-item.result in
    let all = c.args.all.now in
    let i = c.loop-e.e-index in
    listed_step to_comma c.loop-e.before c.loop-e.w c.separate.new.self c.print_expr.new.w (printed (view x)) (members (views (drop i all)))
    (members (views (drop (i + 1) all))) (with_pieces c.args.w.now (commas (members (views all))))
    (members_at i all x c.loop-e-test.true c.e-item.is) c.in_ok-separate.ensures c.in_ok-print_expr.ensures c.loop-e.invariant

pub print_pairs-loop-e-init : goal.print_pairs-loop-e-init
print_pairs-loop-e-init t c = ap (λ (z : List Piece). with_pieces c.args.w.now z) (listed_pairs (members (views c.args.all.now)))

pub print_pairs-loop-e-preserved : goal.print_pairs-loop-e-preserved
print_pairs-loop-e-preserved t c =
    let x = c.e-item.result in
    let all = c.args.all.now in
    let i = c.loop-e.e-index in
    let rest = members (views (drop (i + 1) all)) in
    ap (λ (z : Option Mark). with_pieces c.print_expr.new.w (listed behind_part z rest)) c.behind_part-before.ensures
    ∙ listed_step behind_part c.loop-e.before c.loop-e.w c.separate.new.self c.print_expr.new.w (printed (view x)) (members (views (drop i all))) rest
    (with_pieces c.args.w.now (pairs (members (views all))))
    (members_at i all x c.loop-e-test.true c.e-item.is) c.in_ok-separate.ensures c.in_ok-print_expr.ensures c.loop-e.invariant

pub print_params-loop-i-init : goal.print_params-loop-i-init
print_params-loop-i-init t c =
    let names = c.args.names.now in
    let all = c.args.defaults.now in
    let plain = c.saturating_sub-plain.result in
    ap (λ (z : List (List Piece)). with_pieces c.args.w.now (listed to_comma None z)) (params_start plain names all c.saturating_sub-plain.ensures)
    ∙ ap (λ (z : List Piece). with_pieces c.args.w.now z) (listed_commas (params (length names - length (members (views all))) names (members (views all))))

pub print_params-loop-i-preserved : goal.print_params-loop-i-preserved
print_params-loop-i-preserved t c =
    let x = c.index-names-i.result in
    let names = c.args.names.now in
    let ds = members (views c.args.defaults.now) in
    let plain = c.saturating_sub-plain.result in
    let i = c.loop-i.i in
    let default = default_of plain i ds in
    listed_step to_comma c.loop-i.before c.loop-i.w c.separate.new.self c.print_default.new.w (name x ∷ default) (params_from plain names ds i)
    (params_from plain names ds (i + 1)) (with_pieces c.args.w.now (params_of names ds))
    (params_at plain i names ds x c.loop-i-test.true c.index-names-i.is) c.in_ok-separate.ensures
    (c.in_ok-print_default.ensures ∙ ap (λ (z : List ℕ). with_pieces z default) c.in_ok-name.ensures) c.loop-i.invariant

pub print_compared-loop-i-preserved : goal.print_compared-loop-i-preserved
print_compared-loop-i-preserved t c =
    let x = c.index-all-i.result in
    let all = c.args.all.now in
    let i = c.loop-i.i in
    compared_more i c.args.ops.now c.loop-i.w c.print_operator.new.w c.print_at.new.w (expr_at Sum (view x)) (operands (views (drop i all)))
    (operands (views (drop (i + 1) all))) (with_pieces c.args.w.now (compared c.args.ops.now (operands (views all))))
    c.if-i-ops.false (operands_at i all x c.loop-i-test.true c.index-all-i.is) c.in_ok-print_operator.ensures c.in_ok-print_at.ensures c.loop-i.invariant

pub print_compared-returns : goal.print_compared-returns
print_compared-returns t c =
    let all = c.args.all.now in
    let i = c.loop-i.i in
    let ended : drop i all ≡ [] = drop_all i all c.loop-i-test.false in
    ap (λ (z : List Piece). with_pieces c.loop-i.w z)
    (sym (ap (λ (z : List Expr). compared_from i c.args.ops.now (operands (views z))) ended ∙ compared_none i c.args.ops.now))
    ∙ c.loop-i.invariant
