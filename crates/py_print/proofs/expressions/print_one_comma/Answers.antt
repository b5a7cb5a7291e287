use Rattle.std.proofs.Common.{◌≡◌, List, OnOk, sym, ap, subst}
use Rattle.py_print.specs.Pieces.{Piece}
use Rattle.py_print.specs.Writing.{with_pieces}
use Rattle.py_print.proofs.PrintParts.{one_part, not_one_part}
use Rattle.py_print.proofs.expressions.print_one_comma.Goals as goal

pub returns-then-all-eq1 : goal.returns-then-all-eq1
returns-then-all-eq1 c =
    subst (λ (z : List Piece). OnOk c.mark.result (c.mark.new.self ≡ with_pieces c.args.w.now z)) (sym (one_part c.args.all.now c.if-all-eq1.true)) c.mark.ensures

pub returns-else-all-eq1 : goal.returns-else-all-eq1
returns-else-all-eq1 c = ap (λ (z : List Piece). with_pieces c.args.w.now z) (sym (not_one_part c.args.all.now c.if-all-eq1.false))
