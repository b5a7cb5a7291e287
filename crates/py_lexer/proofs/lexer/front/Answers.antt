use Rattle.std.proofs.Common.{sym, ◌∙◌, subst, arith}
use Rattle.py_lexer.specs.Cut.{IsFront, IsToken}
use Rattle.py_lexer.specs.Scan.{literal_front}
use Rattle.py_lexer.proofs.Fronts.{word_is_front, number_is_front, literal_is_front, other_is_front, if_ok_same}
use Rattle.py_lexer.proofs.lexer.front.Goals as goal

pub returns-then-is_name_start : goal.returns-then-is_name_start
returns-then-is_name_start c =
    subst (λ r. IsToken c.args.nested c.args.text.now r.0 r.1) (sym c.word_front.ensures)
    (word_is_front c.args.nested c.args.text.now c.c-item.result (omega arith) c.c-item.is (sym c.is_name_start.ensures ∙ c.if-is_name_start.true))

pub returns-then-is_digit : goal.returns-then-is_digit
returns-then-is_digit c =
    subst (IsFront c.args.nested c.args.text.now) (sym c.number_front.ensures.is)
    (number_is_front c.args.nested c.args.text.now c.c-item.result (omega arith) c.c-item.is (sym c.is_name_start.ensures ∙ c.if-is_name_start.false) (sym c.is_digit.ensures.value ∙ c.if-is_digit.true))

pub returns-then-is_quote : goal.returns-then-is_quote
returns-then-is_quote c =
    if_ok_same c.literal_front.result (literal_front c.args.text.now) (IsFront c.args.nested c.args.text.now) c.literal_front.ensures
    (literal_is_front c.args.nested c.args.text.now c.c-item.result (omega arith) c.c-item.is (sym c.is_name_start.ensures ∙ c.if-is_name_start.false) (sym c.is_digit.ensures.value ∙ c.if-is_digit.false) (sym c.is_quote.ensures ∙ c.if-is_quote.true))

pub returns : goal.returns
returns c =
    subst (IsFront c.args.nested c.args.text.now) (sym c.other_front.ensures)
    (other_is_front c.args.nested c.args.text.now c.c-item.result (omega arith) c.c-item.is (sym c.is_name_start.ensures ∙ c.if-is_name_start.false) (sym c.is_digit.ensures.value ∙ c.if-is_digit.false) (sym c.is_quote.ensures ∙ c.if-is_quote.false))
