use Rattle.std.proofs.Common.{sym, ◌∙◌, arith}
use Rattle.py_signs.proofs.Spellings.{operator_of_one, operator_of_two, operator_of_three, no_operator}
use Rattle.py_signs.proofs.operators.operator_of.Goals as goal

pub returns-in-len1 : goal.returns-in-len1
returns-in-len1 c = c.of_one.ensures ∙ operator_of_one c.args.text.now c.a-item.result c.in-len1.len_at_least c.in-len1.len_below c.a-item.is

pub returns-in-len2 : goal.returns-in-len2
returns-in-len2 c =
    c.of_two.ensures
    ∙ operator_of_two c.args.text.now c.a-item-then-text-lt3.result c.b-item.result c.in-len2.len_at_least c.in-len2.len_below c.a-item-then-text-lt3.is c.b-item.is

pub returns-in-len3 : goal.returns-in-len3
returns-in-len3 c =
    c.of_three.ensures
    ∙ operator_of_three c.args.text.now c.a-item-then-text-lt4.result c.b-item-then-text-lt4.result c.c-item.result
    c.in-len3.len_at_least c.in-len3.len_below c.a-item-then-text-lt4.is c.b-item-then-text-lt4.is c.c-item.is

pub returns-in_default : goal.returns-in_default
returns-in_default c = sym (no_operator c.args.text.now (omega arith) (omega arith) (omega arith))

pub returns-in_default-2 : goal.returns-in_default-2
returns-in_default-2 c = sym (no_operator c.args.text.now (omega arith) (omega arith) (omega arith))
