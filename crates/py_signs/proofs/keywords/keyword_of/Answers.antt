use Rattle.std.proofs.Common.{sym, ◌∙◌, arith}
use Rattle.py_signs.proofs.Spellings.{keyword_by_length, no_keyword}
use Rattle.py_signs.proofs.keywords.keyword_of.Goals as goal

pub returns-in-2 : goal.returns-in-2
returns-in-2 c = c.of_two.ensures ∙ sym (keyword_by_length 2 c.args.word.now c.in-2.is)

pub returns-in-3 : goal.returns-in-3
returns-in-3 c = c.of_three.ensures ∙ sym (keyword_by_length 3 c.args.word.now c.in-3.is)

pub returns-in-4 : goal.returns-in-4
returns-in-4 c = c.of_four.ensures ∙ sym (keyword_by_length 4 c.args.word.now c.in-4.is)

pub returns-in-5 : goal.returns-in-5
returns-in-5 c = c.of_five.ensures ∙ sym (keyword_by_length 5 c.args.word.now c.in-5.is)

pub returns-in-6 : goal.returns-in-6
returns-in-6 c = c.of_six.ensures ∙ sym (keyword_by_length 6 c.args.word.now c.in-6.is)

pub returns-in-7 : goal.returns-in-7
returns-in-7 c = c.of_seven.ensures ∙ sym (keyword_by_length 7 c.args.word.now c.in-7.is)

pub returns-in-8 : goal.returns-in-8
returns-in-8 c = c.of_eight.ensures ∙ sym (keyword_by_length 8 c.args.word.now c.in-8.is)

pub returns-in_default : goal.returns-in_default
returns-in_default c = sym (no_keyword c.args.word.now (omega arith) (omega arith) (omega arith) (omega arith) (omega arith) (omega arith) (omega arith))
