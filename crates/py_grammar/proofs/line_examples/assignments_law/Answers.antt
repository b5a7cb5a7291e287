use Rattle.std.proofs.Common.{refl}
use Rattle.py_grammar.specs.Reading.{exprs, items, items_turn, row, expr, condition, negated, comparison, chain, chain_turn, grouped_over}
use Rattle.py_grammar.specs.Reading.{grouped_turn, factor, power, primary, suffix, atom, marked_atom, loop, nested}
use Rattle.py_grammar.specs.LineReading.{read_line, simple_line, simples, simple, unmarked, augment, assigned_turn}
use Rattle.py_grammar.proofs.Lines.{read_line_spells, not_line}
use Rattle.py_grammar.proofs.line_examples.assignments_law.Goals as goal

pub returns : goal.returns
unfolding read_line simple_line simples simple unmarked augment assigned_turn exprs items items_turn row expr condition negated comparison
    chain chain_turn grouped_over grouped_turn factor power primary suffix atom marked_atom loop nested
returns c = record {
  chain = read_line_spells _ _ refl;
  several = read_line_spells _ _ refl;
  in_squares = read_line_spells _ _ refl;
  in_parens = read_line_spells _ _ refl;
  augmented = read_line_spells _ _ refl;
  no_place_in_parens = λ a s. not_line _ a s refl;
  no_several_augmented = λ a s. not_line _ a s refl;
  no_assigned_augmented = λ a s. not_line _ a s refl;
  no_sum_assigned = λ a s. not_line _ a s refl;
  no_number_assigned = λ a s. not_line _ a s refl;
  no_empty_assigned = λ a s. not_line _ a s refl;
}
