use Rattle.std.proofs.Common.{refl}
use Rattle.py_grammar.specs.Reading.{exprs, items, items_turn, row, expr, condition, negated, comparison, chain, chain_turn, grouped_over}
use Rattle.py_grammar.specs.Reading.{grouped_turn, factor, power, primary, suffix, atom, marked_atom, loop, nested}
use Rattle.py_grammar.specs.LineReading.{read_line, simple_line, simples, simples_turn, simple, worded, unmarked, assigned_turn, names}
use Rattle.py_grammar.specs.LineReading.{targets, places, places_turn}
use Rattle.py_grammar.proofs.Lines.{read_line_spells, not_line}
use Rattle.py_grammar.proofs.line_examples.statements_law.Goals as goal

pub returns : goal.returns
unfolding read_line simple_line simples simples_turn simple worded unmarked assigned_turn names targets places places_turn exprs items
    items_turn row expr condition negated comparison chain chain_turn grouped_over grouped_turn factor power primary suffix atom marked_atom
    loop nested
returns c = record {
  two = read_line_spells _ _ refl;
  returned = read_line_spells _ _ refl;
  deleted = read_line_spells _ _ refl;
  asserted = read_line_spells _ _ refl;
  no_statement = λ a s. not_line _ a s refl;
  no_mark_between = λ a s. not_line _ a s refl;
  one_raised = λ a s. not_line _ a s refl;
  no_last_comma = λ a s. not_line _ a s refl;
}
