use Rattle.std.proofs.Common.{refl}
use Rattle.py_grammar.specs.Reading.{exprs, items, items_turn, expr, params, param_onto, condition, negated, comparison, chain, chain_turn}
use Rattle.py_grammar.specs.Reading.{grouped_over, grouped_turn, factor, power, primary, suffix, atom, marked_atom, loop, nested}
use Rattle.py_grammar.specs.LineReading.{read_line, simple_line, header_line, after_colon, simples, simple, unmarked, assigned_turn}
use Rattle.py_grammar.specs.LineReading.{targets, places, places_turn, header, except_of, define_of, base_of, class_of}
use Rattle.py_grammar.proofs.Lines.{read_line_spells, not_line}
use Rattle.py_grammar.proofs.line_examples.headers_law.Goals as goal

pub returns : goal.returns
unfolding read_line simple_line header_line after_colon simples simple unmarked assigned_turn targets places places_turn header except_of
    define_of base_of class_of exprs items items_turn expr params param_onto condition negated comparison chain chain_turn grouped_over
    grouped_turn factor power primary suffix atom marked_atom loop nested
returns c = record {
  with_statement = read_line_spells _ _ refl;
  looped = read_line_spells _ _ refl;
  caught = read_line_spells _ _ refl;
  defined = read_line_spells _ _ refl;
  no_base = read_line_spells _ _ refl;
  no_same_names = λ a s. not_line _ a s refl;
  one_class = λ a s. not_line _ a s refl;
  no_header_after_colon = λ a s. not_line _ a s refl;
  no_annotation = λ a s. not_line _ a s refl;
}
