use Rattle.std.proofs.Common.{refl}
use Rattle.py_grammar.specs.Reading.{exprs, items, items_turn, expr, lambda, lambda_body, params, param_onto, condition, negated}
use Rattle.py_grammar.specs.Reading.{comparison, chain, chain_turn, grouped_over, grouped_turn, factor, power, primary, suffix, atom}
use Rattle.py_grammar.specs.Reading.{marked_atom, loop, nested}
use Rattle.py_grammar.proofs.Computed.{read_spells, read_is}
use Rattle.py_grammar.proofs.examples.comparisons_law.Goals as goal

pub returns-clause-one : goal.returns-clause-one
unfolding exprs items items_turn expr lambda lambda_body params param_onto condition negated comparison chain chain_turn grouped_over
    grouped_turn factor power primary suffix atom marked_atom loop nested
returns-clause-one c = read_spells _ _ 2 refl

pub returns-clause-no_nesting : goal.returns-clause-no_nesting
unfolding exprs items items_turn expr lambda lambda_body params param_onto condition negated comparison chain chain_turn grouped_over
    grouped_turn factor power primary suffix atom marked_atom loop nested
returns-clause-no_nesting c = λ s. let same = read_is s _ _ refl in cc
