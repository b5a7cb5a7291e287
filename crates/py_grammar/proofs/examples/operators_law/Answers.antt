use Rattle.std.proofs.Common.{refl}
use Rattle.py_grammar.specs.Grammar.{Exprs}
use Rattle.py_grammar.specs.Reading.{exprs, items, items_turn, expr, lambda, lambda_body, params, param_onto, condition, negated}
use Rattle.py_grammar.specs.Reading.{comparison, chain, chain_turn, grouped_over, grouped_turn, factor, power, primary, suffix, atom}
use Rattle.py_grammar.specs.Reading.{marked_atom, loop, nested}
use Rattle.py_grammar.proofs.Computed.{read_spells}
use Rattle.py_grammar.proofs.Exact.{one_tree}
use Rattle.py_grammar.proofs.examples.operators_law.Goals as goal

pub returns-clause-product_first : goal.returns-clause-product_first
unfolding exprs items items_turn expr lambda lambda_body params param_onto condition negated comparison chain chain_turn grouped_over
    grouped_turn factor power primary suffix atom marked_atom loop nested
returns-clause-product_first c = read_spells _ _ 3 refl

pub returns-clause-left_first : goal.returns-clause-left_first
unfolding exprs items items_turn expr lambda lambda_body params param_onto condition negated comparison chain chain_turn grouped_over
    grouped_turn factor power primary suffix atom marked_atom loop nested
returns-clause-left_first c = read_spells _ _ 3 refl

pub returns-clause-not_right_first : goal.returns-clause-not_right_first
returns-clause-not_right_first c = λ s. let same = one_tree Exprs _ _ _ s (returns-clause-left_first c) in cc

pub returns-clause-right_power_first : goal.returns-clause-right_power_first
unfolding exprs items items_turn expr lambda lambda_body params param_onto condition negated comparison chain chain_turn grouped_over
    grouped_turn factor power primary suffix atom marked_atom loop nested
returns-clause-right_power_first c = read_spells _ _ 3 refl

pub returns-clause-power_before_sign : goal.returns-clause-power_before_sign
unfolding exprs items items_turn expr lambda lambda_body params param_onto condition negated comparison chain chain_turn grouped_over
    grouped_turn factor power primary suffix atom marked_atom loop nested
returns-clause-power_before_sign c = read_spells _ _ 3 refl

pub returns-clause-sign_in_power : goal.returns-clause-sign_in_power
unfolding exprs items items_turn expr lambda lambda_body params param_onto condition negated comparison chain chain_turn grouped_over
    grouped_turn factor power primary suffix atom marked_atom loop nested
returns-clause-sign_in_power c = read_spells _ _ 3 refl

pub returns-clause-test_before_not : goal.returns-clause-test_before_not
unfolding exprs items items_turn expr lambda lambda_body params param_onto condition negated comparison chain chain_turn grouped_over
    grouped_turn factor power primary suffix atom marked_atom loop nested
returns-clause-test_before_not c = read_spells _ _ 3 refl
