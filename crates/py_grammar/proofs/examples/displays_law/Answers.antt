use Rattle.std.proofs.Common.{refl}
use Rattle.py_grammar.specs.Reading.{exprs, items, items_turn, expr, lambda, lambda_body, params, param_onto, condition, negated}
use Rattle.py_grammar.specs.Reading.{comparison, chain, chain_turn, grouped_over, grouped_turn, factor, power, primary, suffix, atom}
use Rattle.py_grammar.specs.Reading.{marked_atom, loop, nested}
use Rattle.py_grammar.proofs.Computed.{read_spells, not_read}
use Rattle.py_grammar.proofs.examples.displays_law.Goals as goal

pub returns-clause-comma_alone : goal.returns-clause-comma_alone
unfolding exprs items items_turn expr lambda lambda_body params param_onto condition negated comparison chain chain_turn grouped_over
    grouped_turn factor power primary suffix atom marked_atom loop nested
returns-clause-comma_alone c = read_spells _ _ 2 refl

pub returns-clause-parentheses : goal.returns-clause-parentheses
unfolding exprs items items_turn expr lambda lambda_body params param_onto condition negated comparison chain chain_turn grouped_over
    grouped_turn factor power primary suffix atom marked_atom loop nested
returns-clause-parentheses c = read_spells _ _ 1 refl

pub returns-clause-texts : goal.returns-clause-texts
unfolding exprs items items_turn expr lambda lambda_body params param_onto condition negated comparison chain chain_turn grouped_over
    grouped_turn factor power primary suffix atom marked_atom loop nested
returns-clause-texts c = read_spells _ _ 1 refl

pub returns-clause-right_choice : goal.returns-clause-right_choice
unfolding exprs items items_turn expr lambda lambda_body params param_onto condition negated comparison chain chain_turn grouped_over
    grouped_turn factor power primary suffix atom marked_atom loop nested
returns-clause-right_choice c = read_spells _ _ 3 refl

pub returns-clause-lambda : goal.returns-clause-lambda
unfolding exprs items items_turn expr lambda lambda_body params param_onto condition negated comparison chain chain_turn grouped_over
    grouped_turn factor power primary suffix atom marked_atom loop nested
returns-clause-lambda c = read_spells _ _ 3 refl

pub returns-clause-same_names : goal.returns-clause-same_names
unfolding exprs items items_turn expr lambda lambda_body params param_onto condition negated comparison chain chain_turn grouped_over
    grouped_turn factor power primary suffix atom marked_atom loop nested
returns-clause-same_names c = λ a s. not_read s refl
