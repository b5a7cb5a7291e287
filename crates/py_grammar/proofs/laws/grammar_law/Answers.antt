use Rattle.py_grammar.proofs.Exact.{one_tree, one_row, one_pair_row, one_params}
use Rattle.py_grammar.proofs.laws.grammar_law.Goals as goal

pub returns-clause-one_tree : goal.returns-clause-one_tree
returns-clause-one_tree c = one_tree

pub returns-clause-one_row : goal.returns-clause-one_row
returns-clause-one_row c = one_row

pub returns-clause-one_pair_row : goal.returns-clause-one_pair_row
returns-clause-one_pair_row c = one_pair_row

pub returns-clause-one_names : goal.returns-clause-one_names
returns-clause-one_names c = λ xs n m a b p q. (one_params xs n m a b p q).0

pub returns-clause-one_defaults : goal.returns-clause-one_defaults
returns-clause-one_defaults c = λ xs n m a b p q. (one_params xs n m a b p q).1
