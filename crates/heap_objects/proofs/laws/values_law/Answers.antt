use Rattle.heap_objects.proofs.ValueLaws.{key_by_tree, kept_in_tuples, nesting_is_depth}
use Rattle.heap_objects.proofs.laws.values_law.Goals as goal

pub returns-clause-nesting : goal.returns-clause-nesting
returns-clause-nesting c = kept_in_tuples

pub returns-clause-depth : goal.returns-clause-depth
returns-clause-depth c = nesting_is_depth

pub returns-clause-key : goal.returns-clause-key
returns-clause-key c = key_by_tree
