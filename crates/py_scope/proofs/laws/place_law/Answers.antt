use Rattle.py_scope.proofs.PlaceLaws.{class_binds, free_slot, local_slot}
use Rattle.py_scope.proofs.laws.place_law.Goals as goal

pub returns-clause-local : goal.returns-clause-local
returns-clause-local c = local_slot c.names_law.ensures.text_at

pub returns-clause-free : goal.returns-clause-free
returns-clause-free c = free_slot c.names_law.ensures.text_at

pub returns-clause-in_class : goal.returns-clause-in_class
returns-clause-in_class c = class_binds
