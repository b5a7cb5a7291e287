use Rattle.std.proofs.lemmas.Bool.{false≢true}
use Rattle.py_ast.proofs.laws.lawful_law.Goals as goal

pub returns-clause-return_outside : goal.returns-clause-return_outside
returns-clause-return_outside c = λ x h. false≢true h.0

pub returns-clause-break_after_else : goal.returns-clause-break_after_else
returns-clause-break_after_else c = λ test body h. false≢true h.3.1

pub returns-clause-empty_target : goal.returns-clause-empty_target
returns-clause-empty_target c = λ h. h

pub returns-clause-key_without_value : goal.returns-clause-key_without_value
returns-clause-key_without_value c = λ x h. h.0.1
