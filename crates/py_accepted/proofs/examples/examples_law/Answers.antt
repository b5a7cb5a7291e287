use Rattle.py_accepted.proofs.Texts.{accepted_1, accepted_2, accepted_3, accepted_4}
use Rattle.py_accepted.proofs.examples.examples_law.Goals as goal

pub returns : goal.returns
returns c = record { number = accepted_1; name = accepted_2; another = accepted_3; refused = accepted_4 }
