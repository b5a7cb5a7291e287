use Rattle.py_layout.proofs.Places.{in_order}
use Rattle.py_layout.proofs.layouter.place_law.Goals as goal

pub returns : goal.returns
returns c = in_order
