use Rattle.py_print.proofs.AsciiNames.{ascii_own}
use Rattle.py_print.proofs.laws.ascii_law.Goals as goal

pub returns : goal.returns
returns c = record { own = ascii_own }
