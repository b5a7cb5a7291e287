use Rattle.py_scalars.proofs.TextLemmas.{text_of-repr_of}
use Rattle.py_scalars.proofs.text_form.literal_law.Goals as goal

pub returns : goal.returns
returns c = text_of-repr_of
