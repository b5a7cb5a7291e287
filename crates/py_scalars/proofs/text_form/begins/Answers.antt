use Rattle.std.proofs.Common.{length, refl, arith}
use Rattle.py_scalars.proofs.SearchLemmas.{begins_none, begins_whole}
use Rattle.py_scalars.proofs.text_form.begins.Goals as goal

pub returns-then-text-part : goal.returns-then-text-part
returns-then-text-part c = begins_none c.args.part.now c.args.text.now (omega arith)

pub returns : goal.returns
returns c = begins_whole c.args.part.now c.args.text.now (length c.args.part.now) c.eq.result refl c.eq.ensures
