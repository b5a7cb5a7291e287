use Rattle.std.proofs.Common.{length, refl, arith}
use Rattle.py_scalars.proofs.SearchLemmas.{begins_none, begins_whole}
use Rattle.py_lexer.proofs.quoted.begins.Goals as goal

pub returns-then-text-part-clause-value : goal.returns-then-text-part-clause-value
returns-then-text-part-clause-value c = begins_none c.args.part.now c.args.text.now (omega arith)

pub returns-clause-value : goal.returns-clause-value
returns-clause-value c = begins_whole c.args.part.now c.args.text.now (length c.args.part.now) c.eq.result refl c.eq.ensures
