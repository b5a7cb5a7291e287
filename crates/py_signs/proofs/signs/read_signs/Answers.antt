use Rattle.py_signs.proofs.Spans.{span_at}
use Rattle.py_signs.proofs.signs.read_signs.Goals as goal

pub read_sign-requires : goal.read_sign-requires
read_sign-requires c = span_at c.args.text.now 0 c.args.tokens.now c.loop-t.t-index _ c.requires c.loop-t-test.true
