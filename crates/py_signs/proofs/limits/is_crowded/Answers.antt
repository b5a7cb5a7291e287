use Rattle.py_signs.proofs.Spans.{span_at}
use Rattle.py_signs.proofs.limits.is_crowded.Goals as goal

pub text_of_token-requires : goal.text_of_token-requires
text_of_token-requires c = span_at c.args.text.now 0 c.args.tokens.now c.loop-t.t-index _ c.requires c.loop-t-test.true
