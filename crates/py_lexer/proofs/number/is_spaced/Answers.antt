use Rattle.std.proofs.Common.{ap, ◌∙◌, ◌==◌, length}
use Rattle.py_lexer.proofs.Numbers.{spaced_whole}
use Rattle.py_lexer.proofs.number.is_spaced.Goals as goal

pub returns : goal.returns
returns c = ap (λ n. n == length c.args.text.now) c.spaced_len.ensures.value ∙ spaced_whole c.args.base c.args.text.now
