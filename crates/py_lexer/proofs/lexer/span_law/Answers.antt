use Rattle.py_lexer.proofs.Spans.{are_spans}
use Rattle.py_lexer.proofs.lexer.span_law.Goals as goal

pub returns : goal.returns
returns c = are_spans
