-- The tokens of a line one after another.
use Rattle.std.proofs.Common.{◌<◌, ◌∷◌, [], ℕ, zero, suc, List, length, get_or, arith}
use Rattle.py_lexer.specs.declared.token.Token.{Token}
use Rattle.py_lexer.specs.Span.{IsSpan, AreSpans}

-- each token is a span
pub span_at : (text : List ℕ) (from : ℕ) (tokens : List Token) (i : ℕ) (d : Token) → AreSpans text from tokens → i < length tokens → IsSpan text (get_or tokens i d)
span_at text from [] i d spans inside = absurd (omega arith)
span_at text from (t ∷ tokens) zero d spans inside = spans.1
span_at text from (t ∷ tokens) (suc i) d spans inside = span_at text t.end tokens i d spans.2 (omega arith)
