-- The tokens of one line among those of a text.
use Rattle.std.proofs.Common.{ℕ, zero, suc, ◌≤◌, List, [], ◌∷◌, take, drop, arith}
use Rattle.py_lexer.specs.declared.token.Token.{Token}
use Rattle.py_lexer.specs.Span.{AreSpans}

lower : (text : List ℕ) (a b : ℕ) (tokens : List Token) → a ≤ b → AreSpans text b tokens → AreSpans text a tokens
lower text a b [] l s = tt
lower text a b (t ∷ tokens) l s = (let k = s.0 in omega arith, s.1, s.2)

spans_taken : (text : List ℕ) (from n : ℕ) (tokens : List Token) → AreSpans text from tokens → AreSpans text from (take n tokens)
spans_taken text from zero tokens s = tt
spans_taken text from (suc n) [] s = tt
spans_taken text from (suc n) (t ∷ tokens) s = (s.0, s.1, spans_taken text t.end n tokens s.2)

spans_dropped : (text : List ℕ) (from n : ℕ) (tokens : List Token) → AreSpans text from tokens → AreSpans text 0 (drop n tokens)
spans_dropped text from zero tokens s = lower text 0 from tokens (omega arith) s
spans_dropped text from (suc n) [] s = tt
spans_dropped text from (suc n) (t ∷ tokens) s = spans_dropped text t.end n tokens s.2

pub spans_within : (text : List ℕ) (m n : ℕ) (tokens : List Token) → AreSpans text 0 tokens → AreSpans text 0 (take n (drop m tokens))
spans_within text m n tokens s = spans_taken text 0 n (drop m tokens) (spans_dropped text 0 m tokens s)
