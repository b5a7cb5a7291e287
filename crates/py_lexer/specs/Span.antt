-- Where the tokens of a text stand.
use Rattle.std.specs.Prelude.{◌≡◌, ℕ, ◌+◌, ◌<◌, ◌≤◌, List, [], ◌∷◌, length, take, Some, slice_range}
use Rattle.py_lexer.specs.declared.token.Token.{Token}
use Rattle.py_lexer.specs.Form.{kind_of}
use Rattle.py_lexer.specs.Cut.{ends_in}

-- a token's span is a text of its kind, and its line is that of its first code point
pub record IsSpan (text : List ℕ) (t : Token) : Type 0 where
  pub filled : t.start < t.end
  pub within : t.end ≤ length text
  pub kind : kind_of (slice_range text t.start t.end) ≡ Some t.kind
  pub line : t.line ≡ 1 + ends_in (take t.start text)

-- each token's span is behind the one before it, and the first behind a place
abbrev pub AreSpans : List ℕ → ℕ → List Token → Type 0
AreSpans text from [] = Unit {0}
AreSpans text from (t ∷ tokens) = (from ≤ t.start) × IsSpan text t × AreSpans text t.end tokens
