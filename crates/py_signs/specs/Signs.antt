-- What the tokens of a line stand for.
use Rattle.std.specs.Prelude.{ℕ, pos, List, [], ◌∷◌, length, map, slice_range, Bool, ◌==◌, ◌||◌, Option, Some, None, is_some, if◌then◌else◌, bytes_eq, codes}
use Rattle.unicode_normalization.specs.Forms.{nfkc}
use Rattle.py_scalars.specs.NumberForm.{number_of}
use Rattle.py_scalars.specs.TextForm.{text_of}
use Rattle.py_lexer.specs.Form.{is_unsupported_word}
use Rattle.py_lexer.specs.declared.token.TokenKind.{TokenKind}
use Rattle.py_lexer.specs.declared.token.TokenKind.TheVariants.{Word, Number as NumberToken, Text as TextToken, Op, LineEnd, Unsupported}
use Rattle.py_lexer.specs.declared.token.Token.{Token}
use Rattle.py_grammar.specs.declared.mark.Mark.{Mark}
use Rattle.py_grammar.specs.declared.mark.Mark.TheVariants as m
use Rattle.py_grammar.specs.declared.sign.Sign.{Sign}
use Rattle.py_grammar.specs.declared.sign.Sign.TheVariants.{Name, Number, Text, Mark as The, Other}

-- ---- how marks are written

abbrev pub Spelling : Type 0
Spelling = List ℕ × Mark

-- the mark that a text writes
abbrev pub among : List Spelling → List ℕ → Option Mark
among [] text = None
among (s ∷ rest) text = if bytes_eq text s.0 then Some s.1 else among rest text

-- the spellings of so many code points
abbrev pub of_length : ℕ → List Spelling → List Spelling
of_length n [] = []
of_length n (s ∷ rest) = if length s.0 == n then s ∷ of_length n rest else of_length n rest

abbrev pub keywords : List Spelling
keywords =
    (codes "False", m.False) ∷ (codes "None", m.None) ∷ (codes "True", m.True) ∷ (codes "and", m.And) ∷ (codes "as", m.As) ∷ (codes "assert", m.Assert)
    ∷ (codes "break", m.Break) ∷ (codes "class", m.Class) ∷ (codes "continue", m.Continue) ∷ (codes "def", m.Def) ∷ (codes "del", m.Del)
    ∷ (codes "elif", m.Elif) ∷ (codes "else", m.Else) ∷ (codes "except", m.Except) ∷ (codes "finally", m.Finally) ∷ (codes "for", m.For)
    ∷ (codes "global", m.Global) ∷ (codes "if", m.If) ∷ (codes "in", m.In) ∷ (codes "is", m.Is) ∷ (codes "lambda", m.Lambda)
    ∷ (codes "nonlocal", m.Nonlocal) ∷ (codes "not", m.Not) ∷ (codes "or", m.Or) ∷ (codes "pass", m.Pass) ∷ (codes "raise", m.Raise)
    ∷ (codes "return", m.Return) ∷ (codes "try", m.Try) ∷ (codes "while", m.While) ∷ []

abbrev pub operators : List Spelling
operators =
    (codes "+", m.Plus) ∷ (codes "-", m.Minus) ∷ (codes "*", m.Star) ∷ (codes "//", m.Slashes) ∷ (codes "%", m.Percent) ∷ (codes "**", m.Stars)
    ∷ (codes "<", m.Less) ∷ (codes ">", m.Greater) ∷ (codes "<=", m.AtMost) ∷ (codes ">=", m.AtLeast) ∷ (codes "==", m.Same) ∷ (codes "!=", m.Differs)
    ∷ (codes "(", m.Open) ∷ (codes ")", m.Close) ∷ (codes "[", m.OpenSquare) ∷ (codes "]", m.CloseSquare) ∷ (codes "{", m.OpenCurly)
    ∷ (codes "}", m.CloseCurly) ∷ (codes ",", m.Comma) ∷ (codes ":", m.Colon) ∷ (codes ";", m.Semicolon) ∷ (codes ".", m.Dot) ∷ (codes "=", m.Equals)
    ∷ (codes "+=", m.PlusEquals) ∷ (codes "-=", m.MinusEquals) ∷ (codes "*=", m.StarEquals) ∷ (codes "//=", m.SlashesEquals)
    ∷ (codes "%=", m.PercentEquals) ∷ (codes "**=", m.StarsEquals) ∷ []

unfoldable pub keyword_of : List ℕ → Option Mark
keyword_of text = among keywords text

unfoldable pub operator_of : List ℕ → Option Mark
operator_of text = among operators text

-- ---- the sign of a token

-- the keywords that this language has not are keywords too
abbrev pub is_keyword : List ℕ → Bool
is_keyword text = is_some (keyword_of text) || is_unsupported_word text

-- a name in its NFKC form (UAX 15), where that is no keyword
abbrev pub name_sign : List ℕ → Sign
name_sign name = if is_keyword name then Other else Name name

abbrev pub or_else : Option Mark → Sign → Sign
or_else (Some k) sign = The k
or_else None sign = sign

abbrev pub number_sign : Option ℕ → Sign
number_sign (Some n) = Number (pos n)
number_sign None = Other

abbrev pub text_sign : Option (List ℕ) → Sign
text_sign (Some text) = Text text
text_sign None = Other

-- a keyword is recognised by its own spelling, not by its NFKC form
abbrev pub sign_of : TokenKind → List ℕ → Sign
sign_of Word text = or_else (keyword_of text) (name_sign (nfkc text))
sign_of NumberToken text = number_sign (number_of text)
sign_of TextToken text = text_sign (text_of text)
sign_of Op text = or_else (operator_of text) Other
sign_of LineEnd text = Other
sign_of Unsupported text = Other

abbrev pub text_of_token : List ℕ → Token → List ℕ
text_of_token text t = slice_range text t.start t.end

abbrev pub sign_of_token : List ℕ → Token → Sign
sign_of_token text t = sign_of t.kind (text_of_token text t)

abbrev pub signs_of : List ℕ → List Token → List Sign
signs_of text tokens = map (sign_of_token text) tokens
