-- What may stand directly behind a token, so that it is cut where it ends.
use Rattle.std.proofs.Common.{◌≡◌, ℕ, List, [], ◌∷◌, Bool, true, false, ◌==◌, ◌&&◌, ◌||◌, not}
use Rattle.unicode_ident.specs.Ident.{is_xid_continue}
use Rattle.py_scalars.specs.NumberForm.{is_digit}
use Rattle.py_lexer.specs.Form.{is_quote}
use Rattle.py_lexer.specs.declared.token.TokenKind.{TokenKind}
use Rattle.py_lexer.specs.declared.token.TokenKind.TheVariants.{Word, Number as NumberToken, Text as TextToken, Op}
use Rattle.py_grammar.specs.declared.mark.Mark.{Mark}
use Rattle.py_grammar.specs.declared.mark.Mark.TheVariants as m
use Rattle.py_grammar.specs.declared.sign.Sign.{Sign}
use Rattle.py_grammar.specs.declared.sign.Sign.TheVariants.{Name, Number, Text, Mark as The, Other}

pub data Class : Type 0 where
  -- anything
  free : Class
  -- no `=` or `>`
  unary : Class
  -- no digit and no `.`
  point : Class
  -- nothing that may continue a name, and no quote
  word : Class
  -- that, and no `.`
  digits : Class
  -- a space or a line end
  gap : Class

abbrev pub ends_word : ℕ → Bool
ends_word c = not (is_xid_continue c) && not (is_quote c)

abbrev pub may : Class → ℕ → Bool
may free c = true
may unary c = not (c == 61) && not (c == 62)
may point c = not (is_digit 10 c) && not (c == 46)
may word c = ends_word c
may digits c = ends_word c && not (c == 46)
may gap c = (c == 32) || (c == 10)

-- a text may stand behind a token of a class
abbrev pub goes : Class → List ℕ → Bool
goes k [] = false
goes k (c ∷ text) = may k c

abbrev pub mark_class : Mark → Class
mark_class m.Plus = unary
mark_class m.Minus = unary
mark_class m.Equals = unary
mark_class m.Colon = unary
mark_class m.Dot = point
mark_class m.Open = free
mark_class m.Close = free
mark_class m.OpenSquare = free
mark_class m.CloseSquare = free
mark_class m.OpenCurly = free
mark_class m.CloseCurly = free
mark_class m.Comma = free
mark_class m.Semicolon = free
mark_class m.Star = gap
mark_class m.Slashes = gap
mark_class m.Percent = gap
mark_class m.Stars = gap
mark_class m.Less = gap
mark_class m.Greater = gap
mark_class m.AtMost = gap
mark_class m.AtLeast = gap
mark_class m.Same = gap
mark_class m.Differs = gap
mark_class m.PlusEquals = gap
mark_class m.MinusEquals = gap
mark_class m.StarEquals = gap
mark_class m.SlashesEquals = gap
mark_class m.PercentEquals = gap
mark_class m.StarsEquals = gap
mark_class _ = word

abbrev pub class_of : Sign → Class
class_of (Name x) = word
class_of (Number n) = digits
class_of (Text x) = word
class_of (The k) = mark_class k
class_of Other = free

abbrev pub mark_kind : Class → TokenKind
mark_kind word = Word
mark_kind _ = Op

abbrev pub kind_of_sign : Sign → TokenKind
kind_of_sign (Name x) = Word
kind_of_sign (Number n) = NumberToken
kind_of_sign (Text x) = TextToken
kind_of_sign (The k) = mark_kind (mark_class k)
kind_of_sign Other = Op
