-- The tokens and the logical lines of a text, as functions: what is taken at each place, one after another.
use Rattle.std.specs.Prelude.{ℕ, zero, suc, ◌+◌, List, [], ◌∷◌, length, take, drop, nat_lt, if◌then◌else◌, Option, Some, None, Result, Ok, Err}
use Rattle.py_scalars.specs.NumberForm.{is_digit}
use Rattle.py_lexer.specs.declared.token.TokenKind.{TokenKind}
use Rattle.py_lexer.specs.declared.token.Token.{Token}
use Rattle.py_lexer.specs.Form.{is_name_start, is_quote}
use Rattle.py_lexer.specs.Scan.{word_front, number_front, literal_front, other_front}
use Rattle.py_lexer.specs.Cut.{Place, blank_len, behind, behind_token, token_at}
use Rattle.py_lexer.specs.Cut as lexer
use Rattle.py_layout.specs.declared.line.LogicalLine.{LogicalLine}
use Rattle.py_layout.specs.Layout.{Spot, is_line_end, entered, line_len, behind_end, behind_line, line_at}
use Rattle.py_layout.specs.Layout as layout

-- ---- tokens

-- the longest token at the front of a text
abbrev pub front_of : ℕ → List ℕ → Option (TokenKind × ℕ)
front_of nested [] = None
front_of nested (c ∷ text) =
    if is_name_start c then Some (word_front (c ∷ text)) else
    (if is_digit 10 c then number_front (c ∷ text) else
    (if is_quote c then literal_front (c ∷ text) else other_front nested (c ∷ text)))

abbrev pub before : {A : Type 0} → A → Result (List A) ℕ → Result (List A) ℕ
before x (Ok xs) = Ok (x ∷ xs)
before x (Err line) = Err line

-- a token and those that follow it, read by another function, or the line where none fits
abbrev pub token_and : (Place → List ℕ → Result (List Token) ℕ) → Place → List ℕ → Option (TokenKind × ℕ) → Result (List Token) ℕ
token_and rest p text None = Err p.line
token_and rest p text (Some t) = before (token_at p t.0 t.1) (rest (behind_token p t.0 (take t.1 text)) (drop t.1 text))

-- The tokens of a text from a place on, or the line of the first place where none fits. The number is at least that of the code
-- points, so that it does not run out.
abbrev pub tokens_by : ℕ → Place → List ℕ → Result (List Token) ℕ
tokens_by zero p text = Ok []
tokens_by (suc n) p [] = Ok []
tokens_by (suc n) p (c ∷ text) =
    if nat_lt 0 (blank_len p.nested (c ∷ text))
    then tokens_by n (behind p (take (blank_len p.nested (c ∷ text)) (c ∷ text))) (drop (blank_len p.nested (c ∷ text)) (c ∷ text))
    else token_and (tokens_by n) p (c ∷ text) (front_of p.nested (c ∷ text))

-- the tokens of a text, or the line of the first place where none fits
unfoldable pub lexed : List ℕ → Result (List Token) ℕ
lexed text = tokens_by (length text) lexer.start text

-- ---- logical lines

-- a line and those that follow it, or its number where its indentation is refused
abbrev pub line_and : (Spot → List Token → Result (List LogicalLine) ℕ) → Spot → Token → List Token → Option (List ℕ) → Result (List LogicalLine) ℕ
line_and rest s t tokens None = Err t.line
line_and rest s t tokens (Some stack) =
    before (line_at s t stack (line_len (t ∷ tokens))) (rest (behind_line s stack (line_len (t ∷ tokens))) (drop (line_len (t ∷ tokens)) (t ∷ tokens)))

abbrev pub lines_by : ℕ → List ℕ → Spot → List Token → Result (List LogicalLine) ℕ
lines_by zero text s tokens = Ok []
lines_by (suc n) text s [] = Ok []
lines_by (suc n) text s (t ∷ tokens) =
    if is_line_end t.kind then lines_by n text (behind_end s t) tokens else line_and (lines_by n text) s t tokens (entered text s)

-- the logical lines of the tokens of a text, or the line of the first whose indentation is refused
unfoldable pub laid : List ℕ → List Token → Result (List LogicalLine) ℕ
laid text tokens = lines_by (length tokens) text layout.start tokens
