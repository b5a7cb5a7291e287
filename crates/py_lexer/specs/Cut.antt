-- How a text is cut into tokens.
use Rattle.std.specs.Prelude.{◌≡◌, ◌≢◌, ℕ, ◌+◌, ◌-◌, ◌<◌, ◌≤◌, List, [], ◌∷◌, length, take, drop, Bool, false, ◌==◌, ◌&&◌, ◌||◌, not, nat_lt, Option, Some, None, Result, Ok, Err, if◌then◌else◌, codes}
use Rattle.std.specs.List.{prefix_len, count_by}
use Rattle.py_lexer.specs.declared.token.TokenKind.{TokenKind}
use Rattle.py_lexer.specs.declared.token.TokenKind.TheVariants.{Word, Number, Text, Op, LineEnd, Unsupported}
use Rattle.py_lexer.specs.declared.token.Token.{Token}
use Rattle.py_lexer.specs.declared.fault.LexFault.{LexFault}
use Rattle.py_lexer.specs.declared.fault.LexFault.TheVariants.{At, NoMemory}
use Rattle.py_lexer.specs.Form.{one_of, token_kind}

-- the first n code points of a text are its longest token, and of that kind: no longer front is a token
pub record IsToken (nested : ℕ) (text : List ℕ) (k : TokenKind) (n : ℕ) : Type 0 where
  pub within : n ≤ length text
  pub kind : token_kind nested (take n text) (drop n text) ≡ Some k
  pub longest : (m : ℕ) (j : TokenKind) → m ≤ length text → token_kind nested (take m text) (drop m text) ≡ Some j → m ≤ n

-- no front of a text is a token
abbrev pub HasNoToken : ℕ → List ℕ → Type 0
HasNoToken nested text = (n : ℕ) → n ≤ length text → token_kind nested (take n text) (drop n text) ≡ None

abbrev pub IsFront : ℕ → List ℕ → Option (TokenKind × ℕ) → Type 0
IsFront nested text None = HasNoToken nested text
IsFront nested text (Some token) = IsToken nested text token.0 token.1

abbrev pub is_inside_line : ℕ → Bool
is_inside_line c = not (c == 10)

abbrev pub begins_with_end : List ℕ → Bool
begins_with_end [] = false
begins_with_end (c ∷ text) = c == 10

-- how many code points at the front stand between tokens, where so many brackets are open: a space or tab, a comment up to
-- the line's end, a backslash and the line end that it joins, or a line end inside brackets
abbrev pub blank_len : ℕ → List ℕ → ℕ
blank_len nested [] = 0
blank_len nested (c ∷ text) =
    if (c == 32) || (c == 9) then 1 else
    (if c == 35 then 1 + prefix_len is_inside_line text else
    (if (c == 92) && begins_with_end text then 2 else
    (if (c == 10) && nat_lt 0 nested then 1 else 0)))

-- a place in a text: its number from 0, that of its line from 1, and how many brackets are open
pub record Place : Type 0 where
  pub at : ℕ
  pub line : ℕ
  pub nested : ℕ

abbrev pub start : Place
start = record { at = 0; line = 1; nested = 0 }

-- how many lines end in a text
abbrev pub ends_in : List ℕ → ℕ
ends_in text = count_by (λ c. c == 10) text

abbrev pub behind : Place → List ℕ → Place
behind p text = record { at = p.at + length text; line = p.line + ends_in text; nested = p.nested }

-- an opening bracket opens one more; a closing one of any kind closes one, and none where none is open
abbrev pub open_after : ℕ → TokenKind → List ℕ → ℕ
open_after nested Op text =
    if one_of (codes "([{") text then nested + 1 else
    (if one_of (codes ")]}") text then nested - 1 else nested)
open_after nested Word text = nested
open_after nested Number text = nested
open_after nested Text text = nested
open_after nested LineEnd text = nested
open_after nested Unsupported text = nested

abbrev pub behind_token : Place → TokenKind → List ℕ → Place
behind_token p k text = record { at = p.at + length text; line = p.line + ends_in text; nested = open_after p.nested k text }

-- a token of so many code points that begins at a place
abbrev pub token_at : Place → TokenKind → ℕ → Token
token_at p k n = record { kind = k; start = p.at; end = p.at + n; line = p.line }

-- The text from the first place on is these tokens, with what may stand between them, up to the second place, and the second
-- text follows there.
pub data Cuts : Place → List ℕ → List Token → Place → List ℕ → Type 0 where
  here : {p : Place} {text : List ℕ} → Cuts p text [] p text
  blank : {p q : Place} {text rest : List ℕ} {tokens : List Token} → 0 < blank_len p.nested text
      → Cuts (behind p (take (blank_len p.nested text) text)) (drop (blank_len p.nested text) text) tokens q rest
      → Cuts p text tokens q rest
  token : {p q : Place} {text rest : List ℕ} {tokens : List Token} {k : TokenKind} {n : ℕ} → IsToken p.nested text k n
      → Cuts (behind_token p k (take n text)) (drop n text) tokens q rest
      → Cuts p text (token_at p k n ∷ tokens) q rest

-- a whole text is these tokens
abbrev pub AreTokens : List ℕ → List Token → Type 0
AreTokens text tokens = (q : Place) × Cuts start text tokens q []

-- nothing fits at a place before the end
pub record IsStuck (nested : ℕ) (text : List ℕ) : Type 0 where
  pub before_end : text ≢ []
  pub no_blank : blank_len nested text ≡ 0
  pub no_token : HasNoToken nested text

-- the first place at which nothing fits is on this line
pub record Stops (text : List ℕ) (line : ℕ) : Type 0 where
  pub tokens : List Token
  pub place : Place
  pub rest : List ℕ
  pub cuts : Cuts start text tokens place rest
  pub stuck : IsStuck place.nested rest
  pub there : place.line ≡ line

-- ---- answers

abbrev pub IsLexed : List ℕ → Result (List Token) LexFault → Type 0
IsLexed text (Ok tokens) = AreTokens text tokens
IsLexed text (Err (At line)) = Stops text line
IsLexed text (Err NoMemory) = Unit {0}

-- the answer, unless memory is wanting
abbrev pub Gives : Result (List Token) LexFault → Result (List Token) LexFault → Type 0
Gives (Err NoMemory) answer = Unit {0}
Gives (Err (At line)) answer = Err (At line) ≡ answer
Gives (Ok tokens) answer = Ok tokens ≡ answer
