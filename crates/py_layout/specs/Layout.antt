-- How tokens are put into logical lines.
use Rattle.std.specs.Prelude.{◌≡◌, ℕ, suc, ◌+◌, ◌-◌, ◌<◌, ◌≤◌, List, [], ◌∷◌, ◌++◌, length, drop, get_or, slice_range, filter, Bool, true, false, ◌==◌, not, nat_lt, nat_le, Option, Some, None, option_map, option_and_then, Result, Ok, Err, if◌then◌else◌}
use Rattle.std.specs.List.{list_any, list_all, prefix_len}
use Rattle.py_lexer.specs.declared.token.TokenKind.{TokenKind}
use Rattle.py_lexer.specs.declared.token.TokenKind.TheVariants.{Word, Number, Text, Op, LineEnd, Unsupported}
use Rattle.py_lexer.specs.declared.token.Token.{Token}
use Rattle.py_layout.specs.declared.line.LogicalLine.{LogicalLine}
use Rattle.py_layout.specs.declared.fault.LayoutFault.{LayoutFault}
use Rattle.py_layout.specs.declared.fault.LayoutFault.TheVariants.{At, NoMemory}

abbrev pub is_line_end : TokenKind → Bool
is_line_end LineEnd = true
is_line_end Word = false
is_line_end Number = false
is_line_end Text = false
is_line_end Op = false
is_line_end Unsupported = false

-- the leading spaces of a text, if no tab stands behind them
abbrev pub indent_of : List ℕ → Option ℕ
indent_of [] = Some 0
indent_of (c ∷ text) = if c == 32 then option_map suc (indent_of text) else (if c == 9 then None else Some 0)

-- the stack of widths after a width: those above one that is on the stack are popped, one above all of them is pushed, and
-- any other is refused
abbrev pub stack_after : List ℕ → ℕ → Option (List ℕ)
stack_after stack width =
    if list_any (λ v. v == width) stack then Some (filter (λ v. nat_le v width) stack) else
    (if list_all (λ v. nat_lt v width) stack then Some (stack ++ width ∷ []) else None)

-- how many tokens stand before the next line end
abbrev pub line_len : List Token → ℕ
line_len tokens = prefix_len (λ t. not (is_line_end t.kind)) tokens

-- where a line may begin: the place in the text behind the last line end, the number of tokens so far, and the widths of
-- the lines round it, the first of which is 0
pub record Spot : Type 0 where
  pub begin : ℕ
  pub index : ℕ
  pub stack : List ℕ

abbrev pub start : Spot
start = record { begin = 0; index = 0; stack = 0 ∷ [] }

-- the stack once a line has begun at a spot
abbrev pub entered : List ℕ → Spot → Option (List ℕ)
entered text s = option_and_then (stack_after s.stack) (indent_of (drop s.begin text))

abbrev pub behind_end : Spot → Token → Spot
behind_end s t = record { begin = t.end; index = s.index + 1; stack = s.stack }

abbrev pub behind_line : Spot → List ℕ → ℕ → Spot
behind_line s stack n = record { begin = s.begin; index = s.index + n; stack = stack }

-- a line of so many tokens that begins at a spot: its depth is the number of widths above the first, and its line is that of
-- its first token
abbrev pub line_at : Spot → Token → List ℕ → ℕ → LogicalLine
line_at s t stack n = record { first = s.index; end = s.index + n; depth = length stack - 1; line = t.line }

-- The tokens from the first spot on are these logical lines, up to the second spot, and the second tokens follow there. A
-- line ends before the next line end; a line end behind another is skipped.
pub data Lays (text : List ℕ) : Spot → List Token → List LogicalLine → Spot → List Token → Type 0 where
  here : {s : Spot} {tokens : List Token} → Lays text s tokens [] s tokens
  skip : {s e : Spot} {t : Token} {tokens rest : List Token} {lines : List LogicalLine} → is_line_end t.kind ≡ true
      → Lays text (behind_end s t) tokens lines e rest → Lays text s (t ∷ tokens) lines e rest
  laid : {s e : Spot} {t : Token} {tokens rest : List Token} {lines : List LogicalLine} {stack : List ℕ} → is_line_end t.kind ≡ false
      → entered text s ≡ Some stack
      → Lays text (behind_line s stack (line_len (t ∷ tokens))) (drop (line_len (t ∷ tokens)) (t ∷ tokens)) lines e rest
      → Lays text s (t ∷ tokens) (line_at s t stack (line_len (t ∷ tokens)) ∷ lines) e rest

-- all tokens of a text are these logical lines
abbrev pub AreLines : List ℕ → List Token → List LogicalLine → Type 0
AreLines text tokens lines = (e : Spot) × Lays text start tokens lines e []

-- the first line whose width is not on the stack or whose indentation holds a tab is on this line
pub record Stops (text : List ℕ) (tokens : List Token) (line : ℕ) : Type 0 where
  pub lines : List LogicalLine
  pub spot : Spot
  pub first : Token
  pub rest : List Token
  pub lays : Lays text start tokens lines spot (first ∷ rest)
  pub begins : is_line_end first.kind ≡ false
  pub refused : entered text spot ≡ None
  pub there : first.line ≡ line

-- ---- where lines stand

-- a line has a token, none of its tokens is a line end, and its number is the line of the first
pub record IsLine (tokens : List Token) (l : LogicalLine) : Type 0 where
  pub filled : l.first < l.end
  pub within : l.end ≤ length tokens
  pub whole : list_all (λ t. not (is_line_end t.kind)) (slice_range tokens l.first l.end) ≡ true
  pub line : (d : Token) → l.line ≡ (get_or tokens l.first d).line

-- each line stands behind the one before it
abbrev pub AreInOrder : List Token → ℕ → List LogicalLine → Type 0
AreInOrder tokens from [] = Unit {0}
AreInOrder tokens from (l ∷ lines) = (from ≤ l.first) × IsLine tokens l × AreInOrder tokens l.end lines

-- ---- answers

abbrev pub IsLaid : List ℕ → List Token → Result (List LogicalLine) LayoutFault → Type 0
IsLaid text tokens (Ok lines) = AreLines text tokens lines
IsLaid text tokens (Err (At line)) = Stops text tokens line
IsLaid text tokens (Err NoMemory) = Unit {0}

-- the answer, unless memory is wanting
abbrev pub Gives : Result (List LogicalLine) LayoutFault → Result (List LogicalLine) LayoutFault → Type 0
Gives (Err NoMemory) answer = Unit {0}
Gives (Err (At line)) answer = Err (At line) ≡ answer
Gives (Ok lines) answer = Ok lines ≡ answer

-- a width was put on the stack, or refused
abbrev pub IsEntered : Option (List ℕ) → List ℕ → Bool → Type 0
IsEntered after new true = after ≡ Some new
IsEntered after new false = after ≡ None
