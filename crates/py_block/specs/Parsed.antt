-- What a text spells, as a function: the block of its statements, or its first fault by the order of the kinds.
use Rattle.std.specs.Prelude.{ℕ, ◌+◌, List, [], ◌∷◌, map, slice_range, Bool, true, false, ◌==◌, ◌&&◌, ◌||◌, nat_lt, if◌then◌else◌, Option, Some, None, Result, Ok, Err}
use Rattle.flow_base.specs.declared.kinds.SyntaxKind.{SyntaxKind}
use Rattle.flow_base.specs.declared.kinds.SyntaxKind.TheVariants.{Lex, Layout, Unsupported, Limit, Syntax}
use Rattle.py_ast.specs.Statement.{Block}
use Rattle.py_lexer.specs.declared.token.Token.{Token}
use Rattle.py_layout.specs.declared.line.LogicalLine.{LogicalLine}
use Rattle.py_grammar.specs.Line as l
use Rattle.py_grammar.specs.Line.{Line}
use Rattle.py_grammar.specs.LineReading.{read_line}
use Rattle.py_grammar.specs.Reading.{on}
use Rattle.py_signs.specs.Signs.{signs_of}
use Rattle.py_signs.specs.Limits.{has_unsupported, is_crowded, has_wide}
use Rattle.py_block.specs.Lexing.{lexed, laid}
use Rattle.py_block.specs.Machine.{State, start, step, accepted}

-- ---- line ends

-- each `\r\n` and each other `\r` is a line end. The flag says that a `\r` stands before the text.
abbrev pub line_ends_from : Bool → List ℕ → List ℕ
line_ends_from behind [] = []
line_ends_from behind (c ∷ text) =
    if c == 13 then 10 ∷ line_ends_from true text else
    (if behind && (c == 10) then line_ends_from false text else c ∷ line_ends_from false text)

abbrev pub with_line_ends : List ℕ → List ℕ
with_line_ends text = line_ends_from false text

-- ---- one logical line

-- what the tokens of a line are: a line of the grammar within the limits, an unsupported token among them, a line over a limit, or none
pub data Form : Type 0 where
  a_line : Line → Form
  unsupported : Form
  over : Form
  no_line : Form

abbrev pub form_read : Option (Option Line) → Form
form_read None = no_line
form_read (Some None) = over
form_read (Some (Some x)) = a_line x

abbrev pub form_of : List ℕ → List Token → Form
form_of text tokens =
    if has_unsupported tokens then unsupported else
    (if is_crowded text 0 tokens || has_wide text tokens then over else form_read (read_line 60 (signs_of text tokens)))

-- a logical line: its number, its depth, and its form
pub record Told : Type 0 where
  pub number : ℕ
  pub deep : ℕ
  pub form : Form

abbrev pub tokens_of : List Token → LogicalLine → List Token
tokens_of tokens line = slice_range tokens line.first line.end

abbrev pub told : List ℕ → List Token → LogicalLine → Told
told text tokens line = record { number = line.line; deep = line.depth; form = form_of text (tokens_of tokens line) }

-- how deep a line counts: one deeper with statements after a header's colon
abbrev pub depth_of : ℕ → Form → ℕ
depth_of deep (a_line (l.header h (x ∷ xs))) = deep + 1
depth_of deep form = deep

abbrev pub is_form_unsupported : Form → Bool
is_form_unsupported unsupported = true
is_form_unsupported form = false

abbrev pub is_unsupported : Told → Bool
is_unsupported x = is_form_unsupported x.form

abbrev pub is_form_over : Form → Bool
is_form_over over = true
is_form_over form = false

abbrev pub is_over : Told → Bool
is_over x = is_form_over x.form || nat_lt 60 (depth_of x.deep x.form)

-- the number of the first line that a test passes
abbrev pub first_number : (Told → Bool) → List Told → Option ℕ
first_number test [] = None
first_number test (x ∷ xs) = if test x then Some x.number else first_number test xs

-- ---- blocks

abbrev pub Fault : Type 0
Fault = ℕ × SyntaxKind

abbrev pub ended : ℕ → Option Block → Result Block Fault
ended last (Some b) = Ok b
ended last None = Err (last, Syntax)

-- the levels after a line of a form at a depth
abbrev pub next_in : State → ℕ → Form → Option State
next_in s deep (a_line line) = step s (record { deep = deep; line = line })
next_in s deep form = None

abbrev pub next_of : State → Told → Option State
next_of s x = next_in s x.deep x.form

-- the block of lines behind others, of which the last has a number; or the first line that may not stand there, which is the last
-- where the lines end too early
abbrev pub blocks : ℕ → State → List Told → Result Block Fault
blocks last s [] = ended last (accepted s)
blocks last s (x ∷ xs) = on (next_of s x) (Err (x.number, Syntax)) (λ next. blocks x.number next xs)

-- ---- a text

-- the kinds in their order, each for the whole text
abbrev pub of_lines : List Told → Result Block Fault
of_lines xs =
    on (first_number is_unsupported xs)
    (on (first_number is_over xs) (blocks 0 start xs) (λ line. Err (line, Limit)))
    (λ line. Err (line, Unsupported))

abbrev pub of_laid : List ℕ → List Token → Result (List LogicalLine) ℕ → Result Block Fault
of_laid text tokens (Err line) = Err (line, Layout)
of_laid text tokens (Ok lines) = of_lines (map (told text tokens) lines)

abbrev pub of_tokens : List ℕ → Result (List Token) ℕ → Result Block Fault
of_tokens text (Err line) = Err (line, Lex)
of_tokens text (Ok tokens) = of_laid text tokens (laid text tokens)

-- the block that a text spells, or its fault: the number of a line, and the kind
unfoldable pub parsed : List ℕ → Result Block Fault
parsed text = of_tokens (with_line_ends text) (lexed (with_line_ends text))
