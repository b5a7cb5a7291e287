-- What is answered to the tokens of a line.
use Rattle.std.specs.Prelude.{◌≡◌, ◌<◌, ◌≤◌, ℕ, ◌+◌, List, length, true, false, Result, Ok, Err}
use Rattle.py_ast.specs.Nodes.{count_from}
use Rattle.py_lexer.specs.declared.token.Token.{Token}
use Rattle.py_grammar.specs.Line.{Line, SpellsLine, line_depth}
use Rattle.py_grammar.specs.declared.sign.Sign.{Sign}
use Rattle.py_signs.specs.Signs.{signs_of}
use Rattle.py_signs.specs.Limits.{has_unsupported, is_crowded, has_wide}
use Rattle.py_line.specs.Form.{line_of, numbers_of_form, IsNumberedFrom, NumberedLine}
use Rattle.py_line.specs.Numbers.{size_of_line}
use Rattle.py_line.specs.declared.form.LineForm.{LineForm}
use Rattle.py_line.specs.declared.line.LineFault.{LineFault}
use Rattle.py_line.specs.declared.line.LineRead.{LineRead}
use Rattle.py_line.specs.declared.line.LineFault.TheVariants.{Unsupported, Limit, NotALine, NoMemory}

-- the line that signs spell, numbered, with the number that follows; that an expression of it is too deep; or that they spell none
abbrev pub IsLineOf : List Sign → ℕ → Result LineRead LineFault → Type 0
IsLineOf signs first (Ok read) = SpellsLine signs (line_of read.form) × (line_depth (line_of read.form) ≤ 60) × NumberedLine first (line_of read.form) read
IsLineOf signs first (Err Unsupported) = ⊥
IsLineOf signs first (Err Limit) = (x : Line) × SpellsLine signs x × (60 < line_depth x)
IsLineOf signs first (Err NotALine) = (x : Line) → SpellsLine signs x → ⊥
IsLineOf signs first (Err NoMemory) = Unit {0}

module _ (text : List ℕ) (tokens : List Token) where
  abbrev pub Spelled : Line → Type 0
  Spelled x = SpellsLine (signs_of text tokens) x

  -- no token is unsupported, no bracket and no number is over its limit
  pub record IsPlain : Type 0 where
    pub supported : has_unsupported tokens ≡ false
    pub uncrowded : is_crowded text 0 tokens ≡ false
    pub narrow : has_wide text tokens ≡ false

  -- over a limit: of open brackets, of a number, or of the depth of an expression
  pub data IsOver : Type 0 where
    brackets : is_crowded text 0 tokens ≡ true → IsOver
    number : has_wide text tokens ≡ true → IsOver
    depth : {x : Line} → Spelled x → 60 < line_depth x → IsOver

  -- the line that the tokens spell, with its nodes numbered from the first on; or the first fault
  abbrev pub IsAnswer : ℕ → Result LineForm LineFault → Type 0
  IsAnswer first (Ok form) = IsPlain × Spelled (line_of form) × (line_depth (line_of form) ≤ 60) × IsNumberedFrom first form
  IsAnswer first (Err Unsupported) = has_unsupported tokens ≡ true
  IsAnswer first (Err Limit) = (has_unsupported tokens ≡ false) × IsOver
  IsAnswer first (Err NotALine) = IsPlain × ((x : Line) → Spelled x → ⊥)
  IsAnswer first (Err NoMemory) = Unit {0}

  -- the nodes of a line hold as many numbers from the first on as there are nodes, at most one more than tokens, and the next number follows
  pub record IsCounted (first : ℕ) (form : LineForm) (next : ℕ) : Type 0 where
    pub in_order : numbers_of_form form ≡ count_from first (size_of_line (line_of form))
    pub follows : next ≡ first + size_of_line (line_of form)
    pub few : size_of_line (line_of form) ≤ length tokens + 1

  -- the same answer, with the number that follows those of the line
  abbrev pub IsAnswerFrom : ℕ → Result LineRead LineFault → Type 0
  IsAnswerFrom first (Ok read) = IsAnswer first (Ok read.form) × IsCounted first read.form read.next
  IsAnswerFrom first (Err fault) = IsAnswer first (Err fault)
