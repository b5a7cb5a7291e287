-- Which cell a text spells, and where a text that spells none has its fault.
use Rattle.std.specs.Prelude.{◌≡◌, ℕ, ◌+◌, ◌<◌, ◌≤◌, List, [], ◌∷◌, ◌++◌, true, Result, Ok, Err, ◌⊎◌}
use Rattle.flow_base.specs.declared.kinds.SyntaxKind.{SyntaxKind}
use Rattle.flow_base.specs.declared.kinds.SyntaxKind.TheVariants.{Lex, Layout, Unsupported, Limit, Syntax, Scope}
use Rattle.py_ast.specs.Statement.{Block}
use Rattle.py_ast.specs.Lawful.{top}
use Rattle.py_lexer.specs.declared.token.Token.{Token}
use Rattle.py_lexer.specs.Cut.{AreTokens}
use Rattle.py_lexer.specs.Cut as lexer
use Rattle.py_layout.specs.declared.line.LogicalLine.{LogicalLine}
use Rattle.py_layout.specs.Layout.{AreLines}
use Rattle.py_layout.specs.Layout as layout
use Rattle.py_grammar.specs.Line as l
use Rattle.py_grammar.specs.Line.{Line, SpellsLine, line_depth}
use Rattle.py_grammar.specs.Blocks.{Placed, Stands, Begins}
use Rattle.py_signs.specs.Signs.{signs_of}
use Rattle.py_signs.specs.Limits.{has_unsupported, is_crowded, has_wide}
use Rattle.py_block.specs.Parsed.{Fault, tokens_of, with_line_ends}

-- ---- logical lines

-- the tokens and the logical lines of a text, in which each `\r\n` and each other `\r` is a line end
pub record Cut (text : List ℕ) : Type 0 where
  pub tokens : List Token
  pub lines : List LogicalLine
  pub are_tokens : AreTokens (with_line_ends text) tokens
  pub are_lines : AreLines (with_line_ends text) tokens lines

-- how deep a line counts: one deeper with statements after a header's colon
abbrev pub counted : ℕ → Line → ℕ
counted deep (l.header h (x ∷ xs)) = deep + 1
counted deep (l.header h []) = deep
counted deep (l.simples xs) = deep

module _ (text : List ℕ) (tokens : List Token) where
  -- a logical line spells a line of the grammar
  abbrev pub Spelled : LogicalLine → Line → Type 0
  Spelled line x = SpellsLine (signs_of (with_line_ends text) (tokens_of tokens line)) x

  -- a logical line has an unsupported token
  abbrev pub IsUnsupported : LogicalLine → Type 0
  IsUnsupported line = has_unsupported (tokens_of tokens line) ≡ true

  -- a logical line is over a limit: of brackets, of a number, of an expression's depth, of its own depth
  pub data IsOver (line : LogicalLine) : Type 0 where
    brackets : is_crowded (with_line_ends text) 0 (tokens_of tokens line) ≡ true → IsOver line
    number : has_wide (with_line_ends text) (tokens_of tokens line) ≡ true → IsOver line
    expression : {x : Line} → Spelled line x → 60 < line_depth x → IsOver line
    stands_deep : 60 < line.depth → IsOver line
    counts_deep : {x : Line} → Spelled line x → 60 < counted line.depth x → IsOver line

  -- logical lines spell lines of the grammar at their depths
  pub data AreSpelled : List LogicalLine → List Placed → Type 0 where
    none : AreSpelled [] []
    and : {line : LogicalLine} {lines : List LogicalLine} {x : Line} {xs : List Placed} → Spelled line x → AreSpelled lines xs
        → AreSpelled (line ∷ lines) (record { deep = line.depth; line = x } ∷ xs)

  -- logical lines begin a cell
  abbrev pub BeginCell : List LogicalLine → Type 0
  BeginCell lines = (xs : List Placed) × AreSpelled lines xs × Begins xs

-- a property holds of no line
abbrev pub HoldsOfNone : (LogicalLine → Type 0) → List LogicalLine → Type 0
HoldsOfNone P [] = Unit {0}
HoldsOfNone P (line ∷ lines) = (P line → ⊥) × HoldsOfNone P lines

-- the first line of which a property holds has this number
pub data IsFirst (P : LogicalLine → Type 0) : List LogicalLine → ℕ → Type 0 where
  here : {line : LogicalLine} {lines : List LogicalLine} → P line → IsFirst P (line ∷ lines) line.line
  later : {line : LogicalLine} {lines : List LogicalLine} {n : ℕ} → (P line → ⊥) → IsFirst P lines n → IsFirst P (line ∷ lines) n

-- the number of the last line, and 0 where there is none
abbrev pub last_number : List LogicalLine → ℕ
last_number [] = 0
last_number (line ∷ []) = line.line
last_number (line ∷ next ∷ lines) = last_number (next ∷ lines)

-- ---- cells

-- no line has an unsupported token or is over a limit
pub record IsPlainCut (text : List ℕ) (c : Cut text) : Type 0 where
  pub supported : HoldsOfNone (IsUnsupported text c.tokens) c.lines
  pub within : HoldsOfNone (IsOver text c.tokens) c.lines

-- the statements of the cell that a text spells
pub record SpellsText (text : List ℕ) (b : Block) : Type 0 where
  pub cut : Cut text
  pub plain : IsPlainCut text cut
  pub lines : List Placed
  pub spelled : AreSpelled text cut.tokens cut.lines lines
  pub stands : Stands top lines b

-- where no cell is spelled: the first line up to which the lines begin none, or the last where they end too early
pub data IsMisplaced (text : List ℕ) (tokens : List Token) (lines : List LogicalLine) : ℕ → Type 0 where
  at : (before : List LogicalLine) (line : LogicalLine) (after : List LogicalLine) → lines ≡ before ++ line ∷ after → BeginCell text tokens before
      → (BeginCell text tokens (before ++ line ∷ []) → ⊥) → IsMisplaced text tokens lines line.line
  too_early : BeginCell text tokens lines → ((xs : List Placed) (b : Block) → AreSpelled text tokens lines xs → Stands top xs b → ⊥)
      → IsMisplaced text tokens lines (last_number lines)

-- What a text is, by the kinds of faults in their order, each for the whole text: a place where no token fits; an indentation that is
-- refused; an unsupported token; a limit; a line that is none or stands where it may not.
abbrev pub IsFault : List ℕ → ℕ → SyntaxKind → Type 0
IsFault text n Lex = lexer.Stops (with_line_ends text) n
IsFault text n Layout = (tokens : List Token) × AreTokens (with_line_ends text) tokens × layout.Stops (with_line_ends text) tokens n
IsFault text n Unsupported = (c : Cut text) × IsFirst (IsUnsupported text c.tokens) c.lines n
IsFault text n Limit = (c : Cut text) × HoldsOfNone (IsUnsupported text c.tokens) c.lines × IsFirst (IsOver text c.tokens) c.lines n
IsFault text n Syntax = (c : Cut text) × IsPlainCut text c × IsMisplaced text c.tokens c.lines n
IsFault text n Scope = ⊥

abbrev pub IsParsed : List ℕ → Result Block Fault → Type 0
IsParsed text (Ok b) = SpellsText text b
IsParsed text (Err fault) = IsFault text fault.0 fault.1
