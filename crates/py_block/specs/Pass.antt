-- What the parts of the parser answer: to a text, to one line of it, and to one line after another.
use Rattle.std.specs.Prelude.{◌≡◌, ◌<◌, ◌≤◌, ◌^◌, ℕ, ◌+◌, ◌-◌, List, [], ◌∷◌, ◌++◌, Bool, true, false, Option, Some, None, Result, Ok, Err}
use Rattle.flow_base.specs.declared.kinds.SyntaxKind.TheVariants.{Limit, Syntax}
use Rattle.py_ast.specs.Nodes.{IsNumbered, count_from}
use Rattle.py_ast.specs.Statement.{Statement, Block, view_cell}
use Rattle.py_ast.specs.declared.cell.Cell.{Cell}
use Rattle.py_lexer.specs.declared.token.Token.{Token}
use Rattle.py_layout.specs.declared.line.LogicalLine.{LogicalLine}
use Rattle.py_line.specs.Answer.{IsCounted}
use Rattle.py_line.specs.Form.{line_of, numbers_of_form}
use Rattle.py_grammar.specs.Line.{Line}
use Rattle.py_line.specs.Numbers.{size_of_block}
use Rattle.py_line.specs.declared.line.LineRead.{LineRead}
use Rattle.py_block.specs.Machine.{step}
use Rattle.py_block.specs.Opened.{Opened, placed, start}
use Rattle.py_block.specs.Parsed.{Fault, Told, told, tokens_of, a_line, no_line, depth_of, is_over, next_of, blocks}
use Rattle.py_block.specs.NodeLines.{nodes_in}
use Rattle.py_block.specs.declared.fault.SyntaxFault.{SyntaxFault}
use Rattle.py_block.specs.declared.fault.SyntaxFault.TheVariants.{At, NoMemory}
use Rattle.py_block.specs.declared.stage.Stage.{Stage}
use Rattle.py_block.specs.declared.stage.Stage.TheVariants.{Open, Misplaced}

-- the cell of a block, with its nodes numbered, or the fault
abbrev pub Answers : Result Block Fault → Result Cell SyntaxFault → Type 0
Answers r (Ok c) = (r ≡ Ok (view_cell c)) × IsNumbered c
Answers r (Err (At line kind)) = r ≡ Err (line, kind)
Answers r (Err NoMemory) = Unit {0}

-- a line's tokens are among so many
abbrev pub IsWithin : ℕ → LogicalLine → Type 0
IsWithin n line = (line.first ≤ line.end) × (line.end ≤ n)

-- ---- one line

abbrev pub is_filled : List Statement → Bool
is_filled [] = false
is_filled (x ∷ xs) = true

-- a line that was read is kept unless it counts too deep
abbrev pub IsKept : LogicalLine → LineRead → Result (Option LineRead) SyntaxFault → Type 0
IsKept line read (Ok kept) = (kept ≡ Some read) × (depth_of line.depth (a_line (line_of read.form)) ≤ 60)
IsKept line read (Err fault) = (fault ≡ At line.line Limit) × (60 < depth_of line.depth (a_line (line_of read.form)))

module _ (text : List ℕ) (tokens : List Token) (line : LogicalLine) where
  -- a line within the limits has a form, with its nodes numbered from the first on
  pub record IsLine (first : ℕ) (read : LineRead) : Type 0 where
    pub within : is_over (told text tokens line) ≡ false
    pub is : (told text tokens line).form ≡ a_line (line_of read.form)
    pub counted : IsCounted text (tokens_of tokens line) first read.form read.next

  -- what is read of a line within the limits: its form, or that it is none
  abbrev pub IsRead : ℕ → Option LineRead → Type 0
  IsRead first (Some read) = IsLine first read
  IsRead first None = (is_over (told text tokens line) ≡ false) × ((told text tokens line).form ≡ no_line)

  -- a line is over a limit
  abbrev pub IsLimit : SyntaxFault → Type 0
  IsLimit (At number kind) = (is_over (told text tokens line) ≡ true) × (number ≡ line.line) × (kind ≡ Limit)
  IsLimit NoMemory = Unit {0}

  abbrev pub IsReadOrLimit : ℕ → Result (Option LineRead) SyntaxFault → Type 0
  IsReadOrLimit first (Ok read) = IsRead first read
  IsReadOrLimit first (Err fault) = IsLimit fault

-- ---- one line after another

-- no line was read
abbrev pub IsNew : Stage → Type 0
IsNew (Open levels next) = (levels ≡ start) × (next ≡ 1)
IsNew (Misplaced line) = ⊥

-- the number that the next node gets
abbrev pub next_number : Stage → ℕ
next_number (Open levels next) = next
next_number (Misplaced line) = 1

-- the nodes in the levels, fewer than 2^32, hold the numbers from 1 on
pub record AreFromOne (o : Opened) : Type 0 where
  pub count : ℕ
  pub numbers : o.numbers ≡ count_from 1 count
  pub few : count < 2 ^ 32

abbrev pub AreCounted : Stage → Type 0
AreCounted (Open levels next) = AreFromOne levels
AreCounted (Misplaced line) = Unit {0}

-- what is read of a line is placed in the levels
pub record IsPlacedIn (line : LogicalLine) (read : LineRead) (before after : Opened) (next : ℕ) : Type 0 where
  pub stands : step before.state (placed line.depth read.form) ≡ Some after.state
  pub numbers : after.numbers ≡ before.numbers ++ numbers_of_form read.form
  pub follows : next ≡ read.next

-- or the line may not stand there
abbrev pub IsPlacedOrNot : LogicalLine → LineRead → Opened → Stage → Type 0
IsPlacedOrNot line read before (Open after next) = IsPlacedIn line read before after next
IsPlacedOrNot line read before (Misplaced number) = (step before.state (placed line.depth read.form) ≡ None) × (number ≡ line.line)

abbrev pub IsWithOpen : LogicalLine → Opened → Option LineRead → Stage → Type 0
IsWithOpen line before None after = after ≡ Misplaced line.line
IsWithOpen line before (Some read) after = IsPlacedOrNot line read before after

-- what was read so far after one line more: the first line that may not stand where it does is kept
abbrev pub IsWith : LogicalLine → Stage → Option LineRead → Stage → Type 0
IsWith line (Misplaced first) read after = after ≡ Misplaced first
IsWith line (Open before n) read after = IsWithOpen line before read after

-- the same by what the line is told to be
pub record IsNext (x : Told) (before : Opened) (first : ℕ) (after : Opened) (next : ℕ) : Type 0 where
  pub stands : next_of before.state x ≡ Some after.state
  pub numbers : after.numbers ≡ before.numbers ++ count_from first (nodes_in x.form)
  pub follows : next ≡ first + nodes_in x.form

abbrev pub Goes : Told → Stage → Stage → Type 0
Goes x (Open before first) (Open after next) = IsNext x before first after next
Goes x (Open before first) (Misplaced number) = (next_of before.state x ≡ None) × (number ≡ x.number)
Goes x (Misplaced first) after = after ≡ Misplaced first

module _ (text : List ℕ) (tokens : List Token) (line : LogicalLine) where
  -- a line within the limits, of few nodes, was taken
  pub record IsTaken (before after : Stage) : Type 0 where
    pub within : is_over (told text tokens line) ≡ false
    pub goes : Goes (told text tokens line) before after
    pub few : next_number after ≤ next_number before + (line.end - line.first) + 1

  abbrev pub IsTakenOrLimit : Stage → Result Stage SyntaxFault → Type 0
  IsTakenOrLimit before (Ok after) = IsTaken before after
  IsTakenOrLimit before (Err fault) = IsLimit text tokens line fault

-- what is answered when no more lines follow the last
abbrev pub Ends : ℕ → Stage → Result Cell SyntaxFault → Type 0
Ends last (Open levels next) r = Answers (blocks last levels.state []) r
Ends last (Misplaced line) r = Answers (Err (line, Syntax)) r

-- ---- a node of a text

-- a block is spelled that has a node of this number
pub record HasNodeIn (r : Result Block Fault) (node : ℕ) : Type 0 where
  pub block : Block
  pub is : r ≡ Ok block
  pub from_one : 1 ≤ node
  pub within : node ≤ size_of_block block

-- a logical line is a line of the grammar within the limits
pub record IsLineOfForm (x : Told) : Type 0 where
  pub line : Line
  pub is : x.form ≡ a_line line
