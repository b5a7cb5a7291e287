-- What the parts of placing a line answer: the plain level that the machine answers, and the same numbers in the same order.
use Rattle.std.specs.Prelude.{◌≡◌, ℕ, Bool, true, false, List, [], ◌∷◌, ◌++◌, Option, Some, None, option_map, Result, Ok, Err}
use Rattle.std.specs.Global.{Vec}
use Rattle.flow_base.specs.declared.no_memory.NoMemory.{NoMemory}
use Rattle.py_ast.specs.Statement.{Statement, view_stmt, block_of}
use Rattle.py_ast.specs.declared.cell.Cell.{Cell}
use Rattle.py_ast.specs.declared.stmt.Stmt.{Stmt}
use Rattle.py_grammar.specs.Blocks.{Placed}
use Rattle.py_grammar.specs.Line.{Header, Line}
use Rattle.py_grammar.specs.Reading.{◌>>=◌}
use Rattle.py_line.specs.Form.{line_of, numbers_of_form, statements_of}
use Rattle.py_line.specs.declared.form.LineForm.{LineForm}
use Rattle.py_block.specs.Machine as m
use Rattle.py_block.specs.Opened.{Opened, placed}
use Rattle.py_block.specs.LevelViews.{after_numbers, after_of, block_numbers, last_numbers, last_of, open_numbers, opened_of, outer_numbers, outer_of, outers_numbers, outers_of, place_of, row_numbers, row_of, state_of, stmt_numbers, waiting_numbers, waiting_of}
use Rattle.py_block.specs.declared.level_parts.After.{After}
use Rattle.py_block.specs.declared.level_parts.Last.{Last}
use Rattle.py_block.specs.declared.level_parts.Last.TheVariants as l
use Rattle.py_block.specs.declared.level_parts.Open.{Open}
use Rattle.py_block.specs.declared.level_parts.Outer.{Outer}
use Rattle.py_block.specs.declared.level_parts.Place.{Place}
use Rattle.py_block.specs.declared.level_parts.Row.{Row}
use Rattle.py_block.specs.declared.level_parts.Waiting.{Waiting}

-- a statement that stands for a plain one, with the numbers of its nodes
abbrev pub IsStatement : Statement → List ℕ → Stmt → Type 0
IsStatement plain ns x = (view_stmt x ≡ plain) × (stmt_numbers x ≡ ns)

-- statements, with one more at their end
abbrev pub IsMore : Vec Stmt → Statement → List ℕ → Vec Stmt → Type 0
IsMore before plain ns after =
    (statements_of after.items ≡ statements_of before.items ++ plain ∷ []) × (block_numbers after.items ≡ block_numbers before.items ++ ns)

-- the last statement of a level, with the numbers of its nodes
abbrev pub IsLast : m.Last → List ℕ → Last → Type 0
IsLast plain ns last = (last_of last ≡ plain) × (last_numbers last ≡ ns)

-- the last statement once the block that it waits for is there
abbrev pub IsFilled : Waiting → List Stmt → Last → Type 0
IsFilled w b = IsLast (m.filled (waiting_of w) (block_of (statements_of b))) (waiting_numbers w ++ block_numbers b)

-- the statements of a level whose last one gets nothing more
abbrev pub IsSettled : Vec Stmt → Last → Option (Vec Stmt) → Type 0
IsSettled done last None = m.settled (statements_of done.items) (last_of last) ≡ None
IsSettled done last (Some d) =
    (m.settled (statements_of done.items) (last_of last) ≡ Some (statements_of d.items)) × (block_numbers d.items ≡ block_numbers done.items ++ last_numbers last)

-- the part of the last statement that a header which goes on with it begins, and no part where the header does not
abbrev pub IsNext : After → Header → List ℕ → Option Waiting → Type 0
IsNext x h ns None = m.goes_on (after_of x) h ≡ None
IsNext x h ns (Some w) = (m.goes_on (after_of x) h ≡ Some (waiting_of w)) × (waiting_numbers w ≡ after_numbers x ++ ns)

abbrev pub IsNextOf : Last → Header → List ℕ → Option Waiting → Type 0
IsNextOf last h ns None = m.goes_on (last_of last) h ≡ None
IsNextOf last h ns (Some w) = (m.goes_on (last_of last) h ≡ Some (waiting_of w)) × (waiting_numbers w ≡ last_numbers last ++ ns)

-- the last statement after a header with statements after its colon
abbrev pub beside : Place → Waiting → List Stmt → Option m.Last
beside p w xs = m.beside (place_of p) (waiting_of w) (statements_of xs)

-- a level, if there is one, with the numbers in it
abbrev pub IsRow : Option m.Row → List ℕ → Option Row → Type 0
IsRow plain ns None = plain ≡ None
IsRow plain ns (Some r) = (plain ≡ Some (row_of r)) × (row_numbers r ≡ ns)

abbrev pub with_last : List Statement → Option m.Last → Option m.Row
with_last done last = option_map (λ n. (done, n)) last

-- a level whose last statement gets a block
abbrev pub IsFilledRow : List Stmt → Waiting → List Stmt → Option Row → Type 0
IsFilledRow done w xs =
    IsRow (Some (statements_of done, m.filled (waiting_of w) (block_of (statements_of xs)))) (block_numbers done ++ (waiting_numbers w ++ block_numbers xs))

-- a level after a header that goes on with its last statement, and after one that begins a statement
abbrev pub IsContinued : Place → List Stmt → Waiting → List Stmt → Option Row → Type 0
IsContinued p done w xs = IsRow (with_last (statements_of done) (beside p w xs)) (block_numbers done ++ (waiting_numbers w ++ block_numbers xs))

abbrev pub GoesOn : Place → List Stmt → Option Waiting → List Stmt → Option Row → Type 0
GoesOn p done None xs r = r ≡ None
GoesOn p done (Some w) xs r = IsContinued p done w xs r

abbrev pub IsBegun : Place → List Stmt → Last → Waiting → List Stmt → Option Row → Type 0
IsBegun p done last w xs =
    IsRow (m.settled (statements_of done) (last_of last) >>= λ d. with_last d (beside p w xs))
    ((block_numbers done ++ last_numbers last) ++ (waiting_numbers w ++ block_numbers xs))

-- a level after a line that stands at it
abbrev pub IsPut : Place → List Stmt → Last → LineForm → Option Row → Type 0
IsPut p done last form =
    IsRow (m.on_line (place_of p) (statements_of done) (last_of last) (line_of form)) ((block_numbers done ++ last_numbers last) ++ numbers_of_form form)

-- a level without a last statement that may get more, behind which simple statements stand
abbrev pub IsJoined : List Stmt → List Stmt → Option Row → Type 0
IsJoined done xs = IsRow (Some (statements_of done ++ statements_of xs, m.nothing)) (block_numbers done ++ block_numbers xs)

-- a level after simple statements that may stand there
abbrev pub with_simples : List Statement → List Statement → m.Row
with_simples xs d = (d ++ xs, m.nothing)

abbrev pub IsSimples : Vec Stmt → Last → List Stmt → Option Row → Type 0
IsSimples done last xs =
    IsRow (option_map (with_simples (statements_of xs)) (m.settled (statements_of done.items) (last_of last)))
    ((block_numbers done.items ++ last_numbers last) ++ block_numbers xs)

-- ---- the open levels

-- the innermost level closed
abbrev pub closed_by : List m.Outer → List Statement → m.Last → Option m.State
closed_by [] done last = None
closed_by (o ∷ os) done last =
    m.settled done last >>= λ d. Some (record { outers = os; place = o.place; done = o.done; last = m.filled o.waiting (block_of d) })

abbrev pub closed : m.State → Option m.State
closed s = closed_by s.outers s.done s.last

abbrev pub IsClosed : Opened → Result Bool NoMemory → Opened → Type 0
IsClosed before (Ok true) after = (closed before.state ≡ Some after.state) × (after.numbers ≡ before.numbers)
IsClosed before (Ok false) after = closed before.state ≡ None
IsClosed before (Err fault) after = Unit {0}

-- a line put at the innermost level
abbrev pub at_level : m.State → Line → Option m.State
at_level s line = option_map (m.with_row s.outers s.place) (m.on_line s.place s.done s.last line)

abbrev pub IsPutAt : Opened → LineForm → Result Bool NoMemory → Opened → Type 0
IsPutAt before form (Ok true) after =
    (at_level before.state (line_of form) ≡ Some after.state) × (after.numbers ≡ before.numbers ++ numbers_of_form form)
IsPutAt before form (Ok false) after = at_level before.state (line_of form) ≡ None
IsPutAt before form (Err fault) after = Unit {0}

abbrev pub down : m.State → Placed → Option m.State
down s x = m.down s.outers s.place s.done s.last x

-- the levels closed down to a depth
abbrev pub IsReached : Opened → ℕ → Result Bool NoMemory → Opened → Type 0
IsReached before deep (Ok true) after =
    ((line : Line) → down before.state (record { deep = deep; line = line }) ≡ at_level after.state line) × (after.numbers ≡ before.numbers)
IsReached before deep (Ok false) after = (line : Line) → down before.state (record { deep = deep; line = line }) ≡ None
IsReached before deep (Err fault) after = Unit {0}

-- a line placed where no block is waited for, or by a step of the machine
abbrev pub IsPlacedBy : (m.State → Placed → Option m.State) → Opened → ℕ → LineForm → Result Bool NoMemory → Opened → Type 0
IsPlacedBy by before deep form (Ok true) after =
    (by before.state (placed deep form) ≡ Some after.state) × (after.numbers ≡ before.numbers ++ numbers_of_form form)
IsPlacedBy by before deep form (Ok false) after = by before.state (placed deep form) ≡ None
IsPlacedBy by before deep form (Err fault) after = Unit {0}

-- the levels closed down to the outermost
abbrev pub IsAllClosed : Open → Result Bool NoMemory → Open → Type 0
IsAllClosed before (Ok true) after =
    (m.accepted (state_of before) ≡ m.accepted (state_of after)) × (after.outers.items ≡ []) × (open_numbers after ≡ open_numbers before)
IsAllClosed before (Ok false) after = m.accepted (state_of before) ≡ None
IsAllClosed before (Err fault) after = Unit {0}

-- the levels with another row as the innermost
abbrev pub with_row : Open → Row → Open
with_row o r = record { outers = o.outers; place = o.place; row = r }

-- a level filled with the block that the level within was
abbrev pub IsRefilled : Open → Outer → List Stmt → Result Bool NoMemory → Open → Type 0
IsRefilled before o b (Ok true) after =
    (after.outers ≡ before.outers) × (after.place ≡ o.place) × (after.row.done ≡ o.done)
    × IsFilled o.waiting b after.row.last
IsRefilled before o b (Ok false) after = ⊥
IsRefilled before o b (Err fault) after = Unit {0}

abbrev pub IsClosedInto : Open → Outer → Result Bool NoMemory → Open → Type 0
IsClosedInto before o (Ok true) after =
    (after.outers ≡ before.outers)
    × (closed_by (outer_of o ∷ outers_of before.outers.items) (statements_of before.row.done.items) (last_of before.row.last) ≡ Some (state_of after))
    × (row_numbers after.row ≡ outer_numbers o ++ row_numbers before.row)
IsClosedInto before o (Ok false) after =
    closed_by (outer_of o ∷ outers_of before.outers.items) (statements_of before.row.done.items) (last_of before.row.last) ≡ None
IsClosedInto before o (Err fault) after = Unit {0}

abbrev pub IsDownBy : Opened → ℕ → LineForm → Result Bool NoMemory → Opened → Type 0
IsDownBy = IsPlacedBy down

abbrev pub IsDown : Open → Row → ℕ → LineForm → Result Bool NoMemory → Opened → Type 0
IsDown before r = IsDownBy (opened_of (with_row before r))

-- the level of a block that is waited for, and the levels round it
abbrev pub IsDeeper : Open → Vec Stmt → Waiting → Opened → Type 0
IsDeeper before done w after =
    (after.state ≡ m.with_row (record { place = place_of before.place; done = statements_of done.items; waiting = waiting_of w } ∷ outers_of before.outers.items)
    (m.place_of (place_of before.place) (waiting_of w)) ([], m.nothing))
    × (after.numbers ≡ outers_numbers before.outers.items ++ (block_numbers done.items ++ waiting_numbers w))

abbrev pub IsEntered : Open → Vec Stmt → Waiting → ℕ → LineForm → Result Bool NoMemory → Opened → Type 0
IsEntered before done w = IsPlacedBy (λ s x. m.enter s (waiting_of w) x) (opened_of (with_row before (record { done = done; last = l.Waits w })))

-- the cell that the outermost level is
abbrev pub IsFinished : Row → Option Cell → Type 0
IsFinished r None = m.settled (statements_of r.done.items) (last_of r.last) ≡ None
IsFinished r (Some c) =
    (m.settled (statements_of r.done.items) (last_of r.last) ≡ Some (statements_of c.statements)) × (block_numbers c.statements ≡ row_numbers r)

abbrev pub IsCell : List Stmt → Option Cell → Type 0
IsCell xs None = ⊥
IsCell xs (Some c) = c.statements ≡ xs
