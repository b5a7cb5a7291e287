-- Lines put into blocks one after another, with a stack of the levels that are open: what one more line makes of them, and the
-- block when no more follow.
use Rattle.std.specs.Prelude.{ℕ, ◌+◌, ◌==◌, Bool, true, if◌then◌else◌, List, [], ◌∷◌, ◌++◌, Option, Some, None, option_map}
use Rattle.std.specs.List.{list_all}
use Rattle.std.specs.Option.{is_some}
use Rattle.py_ast.specs.Tree.{Tree, Trees}
use Rattle.py_ast.specs.Statement as s
use Rattle.py_ast.specs.Statement.{Statement, Block, empty, block_of, branches_of, handlers_of}
use Rattle.py_ast.specs.Lawful as place
use Rattle.py_ast.specs.Lawful.{Place, inner, top}
use Rattle.py_grammar.specs.Line as l
use Rattle.py_grammar.specs.Line.{Line, Header}
use Rattle.py_grammar.specs.Blocks.{Placed, is_allowed}
use Rattle.py_grammar.specs.Reading.{◌>>=◌, on}

-- a test with its block, and an `except` clause: its class, the name after `as`, and its block
abbrev pub Branch : Type 0
Branch = Tree × Block

abbrev pub Clause : Type 0
Clause = Option Tree × Option (List ℕ) × Block

-- a part of a statement whose block comes next, with the parts before it
pub data Waiting : Type 0 where
  if_body : List Branch → Tree → Waiting
  if_else : List Branch → Waiting
  while_body : Tree → Waiting
  while_else : Tree → Block → Waiting
  for_body : Tree → Tree → Waiting
  for_else : Tree → Tree → Block → Waiting
  try_body : Waiting
  except_body : Block → List Clause → Option Tree → Option (List ℕ) → Waiting
  try_else : Block → List Clause → Waiting
  finally_body : Block → List Clause → Block → Waiting
  def_body : List ℕ → List (List ℕ) → Trees → Waiting
  class_body : List ℕ → Option Tree → Waiting

-- the last statement of a level, with what it may still get
pub data Last : Type 0 where
  nothing : Last
  whole : Statement → Last
  after_if : List Branch → Last
  after_while : Tree → Block → Last
  after_for : Tree → Tree → Block → Last
  after_try : Block → Last
  -- whether a further `except` may follow
  after_except : Block → List Clause → Bool → Last
  after_else : Block → List Clause → Block → Last
  waits : Waiting → Last

-- the place of the block
abbrev pub place_of : Place → Waiting → Place
place_of p (while_body test) = place.loop_body p
place_of p (for_body target a) = place.loop_body p
place_of p (def_body x names defaults) = place.def_body p
place_of p (class_body x base) = place.class_body p
place_of p _ = inner p

-- the statement once its block is there
abbrev pub filled : Waiting → Block → Last
filled (if_body bs test) b = after_if (bs ++ (test, b) ∷ [])
filled (if_else bs) b = whole (s.choose (branches_of bs) b)
filled (while_body test) b = after_while test b
filled (while_else test body) b = whole (s.while test body b)
filled (for_body target a) b = after_for target a b
filled (for_else target a body) b = whole (s.for target a body b)
filled try_body b = after_try b
filled (except_body body hs class x) b = after_except body (hs ++ (class, x, b) ∷ []) (is_some class)
filled (try_else body hs) b = after_else body hs b
filled (finally_body body hs otherwise) b = whole (s.try body (handlers_of hs) otherwise b)
filled (def_body x names defaults) b = whole (s.define x names defaults b)
filled (class_body x base) b = whole (s.class x base b)

-- the statements of a level whose last one gets nothing more
abbrev pub settled : List Statement → Last → Option (List Statement)
settled done nothing = Some done
settled done (whole x) = Some (done ++ x ∷ [])
settled done (after_if bs) = Some (done ++ s.choose (branches_of bs) empty ∷ [])
settled done (after_while test body) = Some (done ++ s.while test body empty ∷ [])
settled done (after_for target a body) = Some (done ++ s.for target a body empty ∷ [])
settled done (after_try body) = None
settled done (after_except body hs more) = Some (done ++ s.try body (handlers_of hs) empty empty ∷ [])
settled done (after_else body hs otherwise) = Some (done ++ s.try body (handlers_of hs) otherwise empty ∷ [])
settled done (waits w) = None

-- a header that goes on with the last statement
abbrev pub goes_on : Last → Header → Option Waiting
goes_on (after_if bs) (l.elif test) = Some (if_body bs test)
goes_on (after_if bs) l.else = Some (if_else bs)
goes_on (after_while test body) l.else = Some (while_else test body)
goes_on (after_for target a body) l.else = Some (for_else target a body)
goes_on (after_try body) (l.except class x) = Some (except_body body [] class x)
goes_on (after_try body) l.finally = Some (finally_body body [] empty)
goes_on (after_except body hs true) (l.except class x) = Some (except_body body hs class x)
goes_on (after_except body hs more) l.else = Some (try_else body hs)
goes_on (after_except body hs more) l.finally = Some (finally_body body hs empty)
goes_on (after_else body hs otherwise) l.finally = Some (finally_body body hs otherwise)
goes_on _ _ = None

-- a header that begins a statement
abbrev pub starts : Header → Option Waiting
starts (l.if test) = Some (if_body [] test)
starts (l.while test) = Some (while_body test)
starts (l.for target a) = Some (for_body target a)
starts l.try = Some try_body
starts (l.define x names defaults) = Some (def_body x names defaults)
starts (l.class x base) = Some (class_body x base)
starts _ = None

-- the last statement after a header and the statements after its colon
abbrev pub beside : Place → Waiting → List Statement → Option Last
beside p w [] = Some (waits w)
beside p w (x ∷ xs) = if list_all (is_allowed (place_of p w)) (x ∷ xs) then Some (filled w (block_of (x ∷ xs))) else None

-- a level's statements but the last, and the last
abbrev pub Row : Type 0
Row = List Statement × Last

abbrev pub new_statement : Place → List Statement → Last → Header → List Statement → Option Row
new_statement p done last h xs = starts h >>= λ w. settled done last >>= λ d. option_map (λ n. (d, n)) (beside p w xs)

abbrev pub on_header : Place → List Statement → Last → Header → List Statement → Option Row
on_header p done last h xs = on (goes_on last h) (new_statement p done last h xs) (λ w. option_map (λ n. (done, n)) (beside p w xs))

abbrev pub on_simples : Place → List Statement → Last → List Statement → Option Row
on_simples p done last [] = None
on_simples p done last (x ∷ xs) = if list_all (is_allowed p) (x ∷ xs) then option_map (λ d. (d ++ x ∷ xs, nothing)) (settled done last) else None

-- a level after a line that stands at it
abbrev pub on_line : Place → List Statement → Last → Line → Option Row
on_line p done last (l.simples xs) = on_simples p done last xs
on_line p done last (l.header h xs) = on_header p done last h xs

-- a level round the innermost: its statements, and the part of the last that waits for the block of the level within
pub record Outer : Type 0 where
  pub place : Place
  pub done : List Statement
  pub waiting : Waiting

-- the levels round the innermost, from within, and the innermost
pub record State : Type 0 where
  pub outers : List Outer
  pub place : Place
  pub done : List Statement
  pub last : Last

abbrev pub start : State
start = record { outers = []; place = top; done = []; last = nothing }

abbrev pub with_row : List Outer → Place → Row → State
with_row os p r = record { outers = os; place = p; done = r.0; last = r.1 }

-- a line where no block is waited for: it stands at an open level, and those within are closed
abbrev pub down : List Outer → Place → List Statement → Last → Placed → Option State
down [] p done last x = if x.deep == p.deep then option_map (with_row [] p) (on_line p done last x.line) else None
down (o ∷ os) p done last x =
    if x.deep == p.deep then option_map (with_row (o ∷ os) p) (on_line p done last x.line) else
    (settled done last >>= λ d. down os o.place o.done (filled o.waiting (block_of d)) x)

-- a line that is the first of the block that is waited for
abbrev pub enter : State → Waiting → Placed → Option State
enter s w x =
    if x.deep == (place_of s.place w).deep
    then option_map (with_row (record { place = s.place; done = s.done; waiting = w } ∷ s.outers) (place_of s.place w)) (on_line (place_of s.place w) [] nothing x.line)
    else None

abbrev pub waiting_of : Last → Option Waiting
waiting_of (waits w) = Some w
waiting_of _ = None

-- one line more
abbrev pub step : State → Placed → Option State
step s x = on (waiting_of s.last) (down s.outers s.place s.done s.last x) (λ w. enter s w x)

-- lines one after another
abbrev pub run : State → List Placed → Option State
run s [] = Some s
run s (x ∷ xs) = step s x >>= λ next. run next xs

-- the block when no more lines follow
abbrev pub ended : List Outer → List Statement → Last → Option Block
ended [] done last = option_map block_of (settled done last)
ended (o ∷ os) done last = settled done last >>= λ d. ended os o.done (filled o.waiting (block_of d))

abbrev pub accepted : State → Option Block
accepted s = ended s.outers s.done s.last

-- the block that lines are, if they are one
abbrev pub block_read : List Placed → Option Block
block_read lines = run start lines >>= accepted
