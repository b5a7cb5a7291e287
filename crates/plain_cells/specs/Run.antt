-- What a run of a plain cell means. A value is a whole number that an i128 holds. Each statement and each part of an expression takes one of
-- the run's steps when it begins, a whole before its parts; where no step is left, the run ends at once.
use Rattle.std.specs.Prelude.{◌≡◌, ℕ, zero, suc, ℤ, pos, ◌+ℤ◌, List, [], ◌∷◌, ◌++◌, if◌then◌else◌, Option, Some, None, option_and_then, Result, Ok, Err}
use Rattle.std.specs.Ordering.{nat_cmp}
use Rattle.std.specs.FinMap as map
use Rattle.flow_base.specs.Names.{symbol_of}
use Rattle.flow_base.specs.declared.event.Event.{Event}
use Rattle.flow_base.specs.declared.event.Event.TheVariants.{Use, Write, Open, Close}
use Rattle.flow_base.specs.declared.event.How.TheVariants.{Normal, Raise}
use Rattle.flow_base.specs.declared.loc.Loc.{Loc}
use Rattle.flow_base.specs.declared.loc.Loc.TheVariants.{Name as at_name}
use Rattle.flow_base.specs.declared.numbers.Sym.{Sym}
use Rattle.py_ast.specs.Statement.{Statement, Block, empty, then as before}
use Rattle.py_ast.specs.Tree as tree
use Rattle.py_ast.specs.Tree.{Tree}
use Rattle.py_ast.specs.declared.expr.BinaryOp.TheVariants.{Add}
use Rattle.py_scalars.specs.Exact.{fits}
use Rattle.plain_cells.specs.Plain.{assigned}
use Rattle.plain_cells.specs.declared.machine.End.{End}
use Rattle.plain_cells.specs.declared.machine.End.TheVariants.{Done, NameError, Steps, Range}
use Rattle.plain_cells.specs.declared.machine.Machine.{Machine}
use Rattle.plain_cells.specs.declared.machine.Stop.{Stop}
use Rattle.plain_cells.specs.declared.machine.Stop.TheVariants.{Ended, NoMemory}

-- ---- what a part of a run does

-- what it gives, or how it ends the run; and the machine after it: the steps that are left, the value of each name that has one, by
-- its symbol, and the events so far
abbrev pub Outcome : Type 0 → Type 0
Outcome A = Result A End × Machine

abbrev pub M : Type 0 → Type 0
M A = Machine → Outcome A

abbrev pub go_on : {A B : Type 0} → Result A End → Machine → (A → M B) → Outcome B
go_on (Ok a) m f = f a m
go_on (Err end) m f = (Err end, m)

infixl 10 ◌>>=◌
abbrev pub ◌>>=◌ : {A B : Type 0} → M A → (A → M B) → M B
p >>= f = λ m. go_on (p m).0 (p m).1 f

infixl 10 ◌>>◌
abbrev pub ◌>>◌ : {A B : Type 0} → M A → M B → M B
p >> q = p >>= (λ _. q)

abbrev pub pure : {A : Type 0} → A → M A
pure a = λ m. (Ok a, m)

abbrev pub logged : Event → Machine → Machine
logged event m = record m { events = m.events ++ event ∷ [] }

unfoldable pub log : Event → M (Unit {0})
log event m = (Ok tt, logged event m)

abbrev pub take_step : ℕ → M (Unit {0})
take_step zero m = (Err Steps, m)
take_step (suc n) m = (Ok tt, record m { left = n })

-- one step, or the end of the run where none is left
unfoldable pub step : M (Unit {0})
step m = take_step m.left m

-- ---- names

abbrev pub Values : Type 0
Values = map.FinMap nat_cmp ℤ

-- a name is a location of the global frame, which is object 0
abbrev pub global : Sym → Loc
global s = at_name (record { 0 = 0 }) s

abbrev pub logged_at : (Loc → Event) → Option Sym → Machine → Machine
logged_at event None m = m
logged_at event (Some s) m = logged (event (global s)) m

abbrev pub value_of : List (List ℕ) → Values → List ℕ → Option ℤ
value_of names values x = option_and_then (λ s. map.get values s.0) (symbol_of names x)

-- a name without a value is an error
abbrev pub found : Option ℤ → M ℤ
found None m = (Err NameError, m)
found (Some v) m = (Ok v, m)

-- the value of a name, which is used
unfoldable pub load : List (List ℕ) → List ℕ → M ℤ
load names x m = found (value_of names m.values x) (logged_at Use (symbol_of names x) m)

abbrev pub with_value : Option Sym → ℤ → Values → Values
with_value None v values = values
with_value (Some s) v values = map.insert values s.0 v

unfoldable pub store : List (List ℕ) → List ℕ → ℤ → M (Unit {0})
store names x v m = (Ok tt, logged_at Write (symbol_of names x) (record m { values = with_value (symbol_of names x) v m.values }))

-- ---- expressions

-- a number that an i128 does not hold ends the run at once
unfoldable pub whole : ℤ → M ℤ
whole n m = if fits n then (Ok n, m) else (Err Range, m)

-- of the expressions of a cell that is run, which have no other form
abbrev pub eval : List (List ℕ) → Tree → M ℤ
eval names (tree.name x) = step >> load names x
eval names (tree.number n) = step >> pure n
eval names (tree.binary a Add b) = step >> (eval names a >>= λ x. eval names b >>= λ y. whole (x +ℤ y))
eval names _ = pure (pos 0)

-- ---- statements

-- a statement ends normally or with an error; a run that ends for another reason ends without an event
abbrev pub closed : {A : Type 0} → Result A End → M A
closed (Ok a) m = (Ok a, logged (Close Normal) m)
closed (Err NameError) m = (Err NameError, logged (Close Raise) m)
closed (Err Done) m = (Err Done, m)
closed (Err Steps) m = (Err Steps, m)
closed (Err Range) m = (Err Range, m)

unfoldable pub closing : {A : Type 0} → M A → M A
closing p m = closed (p m).0 (p m).1

-- the value of the expression becomes that of the name
abbrev pub bind : List (List ℕ) → List ℕ × Tree → M (Unit {0})
bind names p = eval names p.1 >>= store names p.0

abbrev pub assign : List (List ℕ) → Option (List ℕ × Tree) → M (Unit {0})
assign names None = pure tt
assign names (Some p) = step >> (log Open >> closing (bind names p))

-- of a statement of the form `NAME = E`; a cell that is run has no other
abbrev pub exec : List (List ℕ) → Statement → M (Unit {0})
exec names s = assign names (assigned s)

abbrev pub exec_all : List (List ℕ) → Block → M (Unit {0})
exec_all names empty = pure tt
exec_all names (before s b) = exec names s >> exec_all names b

-- ---- a run

abbrev pub end_of : {A : Type 0} → Result A End → End
end_of (Ok a) = Done
end_of (Err end) = end

-- before a run that has so many steps
abbrev pub start : Values → ℕ → Machine
start values steps = record { left = steps; values = values; events = [] }

-- how a run of the block ends that has so many steps, and the machine after it; what was written before the end stays
unfoldable pub run_of : List (List ℕ) → Values → ℕ → Block → End × Machine
run_of names values steps b = let outcome = exec_all names b (start values steps) in (end_of outcome.0, outcome.1)

abbrev pub events_from : List (List ℕ) → Values → ℕ → Block → List Event
events_from names values steps b = (run_of names values steps b).1.events

-- ---- what a function ensures: the outcome, unless memory is wanting

abbrev pub Runs : {A : Type 0} → Outcome A → Result A Stop → Machine → Type 0
Runs outcome (Ok a) new = outcome ≡ (Ok a, new)
Runs outcome (Err (Ended end)) new = outcome ≡ (Err end, new)
Runs outcome (Err NoMemory) new = Unit {0}
