-- What is read from a state on.
use Rattle.std.specs.Prelude.{◌≡◌, ℕ, ◌+◌, ◌-◌, ◌*◌, ◌<◌, List, [], ◌∷◌, ◌++◌, length, Option, Some, None, Result, Ok, Err}
use Rattle.py_grammar.specs.declared.sign.Sign.{Sign}
use Rattle.py_line.specs.declared.frame.Rung.{Rung}
use Rattle.py_line.specs.declared.frame.Frame.{Frame}
use Rattle.py_line.specs.declared.fault.ReadFault.{ReadFault}
use Rattle.py_line.specs.declared.state.Waiting.{Waiting}
use Rattle.py_line.specs.declared.state.State.{State}
use Rattle.py_line.specs.declared.state.State.TheVariants.{Before, Between, After}
use Rattle.py_line.specs.declared.phrase.Step.{Step}
use Rattle.py_line.specs.declared.phrase.Step.TheVariants.{More, Done}
use Rattle.py_line.specs.Gives.{Fails}
use Rattle.py_line.specs.Views.{kept_of, params_of}
use Rattle.py_line.specs.Waiting.{Read, rank, before, between, after}

abbrev pub goal_of : Waiting → Rung
goal_of w = w.goal

abbrev pub all_waiting : Waiting → List Frame
all_waiting w = w.frames.items

-- some that wait and maybe one more
abbrev pub with_last : List Frame → Option Frame → List Frame
with_last fs None = fs
with_last fs (Some x) = fs ++ x ∷ []

abbrev pub read_from : State → List Sign → Option Read
read_from (Before w) tokens = before w.goal w.frames.items tokens
read_from (Between w s) tokens = between w.goal w.frames.items (params_of s, tokens)
read_from (After w l a) tokens = after w.goal w.frames.items l (kept_of a, tokens)

-- what gets less by each step
abbrev pub size : State → List Sign → ℕ
size (Before w) tokens = 32 * length tokens + 16 * length w.frames.items + 12
size (Between w s) tokens = 32 * length tokens + 16 * length w.frames.items + 12
size (After w l a) tokens = 32 * length tokens + 16 * length w.frames.items + (11 - rank l)

-- the same of a step, which may be the last
abbrev pub read_on : Step → List Sign → Option Read
read_on (More state) rest = read_from state rest
read_on (Done a) rest = Some (kept_of a, rest)

abbrev pub size_on : Step → List Sign → ℕ
size_on (More state) rest = size state rest
size_on (Done a) rest = 0

-- what is answered is what this is read from, or a fault
abbrev pub Reads : {X : Type 0} → (X → Option Read) → Result X ReadFault → Option Read → Type 0
Reads from (Ok s) read = read ≡ from s
Reads from (Err fault) read = Fails fault read

abbrev pub IsLess : {X : Type 0} → (X → ℕ) → Result X ReadFault → ℕ → Type 0
IsLess measure (Ok s) n = measure s < n
IsLess measure (Err fault) n = Unit {0}
