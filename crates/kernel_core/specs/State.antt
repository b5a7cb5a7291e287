-- What a session has come to, as a function of what was accepted.
use Rattle.std.specs.Prelude.{ℕ, List, [], ◌∷◌, ◌++◌, fold, Option, Some, None, Result, Ok, Err}
use Rattle.std.specs.FinMap as map
use Rattle.flow_base.specs.Names.{with_name}
use Rattle.py_accepted.specs.Accepted.{cell_of}
use Rattle.py_ast.specs.Statement.{Block}
use Rattle.py_block.specs.Parsed.{Fault}
use Rattle.plain_cells.specs.Run.{run_of}
use Rattle.trace_events.specs.Trace.{summary_of}
use Rattle.kernel_core.specs.declared.accepted.Accepted.{Accepted}
use Rattle.kernel_core.specs.declared.accepted.Accepted.TheVariants.{Edit, Run}
use Rattle.kernel_core.specs.declared.state.State.{State}
use Rattle.kernel_core.specs.Program.{names_of, program_in, program_of}

abbrev pub empty_state : State
empty_state = record { cells = map.empty; names = []; values = map.empty; runs = []; versions = [] }

-- ---- an edit

abbrev pub with_names : List (List ℕ) → List (List ℕ) → List (List ℕ)
with_names table names = fold with_name table names

-- the cell has the text, and the names are known of what it runs
abbrev pub put_text : State → List ℕ → List ℕ → Option Block → State
put_text s cell text program = record s {
  cells = map.insert s.cells cell text;
  names = with_names s.names (names_of program);
}

-- a text that is refused keeps the old one
abbrev pub edited : State → List ℕ → List ℕ → Result Block Fault → State
edited s cell text (Err fault) = s
edited s cell text (Ok b) = put_text s cell text (program_in (Ok b))

-- ---- a run

abbrev pub ran_program : State → List ℕ → ℕ → List ℕ → Option Block → State
ran_program s cell steps text None = s
ran_program s cell steps text (Some b) = let outcome = run_of s.names s.values steps b in record s {
  values = outcome.1.values;
  runs = s.runs ++ (record { cell = cell; text = text; steps = steps; end = outcome.0 }) ∷ [];
  versions = s.versions ++ summary_of outcome.1.events ∷ [];
}

abbrev pub ran : State → List ℕ → ℕ → Option (List ℕ) → State
ran s cell steps None = s
ran s cell steps (Some text) = ran_program s cell steps text (program_of text)

-- ---- all that was accepted

abbrev pub after : State → Accepted → State
after s (Edit cell text) = edited s cell text (cell_of text)
after s (Run cell steps) = ran s cell steps (map.get s.cells cell)

abbrev pub state_of : List Accepted → State
state_of log = fold after empty_state log
