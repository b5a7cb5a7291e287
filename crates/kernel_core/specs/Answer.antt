-- The reply to an ask, and the kernel after it. A refusal leaves the kernel as it was.
use Rattle.std.specs.Prelude.{ℕ, ◌+◌, List, [], length, nat_le, if◌then◌else◌, codes, Option, Some, None, Result, Ok, Err, unwrap_or}
use Rattle.std.specs.FinMap as map
use Rattle.flow_wire.specs.declared.ask.Ask.{Ask}
use Rattle.flow_wire.specs.declared.ask.Ask.TheVariants as ask
use Rattle.flow_wire.specs.declared.reply.EndText.{EndText}
use Rattle.flow_wire.specs.declared.reply.EndText.TheVariants as told
use Rattle.flow_wire.specs.declared.reply.Reply.{Reply}
use Rattle.flow_wire.specs.declared.reply.Reply.TheVariants.{Edited, Ran, Shown, NoCell, BadSteps, Form, Syntax}
use Rattle.py_accepted.specs.Accepted.{cell_of}
use Rattle.py_ast.specs.Statement.{Block}
use Rattle.py_block.specs.Parsed.{Fault}
use Rattle.py_print.specs.Printed.{printed}
use Rattle.plain_cells.specs.declared.machine.End.{End}
use Rattle.plain_cells.specs.declared.machine.End.TheVariants as end
use Rattle.plain_cells.specs.Run.{events_from, run_of}
use Rattle.kernel_core.specs.declared.accepted.Accepted.TheVariants as accepted
use Rattle.kernel_core.specs.declared.kernel.TheConstants.{STEPS_LIMIT}
use Rattle.kernel_core.specs.declared.state.State.{State}
use Rattle.kernel_core.specs.Lineage.{mark_of, stale_paths}
use Rattle.kernel_core.specs.Program.{program_of}
use Rattle.kernel_core.specs.State.{state_of}
use Rattle.kernel_core.specs.Kernel.{Held, accepts}

pub record Answer : Type 0 where
  pub reply : Reply
  pub kernel : Held

-- ---- edit

abbrev pub edit_answer : Held → List ℕ → List ℕ → Result Block Fault → Answer
edit_answer k cell text (Ok b) = record { reply = Edited cell; kernel = accepts k (accepted.Edit cell text) }
edit_answer k cell text (Err fault) = record { reply = Syntax fault.1 fault.0; kernel = k }

-- ---- run

abbrev pub end_text : End → EndText
end_text end.Done = told.Ok
end_text end.NameError = told.Raised (codes "NameError")
end_text end.Steps = told.Steps
end_text end.Range = told.Range

-- the reply to a run in this state: how it ends, and by the history before it, its mark and the stale names that it uses
abbrev pub run_reply : State → List ℕ → ℕ → Block → Reply
run_reply s cell steps b =
    Ran cell (end_text (run_of s.names s.values steps b).0) (mark_of s.names s.versions b) [] (length s.runs + 1)
    (stale_paths s.names s.versions (events_from s.names s.values steps b))

-- the steps that a line names, or those of a run that names none
abbrev pub allowance : ℕ → Option ℕ → ℕ
allowance steps named = unwrap_or named steps

-- a cell that is not plain is not run
abbrev pub program_answer : Held → List ℕ → ℕ → Option Block → Answer
program_answer k cell steps None = record { reply = Form; kernel = k }
program_answer k cell steps (Some b) = record { reply = run_reply (state_of k.log) cell steps b; kernel = accepts k (accepted.Run cell steps) }

-- the refusals in their order
abbrev pub run_answer : Held → List ℕ → ℕ → Option (List ℕ) → Answer
run_answer k cell steps None = record { reply = NoCell; kernel = k }
run_answer k cell steps (Some text) =
    if nat_le steps STEPS_LIMIT then program_answer k cell steps (program_of text) else record { reply = BadSteps; kernel = k }

-- ---- show

-- the cell as it is printed; an accepted text has no fault
abbrev pub shown : List ℕ → Result Block Fault → Reply
shown cell (Ok b) = Shown cell (printed b)
shown cell (Err fault) = NoCell

abbrev pub show_reply : List ℕ → Option (List ℕ) → Reply
show_reply cell None = NoCell
show_reply cell (Some text) = shown cell (cell_of text)

-- ---- an ask

abbrev pub answer_of : Held → Ask → Answer
answer_of k (ask.Edit cell text) = edit_answer k cell text (cell_of text)
answer_of k (ask.Run cell steps) = run_answer k cell (allowance k.steps steps) (map.get (state_of k.log).cells cell)
answer_of k (ask.Show cell) = record { reply = show_reply cell (map.get (state_of k.log).cells cell); kernel = k }
