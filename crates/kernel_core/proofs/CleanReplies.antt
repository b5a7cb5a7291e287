-- A reply that says `clean` keeps what that promises.
use Rattle.std.proofs.Common.{◌≡◌, ◌∙◌, ℕ, ◌+◌, Bool, true, false, cond, List, [], ◌∷◌, ◌++◌, length, refl, sym, subst, ap, arith, length-append}
use Rattle.std.specs.Prelude.{Option, Some, None, Result, Ok, Err, nat_le}
use Rattle.std.specs.List.{fold}
use Rattle.std.specs.FinMap as map
use Rattle.flow_wire.specs.declared.ask.Ask.{Ask}
use Rattle.flow_wire.specs.declared.ask.Ask.TheVariants as ask
use Rattle.flow_wire.specs.declared.reply.Reply.TheVariants.{BadSteps}
use Rattle.flow_base.specs.declared.event.Event.{Event}
use Rattle.py_accepted.specs.Accepted.{cell_of}
use Rattle.py_ast.specs.Statement.{Block}
use Rattle.py_block.specs.Parsed.{Fault}
use Rattle.plain_cells.specs.Run.{events_from}
use Rattle.kernel_core.specs.declared.accepted.Accepted.{Accepted}
use Rattle.kernel_core.specs.declared.accepted.Accepted.TheVariants.{Edit, Run}
use Rattle.kernel_core.specs.declared.kernel.TheConstants.{STEPS_LIMIT}
use Rattle.kernel_core.specs.declared.state.State.{State}
use Rattle.kernel_core.specs.Answer.{Answer, allowance, answer_of, edit_answer, program_answer, run_answer, run_reply, show_reply, shown}
use Rattle.kernel_core.specs.Clean.{HasNoStaleUse, KeepsClean, LeavesNoStale, events_of, events_of_program, events_of_text}
use Rattle.kernel_core.specs.Kernel.{Held}
use Rattle.kernel_core.specs.Program.{program_of}
use Rattle.kernel_core.specs.State.{after, edited, empty_state, ran, ran_program, state_of}
use Rattle.kernel_core.proofs.CleanRuns.{clean_has_no_stale_use, clean_leaves_no_stale, clean_names_no_stale}

-- ---- each run is in the history

one_more : {A B : Type 0} (xs : List A) (ys : List B) (x : A) (y : B) → length xs ≡ length ys → length (xs ++ x ∷ []) ≡ length (ys ++ y ∷ [])
one_more xs ys x y e = omega (arith, length-append xs (x ∷ []), length-append ys (y ∷ []))

abbrev AllCounted : State → Type 0
AllCounted s = length s.runs ≡ length s.versions

edited_counted : (s : State) (cell text : List ℕ) (answer : Result Block Fault) → AllCounted s → AllCounted (edited s cell text answer)
edited_counted s cell text (Ok b) e = e
edited_counted s cell text (Err fault) e = e

ran_counted : (s : State) (cell : List ℕ) (steps : ℕ) (text : List ℕ) (o : Option Block) → AllCounted s → AllCounted (ran_program s cell steps text o)
ran_counted s cell steps text None e = e
ran_counted s cell steps text (Some b) e = one_more s.runs s.versions _ _ e

run_counted : (s : State) (cell : List ℕ) (steps : ℕ) (o : Option (List ℕ)) → AllCounted s → AllCounted (ran s cell steps o)
run_counted s cell steps None e = e
run_counted s cell steps (Some text) e = ran_counted s cell steps text (program_of text) e

after_counted : (s : State) (line : Accepted) → AllCounted s → AllCounted (after s line)
after_counted s (Edit cell text) e = edited_counted s cell text (cell_of text) e
after_counted s (Run cell steps) e = run_counted s cell steps (map.get s.cells cell) e

all_counted : (log : List Accepted) (s : State) → AllCounted s → AllCounted (fold after s log)
all_counted [] s e = e
all_counted (line ∷ log) s e = all_counted log (after s line) (after_counted s line e)

-- ---- the answers

edit_keeps : (k : Held) (cell text : List ℕ) (answer : Result Block Fault) → KeepsClean (state_of k.log) (edit_answer k cell text answer).reply
edit_keeps k cell text (Ok b) = tt
edit_keeps k cell text (Err fault) = tt

-- what the cell runs, in any number of steps
events_are : (s : State) (cell text : List ℕ) (steps : ℕ) (b : Block) → map.get s.cells cell ≡ Some text → program_of text ≡ Some b
    → events_from s.names s.values steps b ≡ events_of s cell steps
events_are s cell text steps b kept is =
    sym (ap (events_of_text s steps) kept ∙ ap (events_of_program s steps) is)

run_keeps : (k : Held) (cell text : List ℕ) (steps : ℕ) (b : Block) → map.get (state_of k.log).cells cell ≡ Some text → program_of text ≡ Some b
    → KeepsClean (state_of k.log) (run_reply (state_of k.log) cell steps b)
run_keeps k cell text steps b kept is = λ m any. let s = state_of k.log in record {
  number = ap (λ (n : ℕ). n + 1) (all_counted k.log empty_state refl);
  uses = subst (λ (events : List Event). HasNoStaleUse s.versions events) (events_are s cell text any b kept is) (clean_has_no_stale_use k.log any b m);
  names = clean_names_no_stale k.log steps b m;
  leaves = subst (λ (events : List Event). LeavesNoStale s.versions events) (events_are s cell text any b kept is) (clean_leaves_no_stale k.log any b m);
}

program_keeps : (k : Held) (cell text : List ℕ) (steps : ℕ) (o : Option Block) → map.get (state_of k.log).cells cell ≡ Some text → program_of text ≡ o
    → KeepsClean (state_of k.log) (program_answer k cell steps o).reply
program_keeps k cell text steps None kept is = tt
program_keeps k cell text steps (Some b) kept is = run_keeps k cell text steps b kept is

allowed_keeps : (k : Held) (answer : Answer) → KeepsClean (state_of k.log) answer.reply → (b : Bool)
    → KeepsClean (state_of k.log) (cond {A = Answer} b answer (record { reply = BadSteps; kernel = k })).reply
allowed_keeps k answer keeps true = keeps
allowed_keeps k answer keeps false = tt

run_answer_keeps : (k : Held) (cell : List ℕ) (steps : ℕ) (o : Option (List ℕ)) → map.get (state_of k.log).cells cell ≡ o → KeepsClean (state_of k.log) (run_answer k cell steps o).reply
run_answer_keeps k cell steps None e = tt
run_answer_keeps k cell steps (Some text) e =
    allowed_keeps k (program_answer k cell steps (program_of text)) (program_keeps k cell text steps (program_of text) e refl) (nat_le steps STEPS_LIMIT)

shown_keeps : (s : State) (cell : List ℕ) (read : Result Block Fault) → KeepsClean s (shown cell read)
shown_keeps s cell (Ok b) = tt
shown_keeps s cell (Err fault) = tt

show_keeps : (s : State) (cell : List ℕ) (o : Option (List ℕ)) → KeepsClean s (show_reply cell o)
show_keeps s cell None = tt
show_keeps s cell (Some text) = shown_keeps s cell (cell_of text)

pub answer_keeps_clean : (k : Held) (a : Ask) → KeepsClean (state_of k.log) (answer_of k a).reply
answer_keeps_clean k (ask.Edit cell text) = edit_keeps k cell text (cell_of text)
answer_keeps_clean k (ask.Run cell steps) = run_answer_keeps k cell (allowance k.steps steps) (map.get (state_of k.log).cells cell) refl
answer_keeps_clean k (ask.Show cell) = show_keeps (state_of k.log) cell (map.get (state_of k.log).cells cell)
