-- Sessions in which a cell uses what another one wrote, computed line by line: the states, the replies, and what each run uses.
use Rattle.std.proofs.Common.{◌≡◌, ℕ, suc, Bool, true, if◌then◌else◌, List, [], ◌∷◌, ◌++◌, length, ◌+◌, ◌∙◌, refl, sym, subst, ap, arith}
use Rattle.std.specs.Prelude.{Option, Some, None, Ok, codes, nat_le, option_and_then, ℤ, pos}
use Rattle.std.specs.FinMap as map
use Rattle.std.specs.Cmp.{nat_cmp_total}
use Rattle.std.specs.Cmp.Lexicographic.{nat_list_cmp_total}
use Rattle.flow_base.specs.Names.{symbol_of}
use Rattle.flow_base.specs.declared.event.Event.{Event}
use Rattle.flow_base.specs.declared.event.Event.TheVariants.{Open, Use, Write, Close}
use Rattle.flow_base.specs.declared.event.How.TheVariants.{Normal}
use Rattle.flow_base.specs.declared.numbers.Sym.{Sym}
use Rattle.flow_wire.specs.declared.ask.Ask.TheVariants as ask
use Rattle.flow_wire.specs.declared.reply.EndText.TheVariants as text
use Rattle.flow_wire.specs.declared.reply.MarkText.TheVariants.{Clean, Stale}
use Rattle.flow_wire.specs.declared.reply.Reply.{Reply}
use Rattle.flow_wire.specs.declared.reply.Reply.TheVariants.{BadSteps, Edited, Ran}
use Rattle.trace_events.specs.Trace.{IsStartUse, summary_of}
use Rattle.trace_events.specs.History.{run_of as writer_of}
use Rattle.py_ast.specs.Statement.{Block}
use Rattle.py_ast.specs.Tree.{name, number}
use Rattle.py_accepted.specs.Accepted.{cell_of}
use Rattle.py_accepted.specs.Examples.{one_assigned, x_is_1, y_is_x, z_is_y}
use Rattle.py_accepted.proofs.Texts.{accepted_1, accepted_2, accepted_3}
use Rattle.plain_cells.specs.BuiltIns.{is_built_in}
use Rattle.plain_cells.specs.Run.{M, Values, closed, closing, end_of, found, global, go_on, load, log, logged, logged_at, pure, run_of, step, store, with_value}
use Rattle.plain_cells.specs.declared.machine.End.{End}
use Rattle.plain_cells.specs.declared.machine.End.TheVariants.{Done}
use Rattle.plain_cells.specs.declared.machine.Machine.{Machine}
use Rattle.kernel_core.specs.declared.accepted.Accepted.{Accepted}
use Rattle.kernel_core.specs.declared.accepted.Accepted.TheVariants.{Edit, Run}
use Rattle.kernel_core.specs.declared.kernel.TheConstants.{STEPS_LIMIT}
use Rattle.kernel_core.specs.declared.state.State.{State}
use Rattle.kernel_core.specs.Answer.{Answer, answer_of, edit_answer, end_text, program_answer, run_answer, run_reply}
use Rattle.kernel_core.specs.Clean.{events_of, events_of_program, events_of_text}
use Rattle.kernel_core.specs.Examples.{UsesRun, reply_after, uses_another, uses_outdated}
use Rattle.kernel_core.specs.Kernel.{running}
use Rattle.kernel_core.specs.Lineage.{mark_of, stale_paths, version_now}
use Rattle.kernel_core.specs.Program.{program_in, program_of}
use Rattle.kernel_core.specs.State.{after, edited, empty_state, put_text, ran, ran_program, state_of}

-- ---- what the texts run

pub program_1 : program_of (codes "x = 1") ≡ Some x_is_1
unfolding program_of
program_1 = ap program_in accepted_1

pub program_2 : program_of (codes "y = x") ≡ Some y_is_x
unfolding program_of is_built_in
program_2 = ap program_in accepted_2

pub program_3 : program_of (codes "z = y") ≡ Some z_is_y
unfolding program_of is_built_in
program_3 = ap program_in accepted_3

-- ---- a run of one statement

abbrev one_write : Sym → List Event
one_write x = Open ∷ Write (global x) ∷ Close Normal ∷ []

abbrev use_and_write : Sym → Sym → List Event
use_and_write x y = Open ∷ Use (global y) ∷ Write (global x) ∷ Close Normal ∷ []

-- how the run ends, and the machine after it, where n steps are left and x has a value
abbrev done_with : ℕ → Values → Sym → ℤ → List Event → End × Machine
done_with n values x v events = (Done, record { left = n; values = map.insert values x.0 v; events = events })

-- the end of a run that gives a value to a name with this symbol
abbrev stored : Option Sym → ℤ → Machine → End × Machine
stored o v m = (Done, logged (Close Normal) (logged_at Write o (record m { values = with_value o v m.values })))

abbrev nothing_more : Unit {0} → M (Unit {0})
nothing_more _ = pure tt

-- the end of a run that gives x the value of a name with this symbol
abbrev copied : List (List ℕ) → List ℕ → Option Sym → Option ℤ → Machine → End × Machine
copied names x o value m =
    let used = found value (logged_at Use o m) in
    let bound = go_on used.0 used.1 (store names x) in
    let whole = closed bound.0 bound.1 in
    let all = go_on whole.0 whole.1 nothing_more in
    (end_of all.0, all.1)

-- a number is given to a name
run_of_number : (names : List (List ℕ)) (values : Values) (n : ℕ) (x : List ℕ) (i : Sym) (v : ℤ) → symbol_of names x ≡ Some i
    → run_of names values (suc (suc n)) (one_assigned x (number v)) ≡ done_with n values i v (one_write i)
unfolding run_of step log store closing
run_of_number names values n x i v is = ap (λ (o : Option Sym). stored o v (record { left = n; values = values; events = Open ∷ [] })) is

-- the value of a name is given to a name
run_of_name : (names : List (List ℕ)) (values : Values) (n : ℕ) (x y : List ℕ) (i j : Sym) (v : ℤ) → symbol_of names x ≡ Some i → symbol_of names y ≡ Some j
    → map.get values j.0 ≡ Some v
    → run_of names values (suc (suc n)) (one_assigned x (name y)) ≡ done_with n values i v (use_and_write i j)
unfolding run_of step log load store closing
run_of_name names values n x y i j v is other has =
    ap (λ (o : Option Sym). copied names x o (option_and_then (λ (s : Sym). map.get values s.0) o) (record { left = n; values = values; events = Open ∷ [] })) other
    ∙ ap (λ (value : Option ℤ). copied names x (Some j) value (record { left = n; values = values; events = Open ∷ [] })) has
    ∙ ap (λ (o : Option Sym). stored o v (record { left = n; values = values; events = Open ∷ Use (global j) ∷ [] })) is

-- ---- one line more

-- an edit of a cell by a text that is a plain cell
edited_by : (s : State) (cell text : List ℕ) (b : Block) → cell_of text ≡ Ok b → program_in (Ok b) ≡ Some b
    → after s (Edit cell text) ≡ put_text s cell text (Some b)
edited_by s cell text b is runs = ap (edited s cell text) is ∙ ap (put_text s cell text) runs

-- with a run that ended so
abbrev put_run : State → List ℕ → ℕ → List ℕ → End × Machine → State
put_run s cell steps text outcome = record s {
  values = outcome.1.values;
  runs = s.runs ++ (record { cell = cell; text = text; steps = steps; end = outcome.0 }) ∷ [];
  versions = s.versions ++ summary_of outcome.1.events ∷ [];
}

abbrev told : State → List ℕ → Block → End × Machine → Reply
told s cell b outcome =
    Ran cell (end_text outcome.0) (mark_of s.names s.versions b) [] (length s.runs + 1) (stale_paths s.names s.versions outcome.1.events)

-- a cell has a text that is a plain cell, and a run of it with so many steps ends so
record Runs (s : State) (cell : List ℕ) (steps : ℕ) (text : List ℕ) (b : Block) (outcome : End × Machine) : Type 0 where
  has : map.get s.cells cell ≡ Some text
  program : program_of text ≡ Some b
  ends : run_of s.names s.values steps b ≡ outcome

module _ {s : State} {cell : List ℕ} {steps : ℕ} {text : List ℕ} {b : Block} {outcome : End × Machine} (r : Runs s cell steps text b outcome) where
  ran_by : after s (Run cell steps) ≡ put_run s cell steps text outcome
  ran_by = ap (ran s cell steps) r.has ∙ ap (ran_program s cell steps text) r.program ∙ ap (put_run s cell steps text) r.ends

  told_by : run_reply s cell steps b ≡ told s cell b outcome
  told_by = ap (told s cell b) r.ends

  events_by : events_of s cell steps ≡ outcome.1.events
  events_by = ap (events_of_text s steps) r.has ∙ ap (events_of_program s steps) r.program ∙ ap (λ (o : End × Machine). o.1.events) r.ends

  -- the answer to a line that names no steps
  answered_by : (log : List Accepted) → state_of log ≡ s → nat_le steps STEPS_LIMIT ≡ true
      → answer_of (running log steps) (ask.Run cell None) ≡ record { reply = told s cell b outcome; kernel = running (log ++ Run cell steps ∷ []) steps }
  answered_by log is within =
      ap (run_answer (running log steps) cell steps) (ap (λ (t : State). map.get t.cells cell) is ∙ r.has)
      ∙ ap (λ (t : Bool). if t then program_answer (running log steps) cell steps (program_of text) else record { reply = BadSteps; kernel = running log steps }) within
      ∙ ap (program_answer (running log steps) cell steps) r.program
      ∙ ap (λ (t : State). record { reply = run_reply t cell steps b; kernel = running (log ++ Run cell steps ∷ []) steps }) is
      ∙ ap (λ (reply : Reply). record { reply = reply; kernel = running (log ++ Run cell steps ∷ []) steps }) told_by

edit_answered : (log : List Accepted) (steps : ℕ) (cell text : List ℕ) (b : Block) → cell_of text ≡ Ok b
    → answer_of (running log steps) (ask.Edit cell text) ≡ record { reply = Edited cell; kernel = running (log ++ Edit cell text ∷ []) steps }
edit_answered log steps cell text b is = ap (edit_answer (running log steps) cell text) is

-- ---- the session

-- x, y and z, whose symbols are 0, 1 and 2
abbrev x : Sym
x = record { 0 = 0 }

abbrev y : Sym
y = record { 0 = 1 }

abbrev z : Sym
z = record { 0 = 2 }

-- each run is allowed n + 2 steps
module _ (n : ℕ) where
  abbrev pub log_1 : List Accepted
  log_1 = Edit (codes "a") (codes "x = 1") ∷ []

  abbrev pub log_2 : List Accepted
  log_2 = log_1 ++ Run (codes "a") (suc (suc n)) ∷ []

  abbrev pub log_3 : List Accepted
  log_3 = log_2 ++ Edit (codes "b") (codes "y = x") ∷ []

  abbrev pub log_4 : List Accepted
  log_4 = log_3 ++ Run (codes "b") (suc (suc n)) ∷ []

  abbrev pub log_5 : List Accepted
  log_5 = log_4 ++ Run (codes "a") (suc (suc n)) ∷ []

  abbrev pub log_6 : List Accepted
  log_6 = log_5 ++ Edit (codes "c") (codes "z = y") ∷ []

  abbrev pub log_7 : List Accepted
  log_7 = log_6 ++ Run (codes "c") (suc (suc n)) ∷ []

  abbrev state_1 : State
  state_1 = put_text empty_state (codes "a") (codes "x = 1") (Some x_is_1)

  is_1 : state_of log_1 ≡ state_1
  is_1 = edited_by empty_state (codes "a") (codes "x = 1") x_is_1 accepted_1 refl

  runs_a : Runs state_1 (codes "a") (suc (suc n)) (codes "x = 1") x_is_1 (done_with n map.empty x (pos 1) (one_write x))
  runs_a = record {
    has = map.get-insert nat_list_cmp_total map.empty (codes "a") (codes "x = 1") (codes "a");
    program = program_1;
    ends = run_of_number state_1.names state_1.values n (codes "x") x (pos 1) refl;
  }

  abbrev state_2 : State
  state_2 = put_run state_1 (codes "a") (suc (suc n)) (codes "x = 1") (done_with n map.empty x (pos 1) (one_write x))

  is_2 : state_of log_2 ≡ state_2
  is_2 = ap (λ (s : State). after s (Run (codes "a") (suc (suc n)))) is_1 ∙ ran_by runs_a

  abbrev state_3 : State
  state_3 = put_text state_2 (codes "b") (codes "y = x") (Some y_is_x)

  is_3 : state_of log_3 ≡ state_3
  unfolding is_built_in
  is_3 = ap (λ (s : State). after s (Edit (codes "b") (codes "y = x"))) is_2 ∙ edited_by state_2 (codes "b") (codes "y = x") y_is_x accepted_2 refl

  runs_b : Runs state_3 (codes "b") (suc (suc n)) (codes "y = x") y_is_x (done_with n state_3.values y (pos 1) (use_and_write y x))
  runs_b = record {
    has = map.get-insert nat_list_cmp_total state_2.cells (codes "b") (codes "y = x") (codes "b");
    program = program_2;
    ends = run_of_name state_3.names state_3.values n (codes "y") (codes "x") y x (pos 1) refl refl (map.get-insert nat_cmp_total map.empty 0 (pos 1) 0);
  }

  abbrev state_4 : State
  state_4 = put_run state_3 (codes "b") (suc (suc n)) (codes "y = x") (done_with n state_3.values y (pos 1) (use_and_write y x))

  is_4 : state_of log_4 ≡ state_4
  is_4 = ap (λ (s : State). after s (Run (codes "b") (suc (suc n)))) is_3 ∙ ran_by runs_b

  runs_again : Runs state_4 (codes "a") (suc (suc n)) (codes "x = 1") x_is_1 (done_with n state_4.values x (pos 1) (one_write x))
  runs_again = record {
    has = map.get-insert nat_list_cmp_total state_2.cells (codes "b") (codes "y = x") (codes "a")
        ∙ map.get-insert nat_list_cmp_total map.empty (codes "a") (codes "x = 1") (codes "a");
    program = program_1;
    ends = run_of_number state_4.names state_4.values n (codes "x") x (pos 1) refl;
  }

  abbrev state_5 : State
  state_5 = put_run state_4 (codes "a") (suc (suc n)) (codes "x = 1") (done_with n state_4.values x (pos 1) (one_write x))

  is_5 : state_of log_5 ≡ state_5
  is_5 = ap (λ (s : State). after s (Run (codes "a") (suc (suc n)))) is_4 ∙ ran_by runs_again

  abbrev state_6 : State
  state_6 = put_text state_5 (codes "c") (codes "z = y") (Some z_is_y)

  is_6 : state_of log_6 ≡ state_6
  unfolding is_built_in
  is_6 = ap (λ (s : State). after s (Edit (codes "c") (codes "z = y"))) is_5 ∙ edited_by state_5 (codes "c") (codes "z = y") z_is_y accepted_3 refl

  runs_c : Runs state_6 (codes "c") (suc (suc n)) (codes "z = y") z_is_y (done_with n state_6.values z (pos 1) (use_and_write z y))
  runs_c = record {
    has = map.get-insert nat_list_cmp_total state_5.cells (codes "c") (codes "z = y") (codes "c");
    program = program_3;
    ends = run_of_name state_6.names state_6.values n (codes "z") (codes "y") z y (pos 1) refl refl
        (map.get-insert nat_cmp_total state_4.values 0 (pos 1) 1 ∙ map.get-insert nat_cmp_total state_3.values 1 (pos 1) 1);
  }

  -- ---- what the runs of b and c use

  pub b_uses_a : UsesRun log_3 (codes "b") (suc (suc n)) 1
  b_uses_a = (
    global x,
    subst (λ (s : State). IsStartUse (events_of s (codes "b") (suc (suc n))) (global x)) (sym is_3)
        (subst (λ (es : List Event). IsStartUse es (global x)) (sym (events_by runs_b)) (0, omega arith, refl)),
    ap (λ (s : State). writer_of (version_now s.versions (global x))) is_3,
  )

  pub c_uses_b : UsesRun log_6 (codes "c") (suc (suc n)) 2
  c_uses_b = (
    global y,
    subst (λ (s : State). IsStartUse (events_of s (codes "c") (suc (suc n))) (global y)) (sym is_6)
        (subst (λ (es : List Event). IsStartUse es (global y)) (sym (events_by runs_c)) (0, omega arith, refl)),
    ap (λ (s : State). writer_of (version_now s.versions (global y))) is_6,
  )

  -- ---- the replies to the lines

  pub answer_1 : answer_of (running [] (suc (suc n))) (ask.Edit (codes "a") (codes "x = 1"))
      ≡ record { reply = Edited (codes "a"); kernel = running log_1 (suc (suc n)) }
  answer_1 = edit_answered [] (suc (suc n)) (codes "a") (codes "x = 1") x_is_1 accepted_1

  pub answer_3 : answer_of (running log_2 (suc (suc n))) (ask.Edit (codes "b") (codes "y = x"))
      ≡ record { reply = Edited (codes "b"); kernel = running log_3 (suc (suc n)) }
  answer_3 = edit_answered log_2 (suc (suc n)) (codes "b") (codes "y = x") y_is_x accepted_2

  pub answer_6 : answer_of (running log_5 (suc (suc n))) (ask.Edit (codes "c") (codes "z = y"))
      ≡ record { reply = Edited (codes "c"); kernel = running log_6 (suc (suc n)) }
  answer_6 = edit_answered log_5 (suc (suc n)) (codes "c") (codes "z = y") z_is_y accepted_3

  module _ (within : nat_le (suc (suc n)) STEPS_LIMIT ≡ true) where
    pub answer_2 : answer_of (running log_1 (suc (suc n))) (ask.Run (codes "a") None)
        ≡ record { reply = Ran (codes "a") text.Ok Clean [] 1 []; kernel = running log_2 (suc (suc n)) }
    answer_2 = answered_by runs_a log_1 is_1 within

    pub answer_4 : answer_of (running log_3 (suc (suc n))) (ask.Run (codes "b") None)
        ≡ record { reply = Ran (codes "b") text.Ok Clean [] 2 []; kernel = running log_4 (suc (suc n)) }
    answer_4 = answered_by runs_b log_3 is_3 within

    pub answer_5 : answer_of (running log_4 (suc (suc n))) (ask.Run (codes "a") None)
        ≡ record { reply = Ran (codes "a") text.Ok Clean [] 3 []; kernel = running log_5 (suc (suc n)) }
    answer_5 = answered_by runs_again log_4 is_4 within

    pub answer_7 : answer_of (running log_6 (suc (suc n))) (ask.Run (codes "c") None)
        ≡ record { reply = Ran (codes "c") text.Ok (Stale 2 (codes "x") 3 (codes "y")) [] 4 (codes "y" ∷ []); kernel = running log_7 (suc (suc n)) }
    answer_7 = answered_by runs_c log_6 is_6 within

-- ---- with 100 steps

pub clean_uses_another : UsesRun uses_another (codes "b") 100 1
clean_uses_another = b_uses_a 98

pub clean_shown : reply_after uses_another (codes "b") ≡ Ran (codes "b") text.Ok Clean [] 2 []
clean_shown = ap (λ (a : Answer). a.reply) (answer_4 98 refl)

pub stale_uses_outdated : UsesRun uses_outdated (codes "c") 100 2
stale_uses_outdated = c_uses_b 98

pub stale_shown : reply_after uses_outdated (codes "c") ≡ Ran (codes "c") text.Ok (Stale 2 (codes "x") 3 (codes "y")) [] 4 (codes "y" ∷ [])
stale_shown = ap (λ (a : Answer). a.reply) (answer_7 98 refl)
