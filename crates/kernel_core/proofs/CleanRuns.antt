-- What the mark of a clean run says of the history that the log has.
use Rattle.std.proofs.Common.{◌≡◌, ℕ, ◌+◌, Bool, true, false, cond, ◌&&◌, List, [], ◌∷◌, ◌++◌, length, map, refl, sym, subst, ap, ◌∙◌, arith}
use Rattle.std.specs.Prelude.{Option, Some, None, Result, Ok, Err, is_some, filter, option_map}
use Rattle.std.specs.List.{Contains, AllByRecursion, cons_option, fold}
use Rattle.std.specs.FinMap as map
use Rattle.std.proofs.lemmas.Bool.{false≢true, false_from_ne_true}
use Rattle.std.proofs.lemmas.List.{map-append}
use Rattle.flow_base.specs.Names.{symbol_of}
use Rattle.flow_base.specs.declared.event.Event.{Event}
use Rattle.flow_base.specs.declared.event.ReadHow.{ReadHow}
use Rattle.flow_base.specs.declared.event.ReadHow.TheVariants.{Use as ByUse, Place as ByPlace}
use Rattle.flow_base.specs.declared.loc.Loc.{Loc}
use Rattle.flow_base.specs.declared.numbers.Sym.{Sym}
use Rattle.flow_wire.specs.declared.reply.MarkText.{MarkText}
use Rattle.flow_wire.specs.declared.reply.MarkText.TheVariants.{Clean}
use Rattle.trace_events.specs.declared.version.Version.{Version}
use Rattle.trace_events.specs.declared.summary.StartRead.{StartRead}
use Rattle.trace_events.specs.Trace.{summary_of}
use Rattle.trace_events.specs.History.{History, history_of, run_of}
use Rattle.trace_events.specs.Decided.{is_stale}
use Rattle.trace_events.specs.Staleness.{Stale}
use Rattle.trace_events.specs.Why.{Reason, least, why_of}
use Rattle.trace_events.proofs.Ancestors.{IsAscending, writes_ascend}
use Rattle.trace_events.proofs.Lists.{Contains-cons, Contains-filter, Contains-filter_of, Contains-head}
use Rattle.trace_events.proofs.Reasons.{least_found, least_none, stale_reason}
use Rattle.trace_events.proofs.StaleTest.{stale_within_true, true_stale_within}
use Rattle.py_accepted.specs.Accepted.{cell_of}
use Rattle.py_ast.specs.Statement.{Block}
use Rattle.py_block.specs.Parsed.{Fault}
use Rattle.plain_cells.specs.Run.{Values, events_from, global}
use Rattle.kernel_core.specs.declared.accepted.Accepted.{Accepted}
use Rattle.kernel_core.specs.declared.accepted.Accepted.TheVariants.{Edit, Run}
use Rattle.kernel_core.specs.declared.state.State.{State}
use Rattle.kernel_core.specs.Clean.{HasNoStaleUse, LeavesNoStale, history_after}
use Rattle.kernel_core.specs.Lineage.{in_order, is_use, live_names, live_versions, mark_for, mark_of, path_of, stale_mark, stale_paths, version_now}
use Rattle.kernel_core.specs.Marking.{versions_of}
use Rattle.kernel_core.specs.Program.{program_of}
use Rattle.kernel_core.specs.State.{after, edited, empty_state, ran, ran_program, state_of}
use Rattle.kernel_core.proofs.KeptClean.{leaves_no_stale}
use Rattle.kernel_core.proofs.LiveUses.{AtSymbol, OfName, live_uses}

-- ---- the history of a log

-- what is kept of the runs is what their events come to
abbrev pub IsHistory : History → Type 0
IsHistory h = (traces : List (List Event)) × (h ≡ history_of traces)

history_more : (h : History) (events : List Event) → IsHistory h → IsHistory (history_after h events)
history_more h events is =
    (is.0 ++ events ∷ [], ap (λ (x : History). x ++ summary_of events ∷ []) is.1 ∙ sym (map-append summary_of is.0 (events ∷ [])))

edited_history : (s : State) (cell text : List ℕ) (answer : Result Block Fault) → IsHistory s.versions → IsHistory (edited s cell text answer).versions
edited_history s cell text (Ok b) is = is
edited_history s cell text (Err fault) is = is

ran_history : (s : State) (cell : List ℕ) (steps : ℕ) (text : List ℕ) (o : Option Block) → IsHistory s.versions → IsHistory (ran_program s cell steps text o).versions
ran_history s cell steps text None is = is
ran_history s cell steps text (Some b) is = history_more s.versions (events_from s.names s.values steps b) is

run_history : (s : State) (cell : List ℕ) (steps : ℕ) (o : Option (List ℕ)) → IsHistory s.versions → IsHistory (ran s cell steps o).versions
run_history s cell steps None is = is
run_history s cell steps (Some text) is = ran_history s cell steps text (program_of text) is

after_history : (s : State) (line : Accepted) → IsHistory s.versions → IsHistory (after s line).versions
after_history s (Edit cell text) is = edited_history s cell text (cell_of text) is
after_history s (Run cell steps) is = run_history s cell steps (map.get s.cells cell) is

all_history : (log : List Accepted) (s : State) → IsHistory s.versions → IsHistory (fold after s log).versions
all_history [] s is = is
all_history (line ∷ log) s is = all_history log (after s line) (after_history s line is)

pub state_history : (log : List Accepted) → IsHistory (state_of log).versions
state_history log = all_history log empty_state ([], refl)

history_ascends : (h : History) → IsHistory h → IsAscending h
history_ascends h is = subst IsAscending (sym is.1) (writes_ascend is.0)

-- ---- the mark

abbrev is_clean : MarkText → Bool
is_clean Clean = true
is_clean _ = false

stale_not_clean : (names : List (List ℕ)) (h : History) (v : Version) (o : Option Reason) → is_some o ≡ true → stale_mark names h v o ≡ Clean → ⊥
stale_not_clean names h v None t e = false≢true t
stale_not_clean names h v (Some reason) t e = false≢true (ap is_clean e)

module _ (names : List (List ℕ)) (h : History) (ascend : IsAscending h) where
  -- where the mark is clean no version in the list is stale
  clean_none : (vs : List Version) (o : Option Version) → least names (filter (is_stale h (length h)) vs) ≡ o → mark_for names h o ≡ Clean
      → (v : Version) → Contains vs v → is_stale h (length h) v ≡ true → ⊥
  clean_none vs None e m v c t = least_none names (filter (is_stale h (length h)) vs) v e (Contains-filter_of (is_stale h (length h)) vs v c t)
  clean_none vs (Some u) e m v c t =
      let found = least_found names (filter (is_stale h (length h)) vs) u e in
      let test : is_stale h (length h) u ≡ true = (Contains-filter (is_stale h (length h)) vs u found.0).1 in
      stale_not_clean names h u (why_of names h (length h) u)
      (stale_reason names h ascend (run_of u + 1) (length h) u (omega arith) (stale_within_true h ascend (run_of u + 1) (length h) u test)) m

  abbrev IsFresh : Loc → Type 0
  IsFresh l = ¬ Stale h (length h) (version_now h l)

  -- what is stale passes the test, and what passes it is stale
  passes : (v : Version) → Stale h (length h) v → is_stale h (length h) v ≡ true
  passes v st = true_stale_within h ascend (run_of v + 1) (omega arith) st

  fresh_head : (o : Option Sym) (vs : List Version)
      → ((v : Version) → Contains (cons_option (option_map (λ s. version_now h (global s)) o) vs) v → is_stale h (length h) v ≡ true → ⊥)
      → AtSymbol IsFresh o × ((v : Version) → Contains vs v → is_stale h (length h) v ≡ true → ⊥)
  fresh_head None vs f = (tt, f)
  fresh_head (Some s) vs f = (
    λ st. f (version_now h (global s)) (Contains-head (version_now h (global s)) vs) (passes (version_now h (global s)) st),
    λ v c. f v (Contains-cons (version_now h (global s)) v vs c),
  )

  fresh_names : (live : List (List ℕ)) → ((v : Version) → Contains (versions_of names h live) v → is_stale h (length h) v ≡ true → ⊥)
      → AllByRecursion (OfName names IsFresh) live
  fresh_names [] f = tt
  fresh_names (name ∷ live) f = let parts = fresh_head (symbol_of names name) (versions_of names h live) f in (parts.0, fresh_names live parts.1)

  -- a clean run uses nothing stale
  pub clean_uses : (values : Values) (steps : ℕ) (b : Block) → mark_of names h b ≡ Clean → HasNoStaleUse h (events_from names values steps b)
  clean_uses values steps b m =
      live_uses names IsFresh values steps b (fresh_names (live_names b)
      (clean_none (live_versions names h b) (least names (filter (is_stale h (length h)) (live_versions names h b))) refl m))

-- ---- the stale names

fresh_test : (h : History) (l : Loc) (how : ReadHow) → (how ≡ ByUse → is_stale h (length h) (version_now h l) ≡ false)
    → (is_use how && is_stale h (length h) (version_now h l)) ≡ false
fresh_test h l ByUse f = f refl
fresh_test h l ByPlace f = refl

abbrev uses_stale : History → StartRead → Bool
uses_stale h read = is_use read.how && is_stale h (length h) (version_now h read.location)

no_stale_reads : (h : History) (reads : List StartRead)
    → ((l : Loc) → Contains reads (record { location = l; how = ByUse }) → is_stale h (length h) (version_now h l) ≡ false) → filter (uses_stale h) reads ≡ []
no_stale_reads h [] f = refl
no_stale_reads h (read ∷ reads) f =
    let fresh : uses_stale h read ≡ false = fresh_test h read.location read.how (λ e. f read.location
    (0, omega arith, ap (λ (how : ReadHow). record { location = read.location; how = how }) e)) in
    ap (λ (b : Bool). cond b (read ∷ filter (uses_stale h) reads) (filter (uses_stale h) reads)) fresh
    ∙ no_stale_reads h reads (λ l c. f l (Contains-cons read (record { location = l; how = ByUse }) reads c))

-- a run that uses nothing stale names nothing stale
pub no_stale_paths : (names : List (List ℕ)) (h : History) (events : List Event) → IsAscending h → HasNoStaleUse h events → stale_paths names h events ≡ []
no_stale_paths names h events ascend f =
    ap (λ (reads : List StartRead). in_order (map (λ read. path_of names (Some read.location)) reads)) (no_stale_reads h (summary_of events).reads (λ l c.
    let v : Version = version_now h l in
    false_from_ne_true (is_stale h (length h) v) (λ t. f l c (stale_within_true h ascend (run_of v + 1) (length h) v t))))

-- ---- a log

module _ (log : List Accepted) (steps : ℕ) (b : Block) where
  abbrev state : State
  state = state_of log

  abbrev events : List Event
  events = events_from state.names state.values steps b

  pub clean_has_no_stale_use : mark_of state.names state.versions b ≡ Clean → HasNoStaleUse state.versions events
  clean_has_no_stale_use m = clean_uses state.names state.versions (history_ascends state.versions (state_history log)) state.values steps b m

  pub clean_leaves_no_stale : mark_of state.names state.versions b ≡ Clean → LeavesNoStale state.versions events
  clean_leaves_no_stale m = leaves_no_stale state.versions events
      (history_ascends state.versions (state_history log))
      (history_ascends (history_after state.versions events) (history_more state.versions events (state_history log)))
      (clean_has_no_stale_use m)

  pub clean_names_no_stale : mark_of state.names state.versions b ≡ Clean → stale_paths state.names state.versions events ≡ []
  clean_names_no_stale m = no_stale_paths state.names state.versions events (history_ascends state.versions (state_history log)) (clean_has_no_stale_use m)
