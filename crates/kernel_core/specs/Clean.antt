-- Runs that use nothing stale, and what a reply that says `clean` promises.
use Rattle.std.specs.Prelude.{◌≡◌, ℕ, ◌+◌, List, [], ◌∷◌, ◌++◌, length, Option, Some, None}
use Rattle.std.specs.List.{Contains}
use Rattle.std.specs.FinMap as map
use Rattle.flow_base.specs.declared.event.Event.{Event}
use Rattle.flow_base.specs.declared.loc.Loc.{Loc}
use Rattle.flow_wire.specs.declared.reply.MarkText.TheVariants.{Clean}
use Rattle.flow_wire.specs.declared.reply.Reply.{Reply}
use Rattle.flow_wire.specs.declared.reply.Reply.TheVariants.{Ran}
use Rattle.trace_events.specs.declared.version.Version.{Version}
use Rattle.trace_events.specs.Trace.{IsStartUse, summary_of}
use Rattle.trace_events.specs.History.{History, made}
use Rattle.trace_events.specs.Staleness.{Stale}
use Rattle.py_ast.specs.Statement.{Block}
use Rattle.plain_cells.specs.Run.{events_from}
use Rattle.kernel_core.specs.declared.state.State.{State}
use Rattle.kernel_core.specs.Lineage.{version_now}
use Rattle.kernel_core.specs.Program.{program_of}

-- ---- a run

-- the history with one run more
abbrev pub history_after : History → List Event → History
history_after h events = h ++ summary_of events ∷ []

-- no location that the run used before it wrote it had a version that was stale when the run began
abbrev pub HasNoStaleUse : History → List Event → Type 0
HasNoStaleUse h events = (l : Loc) → IsStartUse events l → ¬ Stale h (length h) (version_now h l)

-- no version that the run made is stale when it ends
abbrev pub LeavesNoStale : History → List Event → Type 0
LeavesNoStale h events = (v : Version) → Contains (made (history_after h events) (length h + 1)) v → ¬ Stale (history_after h events) (length h + 1) v

-- What `clean` promises of a run with these events, which came after this history: it is the next run; it used nothing stale,
-- and names nothing stale; and it leaves nothing stale.
pub record IsCleanRun (h : History) (events : List Event) (run : ℕ) (stale : List (List ℕ)) : Type 0 where
  pub number : run ≡ length h + 1
  pub uses : HasNoStaleUse h events
  pub names : stale ≡ []
  pub leaves : LeavesNoStale h events

-- ---- a reply

abbrev pub events_of_program : State → ℕ → Option Block → List Event
events_of_program s steps None = []
events_of_program s steps (Some b) = events_from s.names s.values steps b

abbrev pub events_of_text : State → ℕ → Option (List ℕ) → List Event
events_of_text s steps None = []
events_of_text s steps (Some text) = events_of_program s steps (program_of text)

-- the events of a run of the cell in this state with so many steps; a cell that is not run does nothing
abbrev pub events_of : State → List ℕ → ℕ → List Event
events_of s cell steps = events_of_text s steps (map.get s.cells cell)

-- A reply in this state that says `clean` of a run keeps what that promises, over the history that the state has, whatever steps the run
-- was allowed.
abbrev pub KeepsClean : State → Reply → Type 0
KeepsClean s (Ran cell end mark out run stale) = mark ≡ Clean → (steps : ℕ) → IsCleanRun s.versions (events_of s cell steps) run stale
KeepsClean s _ = Unit {0}
