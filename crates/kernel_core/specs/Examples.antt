-- Sessions that show what the marks say.
use Rattle.std.specs.Prelude.{◌≡◌, ℕ, List, [], ◌∷◌, ◌++◌, codes, None}
use Rattle.flow_base.specs.declared.loc.Loc.{Loc}
use Rattle.flow_wire.specs.declared.ask.Ask.TheVariants as ask
use Rattle.flow_wire.specs.declared.reply.Reply.{Reply}
use Rattle.trace_events.specs.Trace.{IsStartUse}
use Rattle.trace_events.specs.History.{run_of}
use Rattle.kernel_core.specs.declared.accepted.Accepted.{Accepted}
use Rattle.kernel_core.specs.declared.accepted.Accepted.TheVariants.{Edit, Run}
use Rattle.kernel_core.specs.Answer.{answer_of}
use Rattle.kernel_core.specs.Clean.{events_of}
use Rattle.kernel_core.specs.Kernel.{running}
use Rattle.kernel_core.specs.Lineage.{version_now}
use Rattle.kernel_core.specs.State.{state_of}

-- the reply to a run of the cell after this log
abbrev pub reply_after : List Accepted → List ℕ → Reply
reply_after log cell = (answer_of (running log 100) (ask.Run cell None)).reply

-- a run of the cell after this log that has so many steps uses, before it writes it, a location whose version run n wrote
abbrev pub UsesRun : List Accepted → List ℕ → ℕ → ℕ → Type 0
UsesRun log cell steps n = (l : Loc) × IsStartUse (events_of (state_of log) cell steps) l × (run_of (version_now (state_of log).versions l) ≡ n)

-- cell a was run, and cell b is to use the name that a wrote
abbrev pub uses_another : List Accepted
uses_another = Edit (codes "a") (codes "x = 1") ∷ Run (codes "a") 100 ∷ Edit (codes "b") (codes "y = x") ∷ []

-- b was run too, and then a again, and cell c is to use the name that b wrote
abbrev pub uses_outdated : List Accepted
uses_outdated = uses_another ++ Run (codes "b") 100 ∷ Run (codes "a") 100 ∷ Edit (codes "c") (codes "z = y") ∷ []
