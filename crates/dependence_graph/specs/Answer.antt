-- The answer to why a version is stale.
use Rattle.std.specs.Prelude.{◌≡◌, ◌-◌, ◌<◌, ℕ, List, Option, Some, None, option_map}
use Rattle.flow_base.specs.declared.loc.Loc.{Loc}
use Rattle.flow_base.specs.declared.numbers.RunNo.{RunNo}
use Rattle.trace_events.specs.declared.version.Version.{Version}
use Rattle.trace_events.specs.History.{History, location_of, run_of}
use Rattle.trace_events.specs.Why.{Reason, why_of}
use Rattle.dependence_graph.specs.declared.why.Step.{Step}
use Rattle.dependence_graph.specs.declared.why.Step.TheVariants.{Done, Next}
use Rattle.dependence_graph.specs.declared.why.Why.{Why}

abbrev pub number_of : Option RunNo → Option ℕ
number_of None = None
number_of (Some run) = Some run.0

abbrev pub answer_at : Reason → Loc → Why
answer_at reason l = record { dep = l; computed = record { 0 = reason.computed }; overwritten = record { 0 = reason.overwritten } }

-- a reason, with the location of the version that was overwritten
abbrev pub answer_of : History → Option Reason → Option Why
answer_of h None = None
answer_of h (Some reason) = option_map (answer_at reason) (location_of h reason.dep)

-- the answer for v when run n has ended, or the near version that has the same answer
abbrev pub IsStep : List (List ℕ) → History → ℕ → Version → Step → Type 0
IsStep names h n v (Done answer) = answer ≡ answer_of h (why_of names h n v)
IsStep names h n v (Next u) = (run_of u < run_of v) × (why_of names h n v ≡ why_of names h (run_of v - 1) u)
