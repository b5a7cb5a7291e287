-- What is kept beside a history.
use Rattle.std.specs.Prelude.{◌≡◌, ℕ, suc, ◌<◌, ◌≤◌, List, [], length, map, slice_index_or}
use Rattle.trace_events.specs.declared.version.Version.{Version}
use Rattle.trace_events.specs.History.{History, version_seen, writes_of}
use Rattle.trace_events.specs.Lawful.{AllLawful}
use Rattle.trace_events.specs.declared.summary.Write.{Write}

-- what the writes of run n rest on
abbrev pub resolved : History → ℕ → List Write → List (List Version)
resolved h n ws = map (λ w. map (version_seen h n) w.uses) ws

-- of each run, what each of its versions rests on; there may be more than the history has runs
pub record IsKept (h : History) (kept : List (List (List Version))) : Type 0 where
  pub lawful : AllLawful h
  pub enough : length h ≤ length kept
  pub each : (n : ℕ) → n < length h → slice_index_or kept n [] ≡ resolved h (suc n) (writes_of h (suc n))
