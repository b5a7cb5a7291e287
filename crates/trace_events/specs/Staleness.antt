-- Ancestors, near versions and stale versions.
use Rattle.std.specs.Prelude.{◌≡◌, ℕ, ◌-◌, ◌<◌, ◌≤◌, IsTrue}
use Rattle.std.specs.List.{Contains}
use Rattle.trace_events.specs.declared.version.Version.{Version}
use Rattle.trace_events.specs.History.{History, deps, run_of, wrote}

-- u is reached from v by one or more steps to what a version directly rests on
pub data Ancestor (h : History) : Version → Version → Type 0 where
  direct : {v u : Version} → Contains (deps h v) u → Ancestor h v u
  further : {v w u : Version} → Contains (deps h v) w → Ancestor h w u → Ancestor h v u

-- u is of a run before v's, and is reached from v where every version passed on the way is of v's run
pub data Near (h : History) : Version → Version → Type 0 where
  earlier : {v u : Version} → Contains (deps h v) u → run_of u < run_of v → Near h v u
  within : {v w u : Version} → Contains (deps h v) w → run_of w ≡ run_of v → Near h w u → Near h v u

-- v is stale when run n has ended
pub data Stale (h : History) : ℕ → Version → Type 0 where
  -- the location of an ancestor u was written by a run m after v's
  overwritten : {n m : ℕ} {v u : Version} → Ancestor h v u → IsTrue (wrote h m u) → run_of v < m → m ≤ n → Stale h n v
  -- a near version was stale when v's run began
  carried : {n : ℕ} {v u : Version} → Near h v u → Stale h (run_of v - 1) u → Stale h n v
