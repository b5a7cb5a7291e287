-- The same as lists and tests that compute. A way from a version to its ancestors has at most as many steps as the history
-- has writes, since each step goes to an earlier one; and a near version is of an earlier run.
use Rattle.std.specs.Prelude.{ℕ, zero, suc, ◌+◌, ◌-◌, ◌==◌, nat_lt, ◌||◌, Bool, false, List, [], ◌∷◌, ◌++◌, length, if◌then◌else◌}
use Rattle.std.specs.List.{flat_map, list_any, range_with_len}
use Rattle.trace_events.specs.declared.version.Version.{Version}
use Rattle.trace_events.specs.History.{History, deps, made_upto, run_of, wrote}

-- how many writes there are
abbrev pub count_of_writes : History → ℕ
count_of_writes h = length (made_upto h (length h))

-- what is reached from v by at least one and at most so many steps
abbrev pub reached : ℕ → History → Version → List Version
reached zero h v = []
reached (suc steps) h v = deps h v ++ flat_map (reached steps h) (deps h v)

abbrev pub ancestors_of : History → Version → List Version
ancestors_of h v = reached (count_of_writes h) h v

-- goes on from the versions of a run to those of earlier runs
abbrev pub near_from : ℕ → ℕ → (Version → List Version) → Version → List Version
near_from run other go_on v = if nat_lt other run then v ∷ [] else (if other == run then go_on v else [])

abbrev pub near_within : ℕ → History → Version → List Version
near_within zero h v = []
near_within (suc steps) h v = flat_map (λ u. near_from (run_of v) (run_of u) (near_within steps h) u) (deps h v)

abbrev pub near_of : History → Version → List Version
near_of h v = near_within (count_of_writes h) h v

-- the numbers of the runs after run r, up to run n
abbrev pub runs_after : ℕ → ℕ → List ℕ
runs_after r n = range_with_len (r + 1) (n - r)

-- some ancestor's location was written by a run after v's, up to run n
abbrev pub is_overwritten : History → ℕ → Version → Bool
is_overwritten h n v = list_any (λ u. list_any (λ m. wrote h m u) (runs_after (run_of v) n)) (ancestors_of h v)

abbrev pub is_stale_within : ℕ → History → ℕ → Version → Bool
is_stale_within zero h n v = false
is_stale_within (suc runs) h n v = is_overwritten h n v || list_any (is_stale_within runs h (run_of v - 1)) (near_of h v)

-- v is stale when run n has ended
abbrev pub is_stale : History → ℕ → Version → Bool
is_stale h n v = is_stale_within (run_of v + 1) h n v
