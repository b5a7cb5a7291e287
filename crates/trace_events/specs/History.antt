-- Versions over a history, the list of what is kept of its runs. Run 1 comes first; run 0 stands for the time before all
-- runs. All functions are total: a version that the history lacks has no location and rests on nothing.
use Rattle.std.specs.Prelude.{◌≡◌, ◌⊎◌, ℕ, zero, suc, ◌-◌, ◌<◌, ◌==◌, Bool, false, List, [], ◌++◌, map, Option, Some, None, slice_index_or}
use Rattle.std.specs.List.{find, list_any}
use Rattle.flow_base.specs.Same.{loc_eq}
use Rattle.flow_base.specs.declared.event.Event.{Event}
use Rattle.flow_base.specs.declared.loc.Loc.{Loc}
use Rattle.trace_events.specs.declared.version.Version.{Version}
use Rattle.trace_events.specs.declared.version.Version.TheVariants.{Empty, Written as at_write}
use Rattle.trace_events.specs.Trace.{Seen, Before, Own, Written, Summary, last_write, summary_of}

abbrev pub History : Type 0
History = List Summary

-- the history of runs with these events
abbrev pub history_of : List (List Event) → History
history_of traces = map summary_of traces

-- what each run wrote; run 0 wrote nothing
abbrev pub writes_of : History → ℕ → List Written
writes_of h zero = []
writes_of h (suc n) = (slice_index_or h n (record { reads = []; writes = [] })).writes

-- the version of a run's write at a place
abbrev pub version_at : ℕ → ℕ → Version
version_at n place = at_write (record { 0 = n }) place

-- the versions that a run wrote, in the order of their places
abbrev pub made : History → ℕ → List Version
made h n = map (λ w. version_at n w.place) (writes_of h n)

-- the versions that runs 1 to n wrote, in the order in which they came about
abbrev pub made_upto : History → ℕ → List Version
made_upto h zero = []
made_upto h (suc n) = made_upto h n ++ made h (suc n)

-- ---- a version

-- the run that wrote it, or 0
abbrev pub run_of : Version → ℕ
run_of (Empty l) = 0
run_of (at_write run place) = run.0

-- its place among the events of that run, or 0
abbrev pub place_of : Version → ℕ
place_of (Empty l) = 0
place_of (at_write run place) = place

-- u is of an earlier run than v, or of the same run and an earlier place
abbrev pub IsOlder : Version → Version → Type 0
IsOlder u v = (run_of u < run_of v) ⊎ ((run_of u ≡ run_of v) × (place_of u < place_of v))

abbrev pub write_at : List Written → ℕ → Option Written
write_at ws place = find (λ w. w.place == place) ws

abbrev pub location_at : Option Written → Option Loc
location_at None = None
location_at (Some w) = Some w.location

-- its location, if there is such a version
abbrev pub location_of : History → Version → Option Loc
location_of h (Empty l) = Some l
location_of h (at_write run place) = location_at (write_at (writes_of h run.0) place)

-- ---- what was read

abbrev pub or_earlier : ℕ → Option ℕ → Version → Version
or_earlier n (Some place) earlier = version_at n place
or_earlier n None earlier = earlier

-- the version of a location when run n has ended
abbrev pub current : History → ℕ → Loc → Version
current h zero l = Empty l
current h (suc n) l = or_earlier (suc n) (last_write l (writes_of h (suc n))) (current h n l)

-- the version that a read of run n saw
abbrev pub version_seen : History → ℕ → Seen → Version
version_seen h n (Before l) = current h (n - 1) l
version_seen h n (Own place) = version_at n place

abbrev pub uses_at : Option Written → List Seen
uses_at None = []
uses_at (Some w) = w.uses

-- the versions that a version directly rests on: those that the uses gathered at its write saw
abbrev pub deps : History → Version → List Version
deps h (Empty l) = []
deps h (at_write run place) = map (version_seen h run.0) (uses_at (write_at (writes_of h run.0) place))

-- ---- what was written

abbrev pub wrote_location : List Written → Option Loc → Bool
wrote_location ws None = false
wrote_location ws (Some l) = list_any (λ w. loc_eq w.location l) ws

-- whether run m wrote the location of the version
abbrev pub wrote : History → ℕ → Version → Bool
wrote h m v = wrote_location (writes_of h m) (location_of h v)
