-- What holds of what is kept of any run: the places of its writes ascend, and what a write saw of the run's own writes
-- stands at earlier places.
use Rattle.std.specs.Prelude.{ℕ, ◌+◌, ◌<◌, ◌≤◌, List, [], ◌∷◌}
use Rattle.std.specs.List.{All, AllByRecursion}
use Rattle.trace_events.specs.History.{History}
use Rattle.trace_events.specs.Trace.{Seen, Before, Own, Written, Summary}

-- what was seen is of the time before the run, or of an earlier place
abbrev pub IsSeenBelow : ℕ → Seen → Type 0
IsSeenBelow p (Before l) = Unit {0}
IsSeenBelow p (Own i) = i < p

-- the places ascend, from p on, and each use of the run's own writes is of an earlier place
abbrev pub IsAscendingFrom : ℕ → List Written → Type 0
IsAscendingFrom p [] = Unit {0}
IsAscendingFrom p (w ∷ ws) = (p ≤ w.place) × AllByRecursion (IsSeenBelow w.place) w.uses × IsAscendingFrom (w.place + 1) ws

abbrev pub IsLawful : Summary → Type 0
IsLawful s = IsAscendingFrom 0 s.writes

-- of each run of the history
abbrev pub AllLawful : History → Type 0
AllLawful h = All IsLawful h
