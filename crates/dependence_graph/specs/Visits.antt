-- How what a version rests on is gathered, the last versions first.
use Rattle.std.specs.Prelude.{◌≡◌, ◌⊎◌, ℕ, ◌≤◌, true, false, List, ◌++◌, IsTrue}
use Rattle.std.specs.BTreeSet.{BTreeSet}
use Rattle.std.specs.List.{Contains}
use Rattle.flow_base.specs.declared.numbers.RunNo.{RunNo}
use Rattle.trace_events.specs.declared.version.Version.{Version}
use Rattle.trace_events.specs.declared.version.Version.TheVariants.{Empty, Written}
use Rattle.trace_events.specs.History.{History, deps, run_of}
use Rattle.dependence_graph.specs.Marks.{is_marked}

-- u is reached from v by one or more steps to what a version directly rests on, where the versions passed on the way are of
-- runs from `floor` on
pub data Reached (h : History) (floor : ℕ) : Version → Version → Type 0 where
  direct : {v u : Version} → Contains (deps h v) u → Reached h floor v u
  further : {v w u : Version} → Contains (deps h v) w → floor ≤ run_of w → Reached h floor w u → Reached h floor v u

abbrev pub IsWritten : Version → Type 0
IsWritten (Empty l) = ⊥
IsWritten (Written run place) = Unit {0}

-- those of the list that a run wrote are marked too
pub record AddsWritten (old new : BTreeSet (RunNo × ℕ)) (vs : List Version) : Type 0 where
  pub kept : (u : Version) → IsTrue (is_marked old u) → IsTrue (is_marked new u)
  pub added : (u : Version) → Contains vs u → IsWritten u → IsTrue (is_marked new u)
  pub only : (u : Version) → IsTrue (is_marked new u) → IsTrue (is_marked old u) ⊎ Contains vs u

-- where w is marked, what it rests on is listed and marked
pub record Visits (h : History) (w : Version) (marks new_marks : BTreeSet (RunNo × ℕ)) (found new_found : List Version) : Type 0 where
  pub hit : is_marked marks w ≡ true → (new_found ≡ found ++ deps h w) × AddsWritten marks new_marks (deps h w)
  pub miss : is_marked marks w ≡ false → (new_found ≡ found) × (new_marks ≡ marks)

-- v and the listed versions are marked, the listed ones are reached from v, and what a marked version of run `floor` or a
-- later one rests on is listed, unless that version is left
pub record AreGathered (h : History) (floor : ℕ) (v : Version) (left : List Version) (marks : BTreeSet (RunNo × ℕ)) (found : List Version) : Type 0 where
  pub marked : (u : Version) → IsTrue (is_marked marks u) → (u ≡ v) ⊎ Contains found u
  pub begun : IsTrue (is_marked marks v)
  pub listed : (u : Version) → Contains found u → IsWritten u → IsTrue (is_marked marks u)
  pub sound : (u : Version) → Contains found u → Reached h floor v u
  pub closed : (w : Version) → floor ≤ run_of w → IsTrue (is_marked marks w) → Contains left w ⊎ ((u : Version) → Contains (deps h w) u → Contains found u)
