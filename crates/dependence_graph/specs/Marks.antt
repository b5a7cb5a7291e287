-- Sets of versions, each as its run and its place, and what the passes over a history mark.
use Rattle.std.specs.Prelude.{◌≡◌, ◌⊎◌, ◌||◌, ℕ, Bool, true, false, List, IsTrue, length}
use Rattle.std.specs.BTreeSet as set
use Rattle.std.specs.BTreeSet.{BTreeSet}
use Rattle.std.specs.List.{Contains, list_any}
use Rattle.flow_base.specs.declared.numbers.RunNo.{RunNo}
use Rattle.trace_events.specs.declared.version.Version.{Version}
use Rattle.trace_events.specs.declared.version.Version.TheVariants.{Empty, Written}
use Rattle.trace_events.specs.Decided.{is_stale}
use Rattle.trace_events.specs.History.{History, deps}
use Rattle.version_store.specs.Dependents.{place_cmp, IsListed}

-- a version that a run wrote is marked where its run and its place are in the set
abbrev pub is_marked : BTreeSet (RunNo × ℕ) → Version → Bool
is_marked marks (Empty l) = false
is_marked marks (Written run place) = set.contains place_cmp marks (run, place)

-- the marks are the versions that are stale after the last run
abbrev pub IsExact : History → BTreeSet (RunNo × ℕ) → Type 0
IsExact h marks = (v : Version) → is_marked marks v ≡ is_stale h (length h) v

-- ---- a step

-- v is marked too
pub record AddsMark (old new : BTreeSet (RunNo × ℕ)) (v : Version) : Type 0 where
  pub here : IsTrue (is_marked new v)
  pub kept : (u : Version) → IsTrue (is_marked old u) → IsTrue (is_marked new u)
  pub only : (u : Version) → IsTrue (is_marked new u) → (u ≡ v) ⊎ IsTrue (is_marked old u)

-- v is marked too where the test holds
pub record MarksIf (test : Bool) (old new : BTreeSet (RunNo × ℕ)) (v : Version) : Type 0 where
  pub marked : test ≡ true → AddsMark old new v
  pub unchanged : test ≡ false → new ≡ old

-- all that more has is marked too
pub record AddsMarks (old more new : BTreeSet (RunNo × ℕ)) : Type 0 where
  pub kept : (u : Version) → IsTrue (is_marked old u) → IsTrue (is_marked new u)
  pub added : (u : Version) → IsTrue (is_marked more u) → IsTrue (is_marked new u)
  pub only : (u : Version) → IsTrue (is_marked new u) → IsTrue (is_marked old u) ⊎ IsTrue (is_marked more u)

-- the listed versions are marked too
pub record AddsListed (old : BTreeSet (RunNo × ℕ)) (places : List (RunNo × ℕ)) (new : BTreeSet (RunNo × ℕ)) : Type 0 where
  pub kept : (u : Version) → IsTrue (is_marked old u) → IsTrue (is_marked new u)
  pub added : (u : Version) → IsListed places u → IsTrue (is_marked new u)
  pub only : (u : Version) → IsTrue (is_marked new u) → IsTrue (is_marked old u) ⊎ IsListed places u

-- ---- a pass

-- something that v rests on was marked before, or is marked now
abbrev pub carries : History → BTreeSet (RunNo × ℕ) → BTreeSet (RunNo × ℕ) → Version → Bool
carries h old fresh v = list_any (λ u. is_marked old u || is_marked fresh u) (deps h v)

-- the marks are the listed versions of which P holds
pub record MarksExactly (listed : List Version) (P : Version → Type 0) (marks : BTreeSet (RunNo × ℕ)) : Type 0 where
  pub only : (v : Version) → IsTrue (is_marked marks v) → Contains listed v × P v
  pub each : (v : Version) → Contains listed v → P v → IsTrue (is_marked marks v)
