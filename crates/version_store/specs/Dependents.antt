-- Which versions rest on a location, what is kept of that, and which versions a run makes stale by what it writes.
use Rattle.std.specs.Prelude.{◌≡◌, ◌↔◌, ◌⊎◌, ◌==◌, ◌||◌, ℕ, zero, suc, ◌-◌, ◌<◌, ◌≤◌, Bool, true, false, List, [], ◌∷◌, ◌++◌, length, map, filter, Option, Some, None, IsTrue, if◌then◌else◌, slice_index_or, take}
use Rattle.std.specs.BTreeMap.{BTreeMap, get, is_at as is_at_key}
use Rattle.std.specs.BTreeSet as set
use Rattle.std.specs.BTreeSet.{BTreeSet}
use Rattle.std.specs.List.{Contains, list_any}
use Rattle.std.specs.Option.{unwrap_or}
use Rattle.std.specs.Ordering.{nat_cmp, ordering_then}
use Rattle.std.specs.declared.cmp.Ordering.{Ordering}
use Rattle.flow_base.specs.Same.{loc_eq}
use Rattle.flow_base.specs.declared.loc.Loc.{Loc}
use Rattle.flow_base.specs.declared.numbers.RunNo.{RunNo}
use Rattle.trace_events.specs.declared.version.Version.{Version}
use Rattle.trace_events.specs.declared.version.Version.TheVariants.{Empty, Written as at_write}
use Rattle.trace_events.specs.History.{History, current, deps, location_of, run_of, version_seen, wrote}
use Rattle.trace_events.specs.Trace.{Summary, last_write}
use Rattle.trace_events.specs.declared.summary.Write.{Write as Written}
use Rattle.trace_events.specs.Staleness.{Ancestor, Near, Stale}
use Rattle.version_store.specs.Hash.{hash_version}

-- ---- versions that runs wrote, each as its run and its place

-- by run, and then by place
abbrev pub place_cmp : RunNo × ℕ → RunNo × ℕ → Ordering
place_cmp a b = ordering_then (nat_cmp a.0.0 b.0.0) (nat_cmp a.1 b.1)

abbrev pub IsListed : List (RunNo × ℕ) → Version → Type 0
IsListed places (Empty l) = ⊥
IsListed places (at_write run place) = Contains places (run, place)

-- the k-th of a list
abbrev pub nth : List (RunNo × ℕ) → ℕ → Version
nth places k = let p = slice_index_or places k (record { 0 = 0 }, 0) in at_write p.0 p.1

abbrev pub is_in : List (RunNo × ℕ) → RunNo × ℕ → Bool
is_in places place = list_any (λ p. is_at_key (place_cmp p) place) places

abbrev pub is_listed : List (RunNo × ℕ) → Version → Bool
is_listed places (Empty l) = false
is_listed places (at_write run place) = is_in places (run, place)

-- the set has the places of the list
abbrev pub IsSeen : BTreeSet (RunNo × ℕ) → List (RunNo × ℕ) → Type 0
IsSeen seen places = (place : RunNo × ℕ) → set.contains place_cmp seen place ≡ is_in places place

-- ---- what a run makes stale

-- some ancestor of v is a version of the location
pub record RestsOn (h : History) (l : Loc) (v : Version) : Type 0 where
  pub ancestor : Version
  pub reached : Ancestor h v ancestor
  pub there : location_of h ancestor ≡ Some l

-- some ancestor's location was written by run m
pub record IsTouched (h : History) (m : ℕ) (v : Version) : Type 0 where
  pub ancestor : Version
  pub reached : Ancestor h v ancestor
  pub written : IsTrue (wrote h m ancestor)

-- some near version was stale when run k had ended
pub record IsCarried (h : History) (k : ℕ) (v : Version) : Type 0 where
  pub near : Version
  pub reached : Near h v near
  pub stale : Stale h k near

-- Each listed version is of a run before m, and run m touched it. Each version of an earlier run that run m touched is
-- listed, unless it was stale before.
pub record Touches (h : History) (m : ℕ) (places : List (RunNo × ℕ)) : Type 0 where
  pub sound : (v : Version) → IsListed places v → (run_of v < m) × IsTouched h m v
  pub complete : (v : Version) → run_of v < m → IsTouched h m v → Stale h (m - 1) v ⊎ IsListed places v

-- ---- what is kept

-- the places that are listed under a number; those listed under the number of a version are of versions that may rest on it
abbrev pub listed_at : BTreeMap ℕ (List (RunNo × ℕ)) → ℕ → List (RunNo × ℕ)
listed_at index number = unwrap_or (get nat_cmp index number) []

-- each version is listed with each version that it directly rests on; more may be listed
abbrev pub IsIndexed : History → BTreeMap ℕ (List (RunNo × ℕ)) → Type 0
IsIndexed h index = (v u : Version) → Contains (deps h v) u → IsListed (listed_at index (hash_version u)) v

-- one place more under a number
abbrev pub AddsAt : BTreeMap ℕ (List (RunNo × ℕ)) → BTreeMap ℕ (List (RunNo × ℕ)) → ℕ → RunNo × ℕ → Type 0
AddsAt old new number place = (n : ℕ) → listed_at new n ≡ (if n == number then listed_at old n ++ place ∷ [] else listed_at old n)

-- all that was listed is listed
abbrev pub Grows : BTreeMap ℕ (List (RunNo × ℕ)) → BTreeMap ℕ (List (RunNo × ℕ)) → Type 0
Grows old new = (number : ℕ) (place : RunNo × ℕ) → Contains (listed_at old number) place → Contains (listed_at new number) place

-- of each run, pairs of the places of two of its versions: the second rests on the location of the first
abbrev pub held_of : List (List (ℕ × ℕ)) → ℕ → List (ℕ × ℕ)
held_of held zero = []
held_of held (suc n) = slice_index_or held n []

-- of the pairs of a run, the versions that rest on the location of the version at the place
abbrev pub held_among : RunNo → ℕ → List (ℕ × ℕ) → List Version
held_among run place pairs = map (λ e. at_write run e.1) (filter (λ e. e.0 == place) pairs)

-- the versions of its run that are kept as resting on the location of a version
abbrev pub held_at : List (List (ℕ × ℕ)) → Version → List Version
held_at held (Empty l) = []
held_at held (at_write run place) = held_among run place (held_of held run.0)

-- v directly rests on c, or is kept as resting on its location, or rests on such a version
pub data Reaches (h : History) (held : List (List (ℕ × ℕ))) (c : Version) : Version → Type 0 where
  direct : {v : Version} → Contains (deps h v) c → Reaches h held c v
  kept : {v : Version} → Contains (held_at held c) v → Reaches h held c v
  further : {v w : Version} → Contains (deps h v) w → Reaches h held c w → Reaches h held c v

-- What is kept of a history. Where a version rests on a location, it is stale, or it is reached from the version that the
-- location has now.
pub record IsFollowed (h : History) (index : BTreeMap ℕ (List (RunNo × ℕ))) (held : List (List (ℕ × ℕ))) (touched : List (List (RunNo × ℕ))) : Type 0 where
  pub indexed : IsIndexed h index
  pub enough_held : length h ≤ length held
  pub enough_touched : length h ≤ length touched
  pub sound : (c v : Version) (l : Loc) → run_of c ≤ length h → location_of h c ≡ Some l → Contains (held_at held c) v → RestsOn h l v
  pub complete : (l : Loc) (v : Version) → RestsOn h l v → Stale h (length h) v ⊎ Reaches h held (current h (length h) l) v
  pub touches : (m : ℕ) → 0 < m → m ≤ length h → Touches h m (slice_index_or touched (m - 1) [])

-- ---- a step

-- the place stands in the list, or is put at its end
abbrev pub AddsPlace : List (RunNo × ℕ) → List (RunNo × ℕ) → RunNo × ℕ → Type 0
AddsPlace old new place = ((new ≡ old) × Contains old place) ⊎ (new ≡ old ++ place ∷ [])

-- the same where a test holds
abbrev pub AddsIf : Bool → List (RunNo × ℕ) → List (RunNo × ℕ) → RunNo × ℕ → Type 0
AddsIf true old new place = AddsPlace old new place
AddsIf false old new place = new ≡ old

-- all versions with P are listed too, behind the others, and only these
pub record AddsAll (old new : List (RunNo × ℕ)) (P : Version → Type 0) : Type 0 where
  pub more : List (RunNo × ℕ)
  pub is : new ≡ old ++ more
  pub added : (v : Version) → P v → IsListed new v
  pub only : (v : Version) → IsListed more v → P v

-- ---- what is kept of one more run

-- whether a version with this location is of the other
abbrev pub is_at : Option Loc → Loc → Bool
is_at None l = false
is_at (Some k) l = loc_eq k l

-- whether one of the versions is of the location, or is listed
abbrev pub rests : History → Loc → List (RunNo × ℕ) → List Version → Bool
rests h l reached us = list_any (λ u. is_at (location_of h u) l || is_listed reached u) us

abbrev pub run_after : History → ℕ
run_after h = suc (length h)

-- what a write of the run after the last rests on
abbrev pub seen_by : History → Written → List Version
seen_by h w = map (version_seen h (run_after h)) w.uses

-- no later write of the run is of its location
abbrev pub IsLast : Summary → Written → Type 0
IsLast s w = last_write w.location s.writes ≡ Some w.place

-- of these writes, those that rest on the location of a write, each behind the place of that write
abbrev pub holders : History → Summary → List (RunNo × ℕ) → Written → List Written → List (ℕ × ℕ)
holders h s reached w ws = map (λ x. (w.place, x.place)) (filter (λ x. rests (h ++ s ∷ []) w.location reached (seen_by h x)) ws)

-- What is kept for the last write of a location: what rested on the location before, and what of the run rests on it.
pub record FollowsLast (h : History) (s : Summary) (all_held : List (List (ℕ × ℕ))) (w : Written) (old_held new_held : List (ℕ × ℕ)) (old_touched new_touched : List (RunNo × ℕ)) : Type 0 where
  pub reached : List (RunNo × ℕ)
  pub each : (v : Version) → IsListed reached v ↔ Reaches h all_held (current h (length h) w.location) v
  pub held : new_held ≡ old_held ++ holders h s reached w s.writes
  pub touched : new_touched ≡ old_touched ++ reached

pub record FollowsWrite (h : History) (s : Summary) (all_held : List (List (ℕ × ℕ))) (w : Written) (old_held new_held : List (ℕ × ℕ)) (old_touched new_touched : List (RunNo × ℕ)) : Type 0 where
  pub last : IsLast s w → FollowsLast h s all_held w old_held new_held old_touched new_touched
  pub other : (IsLast s w → ⊥) → (new_held ≡ old_held) × (new_touched ≡ old_touched)

-- x rests on the location of w: by a version of the location, or by one that rested on it before the run
abbrev pub RestsHere : History → Summary → List (List (ℕ × ℕ)) → Written → Written → Type 0
RestsHere h s all_held w x = (u : Version) × Contains (seen_by h x) u
    × ((location_of (h ++ s ∷ []) u ≡ Some w.location) ⊎ Reaches h all_held (current h (length h) w.location) u)

-- what is kept for these writes of a run
pub record Follows (h : History) (s : Summary) (all_held : List (List (ℕ × ℕ))) (ws : List Written) (held : List (ℕ × ℕ)) (touched : List (RunNo × ℕ)) : Type 0 where
  pub held_only : (e : ℕ × ℕ) → Contains held e
      → (w : Written) × (x : Written) × Contains ws w × Contains s.writes x × (e ≡ (w.place, x.place)) × RestsHere h s all_held w x
  pub held_all : (w x : Written) → Contains ws w → IsLast s w → Contains s.writes x → RestsHere h s all_held w x → Contains held (w.place, x.place)
  pub touched_only : (v : Version) → IsListed touched v → (w : Written) × Contains ws w × Reaches h all_held (current h (length h) w.location) v
  pub touched_all : (w : Written) (v : Version) → Contains ws w → IsLast s w → Reaches h all_held (current h (length h) w.location) v → IsListed touched v

-- each of these writes is listed with each version that it directly rests on
abbrev pub ListsAll : History → BTreeMap ℕ (List (RunNo × ℕ)) → List Written → Type 0
ListsAll h index ws = (w : Written) (u : Version) → Contains ws w → Contains (seen_by h w) u
    → Contains (listed_at index (hash_version u)) (record { 0 = run_after h }, w.place)

-- the first items stay, where there are as many
pub record KeepsFirst {X : Type 0} (count : ℕ) (old new : List X) : Type 0 where
  pub same : count ≤ length old → take count new ≡ take count old
  pub enough : count ≤ length old → count ≤ length new

-- what is reached from a version, where the first `done` of the list have been gone on from
pub record IsReached (h : History) (held : List (List (ℕ × ℕ))) (c : Version) (done : ℕ) (reached : List (RunNo × ℕ)) : Type 0 where
  pub within : done ≤ length reached
  pub sound : (v : Version) → IsListed reached v → Reaches h held c v
  pub begun : (v : Version) → Contains (held_at held c) v ⊎ Contains (deps h v) c → IsListed reached v
  pub closed : (k : ℕ) (v : Version) → k < done → Contains (deps h v) (nth reached k) → IsListed reached v
