-- Why a version is stale.
use Rattle.std.specs.Prelude.{◌≡◌, ◌≢◌, ℕ, zero, suc, ◌+◌, ◌-◌, ◌<◌, ◌≤◌, List, [], ◌∷◌, Option, Some, None, if◌then◌else◌, is_some, filter, IsTrue}
use Rattle.std.specs.List.{find}
use Rattle.std.specs.Ordering.{is_lt}
use Rattle.std.specs.declared.cmp.Ordering.TheVariants.{Less}
use Rattle.trace_events.specs.declared.version.Version.{Version}
use Rattle.trace_events.specs.History.{History, run_of, wrote}
use Rattle.trace_events.specs.Decided.{ancestors_of, near_of, runs_after, is_stale}
use Rattle.trace_events.specs.Order.{version_cmp}
use Rattle.trace_events.specs.Staleness.{Ancestor, Near, Stale}

-- the version that was overwritten, the run that computed what rests on it, and the first run that overwrote it
pub record Reason : Type 0 where
  pub dep : Version
  pub computed : ℕ
  pub overwritten : ℕ

-- ---- what a reason says

-- u is an ancestor of v whose location run m wrote, after v's run and up to run n
pub record IsOverwrite (h : History) (n : ℕ) (v u : Version) (m : ℕ) : Type 0 where
  pub reached : Ancestor h v u
  pub written : IsTrue (wrote h m u)
  pub after : run_of v < m
  pub upto : m ≤ n

-- the least such ancestor, and the first such run for it
pub record IsLeastOverwrite (names : List (List ℕ)) (h : History) (n : ℕ) (v : Version) (reason : Reason) : Type 0 where
  pub overwrite : IsOverwrite h n v reason.dep reason.overwritten
  pub computed : reason.computed ≡ run_of v
  pub least : (u : Version) (m : ℕ) → IsOverwrite h n v u m → version_cmp names u reason.dep ≢ Less
  pub first : (m : ℕ) → IsOverwrite h n v reason.dep m → reason.overwritten ≤ m

-- u is a near version of v that was stale when v's run began, and no such version is before it
pub record IsLeastStaleNear (names : List (List ℕ)) (h : History) (v u : Version) : Type 0 where
  pub reached : Near h v u
  pub stale : Stale h (run_of v - 1) u
  pub least : (w : Version) → Near h v w → Stale h (run_of v - 1) w → version_cmp names w u ≢ Less

-- why v is stale when run n has ended: where no ancestor was overwritten, it is why the near version was stale
pub data IsWhy (names : List (List ℕ)) (h : History) : ℕ → Version → Reason → Type 0 where
  overwrites : {n : ℕ} {v : Version} {reason : Reason} → IsLeastOverwrite names h n v reason → IsWhy names h n v reason
  otherwise : {n : ℕ} {v u : Version} {reason : Reason} → ((w : Version) (m : ℕ) → IsOverwrite h n v w m → ⊥) → IsLeastStaleNear names h v u
      → IsWhy names h (run_of v - 1) u reason → IsWhy names h n v reason

-- ---- the least of a list

abbrev pub lesser : List (List ℕ) → Version → Option Version → Version
lesser names v None = v
lesser names v (Some u) = if is_lt (version_cmp names u v) then u else v

abbrev pub least : List (List ℕ) → List Version → Option Version
least names [] = None
least names (v ∷ vs) = Some (lesser names v (least names vs))

-- ---- the reason

-- the first run after run r, up to run n, that wrote the location of the version
abbrev pub first_overwrite : History → ℕ → ℕ → Version → Option ℕ
first_overwrite h r n u = find (λ m. wrote h m u) (runs_after r n)

-- the least ancestor of v whose location was written after v's run, up to run n
abbrev pub least_overwritten : List (List ℕ) → History → ℕ → Version → Option Version
least_overwritten names h n v = least names (filter (λ u. is_some (first_overwrite h (run_of v) n u)) (ancestors_of h v))

-- the least near version of v that was stale when v's run began
abbrev pub least_stale_near : List (List ℕ) → History → Version → Option Version
least_stale_near names h v = least names (filter (is_stale h (run_of v - 1)) (near_of h v))

abbrev pub reason_with : ℕ → Version → Option ℕ → Option Reason
reason_with computed dep None = None
reason_with computed dep (Some m) = Some (record { dep = dep; computed = computed; overwritten = m })

-- the ancestor's reason if there is one, and else that of the near version
abbrev pub or_carried : (Version → Option Reason) → Option Reason → Option Version → Option Reason
or_carried go_on (Some reason) near = Some reason
or_carried go_on None None = None
or_carried go_on None (Some u) = go_on u

abbrev pub reason_of_dep : History → ℕ → Version → Option Version → Option Reason
reason_of_dep h n v None = None
reason_of_dep h n v (Some u) = reason_with (run_of v) u (first_overwrite h (run_of v) n u)

abbrev pub reason_within : ℕ → List (List ℕ) → History → ℕ → Version → Option Reason
reason_within zero names h n v = None
reason_within (suc runs) names h n v =
    or_carried (reason_within runs names h (run_of v - 1)) (reason_of_dep h n v (least_overwritten names h n v)) (least_stale_near names h v)

-- why v is stale when run n has ended, and None where it is not
abbrev pub why_of : List (List ℕ) → History → ℕ → Version → Option Reason
why_of names h n v = reason_within (run_of v + 1) names h n v
