-- Two histories that agree on their first runs say the same of the versions of those runs.
use Rattle.std.proofs.Common.{◌≡◌, ℕ, zero, suc, ◌-◌, ◌<◌, ◌≤◌, Bool, List, [], ◌∷◌, map, refl, sym, subst, ap, ◌∙◌, arith}
use Rattle.std.specs.Prelude.{IsTrue}
use Rattle.std.specs.List.{Contains}
use Rattle.flow_base.specs.declared.loc.Loc.{Loc}
use Rattle.trace_events.specs.declared.version.Version.{Version}
use Rattle.trace_events.specs.declared.version.Version.TheVariants.{Empty, Written as at_write}
use Rattle.trace_events.specs.Trace.{last_write}
use Rattle.trace_events.specs.declared.summary.Seen.{Seen}
use Rattle.trace_events.specs.declared.summary.Seen.TheVariants.{Before, Own}
use Rattle.trace_events.specs.History.{History, current, deps, location_at, location_of, or_earlier, run_of, uses_at, version_seen, write_at, writes_of, wrote, wrote_location}
use Rattle.trace_events.specs.Staleness.{Ancestor, direct, further, Near, earlier, within, Stale, overwritten, carried}
use Rattle.trace_events.proofs.Ancestors.{IsAscending, run_of-near}
use Rattle.version_store.proofs.Creation.{run_of-dep}

-- up to run n the two have the same writes
abbrev pub SameUpto : ℕ → History → History → Type 0
SameUpto n g h = (m : ℕ) → m ≤ n → writes_of g m ≡ writes_of h m

pub same_back : (n : ℕ) (g h : History) → SameUpto n g h → SameUpto n h g
same_back n g h same = λ m le. sym (same m le)

module _ (last : ℕ) (g h : History) (same : SameUpto last g h) (ascend : IsAscending g) where
  pub current_same : (n : ℕ) (l : Loc) → n ≤ last → current g n l ≡ current h n l
  current_same zero l le = refl
  current_same (suc n) l le =
      ap (λ ws. or_earlier (suc n) (last_write l ws) (current g n l)) (same (suc n) le)
      ∙ ap (or_earlier (suc n) (last_write l (writes_of h (suc n)))) (current_same n l (omega arith))

  seen_same : (n : ℕ) (s : Seen) → n ≤ last → version_seen g n s ≡ version_seen h n s
  seen_same n (Before l) le = current_same (n - 1) l (omega arith)
  seen_same n (Own place) le = refl

  all_seen_same : (n : ℕ) (ss : List Seen) → n ≤ last → map (version_seen g n) ss ≡ map (version_seen h n) ss
  all_seen_same n [] le = refl
  all_seen_same n (s ∷ ss) le =
      ap (λ v. v ∷ map (version_seen g n) ss) (seen_same n s le) ∙ ap (λ vs. version_seen h n s ∷ vs) (all_seen_same n ss le)

  pub deps_same : (v : Version) → run_of v ≤ last → deps g v ≡ deps h v
  deps_same (Empty l) le = refl
  deps_same (at_write run i) le =
      ap (λ ws. map (version_seen g run.0) (uses_at (write_at ws i))) (same run.0 le)
      ∙ all_seen_same run.0 (uses_at (write_at (writes_of h run.0) i)) le

  pub location_same : (v : Version) → run_of v ≤ last → location_of g v ≡ location_of h v
  location_same (Empty l) le = refl
  location_same (at_write run i) le = ap (λ ws. location_at (write_at ws i)) (same run.0 le)

  pub wrote_same : (m : ℕ) (v : Version) → m ≤ last → run_of v ≤ last → wrote g m v ≡ wrote h m v
  wrote_same m v lm le = ap (λ ws. wrote_location ws (location_of g v)) (same m lm) ∙ ap (wrote_location (writes_of h m)) (location_same v le)

  dep_to : (v u : Version) → run_of v ≤ last → Contains (deps g v) u → Contains (deps h v) u
  dep_to v u le c = subst (λ (l : List Version). Contains l u) (deps_same v le) c

  pub run_of-ancestor : {v u : Version} → Ancestor g v u → run_of u ≤ run_of v
  run_of-ancestor (direct {v = v} {u = u} c) = run_of-dep g ascend v u c
  run_of-ancestor (further {v = v} {w = w} {u = u} c a) =
      let one : run_of w ≤ run_of v = run_of-dep g ascend v w c in
      let rest : run_of u ≤ run_of w = run_of-ancestor a in
      omega arith

  pub ancestor_to : {v u : Version} → run_of v ≤ last → Ancestor g v u → Ancestor h v u
  ancestor_to le (direct {v = v} {u = u} c) = direct (dep_to v u le c)
  ancestor_to le (further {v = v} {w = w} {u = u} c a) =
      let one : run_of w ≤ run_of v = run_of-dep g ascend v w c in
      further (dep_to v w le c) (ancestor_to (omega arith) a)

  pub near_to : {v u : Version} → run_of v ≤ last → Near g v u → Near h v u
  near_to le (earlier {v = v} {u = u} c lt) = earlier (dep_to v u le c) lt
  near_to le (within {v = v} {w = w} {u = u} c e n) =
      let there : run_of w ≡ run_of v = e in
      within (dep_to v w le c) e (near_to (omega arith) n)

  pub stale_to : {n : ℕ} {v : Version} → n ≤ last → run_of v ≤ last → Stale g n v → Stale h n v
  stale_to ln le (overwritten {n = n} {m = m} {v = v} {u = u} a w lt lm) =
      let below : run_of u ≤ run_of v = run_of-ancestor a in
      overwritten (ancestor_to le a) (subst (λ (b : Bool). IsTrue b) (wrote_same m u (omega arith) (omega arith)) w) lt lm
  stale_to ln le (carried {v = v} {u = u} nr st) =
      let below : run_of u < run_of v = run_of-near g nr in
      carried (near_to le nr) (stale_to (omega arith) (omega arith) st)
