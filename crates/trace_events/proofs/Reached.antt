-- The lists of what is reached hold exactly the ancestors and the near versions.
use Rattle.std.proofs.Common.{◌≡◌, ℕ, zero, suc, ◌<◌, ◌≤◌, ◌||◌, ◌&&◌, Bool, true, false, cond, List, [], ◌∷◌, length, map, refl, sym, ap, subst, ⊎_elim, eqb-true, eq-eqb, ltb-true, lt-ltb, le-ltb, inl, inr, arith}
use Rattle.std.specs.Prelude.{Some, ◌==◌, nat_lt}
use Rattle.std.specs.List.{Contains, flat_map}
use Rattle.std.proofs.lemmas.Bool.{and_from, and_parts, or_cases, or_left, or_right, false_from_ne_true}
use Rattle.std.proofs.lemmas.List.Elements.{Contains-append_cases, Contains-append_left, Contains-append_right}
use Rattle.std.proofs.lemmas.List.{get_or_past}
use Rattle.std.proofs.Math.Nat.{eq-or-lt_of_le}
use Rattle.std.proofs.lemmas.Bool.{cases_lt}
use Rattle.trace_events.specs.declared.version.Version.{Version}
use Rattle.trace_events.specs.declared.version.Version.TheVariants.{Empty, Written as at_write}
use Rattle.trace_events.specs.Trace.{Seen, Summary, Written}
use Rattle.trace_events.specs.History.{History, deps, made, made_upto, place_of, run_of, uses_at, version_at, version_seen, write_at, writes_of, IsOlder}
use Rattle.trace_events.specs.Staleness.{Ancestor, direct, further, Near, earlier, within}
use Rattle.trace_events.specs.Decided.{ancestors_of, count_of_writes, near_from, near_of, near_within, reached}
use Rattle.trace_events.proofs.Ancestors.{IsAscending, dep_older, older_itself, older_trans}
use Rattle.trace_events.proofs.Lists.{no_member, Contains-cons, Contains-flat_map, Contains-flat_map_of, Contains-head, Contains-map, count, count_all, count_lt}

-- ---- what is listed is reached

module _ (h : History) where
  -- what is reached by some steps is an ancestor
  pub reached_ancestor : (steps : ℕ) (v u : Version) → Contains (reached steps h v) u → Ancestor h v u
  reached_ancestor zero v u c = absurd (no_member u c)
  reached_ancestor (suc steps) v u c = ⊎_elim
      (λ (one : Contains (deps h v) u). direct one)
      (λ (more : Contains (flat_map (reached steps h) (deps h v)) u).
      let way = Contains-flat_map (reached steps h) (deps h v) u more in further way.1 (reached_ancestor steps way.0 u way.2))
      (Contains-append_cases (deps h v) (flat_map (reached steps h) (deps h v)) u c)

  -- what one step goes on to is near, by the two tests of its run
  near_from_near : (v w u : Version) (go_on : Version → List Version) (less same : Bool) → Contains (deps h v) w
      → nat_lt (run_of w) (run_of v) ≡ less → (run_of w == run_of v) ≡ same → (Contains (go_on w) u → Near h w u)
      → Contains (cond less (w ∷ []) (cond same (go_on w) [])) u → Near h v u
  near_from_near v w u go_on true same d e f rest c = only c
    where
      only : Contains (w ∷ []) u → Near h v u
      only (zero, lt, q) = earlier (subst (λ (x : Version). Contains (deps h v) x) q d) (subst (λ (x : Version). run_of x < run_of v) q (ltb-true (run_of w) (run_of v) e))
      only (suc k, lt, q) = absurd (omega arith)
  near_from_near v w u go_on false true d e f rest c = within d (eqb-true (run_of w) (run_of v) f) (rest c)
  near_from_near v w u go_on false false d e f rest c = absurd (no_member u c)

  -- what is reached by some steps inside the run is near
  pub near_within_near : (steps : ℕ) (v u : Version) → Contains (near_within steps h v) u → Near h v u
  near_within_near zero v u c = absurd (no_member u c)
  near_within_near (suc steps) v u c =
      let way = Contains-flat_map (λ w. near_from (run_of v) (run_of w) (near_within steps h) w) (deps h v) u c in
      near_from_near v way.0 u (near_within steps h) (nat_lt (run_of way.0) (run_of v)) (run_of way.0 == run_of v) way.1 refl refl
      (near_within_near steps way.0 u) way.2

-- ---- a version that rests on something was made

-- the same for the first write, whose place is looked up, or not
made_head : (n i : ℕ) (w : Written) (ws : List Written) (s : Seen) (b : Bool) → (w.place == i) ≡ b
    → (Contains (uses_at (write_at ws i)) s → Contains (map (λ x. version_at n x.place) ws) (version_at n i))
    → Contains (uses_at (cond b (Some w) (write_at ws i))) s → Contains (map (λ x. version_at n x.place) (w ∷ ws)) (version_at n i)
made_head n i w ws s true e rest c = (0, omega arith, ap (version_at n) (eqb-true w.place i e))
made_head n i w ws s false e rest c = Contains-cons (version_at n w.place) (version_at n i) (map (λ (x : Written). version_at n x.place) ws) (rest c)

-- a version with uses is among those that its run made
pub made_uses : (n i : ℕ) (ws : List Written) (s : Seen) → Contains (uses_at (write_at ws i)) s → Contains (map (λ x. version_at n x.place) ws) (version_at n i)
made_uses n i [] s c = absurd (no_member s c)
made_uses n i (w ∷ ws) s c = made_head n i w ws s (w.place == i) refl (made_uses n i ws s) c

-- a version that rests on something is among those that its run made
pub made_deps : (h : History) (v u : Version) → Contains (deps h v) u → Contains (made h (run_of v)) v
made_deps h (Empty l) u c = absurd (no_member u c)
made_deps h (at_write run i) u c =
    let used = Contains-map (version_seen h run.0) (uses_at (write_at (writes_of h run.0) i)) u c in
    made_uses run.0 i (writes_of h run.0) used.0 used.1

-- what a run made is among what all runs up to a later one made
pub made_upto_made : (h : History) (r m : ℕ) (u : Version) → r ≤ m → Contains (made h r) u → Contains (made_upto h m) u
made_upto_made h zero m u le c = absurd (no_member u c)
made_upto_made h (suc r) zero u le c = absurd (omega arith)
made_upto_made h (suc r) (suc m) u le c = ⊎_elim
    (λ (e : suc r ≡ suc m). Contains-append_right (made_upto h m) (made h (suc m)) u (subst (λ (x : ℕ). Contains (made h x) u) e c))
    (λ (lt : suc r < suc m). Contains-append_left (made_upto h m) (made h (suc m)) u (made_upto_made h (suc r) m u (omega arith) c))
    (eq-or-lt_of_le le)

-- only the runs of the history wrote something
writes_past : (h : History) (n : ℕ) → length h < n → writes_of h n ≡ []
writes_past h zero lt = absurd (omega arith)
writes_past h (suc n) lt = ap (λ (s : Summary). s.writes) (get_or_past h n (record { reads = []; writes = [] }) (omega arith))

-- a run that made something is in the history
pub made_within : (h : History) (n : ℕ) (v : Version) → Contains (made h n) v → n ≤ length h
made_within h n v c = ⊎_elim
    (λ (past : length h < n). absurd (no_member v (subst (λ (ws : List Written). Contains (map (λ w. version_at n w.place) ws) v) (writes_past h n past) c)))
    (λ (le : n ≤ length h). le)
    (cases_lt (length h) n)

-- all versions that were written
abbrev all_made : History → List Version
all_made h = made_upto h (length h)

-- a version that rests on something was made
pub all_made_deps : (h : History) (v u : Version) → Contains (deps h v) u → Contains (all_made h) v
all_made_deps h v u c = let m = made_deps h v u c in made_upto_made h (run_of v) (length h) v (made_within h (run_of v) v m) m

-- ---- how many versions are older

-- the test for an older version
is_older : Version → Version → Bool
is_older v u = nat_lt (run_of u) (run_of v) || ((run_of u == run_of v) && nat_lt (place_of u) (place_of v))

-- what passes the test is older
older_true : (v u : Version) → is_older v u ≡ true → IsOlder u v
unfolding is_older
older_true v u t = ⊎_elim
    (λ (x : nat_lt (run_of u) (run_of v) ≡ true). inl (ltb-true (run_of u) (run_of v) x))
    (λ (x : ((run_of u == run_of v) && nat_lt (place_of u) (place_of v)) ≡ true).
    let both = and_parts (run_of u == run_of v) (nat_lt (place_of u) (place_of v)) x in
    inr (eqb-true (run_of u) (run_of v) both.0, ltb-true (place_of u) (place_of v) both.1))
    (or_cases (nat_lt (run_of u) (run_of v)) ((run_of u == run_of v) && nat_lt (place_of u) (place_of v)) t)

-- what is older passes the test
true_older : (v u : Version) → IsOlder u v → is_older v u ≡ true
unfolding is_older
true_older v u o = ⊎_elim
    (λ (x : run_of u < run_of v). or_left (nat_lt (run_of u) (run_of v)) ((run_of u == run_of v) && nat_lt (place_of u) (place_of v)) (lt-ltb (run_of u) (run_of v) x))
    (λ (x : (run_of u ≡ run_of v) × (place_of u < place_of v)).
    or_right (nat_lt (run_of u) (run_of v)) ((run_of u == run_of v) && nat_lt (place_of u) (place_of v))
    (and_from (run_of u == run_of v) (nat_lt (place_of u) (place_of v)) (eq-eqb (run_of u) (run_of v) x.0) (lt-ltb (place_of u) (place_of v) x.1)))
    o

-- no version passes its own test
not_older : (v : Version) → is_older v v ≡ false
not_older v = false_from_ne_true (is_older v v) (λ t. older_itself v (older_true v v t))

-- how many of the versions that were made are older
rank : History → Version → ℕ
rank h v = count (is_older v) (all_made h)

-- where u was made and is older than v, fewer versions are older than it
rank_older : (h : History) (v u : Version) → Contains (all_made h) u → IsOlder u v → rank h u < rank h v
unfolding rank
rank_older h v u m o = count_lt (is_older u) (is_older v)
    (λ w t. true_older v w (older_trans w u v (older_true u w t) o))
    (all_made h) u m (not_older u) (true_older v u o)

-- of a version that was made not all are older
rank_made : (h : History) (v : Version) → Contains (all_made h) v → rank h v < count_of_writes h
unfolding rank
rank_made h v m =
    let less : count (is_older v) (all_made h) < count (λ x. true) (all_made h) = count_lt (is_older v) (λ x. true) (λ w t. refl) (all_made h) v m (not_older v) refl in
    omega (arith, count_all (all_made h))

-- ---- what is reached is listed

module _ (now : History) (ascend : IsAscending now) where
  -- a step to a version that rests on something goes to a lower rank
  rank_dep : (v w u : Version) → Contains (deps now v) w → Contains (deps now w) u → rank now w < rank now v
  rank_dep v w u c d = rank_older now v w (all_made_deps now w u d) (dep_older now ascend v w c)

  -- what an ancestor's way begins with
  first_step : {v u : Version} → Ancestor now v u → (w : Version) × Contains (deps now v) w
  first_step (direct {u = u} c) = (u, c)
  first_step (further {w = w} c a) = (w, c)

  -- and the way to a near version
  first_near : {v u : Version} → Near now v u → (w : Version) × Contains (deps now v) w
  first_near (earlier {u = u} c lt) = (u, c)
  first_near (within {w = w} c e n) = (w, c)

  -- an ancestor is reached by as many steps as the rank allows
  ancestor_reached : (steps : ℕ) {v u : Version} → rank now v < steps → Ancestor now v u → Contains (reached steps now v) u
  ancestor_reached zero lt a = absurd (omega arith)
  ancestor_reached (suc steps) lt (direct {v = v} {u = u} c) = Contains-append_left (deps now v) (flat_map (reached steps now) (deps now v)) u c
  ancestor_reached (suc steps) lt (further {v = v} {w = w} {u = u} c a) =
      let next = first_step a in
      let less : rank now w < rank now v = rank_dep v w next.0 c next.1 in
      Contains-append_right (deps now v) (flat_map (reached steps now) (deps now v)) u
      (Contains-flat_map_of (reached steps now) (deps now v) w u c (ancestor_reached steps (omega arith) a))

  -- a step to an earlier run ends there
  near_from_less : (run other : ℕ) (go_on : Version → List Version) (u : Version) → other < run → Contains (near_from run other go_on u) u
  near_from_less run other go_on u lt = subst (λ (b : Bool). Contains (cond b (u ∷ []) (cond (other == run) (go_on u) [])) u) (sym (lt-ltb other run lt)) (Contains-head u [])

  -- a step inside the run goes on
  near_from_same : (run other : ℕ) (go_on : Version → List Version) (w u : Version) → other ≡ run → Contains (go_on w) u → Contains (near_from run other go_on w) u
  near_from_same run other go_on w u e c =
      subst (λ (b : Bool). Contains (cond b (w ∷ []) (cond (other == run) (go_on w) [])) u) (sym (le-ltb other run (omega arith)))
      (subst (λ (b : Bool). Contains (cond b (go_on w) []) u) (sym (eq-eqb other run e)) c)

  -- a near version is reached by as many steps as the rank allows
  near_reached : (steps : ℕ) {v u : Version} → rank now v < steps → Near now v u → Contains (near_within steps now v) u
  near_reached zero lt a = absurd (omega arith)
  near_reached (suc steps) lt (earlier {v = v} {u = u} c less) =
      Contains-flat_map_of (λ w. near_from (run_of v) (run_of w) (near_within steps now) w) (deps now v) u u c
      (near_from_less (run_of v) (run_of u) (near_within steps now) u less)
  near_reached (suc steps) lt (within {v = v} {w = w} {u = u} c e n) =
      let next = first_near n in
      let less : rank now w < rank now v = rank_dep v w next.0 c next.1 in
      Contains-flat_map_of (λ x. near_from (run_of v) (run_of x) (near_within steps now) x) (deps now v) w u c
      (near_from_same (run_of v) (run_of w) (near_within steps now) w u e (near_reached steps (omega arith) n))

  -- each ancestor is listed
  pub ancestor_listed : {v u : Version} → Ancestor now v u → Contains (ancestors_of now v) u
  ancestor_listed {v} {u} a = let next = first_step a in
      ancestor_reached (count_of_writes now) (rank_made now v (all_made_deps now v next.0 next.1)) a

  -- each near version is listed
  pub near_listed : {v u : Version} → Near now v u → Contains (near_of now v) u
  near_listed {v} {u} n = let next = first_near n in
      near_reached (count_of_writes now) (rank_made now v (all_made_deps now v next.0 next.1)) n
