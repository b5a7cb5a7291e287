-- What a version rests on is older.
use Rattle.std.proofs.Common.{◌≡◌, ℕ, zero, suc, ◌+◌, ◌-◌, ◌<◌, ◌≤◌, inl, inr, Bool, true, false, cond, List, [], ◌∷◌, refl, subst, ⊎_elim, eqb-true, arith}
use Rattle.std.specs.Prelude.{Option, Some, None, ◌==◌}
use Rattle.std.specs.List.{Contains, AllByRecursion}
use Rattle.std.proofs.lemmas.List.Elements.{All-from_recursion, All-contains}
use Rattle.flow_base.specs.declared.event.Event.{Event}
use Rattle.flow_base.specs.declared.loc.Loc.{Loc}
use Rattle.flow_base.specs.declared.numbers.RunNo.{RunNo}
use Rattle.trace_events.specs.declared.version.Version.{Version}
use Rattle.trace_events.specs.declared.version.Version.TheVariants.{Empty, Written as at_write}
use Rattle.trace_events.specs.Trace.{Seen, Before, Own, Written, last_write}
use Rattle.trace_events.specs.History.{History, history_of, current, deps, or_earlier, place_of, run_of, uses_at, version_seen, write_at, writes_of, IsOlder}
use Rattle.trace_events.specs.Staleness.{Ancestor, direct, further, Near, earlier, within}
use Rattle.trace_events.proofs.Lists.{no_member, Contains-map}
use Rattle.trace_events.specs.Lawful.{IsSeenBelow, IsAscendingFrom}
use Rattle.trace_events.proofs.Reading.{reading_of-ascending}

-- ---- what a use saw

-- the places of a run's writes ascend
pub writes_ascend : (traces : List (List Event)) (n : ℕ) → IsAscendingFrom 0 (writes_of (history_of traces) n)
writes_ascend traces zero = tt
writes_ascend [] (suc n) = tt
writes_ascend (t ∷ ts) (suc zero) = reading_of-ascending t
writes_ascend (t ∷ ts) (suc (suc n)) = writes_ascend ts (suc n)

-- the places of the writes of each run ascend
abbrev pub IsAscending : History → Type 0
IsAscending h = (n : ℕ) → IsAscendingFrom 0 (writes_of h n)

-- the same for the first write, whose place is looked up, or not
uses_below_head : (i : ℕ) (w : Written) (ws : List Written) (s : Seen) (b : Bool) → (w.place == i) ≡ b → AllByRecursion (IsSeenBelow w.place) w.uses
    → (Contains (uses_at (write_at ws i)) s → IsSeenBelow i s)
    → Contains (uses_at (cond b (Some w) (write_at ws i))) s → IsSeenBelow i s
uses_below_head i w ws s true e a rest c =
    subst (λ (p : ℕ). IsSeenBelow p s) (eqb-true w.place i e)
    (All-contains (IsSeenBelow w.place) w.uses s (All-from_recursion (IsSeenBelow w.place) w.uses a) c)
uses_below_head i w ws s false e a rest c = rest c

-- a use gathered at a write saw an earlier place
uses_below : (p i : ℕ) (ws : List Written) (s : Seen) → IsAscendingFrom p ws → Contains (uses_at (write_at ws i)) s → IsSeenBelow i s
uses_below p i [] s a c = absurd (no_member s c)
uses_below p i (w ∷ ws) s a c = uses_below_head i w ws s (w.place == i) refl a.1 (uses_below (w.place + 1) i ws s a.2) c

-- run 0 wrote nothing
after_zero : (h : History) (n i : ℕ) (s : Seen) → Contains (uses_at (write_at (writes_of h n) i)) s → 0 < n
after_zero h zero i s c = absurd (no_member s c)
after_zero h (suc n) i s c = omega arith

-- a bound on the run of the chosen version
or_earlier_bound : (n : ℕ) (o : Option ℕ) (v : Version) → run_of v ≤ n → run_of (or_earlier (suc n) o v) ≤ suc n
or_earlier_bound n (Some place) v le = omega arith
or_earlier_bound n None v le = omega arith

-- the current version is of a run that has ended
pub run_of-current : (h : History) (n : ℕ) (l : Loc) → run_of (current h n l) ≤ n
run_of-current h zero l = omega arith
run_of-current h (suc n) l = or_earlier_bound n (last_write l (writes_of h (suc n))) (current h n l) (run_of-current h n l)

-- what a use of a run saw is older than the write on which it was gathered
seen_older : (h : History) (run : RunNo) (i : ℕ) (s : Seen) → 0 < run.0 → IsSeenBelow i s → IsOlder (version_seen h run.0 s) (at_write run i)
seen_older h run i (Before l) pos b = inl (let le : run_of (current h (run.0 - 1) l) ≤ run.0 - 1 = run_of-current h (run.0 - 1) l in omega arith)
seen_older h run i (Own place) pos b = inr (refl, b)

-- ---- one step

-- what a version directly rests on is older
pub dep_older : (h : History) → IsAscending h → (v u : Version) → Contains (deps h v) u → IsOlder u v
dep_older h ascend (Empty l) u c = absurd (no_member u c)
dep_older h ascend (at_write run i) u c =
    let used = Contains-map (version_seen h run.0) (uses_at (write_at (writes_of h run.0) i)) u c in
    subst (λ (w : Version). IsOlder w (at_write run i)) used.2
    (seen_older h run i used.0 (after_zero h run.0 i used.0 used.1) (uses_below 0 i (writes_of h run.0) used.0 (ascend run.0) used.1))

-- ---- many steps

-- older than what is older
pub older_trans : (u w v : Version) → IsOlder u w → IsOlder w v → IsOlder u v
older_trans u w v a b = ⊎_elim
    (λ (x : run_of u < run_of w). ⊎_elim
    (λ (y : run_of w < run_of v). inl (omega arith))
    (λ (y : (run_of w ≡ run_of v) × (place_of w < place_of v)). inl (omega arith))
    b)
    (λ (x : (run_of u ≡ run_of w) × (place_of u < place_of w)). ⊎_elim
    (λ (y : run_of w < run_of v). inl (omega arith))
    (λ (y : (run_of w ≡ run_of v) × (place_of w < place_of v)). inr (omega arith, omega arith))
    b)
    a

-- no version is older than itself
pub older_itself : (v : Version) → IsOlder v v → ⊥
older_itself v a = ⊎_elim (λ (x : run_of v < run_of v). omega arith) (λ (x : (run_of v ≡ run_of v) × (place_of v < place_of v)). omega arith) a

-- an ancestor is older
pub ancestor_older : (h : History) → IsAscending h → {v u : Version} → Ancestor h v u → IsOlder u v
ancestor_older h ascend (direct {v = v} {u = u} c) = dep_older h ascend v u c
ancestor_older h ascend (further {v = v} {w = w} {u = u} c a) = older_trans u w v (ancestor_older h ascend a) (dep_older h ascend v w c)

-- no version is its own ancestor
pub ancestor_itself : (h : History) → IsAscending h → (v : Version) → Ancestor h v v → ⊥
ancestor_itself h ascend v a = older_itself v (ancestor_older h ascend a)

-- a version without dependences has neither ancestors nor near versions
module _ (h : History) where
  -- no ancestors
  pub ancestor_none : {v u : Version} → deps h v ≡ [] → Ancestor h v u → ⊥
  ancestor_none e (direct {u = u} c) = no_member u (subst (λ (ds : List Version). Contains ds u) e c)
  ancestor_none e (further {w = w} c a) = no_member w (subst (λ (ds : List Version). Contains ds w) e c)

  -- no near versions
  pub near_none : {v u : Version} → deps h v ≡ [] → Near h v u → ⊥
  near_none e (earlier {u = u} c lt) = no_member u (subst (λ (ds : List Version). Contains ds u) e c)
  near_none e (within {w = w} c same n) = no_member w (subst (λ (ds : List Version). Contains ds w) e c)

  -- a near version is of an earlier run
  pub run_of-near : {v u : Version} → Near h v u → run_of u < run_of v
  run_of-near (earlier c lt) = lt
  run_of-near (within {v = v} {w = w} {u = u} c e n) = let rest : run_of u < run_of w = run_of-near n in let same : run_of w ≡ run_of v = e in omega arith
