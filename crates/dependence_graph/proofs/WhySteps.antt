-- How the reason is found.
use Rattle.std.proofs.Common.{◌≡◌, ℕ, zero, suc, ◌+◌, ◌-◌, ◌<◌, ◌≤◌, ◌&&◌, ◌++◌, Bool, true, false, cond, List, [], ◌∷◌, length, take, get_or, min, refl, sym, ap, subst, ◌∙◌, add-one, lt-ltb, ltb-true, arith}
use Rattle.std.specs.Prelude.{IfOk, IsTrue, Option, Some, None, Result, Ok, Err, filter, find, is_some, nat_lt}
use Rattle.std.specs.BTreeSet.{BTreeSet}
use Rattle.std.specs.List.{Contains, range_with_len}
use Rattle.std.proofs.lemmas.Bool.{and_from, and_parts, false≢true, false_from_ne_true}
use Rattle.std.proofs.lemmas.List.Elements.{filter_more}
use Rattle.flow_base.specs.declared.no_memory.NoMemory.{NoMemory}
use Rattle.flow_base.specs.declared.numbers.RunNo.{RunNo}
use Rattle.trace_events.specs.declared.version.Version.{Version}
use Rattle.trace_events.specs.History.{History, made_upto, run_of, wrote}
use Rattle.trace_events.specs.Decided.{ancestors_of, count_of_writes, is_stale, near_of, runs_after}
use Rattle.trace_events.specs.Staleness.{Ancestor, Stale}
use Rattle.trace_events.specs.Staleness as stale
use Rattle.trace_events.specs.Why.{Reason, first_overwrite, least, least_overwritten, least_stale_near, or_carried, reason_of_dep, reason_with, reason_within, why_of}
use Rattle.trace_events.proofs.Ancestors.{IsAscending, run_of-near}
use Rattle.trace_events.proofs.Lists.{no_member, Contains-filter}
use Rattle.trace_events.proofs.Reached.{ancestor_listed, made_upto_made, near_listed, near_within_near, reached_ancestor as listed_ancestor}
use Rattle.trace_events.proofs.Reasons.{least_found}
use Rattle.dependence_graph.specs.Marks.{is_marked, MarksExactly}
use Rattle.dependence_graph.specs.Visits.{Reached}
use Rattle.dependence_graph.proofs.Exactness.{is_stale_true, true_is_stale}
use Rattle.dependence_graph.proofs.Gathering.{ancestor_reached, near_reached, reached_ancestor, reached_near, some_run}
use Rattle.dependence_graph.proofs.Least.{least_filter}
use Rattle.version_store.proofs.Recurrence.{stale_made}

-- ---- lists

-- one element more of what passes
pub filter_next : {X : Type 0} (p : X → Bool) (xs : List X) (i : ℕ) (x : X) → x ≡ get_or xs i x → i < length xs → (test : Bool) → test ≡ p x
    → (kept new : List X) → new ≡ kept ++ cond test (x ∷ []) [] → kept ≡ filter p (take i xs) → new ≡ filter p (take (i + 1) xs)
filter_next {X} p xs i x is lt test same kept new grown before =
    grown
    ∙ ap (λ (l : List X). l ++ cond test (x ∷ []) []) before
    ∙ ap (λ (b : Bool). filter p (take i xs) ++ cond b (x ∷ []) []) same
    ∙ ap (λ (y : X). filter p (take i xs) ++ cond (p y) (y ∷ []) []) is
    ∙ sym (filter_more p xs i x lt)

-- the runs after a run begin with the next one
pub runs_after-next : (r n : ℕ) → r < n → runs_after r n ≡ (r + 1) ∷ runs_after (r + 1) n
runs_after-next r n lt =
    let more : n - r ≡ suc (n - (r + 1)) = omega arith in
    ap (range_with_len (r + 1)) more

pub runs_after-none : (r n : ℕ) → n ≤ r → runs_after r n ≡ []
runs_after-none r n le = let none : n - r ≡ 0 = omega arith in ap (range_with_len (r + 1)) none

-- ---- what is found among what was gathered

module _ (names : List (List ℕ)) (h : History) (ascend : IsAscending h) where
  pub overwritten_same : (n : ℕ) (v : Version) (xs : List Version) → ((u : Version) → (Contains xs u → Reached h 1 v u) × (Reached h 1 v u → Contains xs u))
      → least names (filter (λ u. is_some (first_overwrite h (run_of v) n u)) xs) ≡ least_overwritten names h n v
  overwritten_same n v xs all = least_filter names xs (ancestors_of h v) (λ u. is_some (first_overwrite h (run_of v) n u)) (λ u. is_some (first_overwrite h (run_of v) n u))
      (λ u c t. (ancestor_listed h ascend (reached_ancestor h ((all u).0 c)), t))
      (λ u c t. ((all u).1 (ancestor_reached h (listed_ancestor h (count_of_writes h) v u c)), t))

  pub near_same : (v : Version) (xs : List Version) (marks : BTreeSet (RunNo × ℕ)) → ((u : Version) → (Contains xs u → Reached h (run_of v) v u) × (Reached h (run_of v) v u → Contains xs u))
      → MarksExactly (made_upto h (run_of v - 1)) (Stale h (run_of v - 1)) marks
      → least names (filter (λ u. nat_lt (run_of u) (run_of v) && is_marked marks u) xs) ≡ least_stale_near names h v
  near_same v xs marks all exact = least_filter names xs (near_of h v) (λ u. nat_lt (run_of u) (run_of v) && is_marked marks u) (is_stale h (run_of v - 1))
      (λ u c t. let both = and_parts (nat_lt (run_of u) (run_of v)) (is_marked marks u) t in (
        near_listed h ascend (reached_near h ascend (run_of v) refl ((all u).0 c) (ltb-true (run_of u) (run_of v) both.0)),
        true_is_stale h ascend ((exact.only u both.1).1),
      ))
      (λ u c t.
      let reached = near_reached h (run_of v) refl (near_within_near h (count_of_writes h) v u c) in
      let earlier : run_of u < run_of v = reached.1 in
      let s = is_stale_true h ascend (run_of v - 1) u t in (
        (all u).1 reached.0,
        and_from (nat_lt (run_of u) (run_of v)) (is_marked marks u) (lt-ltb (run_of u) (run_of v) earlier)
            (exact.each u (made_upto_made h (run_of u) (run_of v - 1) u (omega arith) (stale_made h s)) s),
      ))

  -- ---- a version of no run

  ancestor_run : {v u : Version} → Ancestor h v u → 0 < run_of v
  ancestor_run (stale.direct {v = v} {u = u} c) = some_run h v u c
  ancestor_run (stale.further {v = v} {w = w} c a) = some_run h v w c

  pub none_overwritten : (n : ℕ) (v : Version) → run_of v ≡ 0 → None ≡ least_overwritten names h n v
  none_overwritten n v e = least_filter names [] (ancestors_of h v) (λ u. is_some (first_overwrite h (run_of v) n u)) (λ u. is_some (first_overwrite h (run_of v) n u))
      (λ u c t. absurd (no_member u c))
      (λ u c t. let some : 0 < run_of v = ancestor_run (listed_ancestor h (count_of_writes h) v u c) in absurd (omega arith))

  pub none_near : (v : Version) → run_of v ≡ 0 → None ≡ least_stale_near names h v
  none_near v e = least_filter names [] (near_of h v) (is_stale h (run_of v - 1)) (is_stale h (run_of v - 1))
      (λ u c t. absurd (no_member u c))
      (λ u c t. let less : run_of u < run_of v = run_of-near h (near_within_near h (count_of_writes h) v u c) in absurd (omega arith))

  -- ---- the steps of the answer

  pub near_run : (v u : Version) → least_stale_near names h v ≡ Some u → run_of u < run_of v
  near_run v u e =
      let found = least_found names (filter (is_stale h (run_of v - 1)) (near_of h v)) u e in
      run_of-near h (near_within_near h (count_of_writes h) v u (Contains-filter (is_stale h (run_of v - 1)) (near_of h v) u found.0).0)

  carried_same : (f g : Version → Option Reason) (o : Option Reason) (near : Option Version) → ((u : Version) → near ≡ Some u → f u ≡ g u) → or_carried f o near ≡ or_carried g o near
  carried_same f g (Some reason) near same = refl
  carried_same f g None None same = refl
  carried_same f g None (Some u) same = same u refl

  within_same : (runs more n : ℕ) (v : Version) → run_of v < runs → run_of v < more → reason_within runs names h n v ≡ reason_within more names h n v
  within_same zero more n v lt less = absurd (omega arith)
  within_same (suc runs) zero n v lt less = absurd (omega arith)
  within_same (suc runs) (suc more) n v lt less =
      carried_same (reason_within runs names h (run_of v - 1)) (reason_within more names h (run_of v - 1)) (reason_of_dep h n v (least_overwritten names h n v)) (least_stale_near names h v)
      (λ u e. let earlier : run_of u < run_of v = near_run v u e in within_same runs more (run_of v - 1) u (omega arith) (omega arith))

  why_is : (n : ℕ) (v : Version) → why_of names h n v ≡ or_carried (why_of names h (run_of v - 1)) (reason_of_dep h n v (least_overwritten names h n v)) (least_stale_near names h v)
  why_is n v =
      ap (λ (runs : ℕ). reason_within runs names h n v) (add-one (run_of v))
      ∙ carried_same (reason_within (run_of v) names h (run_of v - 1)) (why_of names h (run_of v - 1)) (reason_of_dep h n v (least_overwritten names h n v)) (least_stale_near names h v)
      (λ u e. let earlier : run_of u < run_of v = near_run v u e in within_same (run_of v) (run_of u + 1) (run_of v - 1) u earlier (omega arith))

  first_there : (n : ℕ) (v u : Version) → least_overwritten names h n v ≡ Some u → is_some (first_overwrite h (run_of v) n u) ≡ true
  first_there n v u e =
      let found = least_found names (filter (λ w. is_some (first_overwrite h (run_of v) n w)) (ancestors_of h v)) u e in
      (Contains-filter (λ w. is_some (first_overwrite h (run_of v) n w)) (ancestors_of h v) u found.0).1

  first_case : (go_on : Version → Option Reason) (r : ℕ) (u : Version) (o : Option ℕ) (near : Option Version) → is_some o ≡ true → or_carried go_on (reason_with r u o) near ≡ reason_with r u o
  first_case go_on r u None near t = absurd (false≢true t)
  first_case go_on r u (Some m) near t = refl

  -- an ancestor was overwritten
  pub why_first : (n : ℕ) (v u : Version) → least_overwritten names h n v ≡ Some u → why_of names h n v ≡ reason_of_dep h n v (Some u)
  why_first n v u e =
      why_is n v
      ∙ ap (λ (o : Option Version). or_carried (why_of names h (run_of v - 1)) (reason_of_dep h n v o) (least_stale_near names h v)) e
      ∙ first_case (why_of names h (run_of v - 1)) (run_of v) u (first_overwrite h (run_of v) n u) (least_stale_near names h v) (first_there n v u e)

  -- none was, and a near version was stale
  pub why_next : (n : ℕ) (v u : Version) → least_overwritten names h n v ≡ None → least_stale_near names h v ≡ Some u → why_of names h n v ≡ why_of names h (run_of v - 1) u
  why_next n v u e f =
      why_is n v
      ∙ ap (λ (o : Option Version). or_carried (why_of names h (run_of v - 1)) (reason_of_dep h n v o) (least_stale_near names h v)) e
      ∙ ap (or_carried (why_of names h (run_of v - 1)) None) f

  -- neither
  pub why_none : (n : ℕ) (v : Version) → least_overwritten names h n v ≡ None → least_stale_near names h v ≡ None → why_of names h n v ≡ None
  why_none n v e f =
      why_is n v
      ∙ ap (λ (o : Option Version). or_carried (why_of names h (run_of v - 1)) (reason_of_dep h n v o) (least_stale_near names h v)) e
      ∙ ap (or_carried (why_of names h (run_of v - 1)) None) f

  -- ---- what the functions find

  same_result : (r : Result (Option Version) NoMemory) (a b : Option Version) → a ≡ b → IfOk r (λ o. o ≡ a) → IfOk r (λ o. o ≡ b)
  same_result (Ok o) a b e q = q ∙ e
  same_result (Err x) a b e q = tt

  pub overwritten_result : (n : ℕ) (v : Version) (run : ℕ) → run ≡ run_of v → (found items kept ks : List Version) → items ≡ found → ks ≡ kept
      → kept ≡ filter (λ u. is_some (first_overwrite h run n u)) items
      → ((u : Version) → (Contains found u → Reached h 1 v u) × (Reached h 1 v u → Contains found u))
      → (r : Result (Option Version) NoMemory) → IfOk r (λ o. o ≡ least names ks) → IfOk r (λ o. o ≡ least_overwritten names h n v)
  overwritten_result n v run at found items kept ks same_items same_kept filtered all r q =
      same_result r (least names ks) (least_overwritten names h n v)
      (ap (least names) (same_kept ∙ filtered ∙ ap (filter (λ u. is_some (first_overwrite h run n u))) same_items ∙ ap (λ (m : ℕ). filter (λ u. is_some (first_overwrite h m n u)) found) at)
      ∙ overwritten_same n v found all) q

  pub near_result : (v : Version) (run : ℕ) → run ≡ run_of v → (found items kept ks : List Version) → items ≡ found → ks ≡ kept → (marks : BTreeSet (RunNo × ℕ))
      → kept ≡ filter (λ u. nat_lt (run_of u) run && is_marked marks u) items
      → ((u : Version) → (Contains found u → Reached h run v u) × (Reached h run v u → Contains found u))
      → MarksExactly (made_upto h (run - 1)) (Stale h (run - 1)) marks
      → (r : Result (Option Version) NoMemory) → IfOk r (λ o. o ≡ least names ks) → IfOk r (λ o. o ≡ least_stale_near names h v)
  near_result v run at found items kept ks same_items same_kept marks filtered all exact r q =
      same_result r (least names ks) (least_stale_near names h v)
      (ap (least names) (same_kept ∙ filtered ∙ ap (filter (λ u. nat_lt (run_of u) run && is_marked marks u)) same_items
      ∙ ap (λ (m : ℕ). filter (λ u. nat_lt (run_of u) m && is_marked marks u) found) at)
      ∙ near_same v found marks
      (subst (λ (m : ℕ). (u : Version) → (Contains found u → Reached h m v u) × (Reached h m v u → Contains found u)) at all)
      (subst (λ (m : ℕ). MarksExactly (made_upto h (m - 1)) (Stale h (m - 1)) marks) at exact)) q

-- a run that did not write it is passed over
pub overwrite_next : (h : History) (b n : ℕ) (v : Version) → b < n → wrote h (b + 1) v ≡ false → first_overwrite h b n v ≡ first_overwrite h (b + 1) n v
overwrite_next h b n v lt f =
    ap (find (λ m. wrote h m v)) (runs_after-next b n lt)
    ∙ ap (λ (t : Bool). cond t (Some (b + 1)) (find (λ m. wrote h m v) (runs_after (b + 1) n))) f

-- no run wrote the location
overwrite_none : (steps : ℕ) (h : History) (b n : ℕ) (v : Version) → n - b ≡ steps → ((m : ℕ) → b < m → m ≤ n → wrote h m v ≡ false) → first_overwrite h b n v ≡ None
overwrite_none zero h b n v e never = ap (λ (k : ℕ). find (λ m. wrote h m v) (range_with_len (b + 1) k)) e
overwrite_none (suc steps) h b n v e never =
    let less : b < n = omega arith in
    overwrite_next h b n v less (never (b + 1) (omega arith) (omega arith)) ∙ overwrite_none steps h (b + 1) n v (omega arith) (λ m lt le. never m (omega arith) le)

-- where all runs were gone over up to the last that wrote it
pub none_after : (h : History) (b n upto writer : ℕ) (v : Version) → upto ≡ min n writer → upto ≤ b → ((m : ℕ) → IsTrue (wrote h m v) → m ≤ writer)
    → first_overwrite h b n v ≡ None
none_after h b n upto writer v is past last =
    overwrite_none (n - b) h b n v refl
    (λ m lt le. false_from_ne_true (wrote h m v) (λ t. let w : m ≤ writer = last m t in absurd (let no_room : ⊥ = omega arith in no_room)))
