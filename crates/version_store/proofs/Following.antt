-- What is kept to find what rests on a location, when one more run has ended.
use Rattle.std.proofs.Common.{◌≡◌, ℕ, zero, suc, ◌-◌, ◌<◌, ◌≤◌, ◌⊎◌, inl, inr, List, [], ◌∷◌, ◌++◌, length, length-append, map, take, get_or, refl, sym, ap, subst, ◌∙◌, ⊎_elim, arith, eq-eqb, eqb-true}
use Rattle.std.specs.Prelude.{Option, Some, None, ◌==◌, filter}
use Rattle.std.specs.BTreeMap.{BTreeMap}
use Rattle.std.specs.List.{Contains}
use Rattle.std.proofs.lemmas.List.{get_or_append_left, get_or-take, get_or_push, length-take}
use Rattle.std.proofs.Math.Nat.{eq-or-lt_of_le}
use Rattle.flow_base.specs.declared.loc.Loc.{Loc}
use Rattle.flow_base.specs.declared.numbers.RunNo.{RunNo}
use Rattle.trace_events.specs.declared.version.Version.{Version}
use Rattle.trace_events.specs.declared.version.Version.TheVariants.{Empty, Written as at_write}
use Rattle.trace_events.specs.declared.summary.Write.{Write as Written}
use Rattle.trace_events.specs.Trace.{Summary, last_write}
use Rattle.trace_events.specs.History.{History, current, deps, location_of, or_earlier, run_of, version_at, version_seen, writes_of}
use Rattle.trace_events.specs.Staleness.{Ancestor, direct as ancestor_direct, further as ancestor_further, Stale, overwritten}
use Rattle.trace_events.proofs.Ancestors.{IsAscending, run_of-current}
use Rattle.trace_events.proofs.Lists.{no_member, Contains-filter, Contains-filter_of, Contains-map, Contains-map_of}
use Rattle.trace_events.proofs.Reached.{made_deps, made_within}
use Rattle.trace_events.proofs.StepLaw.{stale_kept}
use Rattle.version_store.specs.Dependents.{direct, further, held_among, held_at, held_of, kept, listed_at, run_after, seen_by, Follows, Grows, IsFollowed, IsIndexed, IsLast, IsListed, IsTouched, ListsAll, Reaches, RestsHere, RestsOn, Touches}
use Rattle.version_store.specs.Hash.{hash_version}
use Rattle.version_store.proofs.Extension.{versions_seen-append, writes_of-append}
use Rattle.version_store.proofs.Lawful.{ascends}
use Rattle.trace_events.specs.Lawful.{AllLawful, IsLawful}
use Rattle.std.proofs.lemmas.List.Elements.{All-push}
use Rattle.version_store.proofs.Located.{dep_write, last_write_some, last_write_there, location_of-current, location_of-write, or_loc, seen_current, true_wrote, write_dep, wrote_true}
use Rattle.version_store.proofs.Recurrence.{ancestor_made, carried_direct, carried_within, stale_carried, stale_last}
use Rattle.version_store.proofs.SameRuns.{SameUpto, ancestor_to, current_same, deps_same, location_same, run_of-ancestor, same_back, stale_to, wrote_same}

-- ---- one history

module _ (h : History) where
  -- what rests on something is of a run of the history
  pub dep_run : (v u : Version) → Contains (deps h v) u → run_of v ≤ length h
  dep_run v u c = made_within h (run_of v) v (made_deps h v u c)

  pub rests_run : {l : Loc} {v : Version} → RestsOn h l v → run_of v ≤ length h
  rests_run {v = v} r = made_within h (run_of v) v (ancestor_made h r.reached)

  rests_further : {l : Loc} (v w : Version) → Contains (deps h v) w → RestsOn h l w → RestsOn h l v
  rests_further v w c r = record { ancestor = r.ancestor; reached = ancestor_further c r.reached; there = r.there }

pub run_of-held : (held : List (List (ℕ × ℕ))) (c v : Version) → Contains (held_at held c) v → run_of v ≡ run_of c
run_of-held held (Empty l) v m = absurd (no_member v m)
run_of-held held (at_write run place) v m =
    let e = Contains-map (λ (e : ℕ × ℕ). at_write run e.1) (filter (λ e. e.0 == place) (held_of held run.0)) v m in sym (ap run_of e.2)

-- the pair that a kept version comes from, and the converse
pub held_pair : (held : List (List (ℕ × ℕ))) (run : RunNo) (place : ℕ) (v : Version) → Contains (held_at held (at_write run place)) v
    → (at : ℕ) × Contains (held_of held run.0) (place, at) × (v ≡ at_write run at)
held_pair held run place v m =
    let e = Contains-map (λ (e : ℕ × ℕ). at_write run e.1) (filter (λ e. e.0 == place) (held_of held run.0)) v m in
    let f = Contains-filter (λ (e : ℕ × ℕ). e.0 == place) (held_of held run.0) e.0 e.1 in
    let same : e.0 ≡ (place, e.0.1) = ap (λ (n : ℕ). (n, e.0.1)) (eqb-true e.0.0 place f.1) in
    (e.0.1, subst (λ (p : ℕ × ℕ). Contains (held_of held run.0) p) same f.0, sym e.2)

pub pair_held : (held : List (List (ℕ × ℕ))) (run : RunNo) (place at : ℕ) → Contains (held_of held run.0) (place, at)
    → Contains (held_at held (at_write run place)) (at_write run at)
pair_held held run place at c =
    Contains-map_of (λ (e : ℕ × ℕ). at_write run e.1) (filter (λ e. e.0 == place) (held_of held run.0)) (place, at)
    (Contains-filter_of (λ (e : ℕ × ℕ). e.0 == place) (held_of held run.0) (place, at) c (eq-eqb place place refl))

-- ---- one more run

module _ (h : History) (s : Summary) (ascend : IsAscending h) (ascend_longer : IsAscending (h ++ s ∷ [])) where
  abbrev longer : History
  longer = h ++ s ∷ []

  abbrev last : ℕ
  last = run_after h

  count : length longer ≡ last
  count = omega (arith, length-append h (s ∷ []))

  last_writes : writes_of longer last ≡ s.writes
  last_writes = ap (λ (x : Summary). x.writes) (get_or_push h s (record { reads = []; writes = [] }) (length h) refl)

  in_last : (w : Written) → Contains s.writes w → Contains (writes_of longer last) w
  in_last w c = subst (λ (ws : List Written). Contains ws w) (sym last_writes) c

  same : SameUpto (length h) h longer
  same m le = sym (writes_of-append h (s ∷ []) m le)

  same_again : SameUpto (length h) longer h
  same_again = same_back (length h) h longer same

  -- ---- versions of the runs before

  ancestor_longer : {v u : Version} → run_of v ≤ length h → Ancestor h v u → Ancestor longer v u
  ancestor_longer le a = ancestor_to (length h) h longer same ascend le a

  ancestor_shorter : {v u : Version} → run_of v ≤ length h → Ancestor longer v u → Ancestor h v u
  ancestor_shorter le a = ancestor_to (length h) longer h same_again ascend_longer le a

  rests_longer : {l : Loc} {v : Version} → run_of v ≤ length h → RestsOn h l v → RestsOn longer l v
  rests_longer {v = v} le r =
      let below : run_of r.ancestor ≤ run_of v = run_of-ancestor (length h) h longer same ascend r.reached in
      record { ancestor = r.ancestor; reached = ancestor_longer le r.reached; there = sym (location_same (length h) h longer same ascend r.ancestor (omega arith)) ∙ r.there }

  rests_shorter : {l : Loc} {v : Version} → run_of v ≤ length h → RestsOn longer l v → RestsOn h l v
  rests_shorter {v = v} le r =
      let below : run_of r.ancestor ≤ run_of v = run_of-ancestor (length h) longer h same_again ascend_longer r.reached in
      record { ancestor = r.ancestor; reached = ancestor_shorter le r.reached; there = sym (location_same (length h) longer h same_again ascend_longer r.ancestor (omega arith)) ∙ r.there }

  touched_longer : {m : ℕ} {v : Version} → m ≤ length h → run_of v ≤ length h → IsTouched h m v → IsTouched longer m v
  touched_longer {m} {v} lm le t =
      let below : run_of t.ancestor ≤ run_of v = run_of-ancestor (length h) h longer same ascend t.reached in
      record { ancestor = t.ancestor; reached = ancestor_longer le t.reached; written = sym (wrote_same (length h) h longer same ascend m t.ancestor lm (omega arith)) ∙ t.written }

  touched_shorter : {m : ℕ} {v : Version} → m ≤ length h → run_of v ≤ length h → IsTouched longer m v → IsTouched h m v
  touched_shorter {m} {v} lm le t =
      let below : run_of t.ancestor ≤ run_of v = run_of-ancestor (length h) longer h same_again ascend_longer t.reached in
      record { ancestor = t.ancestor; reached = ancestor_shorter le t.reached; written = sym (wrote_same (length h) longer h same_again ascend_longer m t.ancestor lm (omega arith)) ∙ t.written }

  stale_longer : {n : ℕ} {v : Version} → n ≤ length h → run_of v ≤ length h → Stale h n v → Stale longer n v
  stale_longer ln le st = stale_to (length h) h longer same ascend ln le st

  pub touches_longer : (m : ℕ) (places : List (RunNo × ℕ)) → 0 < m → m ≤ length h → Touches h m places → Touches longer m places
  touches_longer m places pos lm t = record {
    sound = λ v c. let q = t.sound v c in
        let below : run_of v < m = q.0 in
        (q.0, touched_longer lm (omega arith) q.1);
    complete = λ v lt q. ⊎_elim
        (λ (st : Stale h (m - 1) v). inl (stale_longer (omega arith) (omega arith) st))
        (λ (c : IsListed places v). inr c)
        (t.complete v lt (touched_shorter lm (omega arith) q));
  }

  -- ---- versions of the last run

  -- the version of a write
  abbrev made_by : Written → Version
  made_by x = version_at last x.place

  last_seen : (x : Written) → map (version_seen longer last) x.uses ≡ seen_by h x
  last_seen x = versions_seen-append h (s ∷ []) last x.uses (omega arith)

  dep_last : (v u : Version) → run_of v ≡ last → Contains (deps longer v) u → (x : Written) × Contains s.writes x × (v ≡ made_by x) × Contains (seen_by h x) u
  dep_last v u e c =
      let d = dep_write longer v u c in
      let there : Contains s.writes d.0 = subst (λ (ws : List Written). Contains ws d.0) (ap (writes_of longer) e ∙ last_writes) d.1 in
      let sees : Contains (seen_by h d.0) u =
      subst (λ (vs : List Version). Contains vs u) (ap (λ (n : ℕ). map (version_seen longer n) d.0.uses) e ∙ last_seen d.0) d.3 in
      (d.0, there, d.2 ∙ ap (λ (n : ℕ). version_at n d.0.place) e, sees)

  last_dep : (x : Written) (u : Version) → Contains s.writes x → Contains (seen_by h x) u → Contains (deps longer (made_by x)) u
  last_dep x u c d = write_dep longer ascend_longer last x u (in_last x c) (subst (λ (vs : List Version). Contains vs u) (sym (last_seen x)) d)

  dep_cases : (v u : Version) → Contains (deps longer v) u → (run_of v ≡ last) ⊎ (run_of v ≤ length h)
  dep_cases v u c =
      let bound : run_of v ≤ length longer = dep_run longer v u c in
      ⊎_elim (λ (e : run_of v ≡ last). inl e) (λ (lt : run_of v < last). let le : run_of v ≤ length h = omega arith in inr le)
      (eq-or-lt_of_le (let le : run_of v ≤ last = omega (arith, count) in le))

  -- ---- what was kept, and what is kept

  module _ (index new_index : BTreeMap ℕ (List (RunNo × ℕ))) (all_held new_held : List (List (ℕ × ℕ))) (all_touched new_touched : List (List (RunNo × ℕ)))
      (held : List (ℕ × ℕ)) (touched : List (RunNo × ℕ)) (were : IsFollowed h index all_held all_touched) (grows : Grows index new_index)
      (lists : ListsAll h new_index s.writes) (f : Follows h s all_held s.writes held touched)
      (held_is : new_held ≡ take (length h) all_held ++ held ∷ []) (touched_is : new_touched ≡ take (length h) all_touched ++ touched ∷ []) where
    front_held : length (take (length h) all_held) ≡ length h
    front_held = let enough : length h ≤ length all_held = were.enough_held in omega (arith, length-take (length h) all_held)

    front_touched : length (take (length h) all_touched) ≡ length h
    front_touched = let enough : length h ≤ length all_touched = were.enough_touched in omega (arith, length-take (length h) all_touched)

    held_before : (n : ℕ) → n ≤ length h → held_of new_held n ≡ held_of all_held n
    held_before zero le = refl
    held_before (suc n) le =
        ap (λ (xs : List (List (ℕ × ℕ))). get_or xs n []) held_is
        ∙ get_or_append_left (take (length h) all_held) (held ∷ []) [] n (omega (arith, front_held))
        ∙ get_or-take (length h) all_held n [] le

    held_last : held_of new_held last ≡ held
    held_last = ap (λ (xs : List (List (ℕ × ℕ))). get_or xs (length h) []) held_is ∙ get_or_push (take (length h) all_held) held [] (length h) front_held

    held_at_before : (c : Version) → run_of c ≤ length h → held_at new_held c ≡ held_at all_held c
    held_at_before (Empty l) le = refl
    held_at_before (at_write run place) le =
        ap (held_among run place) (held_before run.0 le)

    -- ---- what is reached

    abbrev was : Loc → Version
    was l = current h (length h) l

    was_run : (l : Loc) → run_of (was l) ≤ length h
    was_run l = run_of-current h (length h) l

    reaches_run : {c v : Version} → run_of c ≤ length h → Reaches h all_held c v → run_of v ≤ length h
    reaches_run {c} le (direct {v = v} d) = dep_run h v c d
    reaches_run {c} le (kept {v = v} d) = let same : run_of v ≡ run_of c = run_of-held all_held c v d in omega arith
    reaches_run {c} le (further {v = v} {w = w} d r) = dep_run h v w d

    reaches_rests : {l : Loc} {c v : Version} → run_of c ≤ length h → location_of h c ≡ Some l → Reaches h all_held c v → RestsOn h l v
    reaches_rests {l} {c} le e (direct {v = v} d) = record { ancestor = c; reached = ancestor_direct d; there = e }
    reaches_rests {l} {c} le e (kept {v = v} d) = were.sound c v l le e d
    reaches_rests {l} {c} le e (further {v = v} {w = w} d r) = rests_further h v w d (reaches_rests le e r)

    dep_longer : (v u : Version) → Contains (deps h v) u → Contains (deps longer v) u
    dep_longer v u c = subst (λ (vs : List Version). Contains vs u) (deps_same (length h) h longer same ascend v (dep_run h v u c)) c

    reaches_longer : {c v : Version} → run_of c ≤ length h → Reaches h all_held c v → Reaches longer new_held c v
    reaches_longer {c} le (direct {v = v} d) = direct (dep_longer v c d)
    reaches_longer {c} le (kept {v = v} d) = kept (subst (λ (vs : List Version). Contains vs v) (sym (held_at_before c le)) d)
    reaches_longer {c} le (further {v = v} {w = w} d r) = further (dep_longer v w d) (reaches_longer le r)

    -- ---- each version that rests on a location is stale or reached

    module _ (l : Loc) (o : Option ℕ) (last_is : last_write l s.writes ≡ o) where
      abbrev now : Version
      now = or_earlier last o (was l)

      abbrev Found : Version → Type 0
      Found v = Stale longer last v ⊎ Reaches longer new_held now v

    now_none : (l : Loc) → or_earlier last None (was l) ≡ was l
    now_none l = refl

    -- the last write of a location
    abbrev LastOf : Loc → ℕ → Type 0
    LastOf l p = (w : Written) × Contains s.writes w × (w.place ≡ p) × (w.location ≡ l)

    last_of : (l : Loc) (p : ℕ) → last_write l s.writes ≡ Some p → LastOf l p
    last_of l p e = last_write_there l s.writes p e

    is_last : (l : Loc) (p : ℕ) → last_write l s.writes ≡ Some p → (w : LastOf l p) → IsLast s w.0
    is_last l p e w = ap (λ (k : Loc). last_write k s.writes) w.3 ∙ e ∙ ap Some (sym w.2)

    -- what the code found rests on it
    kept_here : (l : Loc) (p : ℕ) → last_write l s.writes ≡ Some p → (x : Written) (u : Version) → Contains s.writes x → Contains (seen_by h x) u
        → ((location_of longer u ≡ Some l) ⊎ Reaches h all_held (was l) u) → Contains (held_at new_held (version_at last p)) (made_by x)
    kept_here l p e x u cx cu here =
        let w = last_of l p e in
        let rests : RestsHere h s all_held w.0 x = (u, cu, subst (λ (k : Loc). (location_of longer u ≡ Some k) ⊎ Reaches h all_held (was k) u) (sym w.3) here) in
        let pair : Contains held (w.0.place, x.place) = f.held_all w.0 x w.1 (is_last l p e w) cx rests in
        pair_held new_held (record { 0 = last }) p x.place
        (subst (λ (n : ℕ). Contains (held_of new_held last) (n, x.place)) w.2 (subst (λ (es : List (ℕ × ℕ)). Contains es (w.0.place, x.place)) (sym held_last) pair))

    now_is : (l : Loc) (o : Option ℕ) → last_write l s.writes ≡ o → current longer last l ≡ or_earlier last o (was l)
    now_is l o e =
        ap (λ (ws : List Written). or_earlier last (last_write l ws) (current longer (length h) l)) last_writes
        ∙ ap (λ (p : Option ℕ). or_earlier last p (current longer (length h) l)) e
        ∙ ap (or_earlier last o) (sym (current_same (length h) h longer same ascend (length h) l (omega arith)))

    -- a version of an earlier run
    old_found : (l : Loc) (v : Version) (o : Option ℕ) (e : last_write l s.writes ≡ o) → run_of v ≤ length h → RestsOn h l v → Found l o e v
    old_found l v None e le r = ⊎_elim
        (λ (st : Stale h (length h) v). inl (stale_kept longer (length h) last (omega arith) (stale_longer (omega arith) le st)))
        (λ (re : Reaches h all_held (was l) v). inr (reaches_longer (was_run l) re))
        (were.complete l v r)
    old_found l v (Some p) e le r =
        let w = last_of l p e in
        let q = rests_longer le r in
        inl (overwritten {m = last} q.reached (true_wrote longer last q.ancestor l w.0 q.there (in_last w.0 w.1) w.3) (let lt : run_of v < last = omega arith in lt) (let same_run : last ≤ last = omega arith in same_run))

    -- a version of the last run that directly rests on a version of the location
    direct_found : (l : Loc) (o : Option ℕ) (e : last_write l s.writes ≡ o) (x : Written) (u : Version) → Contains s.writes x → Contains (seen_by h x) u
        → location_of longer u ≡ Some l → Found l o e (made_by x)
    direct_found l (Some p) e x u cx cu there = inr (kept (kept_here l p e x u cx cu (inl there)))
    direct_found l None e x u cx cu there =
        let sees = Contains-map (version_seen longer last) x.uses u (subst (λ (vs : List Version). Contains vs u) (sym (last_seen x)) cu) in
        let none : last_write l (writes_of longer last) ≡ None = ap (last_write l) last_writes ∙ e in
        let back : last - 1 ≡ length h = omega arith in
        let is : u ≡ was l =
        sym sees.2
        ∙ seen_current longer ascend_longer last l sees.0 none (ap (location_of longer) sees.2 ∙ there)
        ∙ ap (λ (n : ℕ). current longer n l) back
        ∙ sym (current_same (length h) h longer same ascend (length h) l (omega arith)) in
        inr (direct (subst (λ (c : Version). Contains (deps longer (made_by x)) c) is (last_dep x u cx cu)))

    -- one that rests on a version of an earlier run
    earlier_found : (l : Loc) (o : Option ℕ) (e : last_write l s.writes ≡ o) (x : Written) (u : Version) → Contains s.writes x → Contains (seen_by h x) u
        → run_of u ≤ length h → RestsOn h l u → Found l o e (made_by x)
    earlier_found l o e x u cx cu le r = ⊎_elim
        (λ (st : Stale h (length h) u).
        inl (stale_carried longer (length h) last last (made_by x) refl refl
        (carried_direct longer (length h) (made_by x) u (last_dep x u cx cu) (let lt : run_of u < last = omega arith in lt) (stale_longer (omega arith) le st))))
        (λ (re : Reaches h all_held (was l) u). reached o e re)
        (were.complete l u r)
      where
        reached : (q : Option ℕ) (g : last_write l s.writes ≡ q) → Reaches h all_held (was l) u → Found l q g (made_by x)
        reached None g re = inr (further (last_dep x u cx cu) (reaches_longer (was_run l) re))
        reached (Some p) g re = inr (kept (kept_here l p g x u cx cu (inr re)))

    -- one that rests on a version of the last run
    last_found : (l : Loc) (o : Option ℕ) (e : last_write l s.writes ≡ o) (v w : Version) → run_of v ≡ last → run_of w ≡ last → Contains (deps longer v) w
        → Found l o e w → Found l o e v
    last_found l o e v w rv rw c found = ⊎_elim
        (λ (st : Stale longer last w).
        inl (stale_carried longer (length h) last last v refl rv (carried_within longer (length h) v w c (rw ∙ sym rv) (stale_last longer (length h) last refl rw st))))
        (λ (re : Reaches longer new_held (now l o e) w). inr (further c re))
        found

    found : (l : Loc) (o : Option ℕ) (e : last_write l s.writes ≡ o) {v a : Version} → Ancestor longer v a → location_of longer a ≡ Some l → Found l o e v
    found l o e (ancestor_direct {v = v} {u = u} c) there = ⊎_elim
        (λ (rv : run_of v ≡ last).
        let d = dep_last v u rv c in
        subst (λ (x : Version). Found l o e x) (sym d.2) (direct_found l o e d.0 u d.1 d.3 there))
        (λ (le : run_of v ≤ length h). old_found l v o e le (rests_shorter le (record { ancestor = u; reached = ancestor_direct c; there = there })))
        (dep_cases v u c)
    found l o e (ancestor_further {v = v} {w = w} {u = u} c a) there = ⊎_elim
        (λ (rv : run_of v ≡ last). ⊎_elim
        (λ (rw : run_of w ≡ last). last_found l o e v w rv rw c (found l o e a there))
        (λ (le : run_of w ≤ length h).
        let d = dep_last v w rv c in
        subst (λ (x : Version). Found l o e x) (sym d.2)
        (earlier_found l o e d.0 w d.1 d.3 le (rests_shorter le (record { ancestor = u; reached = a; there = there }))))
        (ancestor_cases a))
        (λ (le : run_of v ≤ length h). old_found l v o e le (rests_shorter le (record { ancestor = u; reached = ancestor_further c a; there = there })))
        (dep_cases v w c)
      where
        ancestor_cases : {y z : Version} → Ancestor longer y z → (run_of y ≡ last) ⊎ (run_of y ≤ length h)
        ancestor_cases (ancestor_direct {v = y} {u = z} d) = dep_cases y z d
        ancestor_cases (ancestor_further {v = y} {w = z} d b) = dep_cases y z d

    -- ---- what the last run touched

    touched_last : Touches longer last touched
    touched_last = record {
      sound = λ v c.
          let t = f.touched_only v c in
          let low : run_of v ≤ length h = reaches_run (was_run t.0.location) t.2 in
          let r = rests_longer low (reaches_rests (was_run t.0.location) (location_of-current h ascend (length h) t.0.location) t.2) in
          (omega arith, record { ancestor = r.ancestor; reached = r.reached; written = true_wrote longer last r.ancestor t.0.location t.0 r.there (in_last t.0 t.1) refl });
      complete = λ v lt t.
          let low : run_of v ≤ length h = omega arith in
          let q = wrote_true longer last t.ancestor t.written in
          let there : Contains s.writes q.1 = subst (λ (ws : List Written). Contains ws q.1) last_writes q.3 in
          let p = last_write_some q.0 s.writes q.1 there q.4 in
          let w = last_of q.0 p.0 p.1 in
          let back : length h ≡ last - 1 = omega arith in
          ⊎_elim
          (λ (st : Stale h (length h) v). inl (subst (λ (n : ℕ). Stale longer n v) back (stale_longer (omega arith) low st)))
          (λ (re : Reaches h all_held (was q.0) v). inr (f.touched_all w.0 v w.1 (is_last q.0 p.0 p.1 w) (subst (λ (k : Loc). Reaches h all_held (was k) v) (sym w.3) re)))
          (were.complete q.0 v (rests_shorter low (record { ancestor = t.ancestor; reached = t.reached; there = q.2 })));
    }

    touched_before : (m : ℕ) → m < length h → get_or new_touched m [] ≡ get_or all_touched m []
    touched_before m lt =
        ap (λ (xs : List (List (RunNo × ℕ))). get_or xs m []) touched_is
        ∙ get_or_append_left (take (length h) all_touched) (touched ∷ []) [] m (omega (arith, front_touched))
        ∙ get_or-take (length h) all_touched m [] lt

    touched_at_last : get_or new_touched (length h) [] ≡ touched
    touched_at_last = ap (λ (xs : List (List (RunNo × ℕ))). get_or xs (length h) []) touched_is ∙ get_or_push (take (length h) all_touched) touched [] (length h) front_touched

    all_touches : (m : ℕ) → 0 < m → m ≤ length longer → Touches longer m (get_or new_touched (m - 1) [])
    all_touches m pos le = ⊎_elim
        (λ (e : m ≡ last).
        let back : length h ≡ m - 1 = omega arith in
        subst (λ (ps : List (RunNo × ℕ)). Touches longer m ps) (sym touched_at_last ∙ ap (λ (k : ℕ). get_or new_touched k []) back)
        (subst (λ (k : ℕ). Touches longer k touched) (sym e) touched_last))
        (λ (lt : m < last).
        subst (λ (ps : List (RunNo × ℕ)). Touches longer m ps) (sym (touched_before (m - 1) (omega arith)))
        (touches_longer m (get_or all_touched (m - 1) []) pos (omega arith) (were.touches m pos (omega arith))))
        (eq-or-lt_of_le (let bound : m ≤ last = omega (arith, count) in bound))

    -- ---- what is kept is right

    sound_last : (place : ℕ) (v : Version) (l : Loc) → location_of longer (version_at last place) ≡ Some l → Contains (held_at new_held (version_at last place)) v → RestsOn longer l v
    sound_last place v l e c =
        let p = held_pair new_held (record { 0 = last }) place v c in
        let q = f.held_only (place, p.0) (subst (λ (es : List (ℕ × ℕ)). Contains es (place, p.0)) held_last p.1) in
        let here : place ≡ q.0.place = ap (λ (x : ℕ × ℕ). x.0) q.4 in
        let at : p.0 ≡ q.1.place = ap (λ (x : ℕ × ℕ). x.1) q.4 in
        let location : l ≡ q.0.location =
        ap (or_loc l) (sym e ∙ ap (λ (n : ℕ). location_of longer (version_at last n)) here ∙ location_of-write longer ascend_longer last q.0 (in_last q.0 q.2)) in
        let v_is : v ≡ made_by q.1 = p.2 ∙ ap (version_at last) at in
        let u = q.5 in
        subst (λ (x : Version). RestsOn longer l x) (sym v_is) (⊎_elim
        (λ (there : location_of longer u.0 ≡ Some q.0.location).
        record { ancestor = u.0; reached = ancestor_direct (last_dep q.1 u.0 q.3 u.1); there = there ∙ ap Some (sym location) })
        (λ (re : Reaches h all_held (was q.0.location) u.0).
        rests_further longer (made_by q.1) u.0 (last_dep q.1 u.0 q.3 u.1)
        (subst (λ (k : Loc). RestsOn longer k u.0) (sym location)
        (rests_longer (reaches_run (was_run q.0.location) re) (reaches_rests (was_run q.0.location) (location_of-current h ascend (length h) q.0.location) re))))
        u.2)

    sound_all : (c v : Version) (l : Loc) → run_of c ≤ length longer → location_of longer c ≡ Some l → Contains (held_at new_held c) v → RestsOn longer l v
    sound_all (Empty k) v l le e c = absurd (no_member v c)
    sound_all (at_write run place) v l le e c = ⊎_elim
        (λ (r : run.0 ≡ last).
        let is : at_write run place ≡ version_at last place = ap (λ (n : ℕ). version_at n place) r in
        sound_last place v l (ap (location_of longer) (sym is) ∙ e) (subst (λ (x : Version). Contains (held_at new_held x) v) is c))
        (λ (lt : run.0 < last).
        let low : run.0 ≤ length h = omega arith in
        let same_run : run_of v ≡ run.0 = run_of-held new_held (at_write run place) v c in
        rests_longer (omega arith) (were.sound (at_write run place) v l low
        (location_same (length h) h longer same ascend (at_write run place) low ∙ e)
        (subst (λ (vs : List Version). Contains vs v) (held_at_before (at_write run place) low) c)))
        (eq-or-lt_of_le (let bound : run.0 ≤ last = omega (arith, count) in bound))

    -- ---- each version is listed

    listed_more : (number : ℕ) (v : Version) → IsListed (listed_at index number) v → IsListed (listed_at new_index number) v
    listed_more number (Empty l) c = c
    listed_more number (at_write run place) c = grows number (run, place) c

    all_indexed : IsIndexed longer new_index
    all_indexed v u c = ⊎_elim
        (λ (rv : run_of v ≡ last).
        let d = dep_last v u rv c in
        subst (λ (x : Version). IsListed (listed_at new_index (hash_version u)) x) (sym d.2) (lists d.0 u d.1 d.3))
        (λ (le : run_of v ≤ length h).
        listed_more (hash_version u) v (were.indexed v u (subst (λ (vs : List Version). Contains vs u) (deps_same (length h) longer h same_again ascend_longer v le) c)))
        (dep_cases v u c)

    pub followed_longer : IsFollowed longer new_index new_held new_touched
    followed_longer = record {
      indexed = all_indexed;
      enough_held = omega (arith, count, front_held, length-append (take (length h) all_held) (held ∷ []), ap length held_is);
      enough_touched = omega (arith, count, front_touched, length-append (take (length h) all_touched) (touched ∷ []), ap length touched_is);
      sound = sound_all;
      complete = λ l v r.
          subst (λ (n : ℕ). Stale longer n v ⊎ Reaches longer new_held (current longer n l) v) (sym count)
          (subst (λ (c : Version). Stale longer last v ⊎ Reaches longer new_held c v) (sym (now_is l (last_write l s.writes) refl))
          (found l (last_write l s.writes) refl r.reached r.there));
      touches = all_touches;
    }

-- the same where what was done is told by equations
pub followed_told : (h more : History) (s : Summary) → AllLawful h → IsLawful s → more ≡ h ++ s ∷ []
    → (index new_index : BTreeMap ℕ (List (RunNo × ℕ))) (all_held new_held : List (List (ℕ × ℕ))) (all_touched new_touched : List (List (RunNo × ℕ)))
    (held : List (ℕ × ℕ)) (touched : List (RunNo × ℕ)) (n : ℕ) → n ≡ length h → IsFollowed h index all_held all_touched → Grows index new_index
    → ListsAll h new_index s.writes → Follows h s all_held s.writes held touched
    → new_held ≡ take n all_held ++ held ∷ [] → new_touched ≡ take n all_touched ++ touched ∷ [] → IsFollowed more new_index new_held new_touched
followed_told h more s all law more_is index new_index all_held new_held all_touched new_touched held touched n count were grows lists f held_is touched_is =
    subst (λ (x : History). IsFollowed x new_index new_held new_touched) (sym more_is)
    (followed_longer h s (ascends h all) (ascends (h ++ s ∷ []) (All-push IsLawful h s all law)) index new_index all_held new_held all_touched new_touched held touched were grows lists f
    (held_is ∙ ap (λ (k : ℕ). take k all_held ++ held ∷ []) count) (touched_is ∙ ap (λ (k : ℕ). take k all_touched ++ touched ∷ []) count))
