-- What is kept of one run, write by write.
use Rattle.std.proofs.Common.{◌≡◌, ℕ, zero, suc, ◌+◌, ◌<◌, ◌≤◌, ◌⊎◌, inl, inr, Bool, true, false, cond, ◌||◌, List, [], ◌∷◌, ◌++◌, length, map, take, get_or, refl, sym, ap, subst, ◌∙◌, ⊎_elim, arith, append_assoc, eq-eqb, eqb-true}
use Rattle.std.specs.Prelude.{Option, Some, None, ◌↔◌, ◌==◌, filter, is_some}
use Rattle.std.specs.BTreeMap.{BTreeMap}
use Rattle.std.specs.List.{Contains}
use Rattle.std.proofs.lemmas.Bool.{false≢true, true≢false, or_cases, or_left, or_right}
use Rattle.std.proofs.lemmas.List.{map-append, take_all, take_more}
use Rattle.std.proofs.lemmas.List.Elements.{Contains-append_left, Contains-append_right, Contains-append_cases, Contains-push, Contains-push_cases, filter-append}
use Rattle.flow_base.proofs.SameLaws.{same_loc_true, true_same_loc}
use Rattle.flow_base.specs.declared.loc.Loc.{Loc}
use Rattle.flow_base.specs.declared.numbers.RunNo.{RunNo}
use Rattle.trace_events.specs.declared.version.Version.{Version}
use Rattle.trace_events.specs.declared.version.Version.TheVariants.{Empty, Written as at_write}
use Rattle.trace_events.specs.declared.summary.Write.{Write as Written}
use Rattle.trace_events.specs.Trace.{Summary, last_write}
use Rattle.trace_events.specs.History.{History, current, location_of}
use Rattle.trace_events.proofs.Lists.{no_member, list_any-Contains, list_any_of, Contains-filter, Contains-filter_of, Contains-map, Contains-map_of}
use Rattle.version_store.specs.Dependents.{holders, is_at, is_listed, listed_at, rests, run_after, seen_by, Follows, FollowsLast, FollowsWrite, Grows, IsLast, IsListed, ListsAll, Reaches, RestsHere}
use Rattle.version_store.specs.Hash.{hash_version}
use Rattle.version_store.specs.Kept.{resolved}
use Rattle.version_store.proofs.PlaceSets.{is_listed-IsListed, IsListed-is_listed, IsListed-cases, IsListed-left, IsListed-right}

-- ---- the test for a write

is_at_true : (o : Option Loc) (l : Loc) → is_at o l ≡ true → o ≡ Some l
is_at_true None l t = absurd (false≢true t)
is_at_true (Some k) l t = ap Some (same_loc_true k l t)

true_is_at : (o : Option Loc) (l : Loc) → o ≡ Some l → is_at o l ≡ true
true_is_at o l e = subst (λ (x : Option Loc). is_at x l ≡ true) (sym e) (true_same_loc l l refl)

module _ (h : History) (s : Summary) (all_held : List (List (ℕ × ℕ))) (w : Written) (reached : List (RunNo × ℕ))
    (each : (v : Version) → IsListed reached v ↔ Reaches h all_held (current h (length h) w.location) v) where
  abbrev longer : History
  longer = h ++ s ∷ []

  rests_true : (x : Written) → rests longer w.location reached (seen_by h x) ≡ true → RestsHere h s all_held w x
  rests_true x t =
      let f = list_any-Contains (λ (u : Version). is_at (location_of longer u) w.location || is_listed reached u) (seen_by h x) t in (
        f.0,
        f.1,
        ⊎_elim
            (λ (y : is_at (location_of longer f.0) w.location ≡ true). inl (is_at_true (location_of longer f.0) w.location y))
            (λ (y : is_listed reached f.0 ≡ true). inr ((each f.0).0 (is_listed-IsListed reached f.0 y)))
            (or_cases (is_at (location_of longer f.0) w.location) (is_listed reached f.0) f.2),
      )

  true_rests : (x : Written) → RestsHere h s all_held w x → rests longer w.location reached (seen_by h x) ≡ true
  true_rests x r =
      list_any_of (λ (u : Version). is_at (location_of longer u) w.location || is_listed reached u) (seen_by h x) r.0 r.1 (⊎_elim
      (λ (y : location_of longer r.0 ≡ Some w.location). or_left (is_at (location_of longer r.0) w.location) (is_listed reached r.0) (true_is_at (location_of longer r.0) w.location y))
      (λ (y : Reaches h all_held (current h (length h) w.location) r.0).
      or_right (is_at (location_of longer r.0) w.location) (is_listed reached r.0) (IsListed-is_listed reached r.0 ((each r.0).1 y)))
      r.2)

  abbrev test : Written → Bool
  test x = rests longer w.location reached (seen_by h x)

  pub holders_only : (e : ℕ × ℕ) → Contains (holders h s reached w s.writes) e → (x : Written) × Contains s.writes x × (e ≡ (w.place, x.place)) × RestsHere h s all_held w x
  holders_only e c =
      let m = Contains-map (λ (x : Written). (w.place, x.place)) (filter test s.writes) e c in
      let f = Contains-filter test s.writes m.0 m.1 in
      (m.0, f.0, sym m.2, rests_true m.0 f.1)

  pub holders_all : (x : Written) → Contains s.writes x → RestsHere h s all_held w x → Contains (holders h s reached w s.writes) (w.place, x.place)
  holders_all x c r = Contains-map_of (λ (y : Written). (w.place, y.place)) (filter test s.writes) x (Contains-filter_of test s.writes x c (true_rests x r))

abbrev pair_with : Written → Written → ℕ × ℕ
pair_with w y = (w.place, y.place)

one_pair : (w x : Written) (b : Bool) → map (pair_with w) (cond b (x ∷ []) []) ≡ cond b ((w.place, x.place) ∷ []) []
one_pair w x true = refl
one_pair w x false = refl

-- one write more in the list of those that rest on the location
pub holders_more : (h : History) (s : Summary) (reached : List (RunNo × ℕ)) (w : Written) (ws : List Written) (i : ℕ) (x : Written) → i < length ws → x ≡ get_or ws i x
    → holders h s reached w (take (i + 1) ws) ≡ holders h s reached w (take i ws) ++ cond (rests (h ++ s ∷ []) w.location reached (seen_by h x)) ((w.place, x.place) ∷ []) []
holders_more h s reached w ws i x lt is =
    let test = λ (y : Written). rests (h ++ s ∷ []) w.location reached (seen_by h y) in
    ap (λ (ys : List Written). holders h s reached w ys) (take_more ws i x lt ∙ ap (λ (y : Written). take i ws ++ y ∷ []) (sym is))
    ∙ ap (λ (ys : List Written). map (pair_with w) ys) (filter-append test (take i ws) (x ∷ []))
    ∙ map-append (pair_with w) (filter test (take i ws)) (filter test (x ∷ []))
    ∙ ap (λ (es : List (ℕ × ℕ)). map (pair_with w) (filter test (take i ws)) ++ es) (one_pair w x (test x))

-- the same where a pair was put for the test
pub hold_step : (h : History) (s : Summary) (reached : List (RunNo × ℕ)) (w : Written) (ws : List Written) (i : ℕ) (x : Written) (us : List Version) (old held new : List (ℕ × ℕ)) (test : Bool)
    → i < length ws → x ≡ get_or ws i x → us ≡ seen_by h x → test ≡ rests (h ++ s ∷ []) w.location reached us → held ≡ old ++ holders h s reached w (take i ws)
    → new ≡ held ++ cond test ((w.place, x.place) ∷ []) [] → new ≡ old ++ holders h s reached w (take (i + 1) ws)
hold_step h s reached w ws i x us old held new test lt is us_is test_is held_is new_is =
    new_is
    ∙ ap (λ (es : List (ℕ × ℕ)). es ++ cond test ((w.place, x.place) ∷ []) []) held_is
    ∙ append_assoc old (holders h s reached w (take i ws)) (cond test ((w.place, x.place) ∷ []) [])
    ∙ ap (λ (b : Bool). old ++ (holders h s reached w (take i ws) ++ cond b ((w.place, x.place) ∷ []) [])) (test_is ∙ ap (rests (h ++ s ∷ []) w.location reached) us_is)
    ∙ ap (λ (es : List (ℕ × ℕ)). old ++ es) (sym (holders_more h s reached w ws i x lt is))

get_or-map-lt : {X Y : Type 0} (f : X → Y) (xs : List X) (k : ℕ) (e : Y) (d : X) → k < length xs → get_or (map f xs) k e ≡ f (get_or xs k d)
get_or-map-lt f [] k e d lt = absurd (omega arith)
get_or-map-lt f (x ∷ xs) zero e d lt = refl
get_or-map-lt f (x ∷ xs) (suc k) e d lt = get_or-map-lt f xs k e d (omega arith)

-- what is found of the i-th write
pub found_at : (h : History) (run i : ℕ) (ws : List Written) (found : List (List Version)) (x : Written) → run ≡ length h + 1 → found ≡ resolved h run ws → i < length ws
    → x ≡ get_or ws i x → get_or found i [] ≡ seen_by h x
found_at h run i ws found x next is lt at =
    let e : run ≡ run_after h = omega arith in
    ap (λ (xs : List (List Version)). get_or xs i []) (is ∙ ap (λ (n : ℕ). resolved h n ws) e)
    ∙ get_or-map-lt (λ (y : Written). seen_by h y) ws i [] x lt
    ∙ ap (λ (y : Written). seen_by h y) (sym at)

-- ---- writes, one after another

module _ (h : History) (s : Summary) (all_held : List (List (ℕ × ℕ))) where
  pub follows_none : Follows h s all_held [] [] []
  follows_none = record {
    held_only = λ e c. absurd (no_member e c);
    held_all = λ w x c. absurd (no_member w c);
    touched_only = none;
    touched_all = λ w v c. absurd (no_member w c);
  }
    where
      none : (v : Version) → IsListed [] v → (w : Written) × Contains [] w × Reaches h all_held (current h (length h) w.location) v
      none (Empty l) c = elim c [ ]
      none (at_write run place) c = absurd (no_member (run, place) c)

  module _ (ws : List Written) (w : Written) (held new_held : List (ℕ × ℕ)) (touched new_touched : List (RunNo × ℕ)) (f : Follows h s all_held ws held touched) where
    follows_last : FollowsLast h s all_held w held new_held touched new_touched → Follows h s all_held (ws ++ w ∷ []) new_held new_touched
    follows_last l = record {
      held_only = λ e c. ⊎_elim
          (λ (o : Contains held e). let q = f.held_only e o in (q.0, q.1, Contains-append_left ws (w ∷ []) q.0 q.2, q.3, q.4, q.5))
          (λ (n : Contains (holders h s l.reached w s.writes) e). let q = holders_only h s all_held w l.reached l.each e n in (w, q.0, Contains-push ws w, q.1, q.2, q.3))
          (Contains-append_cases held (holders h s l.reached w s.writes) e (subst (λ (es : List (ℕ × ℕ)). Contains es e) l.held c));
      held_all = λ v x c last cx r. subst (λ (es : List (ℕ × ℕ)). Contains es (v.place, x.place)) (sym l.held) (⊎_elim
          (λ (o : Contains ws v). Contains-append_left held (holders h s l.reached w s.writes) (v.place, x.place) (f.held_all v x o last cx r))
          (λ (e : w ≡ v). Contains-append_right held (holders h s l.reached w s.writes) (v.place, x.place)
          (subst (λ (y : Written). Contains (holders h s l.reached w s.writes) (y.place, x.place)) e
          (holders_all h s all_held w l.reached l.each x cx (subst (λ (y : Written). RestsHere h s all_held y x) (sym e) r))))
          (Contains-push_cases ws w v c));
      touched_only = λ v c. ⊎_elim
          (λ (o : IsListed touched v). let q = f.touched_only v o in (q.0, Contains-append_left ws (w ∷ []) q.0 q.1, q.2))
          (λ (n : IsListed l.reached v). (w, Contains-push ws w, (l.each v).0 n))
          (IsListed-cases touched l.reached v (subst (λ (ps : List (RunNo × ℕ)). IsListed ps v) l.touched c));
      touched_all = λ y v c last r. subst (λ (ps : List (RunNo × ℕ)). IsListed ps v) (sym l.touched) (⊎_elim
          (λ (o : Contains ws y). IsListed-left touched l.reached v (f.touched_all y v o last r))
          (λ (e : w ≡ y). IsListed-right touched l.reached v ((l.each v).1 (subst (λ (z : Written). Reaches h all_held (current h (length h) z.location) v) (sym e) r)))
          (Contains-push_cases ws w y c));
    }

    follows_other : (IsLast s w → ⊥) → (new_held ≡ held) × (new_touched ≡ touched) → Follows h s all_held (ws ++ w ∷ []) new_held new_touched
    follows_other differs same = record {
      held_only = λ e c. let q = f.held_only e (subst (λ (es : List (ℕ × ℕ)). Contains es e) same.0 c) in (q.0, q.1, Contains-append_left ws (w ∷ []) q.0 q.2, q.3, q.4, q.5);
      held_all = λ v x c last cx r. subst (λ (es : List (ℕ × ℕ)). Contains es (v.place, x.place)) (sym same.0) (⊎_elim
          (λ (o : Contains ws v). f.held_all v x o last cx r)
          (λ (e : w ≡ v). absurd (differs (subst (λ (y : Written). IsLast s y) (sym e) last)))
          (Contains-push_cases ws w v c));
      touched_only = λ v c. let q = f.touched_only v (subst (λ (ps : List (RunNo × ℕ)). IsListed ps v) same.1 c) in (q.0, Contains-append_left ws (w ∷ []) q.0 q.1, q.2);
      touched_all = λ y v c last r. subst (λ (ps : List (RunNo × ℕ)). IsListed ps v) (sym same.1) (⊎_elim
          (λ (o : Contains ws y). f.touched_all y v o last r)
          (λ (e : w ≡ y). absurd (differs (subst (λ (z : Written). IsLast s z) (sym e) last)))
          (Contains-push_cases ws w y c));
    }

    pub follows_write : ((IsLast s w) ⊎ (IsLast s w → ⊥)) → FollowsWrite h s all_held w held new_held touched new_touched → Follows h s all_held (ws ++ w ∷ []) new_held new_touched
    follows_write d r = ⊎_elim (λ (l : IsLast s w). follows_last (r.last l)) (λ (differs : IsLast s w → ⊥). follows_other differs (r.other differs)) d

abbrev or_place : ℕ → Option ℕ → ℕ
or_place p None = p
or_place p (Some n) = n

same_or_not : (q p : ℕ) (b : Bool) → (q == p) ≡ b → (Some q ≡ Some p) ⊎ (Some q ≡ Some p → ⊥)
same_or_not q p true e = inl (ap Some (eqb-true q p e))
same_or_not q p false e = inr (λ x. true≢false (sym (eq-eqb q p (ap (or_place p) x)) ∙ e))

-- a place is the last one or not
pub last_or_not : (o : Option ℕ) (p : ℕ) → (o ≡ Some p) ⊎ (o ≡ Some p → ⊥)
last_or_not None p = inr (λ e. false≢true (ap is_some e))
last_or_not (Some q) p = same_or_not q p (q == p) refl

-- the next write of a list
pub follows_next : (h : History) (s : Summary) (all_held : List (List (ℕ × ℕ))) (ws : List Written) (i : ℕ) (w : Written) (held new_held : List (ℕ × ℕ)) (touched new_touched : List (RunNo × ℕ))
    → i < length ws → w ≡ get_or ws i w → Follows h s all_held (take i ws) held touched → FollowsWrite h s all_held w held new_held touched new_touched
    → Follows h s all_held (take (i + 1) ws) new_held new_touched
follows_next h s all_held ws i w held new_held touched new_touched lt is f r =
    subst (λ (xs : List Written). Follows h s all_held xs new_held new_touched) (sym (take_more ws i w lt ∙ ap (λ (y : Written). take i ws ++ y ∷ []) (sym is)))
    (follows_write h s all_held (take i ws) w held new_held touched new_touched f (last_or_not (last_write w.location s.writes) w.place) r)

-- ---- each version of a run is listed

pub lists_none : (h : History) (index : BTreeMap ℕ (List (RunNo × ℕ))) → ListsAll h index []
lists_none h index w u c = absurd (no_member w c)

pub lists_more : (h : History) (old new : BTreeMap ℕ (List (RunNo × ℕ))) (ws : List Written) (i : ℕ) (w : Written) (us : List Version) → i < length ws → w ≡ get_or ws i w
    → us ≡ seen_by h w → ListsAll h old (take i ws) → Grows old new
    → ((u : Version) → Contains us u → Contains (listed_at new (hash_version u)) (record { 0 = run_after h }, w.place)) → ListsAll h new (take (i + 1) ws)
lists_more h old new ws i w us lt is us_is before grows here x u c d = ⊎_elim
    (λ (o : Contains (take i ws) x). grows (hash_version u) (record { 0 = run_after h }, x.place) (before x u o d))
    (λ (e : w ≡ x).
    subst (λ (y : Written). Contains (listed_at new (hash_version u)) (record { 0 = run_after h }, y.place)) e
    (here u (subst (λ (vs : List Version). Contains vs u) (sym us_is) (subst (λ (y : Written). Contains (seen_by h y) u) (sym e) d))))
    (Contains-push_cases (take i ws) w x (subst (λ (ys : List Written). Contains ys x) (take_more ws i w lt ∙ ap (λ (y : Written). take i ws ++ y ∷ []) (sym is)) c))

-- what one version rests on, one after another
pub written_more : (us : List Version) (i : ℕ) (u : Version) (old new : BTreeMap ℕ (List (RunNo × ℕ))) (p : RunNo × ℕ) → i < length us → u ≡ get_or us i u → Grows old new
    → Contains (listed_at new (hash_version u)) p → ((v : Version) → Contains (take i us) v → Contains (listed_at old (hash_version v)) p)
    → (v : Version) → Contains (take (i + 1) us) v → Contains (listed_at new (hash_version v)) p
written_more us i u old new p lt is grows here before v c = ⊎_elim
    (λ (o : Contains (take i us) v). grows (hash_version v) p (before v o))
    (λ (e : u ≡ v). subst (λ (w : Version). Contains (listed_at new (hash_version w)) p) e here)
    (Contains-push_cases (take i us) u v (subst (λ (vs : List Version). Contains vs v) (take_more us i u lt ∙ ap (λ (y : Version). take i us ++ y ∷ []) (sym is)) c))

-- all of a list is its first so many, and no more
pub in_first : {X : Type 0} (xs : List X) (i : ℕ) (x : X) → length xs ≤ i → Contains xs x → Contains (take i xs) x
in_first {X} xs i x le c = subst (λ (ys : List X). Contains ys x) (sym (take_all i xs le)) c
