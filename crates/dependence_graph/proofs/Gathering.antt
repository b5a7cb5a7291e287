-- How what a version rests on is gathered.
use Rattle.std.proofs.Common.{◌≡◌, ℕ, zero, suc, ◌+◌, ◌-◌, ◌<◌, ◌≤◌, ◌⊎◌, inl, inr, true, false, List, [], ◌∷◌, ◌++◌, length, take, get_or, refl, sym, ap, subst, ◌∙◌, ⊎_elim, arith}
use Rattle.std.specs.Prelude.{IsTrue}
use Rattle.std.specs.BTreeSet.{BTreeSet}
use Rattle.std.specs.List.{Contains}
use Rattle.std.proofs.lemmas.Bool.{cases_Bool, true≢false}
use Rattle.std.proofs.lemmas.List.{take_more}
use Rattle.std.proofs.lemmas.List.Elements.{Contains-append_left, Contains-append_right, Contains-append_cases, Contains-push_cases}
use Rattle.flow_base.specs.declared.loc.Loc.{Loc}
use Rattle.flow_base.specs.declared.numbers.RunNo.{RunNo}
use Rattle.trace_events.specs.declared.version.Version.{Version}
use Rattle.trace_events.specs.declared.version.Version.TheVariants.{Empty, Written as at_write}
use Rattle.trace_events.specs.declared.summary.Write.{Write as Written}
use Rattle.trace_events.specs.History.{History, deps, made, made_upto, run_of, version_at, writes_of}
use Rattle.trace_events.specs.Staleness.{Ancestor, Near}
use Rattle.trace_events.specs.Staleness as stale
use Rattle.trace_events.proofs.Ancestors.{IsAscending}
use Rattle.trace_events.proofs.Lists.{no_member, Contains-head}
use Rattle.trace_events.proofs.Reached.{made_deps, made_upto_made, made_within}
use Rattle.dependence_graph.specs.Marks.{is_marked, AddsMark}
use Rattle.dependence_graph.specs.Visits.{Reached, direct, further, IsWritten, AddsWritten, AreGathered, Visits}
use Rattle.version_store.proofs.Creation.{before, deps_before, longer, run_of-dep, run_of-made_upto}

abbrev Marks : Type 0
Marks = BTreeSet (RunNo × ℕ)

-- ---- marks

only_one : (v u : Version) → Contains (v ∷ []) u → v ≡ u
only_one v u (zero, lt, e) = e
only_one v u (suc k, lt, e) = absurd (omega arith)

pub AddsWritten-one : (old new : Marks) (run : RunNo) (i : ℕ) → AddsMark old new (at_write run i) → AddsWritten old new (at_write run i ∷ [])
AddsWritten-one old new run i a = record {
  kept = a.kept;
  added = λ u c w. subst (λ (x : Version). IsTrue (is_marked new x)) (only_one (at_write run i) u c) a.here;
  only = λ u t. ⊎_elim (λ (e : u ≡ at_write run i). inr (0, omega arith, sym e)) (λ (o : IsTrue (is_marked old u)). inl o) (a.only u t);
}

pub AddsWritten-none : (old : Marks) (l : Loc) → AddsWritten old old (Empty l ∷ [])
AddsWritten-none old l = record {
  kept = λ u t. t;
  added = λ u c w. absurd (subst IsWritten (sym (only_one (Empty l) u c)) w);
  only = λ u t. inl t;
}

pub AddsWritten-nil : (old : Marks) → AddsWritten old old []
AddsWritten-nil old = record { kept = λ u t. t; added = λ u c w. absurd (no_member u c); only = λ u t. inl t }

pub AddsWritten-more : (old mid new : Marks) (vs : List Version) (i : ℕ) (v : Version) → v ≡ get_or vs i v → i < length vs → AddsWritten old mid (take i vs)
    → AddsWritten mid new (v ∷ []) → AddsWritten old new (take (i + 1) vs)
AddsWritten-more old mid new vs i v is lt a b =
    let longer : take i vs ++ v ∷ [] ≡ take (i + 1) vs = ap (λ (x : Version). take i vs ++ x ∷ []) is ∙ sym (take_more vs i v lt) in
    subst (λ (l : List Version). AddsWritten old new l) longer (record {
      kept = λ u t. b.kept u (a.kept u t);
      added = λ u c w. ⊎_elim
          (λ (x : Contains (take i vs) u). b.kept u (a.added u x w))
          (λ (x : Contains (v ∷ []) u). b.added u x w)
          (Contains-append_cases (take i vs) (v ∷ []) u c);
      only = λ u t. ⊎_elim
          (λ (x : IsTrue (is_marked mid u)). ⊎_elim
          (λ (y : IsTrue (is_marked old u)). inl y)
          (λ (y : Contains (take i vs) u). inr (Contains-append_left (take i vs) (v ∷ []) u y))
          (a.only u x))
          (λ (x : Contains (v ∷ []) u). inr (Contains-append_right (take i vs) (v ∷ []) u x))
          (b.only u t);
    })

-- ---- what is reached

reached_then : (h : History) (floor : ℕ) (u : Version) {v w : Version} → Reached h floor v w → floor ≤ run_of w → Contains (deps h w) u → Reached h floor v u
reached_then h floor u (direct c) le d = further c le (direct d)
reached_then h floor u (further c low a) le d = further c low (reached_then h floor u a le d)

module _ (h : History) where
  -- a version that rests on something is of a run
  pub some_run : (v u : Version) → Contains (deps h v) u → 0 < run_of v
  some_run v u c = positive (run_of v) (made_deps h v u c)
    where
      positive : (n : ℕ) → Contains (made h n) v → 0 < n
      positive zero m = absurd (no_member v m)
      positive (suc n) m = omega arith

  -- a version rests on nothing, or was made
  made_or_none : (v : Version) → Contains (made h (run_of v)) v ⊎ ((u : Version) → Contains (deps h v) u → ⊥)
  made_or_none v = go (deps h v) refl
    where
      go : (ds : List Version) → deps h v ≡ ds → Contains (made h (run_of v)) v ⊎ ((u : Version) → Contains (deps h v) u → ⊥)
      go [] e = inr (λ u c. no_member u (subst (λ (l : List Version). Contains l u) e c))
      go (d ∷ ds) e = inl (made_deps h v d (subst (λ (l : List Version). Contains l d) (sym e) (Contains-head d ds)))

  -- what is reached over all runs are the ancestors
  pub ancestor_reached : {v u : Version} → Ancestor h v u → Reached h 1 v u
  ancestor_reached (stale.direct c) = direct c
  ancestor_reached (stale.further {w = w} c a) = let low : 1 ≤ run_of w = first_step a in further c low (ancestor_reached a)
    where
      first_step : {v u : Version} → Ancestor h v u → 1 ≤ run_of v
      first_step (stale.direct {v = v} {u = u} c) = let some : 0 < run_of v = some_run v u c in omega arith
      first_step (stale.further {v = v} {w = w} c a) = let some : 0 < run_of v = some_run v w c in omega arith

  pub reached_ancestor : {v u : Version} → Reached h 1 v u → Ancestor h v u
  reached_ancestor (direct c) = stale.direct c
  reached_ancestor (further c le a) = stale.further c (reached_ancestor a)

  -- what is reached over one run, and is of an earlier one, are the near versions
  pub near_reached : (floor : ℕ) {v u : Version} → floor ≡ run_of v → Near h v u → Reached h floor v u × run_of u < floor
  near_reached floor e (stale.earlier c lt) = (direct c, omega arith)
  near_reached floor e (stale.within {v = v} {w = w} c same n) =
      let there : floor ≡ run_of w = e ∙ sym same in
      let rest = near_reached floor there n in
      (further c (omega arith) rest.0, rest.1)

  pub reached_near : (ascend : IsAscending h) (floor : ℕ) {v u : Version} → floor ≡ run_of v → Reached h floor v u → run_of u < floor → Near h v u
  reached_near ascend floor e (direct c) lt = stale.earlier c (omega arith)
  reached_near ascend floor e (further {v = v} {w = w} c le a) lt =
      let below : run_of w ≤ run_of v = run_of-dep h ascend v w c in
      let same : run_of w ≡ run_of v = omega arith in
      stale.within c same (reached_near ascend floor (e ∙ sym same) a lt)

-- ---- one version

module _ (h : History) (ascend : IsAscending h) (floor : ℕ) (v : Version) (n k : ℕ) (item : Written) (lt : k < length (writes_of h n))
    (is : item ≡ get_or (writes_of h n) k item) (low : floor ≤ n) (old new : Marks) (found more : List Version) where
  abbrev at : Version
  at = version_at n item.place

  abbrev rest : List Version
  rest = before h ascend n k item lt is

  abbrev all : List Version
  all = made_upto h (n - 1) ++ take (k + 1) (made h n)

  all_cases : (u : Version) → Contains all u → Contains rest u ⊎ (at ≡ u)
  all_cases u c = Contains-push_cases rest at u (subst (λ (l : List Version). Contains l u) (sym (longer h ascend n k item lt is)) c)

  in_more : more ≡ found ++ deps h at → (u : Version) → Contains (found ++ deps h at) u → Contains more u
  in_more same u c = subst (λ (l : List Version). Contains l u) (sym same) c

  from_more : more ≡ found ++ deps h at → (u : Version) → Contains more u → Contains found u ⊎ Contains (deps h at) u
  from_more same u c = Contains-append_cases found (deps h at) u (subst (λ (l : List Version). Contains l u) same c)

  -- where it is marked
  module _ (g : AreGathered h floor v all old found) (t : is_marked old at ≡ true) (same : more ≡ found ++ deps h at) (adds : AddsWritten old new (deps h at)) where
    hit_left : (u : Version) → Contains found u → Contains more u
    hit_left u c = in_more same u (Contains-append_left found (deps h at) u c)

    hit_right : (u : Version) → Contains (deps h at) u → Contains more u
    hit_right u c = in_more same u (Contains-append_right found (deps h at) u c)

    hit_marked : (u : Version) → IsTrue (is_marked new u) → (u ≡ v) ⊎ Contains more u
    hit_marked u m = ⊎_elim
        (λ (o : IsTrue (is_marked old u)). ⊎_elim (λ (q : u ≡ v). inl q) (λ (q : Contains found u). inr (hit_left u q)) (g.marked u o))
        (λ (c : Contains (deps h at) u). inr (hit_right u c))
        (adds.only u m)

    hit_sound : (u : Version) → Contains more u → Reached h floor v u
    hit_sound u c = ⊎_elim
        (λ (x : Contains found u). g.sound u x)
        (λ (x : Contains (deps h at) u). ⊎_elim
        (λ (q : at ≡ v). direct (subst (λ (y : Version). Contains (deps h y) u) q x))
        (λ (q : Contains found at). reached_then h floor u (g.sound at q) low x)
        (g.marked at t))
        (from_more same u c)

    hit_closed : (w : Version) → floor ≤ run_of w → IsTrue (is_marked new w) → Contains rest w ⊎ ((u : Version) → Contains (deps h w) u → Contains more u)
    hit_closed w le m = ⊎_elim
        (λ (o : IsTrue (is_marked old w)). ⊎_elim
        (λ (l : Contains all w). ⊎_elim
        (λ (x : Contains rest w). inl x)
        (λ (q : at ≡ w). inr (λ u c. hit_right u (subst (λ (y : Version). Contains (deps h y) u) (sym q) c)))
        (all_cases w l))
        (λ (f : (u : Version) → Contains (deps h w) u → Contains found u). inr (λ u c. hit_left u (f u c)))
        (g.closed w le o))
        (λ (c : Contains (deps h at) w). ⊎_elim
        (λ (x : Contains (made h (run_of w)) w). inl (deps_before h ascend n k item lt is w c x))
        (λ (none : (u : Version) → Contains (deps h w) u → ⊥). inr (λ u d. absurd (none u d)))
        (made_or_none h w))
        (adds.only w m)

    gathered_hit : AreGathered h floor v rest new more
    gathered_hit = record {
      marked = hit_marked;
      begun = adds.kept v g.begun;
      listed = λ u c w. ⊎_elim
          (λ (x : Contains found u). adds.kept u (g.listed u x w))
          (λ (x : Contains (deps h at) u). adds.added u x w)
          (from_more same u c);
      sound = hit_sound;
      closed = hit_closed;
    }

  -- where it is not
  gathered_miss : AreGathered h floor v all old found → is_marked old at ≡ false → AreGathered h floor v rest old found
  gathered_miss g t = record {
    marked = g.marked;
    begun = g.begun;
    listed = g.listed;
    sound = g.sound;
    closed = λ w le m. ⊎_elim
        (λ (l : Contains all w). ⊎_elim
        (λ (x : Contains rest w). inl x)
        (λ (q : at ≡ w). absurd (true≢false (sym (subst (λ (y : Version). is_marked old y ≡ true) (sym q) m) ∙ t)))
        (all_cases w l))
        (λ (f : (u : Version) → Contains (deps h w) u → Contains found u). inr f)
        (g.closed w le m);
  }

  pub gathered_next : AreGathered h floor v all old found → Visits h at old new found more → AreGathered h floor v rest new more
  gathered_next g r = ⊎_elim
      (λ (t : is_marked old at ≡ true). let q = r.hit t in gathered_hit g t q.0 q.1)
      (λ (f : is_marked old at ≡ false). let q = r.miss f in
      subst (λ (l : List Version). AreGathered h floor v rest new l) (sym q.0) (subst (λ (s : Marks). AreGathered h floor v rest s found) (sym q.1) (gathered_miss g f)))
      (cases_Bool (is_marked old at))

-- the same of the list that the code goes over, from its end
pub gathered_item : (h : History) (ascend : IsAscending h) (floor : ℕ) (v : Version) (n left : ℕ) (xs : List Written) → xs ≡ writes_of h n → 0 < left → left ≤ length xs
    → (w : Written) → w ≡ get_or xs (left - 1) w → (place : ℕ) → place ≡ w.place → floor ≤ n → (old new : Marks) (found more : List Version)
    → AreGathered h floor v (made_upto h (n - 1) ++ take left (made h n)) old found → Visits h (version_at n place) old new found more
    → AreGathered h floor v (made_upto h (n - 1) ++ take (left - 1) (made h n)) new more
gathered_item h ascend floor v n left xs same some le w is place there low old new found more g r =
    let up : left ≡ left - 1 + 1 = omega arith in
    let inside : left - 1 < length xs = omega arith in
    gathered_next h ascend floor v n (left - 1) w (subst (λ (l : List Written). left - 1 < length l) same inside)
    (is ∙ ap (λ (l : List Written). get_or l (left - 1) w) same) low old new found more
    (subst (λ (k : ℕ). AreGathered h floor v (made_upto h (n - 1) ++ take k (made h n)) old found) up g)
    (subst (λ (p : ℕ). Visits h (version_at n p) old new found more) there r)

-- ---- the whole

written_of_deps : (h : History) (v u : Version) → Contains (deps h v) u → IsWritten v
written_of_deps h (Empty l) u c = absurd (no_member u c)
written_of_deps h (at_write run i) u c = tt

written_of_reached : (h : History) (floor : ℕ) {v u : Version} → Reached h floor v u → IsWritten v
written_of_reached h floor (direct {v = v} {u = u} c) = written_of_deps h v u c
written_of_reached h floor (further {v = v} {w = w} c le a) = written_of_deps h v w c

module _ (h : History) (floor left : ℕ) (v : Version) (marks : Marks) (found : List Version) (low : left < floor) (in_reach : floor ≤ run_of v)
    (g : AreGathered h floor v (made_upto h left) marks found) where
  all_closed : (w u : Version) → floor ≤ run_of w → IsTrue (is_marked marks w) → Contains (deps h w) u → Contains found u
  all_closed w u le m c = ⊎_elim
      (λ (x : Contains (made_upto h left) w). let below : run_of w ≤ left = run_of-made_upto h left w x in absurd (omega arith))
      (λ (f : (u : Version) → Contains (deps h w) u → Contains found u). f u c)
      (g.closed w le m)

  complete : {w u : Version} → Reached h floor w u → floor ≤ run_of w → IsTrue (is_marked marks w) → Contains found u
  complete (direct {v = w} {u = u} c) le m = all_closed w u le m c
  complete (further {v = w} {w = x} {u = u} c there a) le m = complete a there (g.listed x (all_closed w x le m c) (written_of_reached h floor a))

  pub gathered_all : (u : Version) → (Contains found u → Reached h floor v u) × (Reached h floor v u → Contains found u)
  gathered_all u = (g.sound u, λ a. complete a in_reach g.begun)

written_of_run : (v : Version) → 0 < run_of v → IsWritten v
written_of_run (Empty l) lt = absurd (omega arith)
written_of_run (at_write run i) lt = tt

-- the start
pub gathered_first : (h : History) (floor top : ℕ) (v : Version) (none marks : Marks) → ((u : Version) → is_marked none u ≡ false) → AddsWritten none marks (v ∷ []) → 0 < run_of v
    → (run_of v ≤ length h → run_of v ≤ top) → AreGathered h floor v (made_upto h top) marks []
gathered_first h floor top v none marks empty a some enough = record {
  marked = λ u m. ⊎_elim (λ (o : IsTrue (is_marked none u)). absurd (true≢false (sym o ∙ empty u))) (λ (c : Contains (v ∷ []) u). inl (sym (only_one v u c))) (a.only u m);
  begun = a.added v (Contains-head v []) (written_of_run v some);
  listed = λ u x w. absurd (no_member u x);
  sound = λ u x. absurd (no_member u x);
  closed = λ w le m. ⊎_elim
      (λ (o : IsTrue (is_marked none w)). absurd (true≢false (sym o ∙ empty w)))
      (λ (c : Contains (v ∷ []) w). subst (λ (y : Version). Contains (made_upto h top) y ⊎ ((u : Version) → Contains (deps h y) u → Contains [] u)) (only_one v w c) here)
      (a.only w m);
}
  where
    here : Contains (made_upto h top) v ⊎ ((u : Version) → Contains (deps h v) u → Contains [] u)
    here = ⊎_elim
        (λ (x : Contains (made h (run_of v)) v). inl (made_upto_made h (run_of v) top v (enough (made_within h (run_of v) v x)) x))
        (λ (f : (u : Version) → Contains (deps h v) u → ⊥). inr (λ u c. absurd (f u c)))
        (made_or_none h v)
