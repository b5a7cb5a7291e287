-- The answer to why a version is stale.
use Rattle.std.proofs.Common.{◌≡◌, ◌≢◌, ℕ, zero, suc, ◌+◌, ◌-◌, ◌<◌, ◌≤◌, Bool, true, false, cond, List, [], ◌∷◌, unwrap_or, refl, sym, ap, subst, ◌∙◌, ⊎_elim, arith}
use Rattle.std.specs.Prelude.{Option, Some, None, filter, find, is_some}
use Rattle.std.specs.List.{Contains, range_with_len}
use Rattle.std.specs.Ordering.{is_lt, ordering_reverse}
use Rattle.std.specs.declared.cmp.Ordering.{Ordering}
use Rattle.std.specs.declared.cmp.Ordering.TheVariants.{Less, Equal, Greater}
use Rattle.std.proofs.lemmas.Bool.{false≢true, true≢false}
use Rattle.std.proofs.lemmas.Cmp.{alike_right, tied_itself}
use Rattle.std.proofs.Math.Nat.{eq-or-lt_of_le}
use Rattle.trace_events.specs.declared.version.Version.{Version}
use Rattle.trace_events.specs.History.{History, run_of, wrote}
use Rattle.trace_events.specs.Staleness.{Ancestor, Near, Stale, overwritten, carried}
use Rattle.trace_events.specs.Decided.{ancestors_of, count_of_writes, is_stale, near_of, runs_after}
use Rattle.trace_events.specs.Order.{version_cmp}
use Rattle.trace_events.specs.Why.{Reason, IsLeastOverwrite, IsLeastStaleNear, IsOverwrite, IsWhy, first_overwrite, least, least_overwritten, least_stale_near, lesser, or_carried, otherwise, overwrites, reason_of_dep, reason_with, reason_within}
use Rattle.trace_events.proofs.Ancestors.{IsAscending, run_of-near}
use Rattle.trace_events.proofs.Lists.{no_member, Contains-cons, Contains-filter, Contains-filter_of, Contains-head, find_some}
use Rattle.trace_events.proofs.Reached.{ancestor_listed, near_listed, near_within_near, reached_ancestor}
use Rattle.trace_events.proofs.StaleTest.{runs_after_has, stale_within_true, true_stale_within}
use Rattle.trace_events.proofs.TotalOrder.{equal_less, greater_less, version_total}

-- what lacks is not there
some_none : {T : Type 0} (x : T) → None ≡ Some x → ⊥
some_none x e = false≢true (ap is_some e)

-- ---- the least of a list

module _ (names : List (List ℕ)) where
  -- the order of versions
  abbrev compare : Version → Version → Ordering
  compare = version_cmp names

  -- no version is before itself
  itself : (v : Version) → compare v v ≢ Less
  itself v e = equal_less (sym (tied_itself (version_total names) v) ∙ e)

  -- what is before v is not after it
  not_after : (u v : Version) → compare u v ≡ Less → compare v u ≢ Less
  not_after u v e f = greater_less (sym ((version_total names).antisymm v u ∙ ap ordering_reverse e) ∙ f)

  -- what is not before u is not before v, where u is not before v
  not_before : (w u v : Version) (o : Ordering) → compare u v ≡ o → is_lt o ≡ false → compare w u ≢ Less → compare w v ≢ Less
  not_before w u v Less e f n q = true≢false f
  not_before w u v Equal e f n q = n (alike_right (version_total names) u v w e ∙ q)
  not_before w u v Greater e f n q = n ((version_total names).trans w v u q ((version_total names).antisymm v u ∙ ap ordering_reverse e))

  -- what passes the test is before
  is_less : (o : Ordering) → is_lt o ≡ true → o ≡ Less
  is_less Less t = refl
  is_less Equal t = absurd (false≢true t)
  is_less Greater t = absurd (false≢true t)

  -- u is in the list, and nothing there is before it
  abbrev IsLeast : List Version → Version → Type 0
  IsLeast vs u = Contains vs u × ((w : Version) → Contains vs w → compare w u ≢ Less)

  -- what holds of the first and of the rest holds of all
  head_cases : (v : Version) (vs : List Version) (P : Version → Type 0) → P v → ((w : Version) → Contains vs w → P w) → (w : Version) → Contains (v ∷ vs) w → P w
  head_cases v vs P here later w (zero, lt, e) = subst P e here
  head_cases v vs P here later w (suc k, lt, e) = later w (k, omega arith, e)

  -- the first against the least of the rest
  least_of_two : (v u : Version) (vs : List Version) (b : Bool) → is_lt (compare u v) ≡ b → IsLeast vs u → IsLeast (v ∷ vs) (cond b u v)
  least_of_two v u vs true t l =
      (Contains-cons v u vs l.0, head_cases v vs (λ w. compare w u ≢ Less) (not_after u v (is_less (compare u v) t)) l.1)
  least_of_two v u vs false t l =
      (Contains-head v vs, head_cases v vs (λ w. compare w v ≢ Less) (itself v) (λ w c. not_before w u v (compare u v) refl t (l.1 w c)))

  -- the least, if there is one
  abbrev LeastIf : List Version → Option Version → Type 0
  LeastIf vs None = (w : Version) → Contains vs w → ⊥
  LeastIf vs (Some u) = IsLeast vs u

  -- the same with one version more
  least_head : (v : Version) (vs : List Version) (o : Option Version) → LeastIf vs o → IsLeast (v ∷ vs) (lesser names v o)
  least_head v vs None none = (Contains-head v vs, head_cases v vs (λ w. compare w v ≢ Less) (itself v) (λ w c. absurd (none w c)))
  least_head v vs (Some u) l = least_of_two v u vs (is_lt (compare u v)) refl l

  -- the least is in the list, and nothing there is before it; and there is one, unless nothing is there
  least_is : (vs : List Version) → LeastIf vs (least names vs)
  least_is [] = λ w c. no_member w c
  least_is (v ∷ vs) = least_head v vs (least names vs) (least_is vs)

  -- what is found is the least
  pub least_found : (vs : List Version) (u : Version) → least names vs ≡ Some u → IsLeast vs u
  least_found vs u e = subst (λ (o : Option Version). LeastIf vs o) e (least_is vs)

  -- where none is found nothing is there
  pub least_none : (vs : List Version) (w : Version) → least names vs ≡ None → Contains vs w → ⊥
  least_none vs w e = subst (λ (o : Option Version). LeastIf vs o) e (least_is vs) w

-- ---- the first run that overwrote

-- m is the first of n numbers from a on that passes
abbrev FirstIn : (ℕ → Bool) → ℕ → ℕ → ℕ → Type 0
FirstIn p a n m = (p m ≡ true) × (a ≤ m) × (m < a + n) × ((k : ℕ) → a ≤ k → p k ≡ true → m ≤ k)

-- the same with one number more, which passes or not
find_range_head : (p : ℕ → Bool) (a n m : ℕ) (b : Bool) → p a ≡ b → (find p (range_with_len (a + 1) n) ≡ Some m → FirstIn p (a + 1) n m)
    → cond b (Some a) (find p (range_with_len (a + 1) n)) ≡ Some m → FirstIn p a (suc n) m
find_range_head p a n m true t rest e =
    let same : a ≡ m = ap (λ o. unwrap_or o a) e in
    (subst (λ (k : ℕ). p k ≡ true) same t, omega arith, omega arith, λ k le u. omega arith)
find_range_head p a n m false t rest e =
    let f = rest e in
    let low : a + 1 ≤ m = f.1 in let high : m < a + 1 + n = f.2 in (
      f.0,
      omega arith,
      omega arith,
      λ k le u. ⊎_elim
          (λ (same : a ≡ k). absurd (true≢false (sym (subst (λ (x : ℕ). p x ≡ true) (sym same) u) ∙ t)))
          (λ (less : a < k). f.3 k (omega arith) u)
          (eq-or-lt_of_le le),
    )

-- a search over a range finds the first
find_range : (p : ℕ → Bool) (a n m : ℕ) → find p (range_with_len a n) ≡ Some m → FirstIn p a n m
find_range p a zero m e = absurd (some_none m e)
find_range p a (suc n) m e = find_range_head p a n m (p a) refl (find_range p (a + 1) n m) e

-- the first run that overwrote, among those after run r
first_overwrite_is : (h : History) (r n m : ℕ) (u : Version) → first_overwrite h r n u ≡ Some m
    → (wrote h m u ≡ true) × (r < m) × (m ≤ n) × ((k : ℕ) → r < k → wrote h k u ≡ true → m ≤ k)
first_overwrite_is h r n m u e =
    let f = find_range (λ k. wrote h k u) (r + 1) (n - r) m e in
    let low : r + 1 ≤ m = f.1 in let high : m < r + 1 + (n - r) = f.2 in
    (f.0, omega arith, omega arith, λ k lt w. f.3 k (omega arith) w)

-- ---- the answer

module _ (names : List (List ℕ)) (now : History) (ascend : IsAscending now) where
  -- the ancestors of v that were overwritten, and the near versions of v that were stale
  abbrev test : ℕ → Version → Version → Bool
  test n v = λ u. is_some (first_overwrite now (run_of v) n u)

  -- an ancestor that was overwritten is listed
  overwrite_listed : (n : ℕ) (v u : Version) (m : ℕ) → IsOverwrite now n v u m → Contains (filter (test n v) (ancestors_of now v)) u
  overwrite_listed n v u m o = Contains-filter_of (test n v) (ancestors_of now v) u (ancestor_listed now ascend o.reached)
      (find_some (λ k. wrote now k u) (runs_after (run_of v) n) m (runs_after_has (run_of v) n m o.after o.upto) o.written)

  -- what is listed is an ancestor that was overwritten
  listed_ancestor : (n : ℕ) (v u : Version) → Contains (filter (test n v) (ancestors_of now v)) u → Ancestor now v u × (test n v u ≡ true)
  listed_ancestor n v u c =
      let found = Contains-filter (test n v) (ancestors_of now v) u c in (reached_ancestor now (count_of_writes now) v u found.0, found.1)

  -- a near version that was stale is listed
  stale_near_listed : (v u : Version) → Near now v u → Stale now (run_of v - 1) u → Contains (filter (is_stale now (run_of v - 1)) (near_of now v)) u
  stale_near_listed v u nr st = Contains-filter_of (is_stale now (run_of v - 1)) (near_of now v) u (near_listed now ascend nr)
      (true_stale_within now ascend (run_of u + 1) (omega arith) st)

  -- what is listed is a near version that was stale
  listed_stale_near : (v u : Version) → Contains (filter (is_stale now (run_of v - 1)) (near_of now v)) u → Near now v u × Stale now (run_of v - 1) u
  listed_stale_near v u c = let found = Contains-filter (is_stale now (run_of v - 1)) (near_of now v) u c in
      (near_within_near now (count_of_writes now) v u found.0, stale_within_true now ascend (run_of u + 1) (run_of v - 1) u found.1)

  -- ---- what the answer says

  -- the reason of a least overwritten ancestor
  dep_says : (n : ℕ) (v u : Version) (reason : Reason) (o : Option ℕ) → first_overwrite now (run_of v) n u ≡ o → least_overwritten names now n v ≡ Some u
      → reason_with (run_of v) u o ≡ Some reason → IsLeastOverwrite names now n v reason
  dep_says n v u reason None f l e = absurd (some_none reason e)
  dep_says n v u reason (Some m) f l e =
      let is = first_overwrite_is now (run_of v) n m u f in
      let found = least_found names (filter (test n v) (ancestors_of now v)) u l in
      subst (λ (x : Reason). IsLeastOverwrite names now n v x) (ap (λ o. unwrap_or o (record { dep = u; computed = run_of v; overwritten = m })) e) (record {
        overwrite = record { reached = (listed_ancestor n v u found.0).0; written = is.0; after = is.1; upto = is.2 };
        computed = refl;
        least = λ w k q. found.1 w (overwrite_listed n v w k q);
        first = λ k q. is.3 k q.after q.written;
      })

  -- the least near version that was stale
  near_says : (v u : Version) → least_stale_near names now v ≡ Some u → IsLeastStaleNear names now v u
  near_says v u l =
      let found = least_found names (filter (is_stale now (run_of v - 1)) (near_of now v)) u l in
      let is = listed_stale_near v u found.0 in
      record { reached = is.0; stale = is.1; least = λ w nr st. found.1 w (stale_near_listed v w nr st) }

  -- where no least one is found no ancestor was overwritten
  none_overwritten : (n : ℕ) (v : Version) → least_overwritten names now n v ≡ None → (w : Version) (m : ℕ) → IsOverwrite now n v w m → ⊥
  none_overwritten n v l w m o = least_none names (filter (test n v) (ancestors_of now v)) w l (overwrite_listed n v w m o)

  -- an ancestor that is listed as overwritten has a first run that wrote its location
  first_there : (n : ℕ) (v u : Version) → least_overwritten names now n v ≡ Some u → is_some (first_overwrite now (run_of v) n u) ≡ true
  first_there n v u l = (listed_ancestor n v u (least_found names (filter (test n v) (ancestors_of now v)) u l).0).1

  -- a reason that comes from a near version
  carried_says : (n : ℕ) (v : Version) (reason : Reason) (go_on : Version → Option Reason) (near : Option Version) → least_overwritten names now n v ≡ None
      → least_stale_near names now v ≡ near → ((u : Version) → go_on u ≡ Some reason → IsWhy names now (run_of v - 1) u reason)
      → or_carried go_on None near ≡ Some reason → IsWhy names now n v reason
  carried_says n v reason go_on None none l rest e = absurd (some_none reason e)
  carried_says n v reason go_on (Some u) none l rest e = otherwise (none_overwritten n v none) (near_says v u l) (rest u e)

  -- a reason that comes from an ancestor
  first_says : (n : ℕ) (v u : Version) (reason : Reason) (go_on : Version → Option Reason) (near : Option Version) (o : Option ℕ) → least_overwritten names now n v ≡ Some u
      → first_overwrite now (run_of v) n u ≡ o → or_carried go_on (reason_with (run_of v) u o) near ≡ Some reason → IsWhy names now n v reason
  first_says n v u reason go_on near None l f e = absurd (false≢true (ap is_some (sym f) ∙ first_there n v u l))
  first_says n v u reason go_on near (Some m) l f e = overwrites (dep_says n v u reason (Some m) f l e)

  -- the two cases of a reason
  step_says : (n : ℕ) (v : Version) (reason : Reason) (go_on : Version → Option Reason) (o near : Option Version) → least_overwritten names now n v ≡ o
      → least_stale_near names now v ≡ near → ((u : Version) → go_on u ≡ Some reason → IsWhy names now (run_of v - 1) u reason)
      → or_carried go_on (reason_of_dep now n v o) near ≡ Some reason → IsWhy names now n v reason
  step_says n v reason go_on None near l m rest e = carried_says n v reason go_on near l m rest e
  step_says n v reason go_on (Some u) near l m rest e = first_says n v u reason go_on near (first_overwrite now (run_of v) n u) l refl e

  -- what a reason says
  pub reason_says : (runs n : ℕ) (v : Version) (reason : Reason) → reason_within runs names now n v ≡ Some reason → IsWhy names now n v reason
  reason_says zero n v reason e = absurd (some_none reason e)
  reason_says (suc runs) n v reason e = step_says n v reason (reason_within runs names now (run_of v - 1)) (least_overwritten names now n v) (least_stale_near names now v)
      refl refl (λ u q. reason_says runs (run_of v - 1) u reason q) e

  -- what has a reason is stale
  why_stale : {n : ℕ} {v : Version} {reason : Reason} → IsWhy names now n v reason → Stale now n v
  why_stale (overwrites l) = overwritten l.overwrite.reached l.overwrite.written l.overwrite.after l.overwrite.upto
  why_stale (otherwise none l w) = carried l.reached l.stale

  -- ---- when there is one

  -- the reason that is there
  some_reason : (o : Option Reason) → is_some o ≡ true → (reason : Reason) × (o ≡ Some reason)
  some_reason None t = absurd (false≢true t)
  some_reason (Some reason) t = (reason, refl)

  -- where a reason is found the version is stale
  pub reason_stale : (runs n : ℕ) (v : Version) → is_some (reason_within runs names now n v) ≡ true → Stale now n v
  reason_stale runs n v t = let some = some_reason (reason_within runs names now n v) t in why_stale (reason_says runs n v some.0 some.1)

  -- an ancestor that was overwritten gives a reason
  dep_there : (n : ℕ) (v u : Version) (go_on : Version → Option Reason) (near : Option Version) (o : Option ℕ) → is_some o ≡ true
      → is_some (or_carried go_on (reason_with (run_of v) u o) near) ≡ true
  dep_there n v u go_on near None t = absurd (false≢true t)
  dep_there n v u go_on near (Some m) t = refl

  -- none of v's ancestors was overwritten, so a near version was stale
  near_there : (n : ℕ) (v : Version) → least_overwritten names now n v ≡ None → Stale now n v → (u : Version) × Near now v u × Stale now (run_of v - 1) u
  near_there n v l (overwritten {m = m} {u = u} a w lt le) =
      absurd (none_overwritten n v l u m (record { reached = a; written = w; after = lt; upto = le }))
  near_there n v l (carried {u = u} nr st) = (u, nr, st)

  -- a near version that was stale gives a reason
  near_step : (n : ℕ) (v : Version) (go_on : Version → Option Reason) (near : Option Version) → least_overwritten names now n v ≡ None
      → least_stale_near names now v ≡ near → ((u : Version) → Near now v u → Stale now (run_of v - 1) u → is_some (go_on u) ≡ true) → Stale now n v
      → is_some (or_carried go_on None near) ≡ true
  near_step n v go_on None l m rest s =
      let is = near_there n v l s in
      absurd (least_none names (filter (is_stale now (run_of v - 1)) (near_of now v)) is.0 m (stale_near_listed v is.0 is.1 is.2))
  near_step n v go_on (Some u) l m rest s = let is = near_says v u m in rest u is.reached is.stale

  -- one of the two cases gives a reason
  stale_step : (n : ℕ) (v : Version) (go_on : Version → Option Reason) (o near : Option Version) → least_overwritten names now n v ≡ o
      → least_stale_near names now v ≡ near → ((u : Version) → Near now v u → Stale now (run_of v - 1) u → is_some (go_on u) ≡ true) → Stale now n v
      → is_some (or_carried go_on (reason_of_dep now n v o) near) ≡ true
  stale_step n v go_on None near l m rest s = near_step n v go_on near l m rest s
  stale_step n v go_on (Some u) near l m rest s = dep_there n v u go_on near (first_overwrite now (run_of v) n u) (first_there n v u l)

  -- a stale version has a reason
  pub stale_reason : (runs n : ℕ) (v : Version) → run_of v < runs → Stale now n v → is_some (reason_within runs names now n v) ≡ true
  stale_reason zero n v lt s = absurd (omega arith)
  stale_reason (suc runs) n v lt s = stale_step n v (reason_within runs names now (run_of v - 1)) (least_overwritten names now n v) (least_stale_near names now v)
      refl refl (λ u nr st. stale_reason runs (run_of v - 1) u (let less : run_of u < run_of v = run_of-near now nr in omega arith) st) s
