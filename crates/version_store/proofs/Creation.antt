-- What a version rests on came about before it: it stands before it in the list of the versions.
use Rattle.std.proofs.Common.{◌≡◌, ℕ, zero, suc, ◌+◌, ◌-◌, ◌<◌, ◌≤◌, List, [], ◌∷◌, ◌++◌, length, map, min, take, get_or, refl, sym, subst, ap, ◌∙◌, arith, ⊎_elim}
use Rattle.std.specs.List.{Contains}
use Rattle.std.proofs.lemmas.Bool.{cases_lt}
use Rattle.std.proofs.lemmas.List.{get_or-map, get_or-take, take_more, take_all}
use Rattle.std.proofs.lemmas.List.Elements.{Contains-append_left, Contains-append_right, Contains-append_cases}
use Rattle.std.proofs.Math.Nat.{eq-or-lt_of_le}
use Rattle.std.proofs.Math.ListN.{length-take}
use Rattle.std.proofs.Common.{append_assoc}
use Rattle.trace_events.specs.declared.version.Version.{Version}
use Rattle.trace_events.specs.declared.summary.Write.{Write as Written}
use Rattle.trace_events.specs.History.{History, deps, made, made_upto, place_of, run_of, version_at, writes_of, IsOlder}
use Rattle.trace_events.proofs.Ancestors.{IsAscending, dep_older}
use Rattle.trace_events.proofs.Lists.{no_member, Contains-map}
use Rattle.trace_events.proofs.Reached.{made_upto_made}
use Rattle.trace_events.specs.Lawful.{IsAscendingFrom}

-- ---- lists

pub length_of_map : {X Y : Type 0} (f : X → Y) (xs : List X) → length (map f xs) ≡ length xs
length_of_map f [] = refl
length_of_map f (x ∷ xs) = ap suc (length_of_map f xs)

pub Contains-take : {X : Type 0} (xs : List X) (i : ℕ) (x : X) → Contains (take i xs) x → Contains xs x
Contains-take xs i x (k, lt, e) =
    let l : length (take i xs) ≡ min i (length xs) = length-take i xs in
    let first : k < i = omega arith in
    (k, omega arith, sym (get_or-take i xs k x first) ∙ e)

-- ---- the places of a run's writes

ascending_bound : (p : ℕ) (ws : List Written) (k : ℕ) (d : Written) → IsAscendingFrom p ws → k < length ws → p ≤ (get_or ws k d).place
ascending_bound p [] k d a lt = absurd (omega arith)
ascending_bound p (w ∷ ws) zero d a lt = a.0
ascending_bound p (w ∷ ws) (suc k) d a lt =
    let later : w.place + 1 ≤ (get_or ws k d).place = ascending_bound (w.place + 1) ws k d a.2 (omega arith) in
    let here : p ≤ w.place = a.0 in
    omega arith

ascending_le : (p : ℕ) (ws : List Written) (i k : ℕ) (d : Written) → IsAscendingFrom p ws → i ≤ k → k < length ws
    → (get_or ws i d).place ≤ (get_or ws k d).place
ascending_le p [] i k d a le lt = absurd (omega arith)
ascending_le p (w ∷ ws) zero zero d a le lt = omega arith
ascending_le p (w ∷ ws) zero (suc k) d a le lt =
    let later : w.place + 1 ≤ (get_or ws k d).place = ascending_bound (w.place + 1) ws k d a.2 (omega arith) in
    omega arith
ascending_le p (w ∷ ws) (suc i) zero d a le lt = absurd (omega arith)
ascending_le p (w ∷ ws) (suc i) (suc k) d a le lt = ascending_le (w.place + 1) ws i k d a.2 (omega arith) (omega arith)

-- ---- the versions of a run

pub run_of-made : (h : History) (n : ℕ) (v : Version) → Contains (made h n) v → run_of v ≡ n
run_of-made h n v c = let one = Contains-map (λ (w : Written). version_at n w.place) (writes_of h n) v c in sym (ap run_of one.2)

pub run_of-made_upto : (h : History) (n : ℕ) (v : Version) → Contains (made_upto h n) v → run_of v ≤ n
run_of-made_upto h zero v c = absurd (no_member v c)
run_of-made_upto h (suc n) v c = ⊎_elim
    (λ (before : Contains (made_upto h n) v). let low : run_of v ≤ n = run_of-made_upto h n v before in omega arith)
    (λ (last : Contains (made h (suc n)) v). let same : run_of v ≡ suc n = run_of-made h (suc n) v last in omega arith)
    (Contains-append_cases (made_upto h n) (made h (suc n)) v c)

pub older_run : (u v : Version) → IsOlder u v → run_of u ≤ run_of v
older_run u v o = ⊎_elim (λ (x : run_of u < run_of v). omega arith) (λ (x : (run_of u ≡ run_of v) × (place_of u < place_of v)). omega arith) o

pub run_of-dep : (h : History) → IsAscending h → (v u : Version) → Contains (deps h v) u → run_of u ≤ run_of v
run_of-dep h ascend v u c = older_run u v (dep_older h ascend v u c)

-- ---- the k-th write of run n

module _ (h : History) (ascend : IsAscending h) (n k : ℕ) (w : Written) (lt : k < length (writes_of h n)) (is : w ≡ get_or (writes_of h n) k w) where
  abbrev at : Version
  at = version_at n w.place

  abbrev as_version : Written → Version
  as_version x = version_at n x.place

  pub made_length : length (made h n) ≡ length (writes_of h n)
  made_length = length_of_map as_version (writes_of h n)

  pub made_at : get_or (made h n) k at ≡ at
  made_at = get_or-map as_version (writes_of h n) k w at lt ∙ ap as_version (sym is)

  pub take_made : take (k + 1) (made h n) ≡ take k (made h n) ++ at ∷ []
  take_made = take_more (made h n) k at (omega (arith, made_length)) ∙ ap (λ (v : Version). take k (made h n) ++ v ∷ []) made_at

  -- all versions before it, and with it
  abbrev pub before : List Version
  before = made_upto h (n - 1) ++ take k (made h n)

  pub longer : before ++ at ∷ [] ≡ made_upto h (n - 1) ++ take (k + 1) (made h n)
  longer = append_assoc (made_upto h (n - 1)) (take k (made h n)) (at ∷ []) ∙ ap (λ (l : List Version). made_upto h (n - 1) ++ l) (sym take_made)

  -- a version of the same run at an earlier place is among the first k
  among_first : (u : Version) → place_of u < w.place → Contains (made h n) u → Contains (take k (made h n)) u
  among_first u less (i, below, e) =
      let inside : i < length (writes_of h n) = omega (arith, made_length) in
      let same : (get_or (writes_of h n) i w).place ≡ place_of u = ap place_of (sym (get_or-map as_version (writes_of h n) i w u inside) ∙ e) in
      let mine : w.place ≡ (get_or (writes_of h n) k w).place = ap (λ (x : Written). x.place) is in
      let first : i < k = ⊎_elim (λ (b : i < k). b)
      (λ (b : k ≤ i). let up : (get_or (writes_of h n) k w).place ≤ (get_or (writes_of h n) i w).place = ascending_le 0 (writes_of h n) k i w (ascend n) b inside in absurd (omega arith))
      (cases_lt i k) in
      (i, omega (arith, length-take k (made h n)), get_or-take k (made h n) i u first ∙ e)

  -- what it rests on, and was made, came before it
  pub deps_first : (u : Version) → Contains (deps h at) u → run_of u ≡ n → Contains (made h n) u → Contains (take k (made h n)) u
  deps_first u c same m = ⊎_elim
      (λ (x : run_of u < n). absurd (omega arith))
      (λ (x : (run_of u ≡ n) × (place_of u < w.place)). among_first u x.1 m)
      (dep_older h ascend at u c)

  pub deps_before : (u : Version) → Contains (deps h at) u → Contains (made h (run_of u)) u → Contains before u
  deps_before u c m =
      let below : run_of u ≤ n = run_of-dep h ascend at u c in
      ⊎_elim
      (λ (same : run_of u ≡ n). Contains-append_right (made_upto h (n - 1)) (take k (made h n)) u (deps_first u c same (subst (λ (x : ℕ). Contains (made h x) u) same m)))
      (λ (less : run_of u < n). Contains-append_left (made_upto h (n - 1)) (take k (made h n)) u (made_upto_made h (run_of u) (n - 1) u (omega arith) m))
      (eq-or-lt_of_le below)

-- all of a run's versions
pub made_upto_split : (h : History) (n k : ℕ) → 0 < n → length (writes_of h n) ≤ k → made_upto h (n - 1) ++ take k (made h n) ≡ made_upto h n
made_upto_split h zero k pos le = absurd (omega arith)
made_upto_split h (suc b) k pos le =
    let less : suc b - 1 ≡ b = omega arith in
    ap (λ (x : ℕ). made_upto h x ++ take k (made h (suc b))) less
    ∙ ap (λ (l : List Version). made_upto h b ++ l) (take_all k (made h (suc b)) (omega (arith, length_of_map (λ (w : Written). version_at (suc b) w.place) (writes_of h (suc b)))))
