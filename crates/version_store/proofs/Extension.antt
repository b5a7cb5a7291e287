-- A longer history says the same of the versions that were there before.
use Rattle.std.proofs.Common.{◌≡◌, ℕ, Bool, true, false, cond, zero, suc, ◌+◌, ◌-◌, ◌<◌, ◌≤◌, List, [], ◌∷◌, ◌++◌, length, map, take, get_or, refl, sym, subst, ap, ◌∙◌, arith, ⊎_elim}
use Rattle.std.proofs.lemmas.Bool.{cases_lt}
use Rattle.std.specs.Prelude.{Option, Some, slice_get}
use Rattle.std.proofs.lemmas.List.{get_or_append_left, get_or-take, get_or_past, get_or_push, length-append, length-take}
use Rattle.std.proofs.lemmas.List.Elements.{All-push}
use Rattle.std.proofs.Math.Nat.{eq-or-lt_of_le}
use Rattle.flow_base.specs.declared.numbers.RunNo.{RunNo}
use Rattle.trace_events.specs.Lawful.{IsLawful}
use Rattle.flow_base.specs.declared.loc.Loc.{Loc}
use Rattle.trace_events.specs.declared.version.Version.{Version}
use Rattle.trace_events.specs.declared.version.Version.TheVariants.{Written as at_write}
use Rattle.trace_events.specs.History.{History, current, deps, or_earlier, uses_at, version_seen, write_at, writes_of}
use Rattle.trace_events.specs.Trace.{Summary, last_write}
use Rattle.trace_events.specs.declared.summary.Seen.{Seen}
use Rattle.trace_events.specs.declared.summary.Seen.TheVariants.{Before, Own}
use Rattle.trace_events.specs.declared.summary.Write.{Write}
use Rattle.version_store.specs.Kept.{IsKept, resolved}

module _ (h xs : History) where
  pub writes_of-append : (n : ℕ) → n ≤ length h → writes_of (h ++ xs) n ≡ writes_of h n
  writes_of-append zero le = refl
  writes_of-append (suc n) le = ap (λ (s : Summary). s.writes) (get_or_append_left h xs (record { reads = []; writes = [] }) n (omega arith))

  pub current-append : (n : ℕ) (l : Loc) → n ≤ length h → current (h ++ xs) n l ≡ current h n l
  current-append zero l le = refl
  current-append (suc n) l le =
      ap (λ ws. or_earlier (suc n) (last_write l ws) (current (h ++ xs) n l)) (writes_of-append (suc n) le)
      ∙ ap (or_earlier (suc n) (last_write l (writes_of h (suc n)))) (current-append n l (omega arith))

  version_seen-append : (n : ℕ) (s : Seen) → n - 1 ≤ length h → version_seen (h ++ xs) n s ≡ version_seen h n s
  version_seen-append n (Before l) le = current-append (n - 1) l le
  version_seen-append n (Own i) le = refl

  pub versions_seen-append : (n : ℕ) (ss : List Seen) → n - 1 ≤ length h → map (version_seen (h ++ xs) n) ss ≡ map (version_seen h n) ss
  versions_seen-append n [] le = refl
  versions_seen-append n (s ∷ ss) le =
      ap (λ v. v ∷ map (version_seen (h ++ xs) n) ss) (version_seen-append n s le) ∙ ap (λ vs. version_seen h n s ∷ vs) (versions_seen-append n ss le)

  pub resolved-append : (n : ℕ) (ws : List Write) → n - 1 ≤ length h → resolved (h ++ xs) n ws ≡ resolved h n ws
  resolved-append n [] le = refl
  resolved-append n (w ∷ ws) le =
      ap (λ vs. vs ∷ resolved (h ++ xs) n ws) (versions_seen-append n w.uses le) ∙ ap (λ vss. map (version_seen h n) w.uses ∷ vss) (resolved-append n ws le)

-- only the runs of the history wrote something
pub writes_of_past : (h : History) (n : ℕ) → length h < n → writes_of h n ≡ []
writes_of_past h zero lt = absurd (omega arith)
writes_of_past h (suc n) lt = ap (λ (s : Summary). s.writes) (get_or_past h n (record { reads = []; writes = [] }) (omega arith))

-- ---- what is kept of one run more

module _ (h : History) (kept : List (List (List Version))) (s : Summary) (k : IsKept h kept) where
  abbrev longer : History
  longer = h ++ s ∷ []

  length-front : length (take (length h) kept) ≡ length h
  length-front = let enough : length h ≤ length kept = k.enough in omega (arith, length-take (length h) kept)

  last_writes : writes_of longer (suc (length h)) ≡ s.writes
  last_writes = ap (λ (x : Summary). x.writes) (get_or_push h s (record { reads = []; writes = [] }) (length h) refl)

  each_earlier : (n : ℕ) → n < length h
      → get_or (take (length h) kept ++ resolved h (suc (length h)) s.writes ∷ []) n [] ≡ resolved longer (suc n) (writes_of longer (suc n))
  each_earlier n lt =
      get_or_append_left (take (length h) kept) (resolved h (suc (length h)) s.writes ∷ []) [] n (omega (arith, length-front))
      ∙ get_or-take (length h) kept n [] lt
      ∙ k.each n lt
      ∙ sym (resolved-append h (s ∷ []) (suc n) (writes_of h (suc n)) (omega arith))
      ∙ ap (resolved longer (suc n)) (sym (writes_of-append h (s ∷ []) (suc n) (omega arith)))

  each_last : get_or (take (length h) kept ++ resolved h (suc (length h)) s.writes ∷ []) (length h) [] ≡ resolved longer (suc (length h)) (writes_of longer (suc (length h)))
  each_last =
      get_or_push (take (length h) kept) (resolved h (suc (length h)) s.writes) [] (length h) length-front
      ∙ sym (resolved-append h (s ∷ []) (suc (length h)) s.writes (omega arith))
      ∙ ap (resolved longer (suc (length h))) (sym last_writes)

  pub each_more : (n : ℕ) → n < length longer
      → get_or (take (length h) kept ++ resolved h (suc (length h)) s.writes ∷ []) n [] ≡ resolved longer (suc n) (writes_of longer (suc n))
  each_more n lt = ⊎_elim
      (λ (e : n ≡ length h). subst (λ (m : ℕ). get_or (take (length h) kept ++ resolved h (suc (length h)) s.writes ∷ []) m [] ≡ resolved longer (suc m) (writes_of longer (suc m))) (sym e) each_last)
      (λ (earlier : n < length h). each_earlier n earlier)
      (eq-or-lt_of_le (let all : length longer ≡ length h + 1 = length-append h (s ∷ []) in omega arith))

  kept_earlier : IsKept h (take (length h) kept ++ resolved h (suc (length h)) s.writes ∷ [])
  kept_earlier = record {
    lawful = k.lawful;
    enough = omega (arith, length-front, length-append (take (length h) kept) (resolved h (suc (length h)) s.writes ∷ []));
    each = λ n lt. get_or_append_left (take (length h) kept) (resolved h (suc (length h)) s.writes ∷ []) [] n (omega (arith, length-front))
        ∙ get_or-take (length h) kept n [] lt
        ∙ k.each n lt;
  }

  kept_longer : IsLawful s → IsKept longer (take (length h) kept ++ resolved h (suc (length h)) s.writes ∷ [])
  kept_longer law = record {
    lawful = All-push IsLawful h s k.lawful law;
    enough = omega (arith, length-front, length-append h (s ∷ []), length-append (take (length h) kept) (resolved h (suc (length h)) s.writes ∷ []));
    each = each_more;
  }

  pub kept_after : (b : Bool) → IsLawful s → IsKept (cond b longer h) (take (length h) kept ++ resolved h (suc (length h)) s.writes ∷ [])
  kept_after true law = kept_longer law
  kept_after false law = kept_earlier

-- what was kept for the runs of the history is enough for them
pub kept_front : (h : History) (kept new : List (List (List Version))) (n : ℕ) → IsKept h kept → n ≡ length h → new ≡ take n kept → IsKept h new
kept_front h kept new n k count is = subst (λ (x : List (List (List Version))). IsKept h x) (sym (is ∙ ap (λ (m : ℕ). take m kept) count)) (record {
  lawful = k.lawful;
  enough = let enough : length h ≤ length kept = k.enough in omega (arith, length-take (length h) kept);
  each = λ m lt. get_or-take (length h) kept m [] lt ∙ k.each m lt;
})

-- what a push of the summary leaves, whether or not there was memory for it
pub kept_pushed : (h now runs : History) (kept front new : List (List (List Version))) (s : Summary) (n run : ℕ) (ws : List Write) (found : List (List Version)) (b : Bool)
    → IsKept h kept → IsLawful s → h ≡ now → run ≡ length now + 1 → ws ≡ s.writes → found ≡ resolved now run ws → n ≡ length h
    → front ≡ take n kept → new ≡ front ++ found ∷ [] → runs ≡ cond b (h ++ s ∷ []) h → IsKept runs new
kept_pushed h now runs kept front new s n run ws found b k law same next writes found_is count front_is new_is runs_is =
    let length_is : length now ≡ length h = ap length (sym same) in
    let run_is : run ≡ suc (length h) = omega arith in
    let all : new ≡ take (length h) kept ++ resolved h (suc (length h)) s.writes ∷ [] =
    new_is
    ∙ ap (λ (xs : List (List (List Version))). xs ++ found ∷ []) (front_is ∙ ap (λ (x : ℕ). take x kept) count)
    ∙ ap (λ (xs : List (List Version)). take (length h) kept ++ xs ∷ [])
    (found_is ∙ ap (λ (x : History). resolved x run ws) (sym same) ∙ ap (λ (x : ℕ). resolved h x ws) run_is ∙ ap (resolved h (suc (length h))) writes) in
    subst (λ (x : History). IsKept x new) (sym runs_is)
    (subst (λ (x : List (List (List Version))). IsKept (cond b (h ++ s ∷ []) h) x) (sym all) (kept_after h kept s k b law))

-- ---- what is kept is what the versions rest on

get_or_map-within : {X Y : Type 0} (f : X → Y) (g : Option X → Y) (xs : List X) (i : ℕ) (e : Y) → ((x : X) → g (Some x) ≡ f x) → i < length xs
    → get_or (map f xs) i e ≡ g (slice_get xs i)
get_or_map-within f g [] i e same lt = absurd (omega arith)
get_or_map-within f g (x ∷ xs) zero e same lt = sym (same x)
get_or_map-within f g (x ∷ xs) (suc i) e same lt = get_or_map-within f g xs i e same (omega arith)

within_history : (h : History) (n i : ℕ) → i < length (writes_of h (suc n)) → n < length h
within_history h n i lt = ⊎_elim
    (λ (inside : n < length h). inside)
    (λ (past : length h ≤ n). absurd (let none : length (writes_of h (suc n)) ≡ 0 = ap length (writes_of_past h (suc n) (omega arith)) in omega arith))
    (cases_lt n (length h))

deps_kept : (h : History) (kept : List (List (List Version))) (n place i : ℕ) → IsKept h kept → i < length (writes_of h n)
    → write_at (writes_of h n) place ≡ slice_get (writes_of h n) i → get_or (get_or kept (n - 1) []) i [] ≡ deps h (at_write (record { 0 = n }) place)
deps_kept h kept zero place i k lt at = absurd (omega arith)
deps_kept h kept (suc n) place i k lt at =
    let back : suc n - 1 ≡ n = omega arith in
    ap (λ (m : ℕ). get_or (get_or kept m []) i []) back
    ∙ ap (λ (vss : List (List Version)). get_or vss i []) (k.each n (within_history h n i lt))
    ∙ get_or_map-within (λ w. map (version_seen h (suc n)) w.uses) (λ o. map (version_seen h (suc n)) (uses_at o)) (writes_of h (suc n)) i [] (λ w. refl) lt
    ∙ ap (λ o. map (version_seen h (suc n)) (uses_at o)) (sym at)

pub found_deps : (h now : History) (kept items : List (List (List Version))) (run : RunNo) (place i m : ℕ) (ws : List Write) (v : Version) (result : List Version)
    → IsKept h kept → h ≡ now → v ≡ at_write run place → ws ≡ writes_of now run.0 → (i < length ws) × (write_at ws place ≡ slice_get ws i) → m ≡ run.0 - 1
    → items ≡ kept → result ≡ get_or (get_or items m []) i [] → result ≡ deps now v
found_deps h now kept items run place i m ws v result k same is writes at back kept_is found =
    let here : (i < length (writes_of now run.0)) × (write_at (writes_of now run.0) place ≡ slice_get (writes_of now run.0) i) =
    subst (λ (xs : List Write). (i < length xs) × (write_at xs place ≡ slice_get xs i)) writes at in
    found
    ∙ ap (λ (xs : List (List (List Version))). get_or (get_or xs m []) i []) kept_is
    ∙ ap (λ (x : ℕ). get_or (get_or kept x []) i []) back
    ∙ deps_kept now kept run.0 place i (subst (λ (x : History). IsKept x kept) same k) here.0 here.1
    ∙ ap (deps now) (sym is)
