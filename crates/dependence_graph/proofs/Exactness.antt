-- Exact marks, by the test for stale versions and by the passes.
use Rattle.std.proofs.Common.{◌≡◌, ℕ, zero, suc, ◌+◌, ◌-◌, ◌<◌, ◌≤◌, Bool, true, false, List, [], ◌∷◌, ◌++◌, length, length-append, map, take, refl, sym, ap, subst, ◌∙◌, ⊎_elim, arith}
use Rattle.std.specs.Prelude.{OnOk, Result, Ok, Err}
use Rattle.std.specs.BTreeSet.{BTreeSet}
use Rattle.std.specs.List.{Contains}
use Rattle.std.proofs.lemmas.Bool.{cases_lt}
use Rattle.std.proofs.lemmas.List.{get_or-take, get_or_past, length-take, take_all, take-append-le}
use Rattle.flow_base.specs.declared.no_memory.NoMemory.{NoMemory}
use Rattle.flow_base.specs.declared.numbers.RunNo.{RunNo}
use Rattle.trace_events.specs.declared.version.Version.{Version}
use Rattle.trace_events.specs.Trace.{Summary}
use Rattle.trace_events.specs.declared.summary.Write.{Write as Written}
use Rattle.trace_events.specs.History.{History, made_upto, run_of, version_at, writes_of}
use Rattle.trace_events.specs.Decided.{is_stale}
use Rattle.trace_events.specs.Staleness.{Stale}
use Rattle.trace_events.proofs.Ancestors.{IsAscending}
use Rattle.trace_events.proofs.Reached.{made_upto_made, made_within}
use Rattle.trace_events.specs.Lawful.{IsAscendingFrom}
use Rattle.trace_events.proofs.StaleTest.{stale_within_true, true_stale_within}
use Rattle.dependence_graph.specs.Marks.{is_marked, IsExact, MarksExactly}
use Rattle.version_store.proofs.Creation.{run_of-made_upto}
use Rattle.version_store.proofs.SameRuns.{SameUpto, same_back, stale_to}
use Rattle.version_store.proofs.Recurrence.{stale_made}

-- two tests are the same where each holds with the other
pub same_tests : (a b : Bool) → (a ≡ true → b ≡ true) → (b ≡ true → a ≡ true) → a ≡ b
same_tests true b f g = sym (f refl)
same_tests false true f g = g refl
same_tests false false f g = refl

-- ---- the test for stale versions

module _ (h : History) (ascend : IsAscending h) where
  pub is_stale_true : (n : ℕ) (v : Version) → is_stale h n v ≡ true → Stale h n v
  is_stale_true n v t = stale_within_true h ascend (run_of v + 1) n v t

  pub true_is_stale : {n : ℕ} {v : Version} → Stale h n v → is_stale h n v ≡ true
  true_is_stale {n} {v} s = true_stale_within h ascend (run_of v + 1) (omega arith) s

  -- ---- all versions

  stale_listed : {n : ℕ} {v : Version} → Stale h n v → Contains (made_upto h (length h)) v
  stale_listed {n} {v} s = let m = stale_made h s in made_upto_made h (run_of v) (length h) v (made_within h (run_of v) v m) m

  pub exact_from_pass : (marks : BTreeSet (RunNo × ℕ)) → MarksExactly (made_upto h (length h)) (Stale h (length h)) marks → IsExact h marks
  exact_from_pass marks m v = same_tests (is_marked marks v) (is_stale h (length h) v)
      (λ t. true_is_stale ((m.only v t).1))
      (λ t. let s = is_stale_true (length h) v t in m.each v (stale_listed s) s)

-- ---- without the last run

abbrev made_of : ℕ → List Written → List Version
made_of n ws = map (λ w. version_at n w.place) ws

abbrev no_summary : Summary
no_summary = record { reads = []; writes = [] }

writes_of-take : (h : History) (k m : ℕ) → m ≤ k → writes_of (take k h) m ≡ writes_of h m
writes_of-take h k zero le = refl
writes_of-take h k (suc m) le = ap (λ (s : Summary). s.writes) (get_or-take k h m no_summary (omega arith))

past_take : (h : History) (k m : ℕ) → k < m → writes_of (take k h) m ≡ []
past_take h k zero lt = absurd (omega arith)
past_take h k (suc m) lt = ap (λ (s : Summary). s.writes) (get_or_past (take k h) m no_summary (omega (arith, length-take k h)))

ascending_take : (h : History) (k : ℕ) → IsAscending h → IsAscending (take k h)
ascending_take h k ascend m = ⊎_elim
    (λ (past : k < m). subst (λ (ws : List Written). IsAscendingFrom 0 ws) (sym (past_take h k m past)) tt)
    (λ (le : m ≤ k). subst (λ (ws : List Written). IsAscendingFrom 0 ws) (sym (writes_of-take h k m le)) (ascend m))
    (cases_lt k m)

-- marks that were exact before the last run
module _ (h : History) (ascend : IsAscending h) (k : ℕ) (le : k ≤ length h) where
  abbrev first : History
  first = take k h

  length_first : length first ≡ k
  length_first = omega (arith, length-take k h)

  same_first : SameUpto k first h
  same_first m lm = writes_of-take h k m lm

  first_stale : (v : Version) → Stale first (length first) v → Contains (made_upto h k) v × Stale h k v
  first_stale v s =
      let m = stale_made first s in
      let within : run_of v ≤ length first = made_within first (run_of v) v m in
      let low : run_of v ≤ k = omega (arith, length_first) in (
        made_upto_made h (run_of v) k v low (subst (λ (ws : List Written). Contains (made_of (run_of v) ws) v) (writes_of-take h k (run_of v) low) m),
        stale_to k first h same_first (ascending_take h k ascend) (omega arith) low (subst (λ (n : ℕ). Stale first n v) length_first s),
      )

  stale_first : (v : Version) → run_of v ≤ k → Stale h k v → Stale first (length first) v
  stale_first v low s = subst (λ (n : ℕ). Stale first n v) (sym length_first)
      (stale_to k h first (same_back k first h same_first) ascend (omega arith) low s)

  pub pass_from_exact : (marks : BTreeSet (RunNo × ℕ)) → IsExact first marks → MarksExactly (made_upto h k) (Stale h k) marks
  pass_from_exact marks exact = record {
    only = λ v t. first_stale v (is_stale_true first (ascending_take h k ascend) (length first) v (sym (exact v) ∙ t));
    each = λ v c s. exact v ∙ true_is_stale first (ascending_take h k ascend) (stale_first v (run_of-made_upto h k v c) s);
  }

-- what a pass that may want memory leaves
pub exact_after : (h : History) → IsAscending h → (n : ℕ) → n ≡ length h → (r : Result (Unit {0}) NoMemory) (marks : BTreeSet (RunNo × ℕ))
    → OnOk r (MarksExactly (made_upto h n) (Stale h n) marks) → OnOk r (IsExact h marks)
exact_after h ascend n e (Ok x) marks m = exact_from_pass h ascend marks (subst (λ (k : ℕ). MarksExactly (made_upto h k) (Stale h k) marks) e m)
exact_after h ascend n e (Err x) marks m = tt

-- what stood before one run more
pub without_last : (h : History) (s : Summary) → take (length (h ++ s ∷ []) - 1) (h ++ s ∷ []) ≡ h
without_last h s =
    let size : length (h ++ s ∷ []) - 1 ≡ length h = omega (arith, length-append h (s ∷ [])) in
    ap (λ (n : ℕ). take n (h ++ s ∷ [])) size ∙ take-append-le (length h) h (s ∷ []) (omega arith) ∙ take_all (length h) h (omega arith)
