-- The passes over a history: what they test, and what they mark.
use Rattle.std.proofs.Common.{◌≡◌, ℕ, suc, ◌+◌, ◌-◌, ◌<◌, ◌≤◌, Bool, true, false, ◌||◌, List, [], ◌∷◌, ◌++◌, length, take, get_or, refl, sym, ap, subst, ◌∙◌, ⊎_elim, arith}
use Rattle.std.specs.Prelude.{IsTrue}
use Rattle.std.specs.BTreeSet.{BTreeSet}
use Rattle.std.specs.List.{Contains}
use Rattle.std.proofs.lemmas.Bool.{true≢false, cases_Bool, or_cases, or_left, or_right}
use Rattle.std.proofs.lemmas.List.Elements.{Contains-append_left, Contains-append_right, Contains-append_cases}
use Rattle.flow_base.specs.declared.numbers.RunNo.{RunNo}
use Rattle.trace_events.specs.declared.version.Version.{Version}
use Rattle.trace_events.specs.declared.summary.Write.{Write as Written}
use Rattle.trace_events.specs.History.{History, deps, made, made_upto, run_of, version_at, writes_of}
use Rattle.trace_events.specs.Staleness.{Stale}
use Rattle.trace_events.proofs.Ancestors.{IsAscending}
use Rattle.trace_events.proofs.Lists.{list_any-Contains, list_any_of}
use Rattle.trace_events.proofs.Reached.{made_upto_made}
use Rattle.trace_events.proofs.StepLaw.{stale_kept}
use Rattle.dependence_graph.specs.Marks.{carries, is_marked, AddsListed, AddsMarks, MarksExactly, MarksIf}
use Rattle.version_store.specs.Dependents.{IsCarried, IsListed, IsTouched, Touches}
use Rattle.dependence_graph.proofs.SetLaws.{MarksExactly-yes, MarksExactly-no}
use Rattle.version_store.proofs.Creation.{deps_first, run_of-made, run_of-made_upto, take_made, Contains-take}
use Rattle.version_store.proofs.Recurrence.{ancestor_made, near_made, stale_made, stale_split, stale_touched, stale_last, stale_carried, carried_cases, carried_direct, carried_within}

abbrev Marks : Type 0
Marks = BTreeSet (RunNo × ℕ)

-- a pass goes on by one version
module _ (passed : List Version) (P : Version → Type 0) (v : Version) (test : Bool) (old new : Marks) where
  pub one_more : MarksExactly passed P old → (test ≡ true → P v) → (test ≡ false → P v → ⊥) → MarksIf test old new v → MarksExactly (passed ++ v ∷ []) P new
  one_more exact holds fails r = ⊎_elim
      (λ (t : test ≡ true). MarksExactly-yes passed P v old new exact (holds t) (r.marked t))
      (λ (f : test ≡ false). subst (λ (s : Marks). MarksExactly (passed ++ v ∷ []) P s) (sym (r.unchanged f)) (MarksExactly-no passed P v old exact (fails f)))
      (cases_Bool test)

module _ (h : History) (ascend : IsAscending h) (n k : ℕ) (w : Written) (lt : k < length (writes_of h n)) (is : w ≡ get_or (writes_of h n) k w) where
  abbrev at : Version
  at = version_at n w.place

  -- ---- the pass over the versions of the last run

  module _ (b : ℕ) (after : n ≡ suc b) (old fresh : Marks) (were : MarksExactly (made_upto h b) (Stale h b) old) (exact : MarksExactly (take k (made h n)) (IsCarried h b) fresh) where
    carries_true : carries h old fresh at ≡ true → IsCarried h b at
    carries_true t =
        let f = list_any-Contains (λ (u : Version). is_marked old u || is_marked fresh u) (deps h at) t in
        ⊎_elim
        (λ (o : is_marked old f.0 ≡ true).
        let q = were.only f.0 o in
        let low : run_of f.0 ≤ b = run_of-made_upto h b f.0 q.0 in
        let less : run_of f.0 < n = omega arith in
        carried_direct h b at f.0 f.1 less q.1)
        (λ (s : is_marked fresh f.0 ≡ true).
        let q = exact.only f.0 s in
        carried_within h b at f.0 f.1 (run_of-made h n f.0 (Contains-take (made h n) k f.0 q.0)) q.1)
        (or_cases (is_marked old f.0) (is_marked fresh f.0) f.2)

    carries_false : carries h old fresh at ≡ false → IsCarried h b at → ⊥
    carries_false t x =
        let f = carried_cases h b x.reached x.stale in
        let hit : (is_marked old f.0 || is_marked fresh f.0) ≡ true = ⊎_elim
        (λ (p : run_of f.0 < n × Stale h b f.0).
        or_left (is_marked old f.0) (is_marked fresh f.0)
        (were.each f.0 (made_upto_made h (run_of f.0) b f.0 (let less : run_of f.0 < n = p.0 in omega arith) (stale_made h p.1)) p.1))
        (λ (p : (run_of f.0 ≡ n) × IsCarried h b f.0).
        or_right (is_marked old f.0) (is_marked fresh f.0)
        (exact.each f.0 (deps_first h ascend n k w lt is f.0 f.1 p.0 (subst (λ (y : ℕ). Contains (made h y) f.0) p.0 (near_made h p.1.reached))) p.1))
        f.2 in
        true≢false (sym (list_any_of (λ (u : Version). is_marked old u || is_marked fresh u) (deps h at) f.0 f.1 hit) ∙ t)

    pub carried_next : (next : Marks) → MarksIf (carries h old fresh at) fresh next at → MarksExactly (take (k + 1) (made h n)) (IsCarried h b) next
    carried_next next r = subst (λ (l : List Version). MarksExactly l (IsCarried h b) next) (sym (take_made h ascend n k w lt is))
        (one_more (take k (made h n)) (IsCarried h b) at (carries h old fresh at) fresh next exact carries_true carries_false r)

-- ---- all marks after one more run

module _ (h : History) (b n : ℕ) (after : n ≡ suc b) (old fresh mid new : Marks) (touched : List (RunNo × ℕ)) (were : MarksExactly (made_upto h b) (Stale h b) old)
    (t : Touches h n touched) (f : MarksExactly (made h n) (IsCarried h b) fresh)
    (one : AddsListed old touched mid) (two : AddsMarks mid fresh new) where
  upto_split : made_upto h n ≡ made_upto h b ++ made h n
  upto_split = rw after refl

  touched_marked : (v : Version) → Contains (made_upto h b) v → IsTouched h n v → IsTrue (is_marked mid v)
  touched_marked v c now =
      let low : run_of v ≤ b = run_of-made_upto h b v c in
      let back : n - 1 ≡ b = omega arith in
      ⊎_elim
      (λ (was : Stale h (n - 1) v). one.kept v (were.each v c (subst (λ (m : ℕ). Stale h m v) back was)))
      (λ (l : IsListed touched v). one.added v l)
      (t.complete v (omega arith) now)

  earlier_stale : (v : Version) → Contains (made_upto h b) v → Stale h n v → IsTrue (is_marked new v)
  earlier_stale v c s = ⊎_elim
      (λ (was : Stale h b v). two.kept v (one.kept v (were.each v c was)))
      (λ (now : IsTouched h n v). two.kept v (touched_marked v c now))
      (stale_split h b n after s)

  marked_earlier : (v : Version) → Contains (made_upto h b) v × Stale h n v → Contains (made_upto h n) v × Stale h n v
  marked_earlier v p = (subst (λ (l : List Version). Contains l v) (sym upto_split) (Contains-append_left (made_upto h b) (made h n) v p.0), p.1)

  stale_marked : (v : Version) → IsTrue (is_marked new v) → Contains (made_upto h n) v × Stale h n v
  stale_marked v m = ⊎_elim
      (λ (x : IsTrue (is_marked mid v)). marked_earlier v (⊎_elim
      (λ (o : IsTrue (is_marked old v)). let q = were.only v o in (q.0, stale_kept h b n (omega arith) q.1))
      (λ (w : IsListed touched v). let q = t.sound v w in
      let less : run_of v < n = q.0 in
      (made_upto_made h (run_of v) b v (omega arith) (ancestor_made h q.1.reached), stale_touched h n v less q.1))
      (one.only v x)))
      (λ (x : IsTrue (is_marked fresh v)). let q = f.only v x in (
        subst (λ (l : List Version). Contains l v) (sym upto_split) (Contains-append_right (made_upto h b) (made h n) v q.0),
        stale_carried h b n n v after (run_of-made h n v q.0) q.1,
      ))
      (two.only v m)

  pub stale_step : MarksExactly (made_upto h n) (Stale h n) new
  stale_step = record {
    only = stale_marked;
    each = λ v c s. ⊎_elim
        (λ (x : Contains (made_upto h b) v). earlier_stale v x s)
        (λ (x : Contains (made h n) v). two.added v (f.each v x (stale_last h b n after (run_of-made h n v x) s)))
        (Contains-append_cases (made_upto h b) (made h n) v (subst (λ (l : List Version). Contains l v) upto_split c));
  }

-- ---- the same of the lists that the code goes over

module _ (h : History) (ascend : IsAscending h) (n k : ℕ) (xs : List Written) (same : xs ≡ writes_of h n) where
  module _ (w : Written) (lt : k < length xs) (is : w ≡ get_or xs k w) (place : ℕ) (there : place ≡ w.place) where
    below : k < length (writes_of h n)
    below = subst (λ (l : List Written). k < length l) same lt

    here : w ≡ get_or (writes_of h n) k w
    here = is ∙ ap (λ (l : List Written). get_or l k w) same

    pub carried_item : (old fresh next : Marks) → 0 < n → MarksIf (carries h old fresh (version_at n place)) fresh next (version_at n place)
        → MarksExactly (made_upto h (n - 1)) (Stale h (n - 1)) old
        → MarksExactly (take k (made h n)) (IsCarried h (n - 1)) fresh
        → MarksExactly (take (k + 1) (made h n)) (IsCarried h (n - 1)) next
    carried_item old fresh next pos r were exact =
        carried_next h ascend n k w below here (n - 1) (omega arith) old fresh were exact next
        (subst (λ (p : ℕ). MarksIf (carries h old fresh (version_at n p)) fresh next (version_at n p)) there r)
