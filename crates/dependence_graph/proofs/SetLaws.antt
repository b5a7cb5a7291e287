-- How marks change.
use Rattle.std.proofs.Common.{◌≡◌, ℕ, ◌⊎◌, inl, inr, Bool, true, false, cond, List, [], ◌∷◌, ◌++◌, refl, sym, ap, subst, ◌∙◌, ⊎_elim}
use Rattle.std.specs.Prelude.{IsTrue}
use Rattle.std.specs.BTreeSet as set
use Rattle.std.specs.BTreeSet.{BTreeSet}
use Rattle.std.specs.BTreeMap.{is_at}
use Rattle.std.specs.Cmp.{Equal-is}
use Rattle.std.specs.List.{Contains, list_any}
use Rattle.std.proofs.lemmas.Bool.{or_cases, or_left, or_right}
use Rattle.std.proofs.lemmas.List.Elements.{Contains-append_left, Contains-push, Contains-push_cases}
use Rattle.flow_base.specs.declared.numbers.RunNo.{RunNo}
use Rattle.trace_events.proofs.Lists.{no_member}
use Rattle.trace_events.specs.declared.version.Version.{Version}
use Rattle.trace_events.specs.declared.version.Version.TheVariants.{Empty, Written}
use Rattle.version_store.specs.Dependents.{place_cmp, IsListed}
use Rattle.version_store.proofs.PlaceSets.{exact_places, Contains-one, IsListed-cases, IsListed-left}
use Rattle.dependence_graph.specs.Marks.{is_marked, AddsListed, AddsMark, AddsMarks, MarksExactly}

-- ---- one version more

module _ (old new : BTreeSet (RunNo × ℕ)) (run : RunNo) (i : ℕ) (h : set.Updates place_cmp old new (run, i) true) where
  cond-kept : (b c : Bool) → c ≡ true → cond b true c ≡ true
  cond-kept true c e = refl
  cond-kept false c e = e

  insert_kept : (u : Version) → IsTrue (is_marked old u) → IsTrue (is_marked new u)
  insert_kept (Empty l) t = t
  insert_kept (Written m j) t = h.0 (m, j) ∙ cond-kept (is_at (place_cmp (run, i)) (m, j)) (set.contains place_cmp old (m, j)) t

  insert_cases : (m : RunNo) (j : ℕ) (b c : Bool) → is_at (place_cmp (run, i)) (m, j) ≡ b → cond b true c ≡ true → (Written m j ≡ Written run i) ⊎ (c ≡ true)
  insert_cases m j true c e t =
      let same : (run, i) ≡ (m, j) = exact_places (run, i) (m, j) ((Equal-is (place_cmp (run, i) (m, j))).0 e) in
      inl (ap (λ (p : RunNo × ℕ). Written p.0 p.1) (sym same))
  insert_cases m j false c e t = inr t

  insert_only : (u : Version) → IsTrue (is_marked new u) → (u ≡ Written run i) ⊎ IsTrue (is_marked old u)
  insert_only (Empty l) t = inr t
  insert_only (Written m j) t = insert_cases m j (is_at (place_cmp (run, i)) (m, j)) (set.contains place_cmp old (m, j)) refl (sym (h.0 (m, j)) ∙ t)

pub AddsMark-insert : (old new : BTreeSet (RunNo × ℕ)) (run : RunNo) (i : ℕ) → set.Updates place_cmp old new (run, i) true → AddsMark old new (Written run i)
AddsMark-insert old new run i h = record { here = h.1; kept = insert_kept old new run i h; only = insert_only old new run i h }

-- ---- all of another set

module _ (old more new : BTreeSet (RunNo × ℕ)) (h : set.InsertsAll place_cmp old more.keys new) where
  append_kept : (u : Version) → IsTrue (is_marked old u) → IsTrue (is_marked new u)
  append_kept (Empty l) t = t
  append_kept (Written m j) t = h.0 (m, j) ∙ or_left (set.contains place_cmp old (m, j)) (set.contains place_cmp more (m, j)) t

  append_added : (u : Version) → IsTrue (is_marked more u) → IsTrue (is_marked new u)
  append_added (Empty l) t = t
  append_added (Written m j) t = h.0 (m, j) ∙ or_right (set.contains place_cmp old (m, j)) (set.contains place_cmp more (m, j)) t

  append_only : (u : Version) → IsTrue (is_marked new u) → IsTrue (is_marked old u) ⊎ IsTrue (is_marked more u)
  append_only (Empty l) t = inl t
  append_only (Written m j) t = or_cases (set.contains place_cmp old (m, j)) (set.contains place_cmp more (m, j)) (sym (h.0 (m, j)) ∙ t)

pub AddsMarks-append : (old more new : BTreeSet (RunNo × ℕ)) → set.InsertsAll place_cmp old more.keys new → AddsMarks old more new
AddsMarks-append old more new h =
    record { kept = append_kept old more new h; added = append_added old more new h; only = append_only old more new h }

-- nothing is in an empty set
pub none_marked : (marks : BTreeSet (RunNo × ℕ)) → marks.keys ≡ [] → (u : Version) → is_marked marks u ≡ false
none_marked marks e (Empty l) = refl
none_marked marks e (Written run i) = ap (λ (ks : List (RunNo × ℕ)). list_any (is_at (place_cmp (run, i))) ks) e

-- ---- one step of a pass

module _ (passed : List Version) (P : Version → Type 0) (v : Version) where
  pub MarksExactly-yes : (old new : BTreeSet (RunNo × ℕ)) → MarksExactly passed P old → P v → AddsMark old new v → MarksExactly (passed ++ v ∷ []) P new
  MarksExactly-yes old new m p a = record {
    only = λ u t. ⊎_elim
        (λ (e : u ≡ v). (subst (λ (x : Version). Contains (passed ++ v ∷ []) x) (sym e) (Contains-push passed v), subst P (sym e) p))
        (λ (o : IsTrue (is_marked old u)). let q = m.only u o in (Contains-append_left passed (v ∷ []) u q.0, q.1))
        (a.only u t);
    each = λ u c q. ⊎_elim
        (λ (earlier : Contains passed u). a.kept u (m.each u earlier q))
        (λ (e : v ≡ u). subst (λ (x : Version). IsTrue (is_marked new x)) e a.here)
        (Contains-push_cases passed v u c);
  }

  pub MarksExactly-no : (old : BTreeSet (RunNo × ℕ)) → MarksExactly passed P old → (P v → ⊥) → MarksExactly (passed ++ v ∷ []) P old
  MarksExactly-no old m p = record {
    only = λ u t. let q = m.only u t in (Contains-append_left passed (v ∷ []) u q.0, q.1);
    each = λ u c q. ⊎_elim
        (λ (earlier : Contains passed u). m.each u earlier q)
        (λ (e : v ≡ u). absurd (p (subst P (sym e) q)))
        (Contains-push_cases passed v u c);
  }

-- ---- the versions of a list

pub AddsListed-none : (old : BTreeSet (RunNo × ℕ)) → AddsListed old [] old
AddsListed-none old = record { kept = λ u t. t; added = none; only = λ u t. inl t }
  where
    none : (u : Version) → IsListed [] u → IsTrue (is_marked old u)
    none (Empty l) c = elim c [ ]
    none (Written run place) c = absurd (no_member (run, place) c)

pub AddsListed-more : (old mid new : BTreeSet (RunNo × ℕ)) (places : List (RunNo × ℕ)) (run : RunNo) (place : ℕ) → AddsListed old places mid
    → AddsMark mid new (Written run place) → AddsListed old (places ++ (run, place) ∷ []) new
AddsListed-more old mid new places run place a m = record {
  kept = λ u t. m.kept u (a.kept u t);
  added = λ u c. ⊎_elim
      (λ (x : IsListed places u). m.kept u (a.added u x))
      (λ (x : IsListed ((run, place) ∷ []) u). subst (λ (w : Version). IsTrue (is_marked new w)) (one u x) m.here)
      (IsListed-cases places ((run, place) ∷ []) u c);
  only = λ u t. ⊎_elim
      (λ (e : u ≡ Written run place). inr (subst (λ (w : Version). IsListed (places ++ (run, place) ∷ []) w) (sym e) (Contains-push places (run, place))))
      (λ (x : IsTrue (is_marked mid u)). ⊎_elim
      (λ (y : IsTrue (is_marked old u)). inl y)
      (λ (y : IsListed places u). inr (IsListed-left places ((run, place) ∷ []) u y))
      (a.only u x))
      (m.only u t);
}
  where
    one : (u : Version) → IsListed ((run, place) ∷ []) u → Written run place ≡ u
    one (Empty l) c = elim c [ ]
    one (Written r i) c = ap (λ (p : RunNo × ℕ). Written p.0 p.1) (Contains-one (run, place) (r, i) c)
