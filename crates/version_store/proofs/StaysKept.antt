-- What is kept of a history stays right where only more is kept.
use Rattle.std.proofs.Common.{◌≡◌, ℕ, zero, suc, ◌+◌, ◌-◌, ◌<◌, ◌≤◌, inl, inr, List, [], ◌∷◌, ◌++◌, length, take, get_or, refl, sym, ap, subst, ◌∙◌, ⊎_elim, arith}
use Rattle.std.specs.BTreeMap.{BTreeMap}
use Rattle.std.specs.List.{Contains}
use Rattle.std.proofs.lemmas.List.{get_or-take, get_or_push, length-append, length-take, take_all, take-append-le}
use Rattle.flow_base.specs.declared.numbers.RunNo.{RunNo}
use Rattle.trace_events.specs.declared.version.Version.{Version}
use Rattle.trace_events.specs.declared.version.Version.TheVariants.{Empty, Written as at_write}
use Rattle.trace_events.specs.declared.summary.Write.{Write as Written}
use Rattle.trace_events.specs.Trace.{Summary}
use Rattle.trace_events.specs.History.{History, current, run_of, writes_of}
use Rattle.trace_events.specs.Staleness.{Stale}
use Rattle.trace_events.proofs.Ancestors.{run_of-current}
use Rattle.version_store.specs.Dependents.{direct, further, held_among, held_at, held_of, kept, listed_at, Grows, IsFollowed, IsListed, IsTouched, KeepsFirst, Reaches, Touches}
use Rattle.version_store.specs.Hash.{hash_version}
use Rattle.version_store.proofs.Extension.{writes_of_past}
use Rattle.version_store.proofs.Located.{wrote_true}
use Rattle.trace_events.proofs.Lists.{no_member}

-- the first items of a list that keeps them
pub first_same : {X : Type 0} (n k : ℕ) (old new : List X) (d : X) → KeepsFirst n old new → n ≤ length old → k < n → get_or new k d ≡ get_or old k d
first_same n k old new d f le lt = sym (get_or-take n new k d lt) ∙ ap (λ xs. get_or xs k d) (f.same le) ∙ get_or-take n old k d lt

pub keeps_itself : {X : Type 0} (n : ℕ) (old : List X) → KeepsFirst n old old
keeps_itself n old = record { same = λ le. refl; enough = λ le. le }

-- the first items alone
pub keeps_front : {X : Type 0} (n : ℕ) (old new : List X) → new ≡ take n old → KeepsFirst n old new
keeps_front n old new e = record {
  same = λ le. ap (take n) e ∙ take_all n (take n old) (omega (arith, length-take n old));
  enough = λ le. omega (arith, ap length e, length-take n old);
}

-- one item behind the first ones
pub keeps_push : {X : Type 0} (n : ℕ) (old new : List X) (x : X) → new ≡ take n old ++ x ∷ [] → KeepsFirst n old new
keeps_push n old new x e = record {
  same = λ le. ap (take n) e ∙ take-append-le n (take n old) (x ∷ []) (omega (arith, length-take n old)) ∙ take_all n (take n old) (omega (arith, length-take n old));
  enough = λ le. omega (arith, ap length e, length-take n old, length-append (take n old) (x ∷ []));
}

module _ (h : History) (index new_index : BTreeMap ℕ (List (RunNo × ℕ))) (held new_held : List (List (ℕ × ℕ))) (touched new_touched : List (List (RunNo × ℕ)))
    (were : IsFollowed h index held touched) (grows : Grows index new_index) (n : ℕ) (count : n ≡ length h)
    (helds : KeepsFirst n held new_held) (toucheds : KeepsFirst n touched new_touched) where
  held_same : (k : ℕ) → k ≤ length h → held_of new_held k ≡ held_of held k
  held_same zero le = refl
  held_same (suc k) le = first_same n k held new_held [] helds (let e : length h ≤ length held = were.enough_held in omega arith) (omega arith)

  held_at_same : (c : Version) → run_of c ≤ length h → held_at new_held c ≡ held_at held c
  held_at_same (Empty l) le = refl
  held_at_same (at_write run place) le = ap (held_among run place) (held_same run.0 le)

  reaches_same : {c v : Version} → run_of c ≤ length h → Reaches h held c v → Reaches h new_held c v
  reaches_same {c} le (direct {v = v} d) = direct d
  reaches_same {c} le (kept {v = v} d) = kept (subst (λ (vs : List Version). Contains vs v) (sym (held_at_same c le)) d)
  reaches_same {c} le (further {v = v} {w = w} d r) = further d (reaches_same le r)

  listed_same : (number : ℕ) (v : Version) → IsListed (listed_at index number) v → IsListed (listed_at new_index number) v
  listed_same number (Empty l) c = elim c [ ]
  listed_same number (at_write run place) c = grows number (run, place) c

  pub followed_same : IsFollowed h new_index new_held new_touched
  followed_same = record {
    indexed = λ v u c. listed_same (hash_version u) v (were.indexed v u c);
    enough_held = let enough : n ≤ length new_held = helds.enough (let e : length h ≤ length held = were.enough_held in omega arith) in omega arith;
    enough_touched = let enough : n ≤ length new_touched = toucheds.enough (let e : length h ≤ length touched = were.enough_touched in omega arith) in omega arith;
    sound = λ c v l le e d. were.sound c v l le e (subst (λ (vs : List Version). Contains vs v) (held_at_same c le) d);
    complete = λ l v r. ⊎_elim
        (λ (st : Stale h (length h) v). inl st)
        (λ (re : Reaches h held (current h (length h) l) v). inr (reaches_same (run_of-current h (length h) l) re))
        (were.complete l v r);
    touches = λ m pos le. subst (λ (ps : List (RunNo × ℕ)). Touches h m ps) (sym (first_same n (m - 1) touched new_touched [] toucheds (let e : length h ≤ length touched = were.enough_touched in omega arith) (omega arith))) (were.touches m pos le);
  }

-- what the last run wrote
pub last_writes_of : (h : History) (s : Summary) (n : ℕ) → n ≡ length h + 1 → writes_of (h ++ s ∷ []) n ≡ s.writes
last_writes_of h s n e =
    let same : n ≡ suc (length h) = omega arith in
    ap (writes_of (h ++ s ∷ [])) same ∙ ap (λ (x : Summary). x.writes) (get_or_push h s (record { reads = []; writes = [] }) (length h) refl)

-- ---- runs that touch nothing

pub touches_zero : (h : History) (m : ℕ) → m ≡ 0 → Touches h m []
touches_zero h m e = record { sound = none; complete = λ v lt t. absurd (omega arith) }
  where
    none : (v : Version) → IsListed [] v → (run_of v < m) × IsTouched h m v
    none (Empty l) c = elim c [ ]
    none (at_write run place) c = absurd (no_member (run, place) c)

pub touches_past : (h : History) (m : ℕ) → length h < m → Touches h m []
touches_past h m lt = record { sound = none; complete = λ v below t. absurd (no_write t) }
  where
    none : (v : Version) → IsListed [] v → (run_of v < m) × IsTouched h m v
    none (Empty l) c = elim c [ ]
    none (at_write run place) c = absurd (no_member (run, place) c)

    no_write : {v : Version} → IsTouched h m v → ⊥
    no_write t =
        let w = wrote_true h m t.ancestor t.written in
        no_member w.1 (subst (λ (ws : List Written). Contains ws w.1) (writes_of_past h m lt) w.3)
