-- What is reached from a version, found one after another.
use Rattle.std.proofs.Common.{◌≡◌, ℕ, ◌+◌, ◌<◌, ◌≤◌, inl, inr, List, [], length, get_or, sym, ap, subst, ◌∙◌, ⊎_elim, arith}
use Rattle.std.specs.Prelude.{◌↔◌}
use Rattle.std.specs.List.{Contains}
use Rattle.std.proofs.lemmas.List.{get_or_append_left, get_or_default, length-append}
use Rattle.std.proofs.Math.Nat.{eq-or-lt_of_le}
use Rattle.flow_base.specs.declared.numbers.RunNo.{RunNo}
use Rattle.trace_events.specs.declared.version.Version.{Version}
use Rattle.trace_events.specs.declared.version.Version.TheVariants.{Empty, Written as at_write}
use Rattle.trace_events.specs.History.{History, deps}
use Rattle.trace_events.proofs.Lists.{no_member}
use Rattle.version_store.specs.Dependents.{direct, further, held_at, kept, AddsAll, IsListed, IsReached, Reaches, nth}
use Rattle.version_store.proofs.PlaceSets.{IsListed-cases, IsListed-left}

module _ (h : History) (held : List (List (ℕ × ℕ))) (c : Version) where
  no_listed : (v : Version) → IsListed [] v → ⊥
  no_listed (Empty l) d = elim d [ ]
  no_listed (at_write run place) d = no_member (run, place) d

  pub reached_begun : (first second : List (RunNo × ℕ)) → AddsAll [] first (λ v. Contains (held_at held c) v) → AddsAll first second (λ v. Contains (deps h v) c) → IsReached h held c 0 second
  reached_begun first second a b = record {
    within = omega arith;
    sound = λ v d. ⊎_elim
        (λ (x : IsListed first v). ⊎_elim
        (λ (y : IsListed [] v). absurd (no_listed v y))
        (λ (y : IsListed a.more v). kept (a.only v y))
        (IsListed-cases [] a.more v (subst (λ (ps : List (RunNo × ℕ)). IsListed ps v) a.is x)))
        (λ (x : IsListed b.more v). direct (b.only v x))
        (IsListed-cases first b.more v (subst (λ (ps : List (RunNo × ℕ)). IsListed ps v) b.is d));
    begun = λ v d. ⊎_elim
        (λ (x : Contains (held_at held c) v). subst (λ (ps : List (RunNo × ℕ)). IsListed ps v) (sym b.is) (IsListed-left first b.more v (a.added v x)))
        (λ (x : Contains (deps h v) c). b.added v x)
        d;
    closed = λ k v lt e. absurd (omega arith);
  }

  abbrev zero_place : RunNo × ℕ
  zero_place = (record { 0 = 0 }, 0)

  nth_listed : (reached : List (RunNo × ℕ)) (k : ℕ) → k < length reached → IsListed reached (nth reached k)
  nth_listed reached k lt = (k, lt, get_or_default reached k (get_or reached k zero_place) zero_place lt)

  pub reached_more : (reached new : List (RunNo × ℕ)) (next : ℕ) → IsReached h held c next reached → next < length reached
      → AddsAll reached new (λ v. Contains (deps h v) (nth reached next)) → IsReached h held c (next + 1) new
  reached_more reached new next r lt a = record {
    within = omega (arith, ap length a.is, length-append reached a.more);
    sound = λ v x. ⊎_elim
        (λ (y : IsListed reached v). r.sound v y)
        (λ (y : IsListed a.more v). further (a.only v y) (r.sound (nth reached next) (nth_listed reached next lt)))
        (IsListed-cases reached a.more v (subst (λ (ps : List (RunNo × ℕ)). IsListed ps v) a.is x));
    begun = λ v x. grown v (r.begun v x);
    closed = λ k v below x. ⊎_elim
        (λ (same : k ≡ next). a.added v (subst (λ (i : ℕ). Contains (deps h v) (nth reached i)) same (before k v (omega arith) x)))
        (λ (less : k < next). grown v (r.closed k v less (before k v (omega arith) x)))
        (eq-or-lt_of_le (let le : k ≤ next = omega arith in le));
  }
    where
      grown : (v : Version) → IsListed reached v → IsListed new v
      grown v y = subst (λ (ps : List (RunNo × ℕ)). IsListed ps v) (sym a.is) (IsListed-left reached a.more v y)

      before : (k : ℕ) (v : Version) → k < length reached → Contains (deps h v) (nth new k) → Contains (deps h v) (nth reached k)
      before k v l x =
          subst (λ (p : RunNo × ℕ). Contains (deps h v) (at_write p.0 p.1))
          (ap (λ (ps : List (RunNo × ℕ)). get_or ps k zero_place) a.is ∙ get_or_append_left reached a.more zero_place k l) x

  module _ (reached : List (RunNo × ℕ)) (done : ℕ) (r : IsReached h held c done reached) (all : length reached ≤ done) where
    next_listed : (v w : Version) → Contains (deps h v) w → IsListed reached w → IsListed reached v
    next_listed v (Empty l) c x = elim x [ ]
    next_listed v (at_write run place) c x =
        let at : ℕ = x.0 in
        let lt : at < length reached = x.1 in
        r.closed at v (omega arith) (subst (λ (p : RunNo × ℕ). Contains (deps h v) (at_write p.0 p.1)) (sym x.2 ∙ get_or_default reached at (run, place) zero_place lt) c)

    reaches_listed : {v : Version} → Reaches h held c v → IsListed reached v
    reaches_listed (direct {v = v} d) = r.begun v (inr d)
    reaches_listed (kept {v = v} d) = r.begun v (inl d)
    reaches_listed (further {v = v} {w = w} d x) = next_listed v w d (reaches_listed x)

    pub reached_all : (v : Version) → IsListed reached v ↔ Reaches h held c v
    reached_all v = (r.sound v, λ x. reaches_listed x)
