-- How the stale versions change from one run to the next.
use Rattle.std.proofs.Common.{◌≡◌, ℕ, ◌+◌, ◌-◌, ◌<◌, ◌≤◌, ◌⊎◌, inl, inr, [], subst, ⊎_elim, arith}
use Rattle.std.specs.Prelude.{IsTrue}
use Rattle.std.proofs.lemmas.Bool.{cases_lt}
use Rattle.trace_events.specs.declared.version.Version.{Version}
use Rattle.trace_events.specs.History.{History, deps, run_of, wrote}
use Rattle.trace_events.specs.Staleness.{Ancestor, Near, Stale, overwritten, carried}
use Rattle.trace_events.proofs.Ancestors.{ancestor_none, near_none}

module _ (h : History) where
  -- a version without dependences
  pub stale_none : {n : ℕ} {v : Version} → deps h v ≡ [] → Stale h n v → ⊥
  stale_none e (overwritten a w lt le) = ancestor_none h e a
  stale_none e (carried nr st) = near_none h e nr

  -- a stale version stays stale
  pub stale_kept : (k n : ℕ) {v : Version} → k ≤ n → Stale h k v → Stale h n v
  stale_kept k n e (overwritten {m = m} a w lt le) = let upto : m ≤ n = omega arith in overwritten a w lt upto
  stale_kept k n e (carried nr st) = carried nr st

  -- ---- a version of the last run

  -- it is stale because of a near version that was stale
  pub stale_own : (n : ℕ) {v : Version} → run_of v ≡ n → Stale h n v → (u : Version) × Near h v u × Stale h (n - 1) u
  stale_own n r (overwritten {m = m} a w lt le) = absurd (omega arith)
  stale_own n {v} r (carried {u = u} nr st) =
      let before : run_of v - 1 ≡ n - 1 = omega arith in
      (u, nr, subst (λ (x : ℕ). Stale h x u) before st)

  -- and a near version that was stale makes it stale
  pub own_stale : (n : ℕ) (v : Version) → run_of v ≡ n → (u : Version) × Near h v u × Stale h (n - 1) u → Stale h n v
  own_stale n v r c =
      let before : n - 1 ≡ run_of v - 1 = omega arith in
      carried c.1 (subst (λ (x : ℕ). Stale h x c.0) before c.2)

  -- ---- a version of an earlier run

  -- it was stale, or the next run wrote the location of an ancestor
  pub stale_next : (n k : ℕ) {v : Version} → k ≡ n + 1 → Stale h k v → Stale h n v ⊎ ((u : Version) × Ancestor h v u × IsTrue (wrote h k u))
  stale_next n k e (overwritten {m = m} {u = u} a w lt le) = ⊎_elim
      (λ (past : n < m). let same : m ≡ k = omega arith in inr (u, a, subst (λ (x : ℕ). IsTrue (wrote h x u)) same w))
      (λ (upto : m ≤ n). inl (overwritten a w lt upto))
      (cases_lt n m)
  stale_next n k e (carried nr st) = inl (carried nr st)

  -- and each of the two makes it stale
  pub next_stale : (n : ℕ) (v : Version) → run_of v ≤ n → Stale h n v ⊎ ((u : Version) × Ancestor h v u × IsTrue (wrote h (n + 1) u)) → Stale h (n + 1) v
  next_stale n v le s = ⊎_elim
      (λ (x : Stale h n v). stale_kept n (n + 1) (omega arith) x)
      (λ (x : (u : Version) × Ancestor h v u × IsTrue (wrote h (n + 1) u)).
      let after : run_of v < n + 1 = omega arith in let upto : n + 1 ≤ n + 1 = omega arith in overwritten x.1 x.2 after upto)
      s
