-- Touched and carried versions, by what a version directly rests on; and how stale versions come of them.
use Rattle.std.proofs.Common.{◌≡◌, ℕ, suc, ◌-◌, ◌<◌, ◌≤◌, ◌⊎◌, inl, inr, subst, ⊎_elim, arith}
use Rattle.std.specs.Prelude.{IsTrue}
use Rattle.std.specs.List.{Contains}
use Rattle.std.proofs.lemmas.Bool.{cases_lt}
use Rattle.trace_events.specs.declared.version.Version.{Version}
use Rattle.trace_events.specs.History.{History, deps, made, run_of, wrote}
use Rattle.trace_events.specs.Staleness.{Ancestor, direct, further, Near, earlier, within, Stale, overwritten, carried}
use Rattle.trace_events.proofs.Reached.{made_deps}
use Rattle.version_store.specs.Dependents.{IsTouched, IsCarried}

module _ (h : History) where
  -- ---- what has ancestors was made

  pub ancestor_made : {v u : Version} → Ancestor h v u → Contains (made h (run_of v)) v
  ancestor_made (direct {v = v} {u = u} c) = made_deps h v u c
  ancestor_made (further {v = v} {w = w} c a) = made_deps h v w c

  pub near_made : {v u : Version} → Near h v u → Contains (made h (run_of v)) v
  near_made (earlier {v = v} {u = u} c lt) = made_deps h v u c
  near_made (within {v = v} {w = w} c e n) = made_deps h v w c

  pub stale_made : {n : ℕ} {v : Version} → Stale h n v → Contains (made h (run_of v)) v
  stale_made (overwritten a w lt le) = ancestor_made a
  stale_made (carried nr st) = near_made nr

  -- ---- touched

  pub touched_cases : (m : ℕ) {v u : Version} → Ancestor h v u → IsTrue (wrote h m u)
      → (w : Version) × Contains (deps h v) w × (IsTrue (wrote h m w) ⊎ IsTouched h m w)
  touched_cases m (direct {u = u} c) t = (u, c, inl t)
  touched_cases m (further {w = w} {u = u} c a) t = (w, c, inr (record { ancestor = u; reached = a; written = t }))

  pub touched_direct : (m : ℕ) (v w : Version) → Contains (deps h v) w → IsTrue (wrote h m w) → IsTouched h m v
  touched_direct m v w c t = record { ancestor = w; reached = direct c; written = t }

  pub touched_further : (m : ℕ) (v w : Version) → Contains (deps h v) w → IsTouched h m w → IsTouched h m v
  touched_further m v w c t = record { ancestor = t.ancestor; reached = further c t.reached; written = t.written }

  -- ---- carried

  pub carried_cases : (k : ℕ) {v u : Version} → Near h v u → Stale h k u
      → (w : Version) × Contains (deps h v) w × ((run_of w < run_of v × Stale h k w) ⊎ ((run_of w ≡ run_of v) × IsCarried h k w))
  carried_cases k (earlier {u = u} c lt) s = (u, c, inl (lt, s))
  carried_cases k (within {w = w} {u = u} c e n) s = (w, c, inr (e, record { near = u; reached = n; stale = s }))

  pub carried_direct : (k : ℕ) (v w : Version) → Contains (deps h v) w → run_of w < run_of v → Stale h k w → IsCarried h k v
  carried_direct k v w c lt s = record { near = w; reached = earlier c lt; stale = s }

  pub carried_within : (k : ℕ) (v w : Version) → Contains (deps h v) w → run_of w ≡ run_of v → IsCarried h k w → IsCarried h k v
  carried_within k v w c e t = record { near = t.near; reached = within c e t.reached; stale = t.stale }

  -- ---- stale after run k + 1

  pub stale_split : (k n : ℕ) {v : Version} → n ≡ suc k → Stale h n v → Stale h k v ⊎ IsTouched h n v
  stale_split k n e (overwritten {m = m} {u = u} a w lt le) = ⊎_elim
      (λ (past : k < m). let same : m ≡ n = omega arith in inr (record { ancestor = u; reached = a; written = subst (λ (x : ℕ). IsTrue (wrote h x u)) same w }))
      (λ (upto : m ≤ k). inl (overwritten a w lt upto))
      (cases_lt k m)
  stale_split k n e (carried nr st) = inl (carried nr st)

  pub stale_touched : (m : ℕ) (v : Version) → run_of v < m → IsTouched h m v → Stale h m v
  stale_touched m v lt t = let same : m ≤ m = omega arith in overwritten t.reached t.written lt same

  pub stale_last : (k n : ℕ) {v : Version} → n ≡ suc k → run_of v ≡ n → Stale h n v → IsCarried h k v
  stale_last k n e r (overwritten {m = m} a w lt le) = absurd (omega arith)
  stale_last k n {v} e r (carried {u = u} nr st) =
      let before : run_of v - 1 ≡ k = omega arith in
      record { near = u; reached = nr; stale = subst (λ (x : ℕ). Stale h x u) before st }

  pub stale_carried : (k n m : ℕ) (v : Version) → n ≡ suc k → run_of v ≡ n → IsCarried h k v → Stale h m v
  stale_carried k n m v e r c =
      let before : k ≡ run_of v - 1 = omega arith in
      carried c.reached (subst (λ (x : ℕ). Stale h x c.near) before c.stale)
