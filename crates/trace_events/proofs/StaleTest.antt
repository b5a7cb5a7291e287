-- The test for stale versions.
use Rattle.std.proofs.Common.{◌≡◌, ℕ, zero, suc, ◌+◌, ◌-◌, ◌<◌, ◌≤◌, true, ⊎_elim, arith}
use Rattle.std.specs.Prelude.{IsTrue}
use Rattle.std.specs.List.{Contains, list_any, range_with_len}
use Rattle.std.proofs.Math.Nat.{eq-or-lt_of_le}
use Rattle.std.proofs.lemmas.Bool.{false≢true, or_cases, or_left, or_right}
use Rattle.trace_events.specs.declared.version.Version.{Version}
use Rattle.trace_events.specs.History.{History, run_of, wrote}
use Rattle.trace_events.specs.Staleness.{Ancestor, Stale, overwritten, carried}
use Rattle.trace_events.specs.Decided.{ancestors_of, count_of_writes, is_overwritten, is_stale_within, near_of, runs_after}
use Rattle.trace_events.proofs.Ancestors.{IsAscending, run_of-near}
use Rattle.trace_events.proofs.Lists.{no_member, Contains-cons, list_any-Contains, list_any_of}
use Rattle.trace_events.proofs.Reached.{ancestor_listed, near_listed, near_within_near, reached_ancestor}

-- ---- the runs after a run

-- the numbers of a range are within its bounds
range_bounds : (a n m : ℕ) → Contains (range_with_len a n) m → (a ≤ m) × (m < a + n)
range_bounds a zero m c = absurd (no_member m c)
range_bounds a (suc n) m (zero, lt, e) = (omega arith, omega arith)
range_bounds a (suc n) m (suc k, lt, e) = let rest = range_bounds (a + 1) n m (k, omega arith, e) in (omega arith, omega arith)

-- a range has all numbers within its bounds
range_has : (a n m : ℕ) → a ≤ m → m < a + n → Contains (range_with_len a n) m
range_has a zero m le lt = absurd (omega arith)
range_has a (suc n) m le lt = ⊎_elim
    (λ (same : a ≡ m). (0, omega arith, same))
    (λ (less : a < m). Contains-cons a m (range_with_len (a + 1) n) (range_has (a + 1) n m (omega arith) (omega arith)))
    (eq-or-lt_of_le le)

-- the runs after run r, up to run n
pub runs_after_bounds : (r n m : ℕ) → Contains (runs_after r n) m → (r < m) × (m ≤ n)
runs_after_bounds r n m c = let b = range_bounds (r + 1) (n - r) m c in
    let low : r + 1 ≤ m = b.0 in let high : m < r + 1 + (n - r) = b.1 in (omega arith, omega arith)

-- all of these runs are there
pub runs_after_has : (r n m : ℕ) → r < m → m ≤ n → Contains (runs_after r n) m
runs_after_has r n m lt le = range_has (r + 1) (n - r) m (omega arith) (omega arith)

-- ---- stale

module _ (now : History) (ascend : IsAscending now) where
  -- one of the runs after v's wrote the location of one of v's ancestors
  pub is_overwritten_true : (n : ℕ) (v : Version) → is_overwritten now n v ≡ true → Stale now n v
  is_overwritten_true n v t =
      let some = list_any-Contains (λ u. list_any (λ m. wrote now m u) (runs_after (run_of v) n)) (ancestors_of now v) t in
      let run = list_any-Contains (λ m. wrote now m some.0) (runs_after (run_of v) n) some.2 in
      let bounds = runs_after_bounds (run_of v) n run.0 run.1 in
      overwritten (reached_ancestor now (count_of_writes now) v some.0 some.1) run.2 bounds.0 bounds.1

  -- and the other way round
  pub true_is_overwritten : (n m : ℕ) (v u : Version) → Ancestor now v u → IsTrue (wrote now m u) → run_of v < m → m ≤ n → is_overwritten now n v ≡ true
  true_is_overwritten n m v u a w lt le =
      list_any_of (λ x. list_any (λ k. wrote now k x) (runs_after (run_of v) n)) (ancestors_of now v) u (ancestor_listed now ascend a)
      (list_any_of (λ k. wrote now k u) (runs_after (run_of v) n) m (runs_after_has (run_of v) n m lt le) w)

  -- what passes the test is stale
  pub stale_within_true : (runs n : ℕ) (v : Version) → is_stale_within runs now n v ≡ true → Stale now n v
  stale_within_true zero n v t = absurd (false≢true t)
  stale_within_true (suc runs) n v t = ⊎_elim
      (λ (x : is_overwritten now n v ≡ true). is_overwritten_true n v x)
      (λ (x : list_any (is_stale_within runs now (run_of v - 1)) (near_of now v) ≡ true).
      let some = list_any-Contains (is_stale_within runs now (run_of v - 1)) (near_of now v) x in
      carried (near_within_near now (count_of_writes now) v some.0 some.1) (stale_within_true runs (run_of v - 1) some.0 some.2))
      (or_cases (is_overwritten now n v) (list_any (is_stale_within runs now (run_of v - 1)) (near_of now v)) t)

  -- what is stale passes the test
  pub true_stale_within : (runs : ℕ) {n : ℕ} {v : Version} → run_of v < runs → Stale now n v → is_stale_within runs now n v ≡ true
  true_stale_within zero lt s = absurd (omega arith)
  true_stale_within (suc runs) lt (overwritten {n = n} {m = m} {v = v} {u = u} a w after upto) =
      or_left (is_overwritten now n v) (list_any (is_stale_within runs now (run_of v - 1)) (near_of now v)) (true_is_overwritten n m v u a w after upto)
  true_stale_within (suc runs) lt (carried {n = n} {v = v} {u = u} nr st) =
      let less : run_of u < run_of v = run_of-near now nr in
      or_right (is_overwritten now n v) (list_any (is_stale_within runs now (run_of v - 1)) (near_of now v))
      (list_any_of (is_stale_within runs now (run_of v - 1)) (near_of now v) u (near_listed now ascend nr) (true_stale_within runs (omega arith) st))
