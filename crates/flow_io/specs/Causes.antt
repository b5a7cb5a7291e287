-- When a source or a sink may answer that it failed.
use Rattle.std.specs.Prelude.{ℕ, ◌+◌, ◌-◌, ◌^◌, ◌≤◌, min, Result, OnErr}

-- the next number; a u64 counter stops at its last value
abbrev pub next_number : ℕ → ℕ
next_number n = min (n + 1) (2 ^ 64 - 1)

-- a count of faults rose, or stood at the last value of a u64 counter already
abbrev pub Rose : ℕ → ℕ → Type 0
Rose before now = next_number before ≤ now

-- the count of faults does not fall, and a failure comes only where it rose
pub record HasCause {T E : Type 0} (before now : ℕ) (result : Result T E) : Type 0 where
  pub later : before ≤ now
  pub failed : OnErr result (Rose before now)
