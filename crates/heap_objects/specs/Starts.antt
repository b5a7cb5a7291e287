-- How the starts of runs are kept: in ascending order of their objects.
use Rattle.std.specs.Prelude.{ℕ, ◌<◌, ◌≤◌, List, length, slice_index_or}
use Rattle.flow_base.specs.declared.numbers.RunNo.{RunNo}

abbrev pub AreAscending : List (RunNo × ℕ) → Type 0
AreAscending starts = (i j : ℕ) (d : RunNo × ℕ) → i < j → j < length starts → (slice_index_or starts i d).1 < (slice_index_or starts j d).1

-- so many starts are at or before the object
pub record IsBefore (starts : List (RunNo × ℕ)) (o count : ℕ) : Type 0 where
  pub within : count ≤ length starts
  pub below : (i : ℕ) (d : RunNo × ℕ) → i < count → (slice_index_or starts i d).1 ≤ o
  pub above : (i : ℕ) (d : RunNo × ℕ) → count ≤ i → i < length starts → o < (slice_index_or starts i d).1
