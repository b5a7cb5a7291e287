-- What a source and a sink in memory are seen as, and what each call of them answers and leaves.
use Rattle.std.specs.Prelude.{◌≡◌, ◌⊎◌, ℕ, ◌-◌, ◌<◌, ◌≤◌, min, List, [], ◌++◌, length, take, drop, Contains, Result, Ok, Err}
use Rattle.flow_io.specs.Causes.{next_number}
use Rattle.flow_io.specs.declared.source.Failed.{Failed}

-- the bytes still to come, the numbers of the calls that fail, how many calls came, and how many of them failed
pub record Input : Type 0 where
  pub left : List ℕ
  pub fail : List ℕ
  pub calls : ℕ
  pub faults : ℕ

-- the same of a sink, with the bytes that it took and how many it can take at all
pub record Output : Type 0 where
  pub written : List ℕ
  pub room : ℕ
  pub fail : List ℕ
  pub calls : ℕ
  pub faults : ℕ

-- the next call is one of those that fail, by its number from 1; it stops at the last value of a u64
abbrev pub IsToFail : List ℕ → ℕ → Type 0
IsToFail fail calls = Contains fail (next_number calls)

-- the next n bytes move into the front of the buffer, as many as are left and have room; its rest stays
pub record Moves (n : ℕ) (left buffer rest filled : List ℕ) : Type 0 where
  pub count : n ≡ min (length buffer) (length left)
  pub taken : rest ≡ drop n left
  pub given : filled ≡ take n left ++ drop n buffer

-- A call of `read`: it fails exactly where its number says so, and then nothing moves.
abbrev pub IsRead : Result ℕ Failed → Input → List ℕ → Input → List ℕ → Type 0
IsRead (Ok n) old buffer new filled =
    ¬ IsToFail old.fail old.calls
    × Moves n old.left buffer new.left filled
    × (new ≡ record old { left = new.left; calls = next_number old.calls })
IsRead (Err _) old buffer new filled =
    IsToFail old.fail old.calls
    × (filled ≡ buffer)
    × (new ≡ record old { calls = next_number old.calls; faults = next_number old.faults })

-- no byte more has room
abbrev pub IsFull : Output → Type 0
IsFull sink = sink.room ≤ length sink.written

-- A call of `write`: it fails exactly where its number says so, or a piece that is not empty comes to a full room.
-- Otherwise it takes what has room from the front of the piece.
abbrev pub IsWritten : Result ℕ Failed → Output → List ℕ → Output → Type 0
IsWritten (Ok n) old piece new =
    ¬ IsToFail old.fail old.calls
    × ((piece ≡ []) ⊎ (length old.written < old.room))
    × (n ≡ min (length piece) (old.room - length old.written))
    × (new ≡ record old { written = old.written ++ take n piece; calls = next_number old.calls })
IsWritten (Err _) old piece new =
    (IsToFail old.fail old.calls ⊎ ((0 < length piece) × IsFull old))
    × (new ≡ record old { calls = next_number old.calls; faults = next_number old.faults })
