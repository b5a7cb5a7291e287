-- How deep tuples and methods stand in one another: what a tuple has beside its parts, and what it is.
use Rattle.std.specs.Prelude.{◌≡◌, ℕ, ◌+◌, ◌<◌, max, List, [], ◌∷◌, map}
use Rattle.heap_objects.specs.declared.value.Value.{Value, fold-Value, roll-Value}
use Rattle.heap_objects.specs.declared.value.Value.TheFolds.{every-Value}
use Rattle.heap_objects.specs.declared.value.Value.TheOpen.{Value-F, Tuple, Bound, Method}

abbrev pub ValueList : Type 0
ValueList = List Value

-- the largest, or 0
abbrev pub largest : List ℕ → ℕ
largest [] = 0
largest (n ∷ ns) = max n (largest ns)

abbrev pub kept_step : Value-F ℕ → ℕ
kept_step (Tuple parts kept) = kept
kept_step (Bound f o) = 1
kept_step (Method name receiver) = receiver + 1
kept_step _ = 0

-- the nesting, as tuples have it beside their parts
abbrev pub kept_nesting : Value → ℕ
kept_nesting = fold-Value ℕ kept_step

-- the tuple of these parts
abbrev pub tuple_of : List Value → Value
tuple_of parts = roll-Value (Tuple parts (largest (map kept_nesting parts) + 1))

-- the tuple of these parts would nest deeper than this
abbrev pub NestsOver : ℕ → List Value → Type 0
NestsOver limit parts = limit < largest (map kept_nesting parts) + 1

abbrev pub nesting_step : Value-F ℕ → ℕ
nesting_step (Tuple parts kept) = largest parts + 1
nesting_step (Bound f o) = 1
nesting_step (Method name receiver) = receiver + 1
nesting_step _ = 0

-- one more than the greatest nesting of the parts of a tuple or a method, and otherwise 0
abbrev pub nesting : Value → ℕ
nesting = fold-Value ℕ nesting_step

abbrev pub IsNested_at : Value-F Value → Type 0
IsNested_at (Tuple parts kept) = kept ≡ largest (map nesting parts) + 1
IsNested_at _ = Unit {0}

-- each tuple in the value has its true nesting beside its parts
abbrev pub IsNested : Value → Type 0
IsNested = every-Value IsNested_at
