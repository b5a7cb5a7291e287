-- What an adapter of a reader or a writer of std is seen as.
use Rattle.std.specs.Prelude.{ℕ, List, Option}

-- what std knows of the bytes inside, to come or written, and how many calls failed
pub record Adapter : Type 0 where
  pub inner : Option (List ℕ)
  pub faults : ℕ
