-- What the passes over the names in statements come to.
use Rattle.std.specs.Prelude.{ℕ, List, [], ◌∷◌, Bool, false, Option, Some, None}
use Rattle.std.specs.Str.{bytes_eq}

-- the name, where there is one
abbrev pub one_name : Option (List ℕ) → List (List ℕ)
one_name None = []
one_name (Some name) = name ∷ []

-- whether it is this name
abbrev pub binds : Option (List ℕ) → List ℕ → Bool
binds None other = false
binds (Some name) other = bytes_eq name other
