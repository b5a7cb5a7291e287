-- The stamps that are listed under the number of a key.
use Rattle.std.specs.Prelude.{ℕ, ◌==◌, Bool, true, false, List, [], ◌∷◌, nat_eq, unwrap_or, if◌then◌else◌}
use Rattle.std.specs.HashMap.{HashMap, get}

abbrev pub has_stamp : List ℕ → ℕ → Bool
has_stamp [] s = false
has_stamp (t ∷ ts) s = if t == s then true else has_stamp ts s

-- the list without the first of this stamp
abbrev pub without_first : List ℕ → ℕ → List ℕ
without_first [] s = []
without_first (t ∷ ts) s = if t == s then ts else t ∷ without_first ts s

abbrev pub stamps_at : {S : Type 0} → HashMap ℕ (List ℕ) S → ℕ → List ℕ
stamps_at m number = unwrap_or (get nat_eq m number) []
