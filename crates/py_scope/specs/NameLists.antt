-- Lists of names in which a name has a place.
use Rattle.std.specs.Prelude.{ℕ, Bool, List, [], ◌∷◌, Option, option_map, is_some}
use Rattle.flow_base.specs.Names.{symbol_of, with_name}
use Rattle.flow_base.specs.declared.numbers.Sym.{Sym}

abbrev pub has : List (List ℕ) → List ℕ → Bool
has names x = is_some (symbol_of names x)

-- the first place, from 0, at which the name stands
abbrev pub place_in_list : List (List ℕ) → List ℕ → Option ℕ
place_in_list names x = option_map (λ (s : Sym). s.0) (symbol_of names x)

-- a list with more names, each of which comes last if it is new
abbrev pub with_names : List (List ℕ) → List (List ℕ) → List (List ℕ)
with_names names [] = names
with_names names (x ∷ xs) = with_names (with_name names x) xs

-- each name once, where it stands first
abbrev pub once : List (List ℕ) → List (List ℕ)
once xs = with_names [] xs
