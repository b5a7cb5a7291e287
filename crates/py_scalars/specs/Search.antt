-- Where a part stands in a text, and what is between: on lists of code points.
use Rattle.std.specs.Prelude.{ℕ, zero, suc, ◌-◌, List, [], ◌∷◌, ◌++◌, length, Bool, true, false, ◌==◌, ◌&&◌, Option, Some, None, if◌then◌else◌, option_map, take, drop, filter}
use Rattle.std.specs.List.{slice_split, onto_first, flat_map, prefix_len, suffix_len}
use Rattle.std.specs.Char.{is_whitespace}

-- whether a text begins with a part
abbrev pub begins_with : List ℕ → List ℕ → Bool
begins_with [] text = true
begins_with (p ∷ part) [] = false
begins_with (p ∷ part) (c ∷ text) = (p == c) && begins_with part text

-- the first place, from 0, at which a part stands
abbrev pub first_place : List ℕ → List ℕ → Option ℕ
first_place part [] = if begins_with part [] then Some 0 else None
first_place part (c ∷ text) = if begins_with part (c ∷ text) then Some 0 else option_map suc (first_place part text)

-- what stands between the separators; each separator is the first that begins behind the one before it. Of the text's
-- first code points, as many as the number says belong to a separator
abbrev pub pieces_after : List ℕ → ℕ → List ℕ → List (List ℕ)
pieces_after part n [] = [] ∷ []
pieces_after part zero (c ∷ text) =
    if begins_with part (c ∷ text) then [] ∷ pieces_after part (length part - 1) text else onto_first c (pieces_after part 0 text)
pieces_after part (suc n) (c ∷ text) = pieces_after part n text

abbrev pub pieces : List ℕ → List ℕ → List (List ℕ)
pieces part text = pieces_after part 0 text

-- the parts with b between them
abbrev pub joined : List ℕ → List (List ℕ) → List ℕ
joined b [] = []
joined b (part ∷ parts) = part ++ flat_map (λ next. b ++ next) parts

-- b in place of each a; for an empty a, b before each code point and at the end
abbrev pub replaced : List ℕ → List ℕ → List ℕ → List ℕ
replaced [] b text = flat_map (λ c. b ++ c ∷ []) text ++ b
replaced (a ∷ part) b text = joined b (pieces (a ∷ part) text)

-- whether a list has an element
abbrev pub is_filled : List ℕ → Bool
is_filled [] = false
is_filled (c ∷ text) = true

-- the words between white space
abbrev pub words : List ℕ → List (List ℕ)
words text = filter is_filled (slice_split is_whitespace text)

-- without white space at the end
abbrev pub end_stripped : List ℕ → List ℕ
end_stripped text = take (length text - suffix_len is_whitespace text) text

-- without white space at both ends
abbrev pub stripped : List ℕ → List ℕ
stripped text = end_stripped (drop (prefix_len is_whitespace text) text)
