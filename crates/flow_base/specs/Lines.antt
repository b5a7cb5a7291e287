-- How bytes, or the code points of a text, are cut into lines: at each line feed. A last line without one counts if it is
-- not empty.
use Rattle.std.specs.Prelude.{◌≢◌, ℕ, List, [], ◌∷◌, ◌==◌, if◌then◌else◌}

-- the character before the first line
abbrev pub onto : ℕ → List (List ℕ) → List (List ℕ)
onto b [] = (b ∷ []) ∷ []
onto b (line ∷ lines) = (b ∷ line) ∷ lines

abbrev pub lines_of : List ℕ → List (List ℕ)
lines_of [] = []
lines_of (b ∷ bytes) = if b == 10 then [] ∷ lines_of bytes else onto b (lines_of bytes)

-- the character before the first line, if there is one
abbrev pub onto_whole : ℕ → List (List ℕ) → List (List ℕ)
onto_whole b [] = []
onto_whole b (line ∷ lines) = (b ∷ line) ∷ lines

-- the lines that have their line feed
abbrev pub whole_lines_of : List ℕ → List (List ℕ)
whole_lines_of [] = []
whole_lines_of (b ∷ bytes) = if b == 10 then [] ∷ whole_lines_of bytes else onto_whole b (whole_lines_of bytes)

-- no character is a line feed
abbrev pub HasNoEnd : List ℕ → Type 0
HasNoEnd [] = Unit {0}
HasNoEnd (b ∷ bytes) = (b ≢ 10) × HasNoEnd bytes
