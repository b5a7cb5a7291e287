-- The lines of bytes, or of a text, that begin with a line.
use Rattle.std.proofs.Common.{◌≡◌, ◌≢◌, ℕ, List, [], ◌∷◌, ◌++◌, ◌==◌, false, ap, refl, inl, inr}
use Rattle.std.proofs.lemmas.Bool.Decides.{eqb_tells}
use Rattle.flow_base.specs.Lines.{lines_of, whole_lines_of, HasNoEnd, onto, onto_whole}

eqb_false : (a b : ℕ) → a ≢ b → (a == b) ≡ false
eqb_false a b differ = elim (eqb_tells a b) [ inl same ↦ absurd (differ same.1) | inr told ↦ told.0 ]

-- a line with its line feed comes first
pub lines_of-line : (line rest : List ℕ) → HasNoEnd line → lines_of (line ++ 10 ∷ rest) ≡ line ∷ lines_of rest
lines_of-line [] rest h = refl
lines_of-line (b ∷ line) rest h = rw (eqb_false b 10 h.0) (ap (onto b) (lines_of-line line rest h.1))

pub whole_lines_of-line : (line rest : List ℕ) → HasNoEnd line → whole_lines_of (line ++ 10 ∷ rest) ≡ line ∷ whole_lines_of rest
whole_lines_of-line [] rest h = refl
whole_lines_of-line (b ∷ line) rest h = rw (eqb_false b 10 h.0) (ap (onto_whole b) (whole_lines_of-line line rest h.1))

-- a last line without one is the only one
pub lines_of_last : (line : List ℕ) → HasNoEnd line → line ≢ [] → lines_of line ≡ line ∷ []
lines_of_last [] h some = absurd (some refl)
lines_of_last (b ∷ []) h some = rw (eqb_false b 10 h.0) refl
lines_of_last (b ∷ c ∷ line) h some = rw (eqb_false b 10 h.0) (ap (onto b) (lines_of_last (c ∷ line) h.1 (λ e. cc)))

-- and is no whole line
pub whole_lines_of_none : (rest : List ℕ) → HasNoEnd rest → whole_lines_of rest ≡ []
whole_lines_of_none [] h = refl
whole_lines_of_none (b ∷ rest) h = rw (eqb_false b 10 h.0) (ap (onto_whole b) (whole_lines_of_none rest h.1))
