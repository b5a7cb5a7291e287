-- Parts of a piece of bytes.
use Rattle.std.proofs.Common.{◌≡◌, ℕ, ◌+◌, ◌-◌, ◌≤◌, List, [], ◌∷◌, ◌++◌, suc, take, drop, Some, None, ap, sym, ◌∙◌, arith, inl, inr, add-one}
use Rattle.std.proofs.lemmas.Bool.Decides.{eqb_tells}
use Rattle.std.proofs.lemmas.List.{drop-drop, drop-take}
use Rattle.std.specs.List.{slice_range, position_from}
use Rattle.flow_base.specs.Lines.{HasNoEnd}
use Rattle.flow_io.specs.Gathered.{is_line_feed}

-- the part that is left after n of its bytes
pub slice_range-drop : (xs : List ℕ) (s e n : ℕ) → n ≤ e - s → slice_range xs (s + n) e ≡ drop n (slice_range xs s e)
slice_range-drop xs s e n h =
    let rest = e - (s + n) in
    let same : e - s ≡ n + rest = omega arith in
    ap (take rest) (sym (drop-drop n s xs))
    ∙ sym (drop-take n rest (drop s xs))
    ∙ ap (λ k. drop n (take k (drop s xs))) (sym same)

-- no line feed is there
pub line_feed-None : (bytes : List ℕ) (i : ℕ) → position_from is_line_feed i bytes ≡ None → HasNoEnd bytes
line_feed-None [] i none = tt
line_feed-None (b ∷ bytes) i none =
    elim (eqb_tells b 10) [
      | inl same ↦ let found = rw same.0 at none in cc
      | inr other ↦ (other.1, line_feed-None bytes (i + 1) (rw other.0 at none))
    ]

-- the line feed that is found is the first
first_line_feed : (bytes : List ℕ) (i n : ℕ) → position_from is_line_feed i bytes ≡ Some n
    → (k : ℕ) × (n ≡ i + k) × HasNoEnd (take k bytes) × (bytes ≡ take k bytes ++ 10 ∷ drop (suc k) bytes)
first_line_feed [] i n found = cc
first_line_feed (b ∷ bytes) i n found =
    elim (eqb_tells b 10) [
      | inl same ↦
          let here : Some i ≡ Some n = rw same.0 at found in
          let at : i ≡ n = cc in
          (0, omega (arith, at), tt, ap (λ x. x ∷ bytes) same.1)
      | inr other ↦
          let later = first_line_feed bytes (i + 1) n (rw other.0 at found) in
          (suc later.0, omega (arith, later.1), (other.1, later.2), ap (λ (xs : List ℕ). b ∷ xs) later.3)
    ]

pub line_feed-Some : (bytes : List ℕ) (n : ℕ) → position_from is_line_feed 0 bytes ≡ Some n → HasNoEnd (take n bytes) × (bytes ≡ take n bytes ++ 10 ∷ drop (n + 1) bytes)
line_feed-Some bytes n found =
    let first = first_line_feed bytes 0 n found in
    let at : n ≡ first.0 = omega (arith, first.1) in
    rw (add-one n, at) (first.2, first.3)
