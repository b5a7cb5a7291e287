-- Between two lines stands a token at least.
use Rattle.std.proofs.Common.{◌≡◌, ℕ, zero, suc, ◌+◌, ◌≤◌, List, [], ◌∷◌, length, drop, Bool, true, false, cond, not, refl, ap, sym, ◌∙◌, arith}
use Rattle.std.specs.List.{All}
use Rattle.std.proofs.lemmas.List.{drop-drop, length-drop}
use Rattle.std.proofs.lemmas.List.Sums.{prefix_len-le-length}
use Rattle.py_lexer.specs.declared.token.Token.{Token}
use Rattle.py_layout.specs.declared.line.LogicalLine.{LogicalLine}
use Rattle.py_layout.specs.Layout.{is_line_end, line_len, Spot, Lays, here, skip, laid, AreLines}
use Rattle.py_block.specs.Pass.{IsWithin}

-- lines among so many tokens, each at least one place behind the one before it, and the first behind a place
abbrev pub AreApart : ℕ → ℕ → List LogicalLine → Type 0
AreApart n from [] = from ≤ n + 1
AreApart n from (line ∷ lines) = (from ≤ line.first) × IsWithin n line × AreApart n (line.end + 1) lines

lower : (n a b : ℕ) (lines : List LogicalLine) → a ≤ b → AreApart n b lines → AreApart n a lines
lower n a b [] l s = omega arith
lower n a b (m ∷ lines) l s = (let k = s.0 in omega arith, s.1, s.2)

-- no token, or a line end first
abbrev EndsLine : List Token → Type 0
EndsLine [] = Unit {0}
EndsLine (t ∷ tokens) = is_line_end t.kind ≡ true

ends_case : (b : Bool) (t : Token) (tokens : List Token) (n : ℕ) → is_line_end t.kind ≡ b → EndsLine (drop n tokens) → EndsLine (drop (cond (not b) (1 + n) 0) (t ∷ tokens))
ends_case true t tokens n e h = e
ends_case false t tokens n e h = let long : 1 + n ≡ suc n = omega arith in rw long h

ends_line : (tokens : List Token) → EndsLine (drop (line_len tokens) tokens)
ends_line [] = tt
ends_line (t ∷ tokens) = ends_case (is_line_end t.kind) t tokens (line_len tokens) refl (ends_line tokens)

rest_is : (whole : List Token) (i : ℕ) (tokens : List Token) → tokens ≡ drop i whole → (n : ℕ) → drop n tokens ≡ drop (i + n) whole
rest_is whole i tokens e n = ap (drop n) e ∙ drop-drop n i whole

module _ (text : List ℕ) (whole : List Token) where
  mutual
    apart : {s e : Spot} {tokens rest : List Token} {lines : List LogicalLine} → Lays text s tokens lines e rest → tokens ≡ drop s.index whole
        → s.index ≤ length whole → AreApart (length whole) s.index lines
    apart here h k = omega arith
    apart (skip {s} {t} {tokens} {lines} e l) h k =
        let size = ap length h in
        let left = length-drop s.index whole in
        lower (length whole) s.index (s.index + 1) lines (omega arith) (apart l (rest_is whole s.index (t ∷ tokens) h 1) (omega arith))
    apart (laid {s} {t} {tokens} {stack} e w l) h k =
        let n = line_len (t ∷ tokens) in
        let fits = prefix_len-le-length (λ (u : Token). not (is_line_end u.kind)) (t ∷ tokens) in
        let size = ap length h in
        let left = length-drop s.index whole in (
          omega arith,
          (omega arith, omega arith),
          behind l (rest_is whole s.index (t ∷ tokens) h n) (omega arith) (ends_line (t ∷ tokens)),
        )

    behind : {s e : Spot} {tokens rest : List Token} {lines : List LogicalLine} → Lays text s tokens lines e rest → tokens ≡ drop s.index whole
        → s.index ≤ length whole → EndsLine tokens → AreApart (length whole) (s.index + 1) lines
    behind here h k b = omega arith
    behind (skip {s} {t} {tokens} {lines} e l) h k b =
        let size = ap length h in
        let left = length-drop s.index whole in
        apart l (rest_is whole s.index (t ∷ tokens) h 1) (omega arith)
    behind (laid {s} {t} {tokens} {stack} e w l) h k b = let f = sym e ∙ b in cc

  pub are_apart : (lines : List LogicalLine) → AreLines text whole lines → AreApart (length whole) 0 lines
  are_apart lines a = apart a.1 refl (omega arith)

pub are_within : (n from : ℕ) (lines : List LogicalLine) → AreApart n from lines → All (IsWithin n) lines
are_within n from [] a k d l = absurd (omega arith)
are_within n from (line ∷ lines) a zero d l = a.1
are_within n from (line ∷ lines) a (suc k) d l = are_within n (line.end + 1) lines a.2 k d (omega arith)
