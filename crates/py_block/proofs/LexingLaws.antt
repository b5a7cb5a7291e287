-- The functions that take tokens and lines one after another are what texts are cut into and tokens are put into.
use Rattle.std.proofs.Common.{◌≡◌, ◌≢◌, ℕ, zero, suc, ◌+◌, ◌-◌, ◌≤◌, ◌<◌, ◌==◌, Bool, true, false, not, nat_lt, cond, if◌then◌else◌, List, [], ◌∷◌, ◌++◌, length, take, drop, Option, Some, None, Result, Ok, Err, refl, ap, ◌∙◌, arith, length-drop}
use Rattle.std.proofs.lemmas.Bool.{ltb-true, ltb-false, cond-true}
use Rattle.py_scalars.specs.NumberForm.{is_digit}
use Rattle.py_lexer.specs.declared.token.TokenKind.{TokenKind}
use Rattle.py_lexer.specs.declared.token.Token.{Token}
use Rattle.py_lexer.specs.Form.{is_name_start, is_quote}
use Rattle.py_lexer.specs.Scan.{word_front, number_front, literal_front, other_front}
use Rattle.py_lexer.specs.Cut.{Place, Cuts, IsFront, IsToken, IsStuck, AreTokens, blank_len, behind, behind_token, token_at}
use Rattle.py_lexer.specs.Cut as lexer
use Rattle.py_lexer.proofs.Cutting as cutting
use Rattle.py_lexer.proofs.Fronts.{word_is_front, number_is_front, literal_is_front, other_is_front}
use Rattle.py_layout.specs.declared.line.LogicalLine.{LogicalLine}
use Rattle.py_layout.specs.Layout.{Spot, Lays, AreLines, is_line_end, entered, line_len, behind_end, behind_line, line_at}
use Rattle.py_layout.specs.Layout as layout
use Rattle.py_block.specs.Lexing.{front_of, before, tokens_by, token_and, lexed, lines_by, line_and, laid}

-- ---- the front of a text

front_case : (nested c : ℕ) (text : List ℕ) (a b d : Bool) → is_name_start c ≡ a → is_digit 10 c ≡ b → is_quote c ≡ d
    → IsFront nested (c ∷ text)
    (if a then Some (word_front (c ∷ text)) else (if b then number_front (c ∷ text) else (if d then literal_front (c ∷ text) else other_front nested (c ∷ text))))
front_case nested c text true b d e f g = word_is_front nested (c ∷ text) c (omega arith) refl e
front_case nested c text false true d e f g = number_is_front nested (c ∷ text) c (omega arith) refl e f
front_case nested c text false false true e f g = literal_is_front nested (c ∷ text) c (omega arith) refl e f g
front_case nested c text false false false e f g = other_is_front nested (c ∷ text) c (omega arith) refl e f g

pub is_front : (nested : ℕ) (text : List ℕ) → 0 < length text → IsFront nested text (front_of nested text)
is_front nested [] l = absurd (omega arith)
is_front nested (c ∷ text) l = front_case nested c text (is_name_start c) (is_digit 10 c) (is_quote c) refl refl refl

-- ---- tokens

-- the first place from one on at which nothing fits
record StopsAt (p : Place) (text : List ℕ) (line : ℕ) : Type 0 where
  tokens : List Token
  place : Place
  rest : List ℕ
  cuts : Cuts p text tokens place rest
  stuck : IsStuck place.nested rest
  there : place.line ≡ line

abbrev AreFrom : Place → List ℕ → Result (List Token) ℕ → Type 0
AreFrom p text (Ok tokens) = (q : Place) × Cuts p text tokens q []
AreFrom p text (Err line) = StopsAt p text line

with_blank : (p : Place) (text : List ℕ) → 0 < blank_len p.nested text → (r : Result (List Token) ℕ)
    → AreFrom (behind p (take (blank_len p.nested text) text)) (drop (blank_len p.nested text) text) r → AreFrom p text r
with_blank p text l (Ok tokens) h = (h.0, lexer.blank l h.1)
with_blank p text l (Err line) h = record { tokens = h.tokens; place = h.place; rest = h.rest; cuts = lexer.blank l h.cuts; stuck = h.stuck; there = h.there }

with_token : (p : Place) (text : List ℕ) (k : TokenKind) (n : ℕ) → IsToken p.nested text k n → (r : Result (List Token) ℕ)
    → AreFrom (behind_token p k (take n text)) (drop n text) r → AreFrom p text (before (token_at p k n) r)
with_token p text k n t (Ok tokens) h = (h.0, lexer.token t h.1)
with_token p text k n t (Err line) h =
    record { tokens = token_at p k n ∷ h.tokens; place = h.place; rest = h.rest; cuts = lexer.token t h.cuts; stuck = h.stuck; there = h.there }

no_blank : (n : ℕ) → nat_lt 0 n ≡ false → n ≡ 0
no_blank n e = let l = ltb-false 0 n e in omega arith

some_length : (text : List ℕ) → (text ≢ []) → 0 < length text
some_length [] h = absurd (h refl)
some_length (c ∷ text) h = omega arith

module _ (n : ℕ) (rest : Place → List ℕ → Result (List Token) ℕ) (ih : (p : Place) (text : List ℕ) → length text ≤ n → AreFrom p text (rest p text)) where
  token_is : (p : Place) (text : List ℕ) → length text ≤ suc n → (text ≢ []) → blank_len p.nested text ≡ 0 → (o : Option (TokenKind × ℕ))
      → IsFront p.nested text o → AreFrom p text (token_and rest p text o)
  token_is p text l filled e None h =
      record { tokens = []; place = p; rest = text; cuts = lexer.here; stuck = record { before_end = filled; no_blank = e; no_token = h }; there = refl }
  token_is p text l filled e (Some t) h =
      let some = cutting.filled p.nested text t.0 t.1 h in
      let less = length-drop t.1 text in
      with_token p text t.0 t.1 h (rest (behind_token p t.0 (take t.1 text)) (drop t.1 text))
      (ih (behind_token p t.0 (take t.1 text)) (drop t.1 text) (omega arith))

  tokens_case : (p : Place) (text : List ℕ) → length text ≤ suc n → (text ≢ []) → (b : Bool) → nat_lt 0 (blank_len p.nested text) ≡ b
      → AreFrom p text
      (if b then rest (behind p (take (blank_len p.nested text) text)) (drop (blank_len p.nested text) text) else token_and rest p text (front_of p.nested text))
  tokens_case p text l filled true e =
      let some = ltb-true 0 (blank_len p.nested text) e in
      let less = length-drop (blank_len p.nested text) text in
      with_blank p text some (rest (behind p (take (blank_len p.nested text) text)) (drop (blank_len p.nested text) text))
      (ih (behind p (take (blank_len p.nested text) text)) (drop (blank_len p.nested text) text) (omega arith))
  tokens_case p text l filled false e =
      token_is p text l filled (no_blank (blank_len p.nested text) e) (front_of p.nested text) (is_front p.nested text (some_length text filled))

tokens_are : (n : ℕ) (p : Place) (text : List ℕ) → length text ≤ n → AreFrom p text (tokens_by n p text)
tokens_are zero p [] l = (p, lexer.here)
tokens_are zero p (c ∷ text) l = absurd (omega arith)
tokens_are (suc n) p [] l = (p, lexer.here)
tokens_are (suc n) p (c ∷ text) l =
    tokens_case n (tokens_by n) (tokens_are n) p (c ∷ text) l (λ e. let f = ap length e in omega arith) (nat_lt 0 (blank_len p.nested (c ∷ text))) refl

abbrev pub IsLexed : List ℕ → Result (List Token) ℕ → Type 0
IsLexed text (Ok tokens) = AreTokens text tokens
IsLexed text (Err line) = lexer.Stops text line

from_start : (text : List ℕ) (r : Result (List Token) ℕ) → AreFrom lexer.start text r → IsLexed text r
from_start text (Ok tokens) h = h
from_start text (Err line) h = record { tokens = h.tokens; place = h.place; rest = h.rest; cuts = h.cuts; stuck = h.stuck; there = h.there }

pub lexed_is : (text : List ℕ) → IsLexed text (lexed text)
unfolding lexed
lexed_is text = from_start text (tokens_by (length text) lexer.start text) (tokens_are (length text) lexer.start text (omega arith))

-- ---- logical lines

record RefusedAt (text : List ℕ) (s : Spot) (tokens : List Token) (line : ℕ) : Type 0 where
  lines : List LogicalLine
  spot : Spot
  first : Token
  rest : List Token
  lays : Lays text s tokens lines spot (first ∷ rest)
  begins : is_line_end first.kind ≡ false
  refused : entered text spot ≡ None
  there : first.line ≡ line

abbrev AreLaid : List ℕ → Spot → List Token → Result (List LogicalLine) ℕ → Type 0
AreLaid text s tokens (Ok lines) = (e : Spot) × Lays text s tokens lines e []
AreLaid text s tokens (Err line) = RefusedAt text s tokens line

with_end : (text : List ℕ) (s : Spot) (t : Token) (tokens : List Token) → is_line_end t.kind ≡ true → (r : Result (List LogicalLine) ℕ)
    → AreLaid text (behind_end s t) tokens r → AreLaid text s (t ∷ tokens) r
with_end text s t tokens e (Ok lines) h = (h.0, layout.skip e h.1)
with_end text s t tokens e (Err line) h =
    record { lines = h.lines; spot = h.spot; first = h.first; rest = h.rest; lays = layout.skip e h.lays; begins = h.begins; refused = h.refused; there = h.there }

with_line : (text : List ℕ) (s : Spot) (t : Token) (tokens : List Token) (stack : List ℕ) → is_line_end t.kind ≡ false → entered text s ≡ Some stack
    → (r : Result (List LogicalLine) ℕ) → AreLaid text (behind_line s stack (line_len (t ∷ tokens))) (drop (line_len (t ∷ tokens)) (t ∷ tokens)) r
    → AreLaid text s (t ∷ tokens) (before (line_at s t stack (line_len (t ∷ tokens))) r)
with_line text s t tokens stack e f (Ok lines) h = (h.0, layout.laid e f h.1)
with_line text s t tokens stack e f (Err line) h =
    record { lines = line_at s t stack (line_len (t ∷ tokens)) ∷ h.lines; spot = h.spot; first = h.first; rest = h.rest; lays = layout.laid e f h.lays; begins = h.begins; refused = h.refused; there = h.there }

line_filled : (t : Token) (tokens : List Token) → is_line_end t.kind ≡ false → 0 < line_len (t ∷ tokens)
line_filled t tokens e =
    let long : line_len (t ∷ tokens) ≡ 1 + line_len tokens = cond-true (not (is_line_end t.kind)) (1 + line_len tokens) 0 (ap not e) in
    omega arith

module _ (n : ℕ) (text : List ℕ) (rest : Spot → List Token → Result (List LogicalLine) ℕ)
    (ih : (s : Spot) (tokens : List Token) → length tokens ≤ n → AreLaid text s tokens (rest s tokens)) where
  line_is : (s : Spot) (t : Token) (tokens : List Token) → length tokens ≤ n → is_line_end t.kind ≡ false → (o : Option (List ℕ))
      → entered text s ≡ o → AreLaid text s (t ∷ tokens) (line_and rest s t tokens o)
  line_is s t tokens l e None f =
      record { lines = []; spot = s; first = t; rest = tokens; lays = layout.here; begins = e; refused = f; there = refl }
  line_is s t tokens l e (Some stack) f =
      let some = line_filled t tokens e in
      let less = length-drop (line_len (t ∷ tokens)) (t ∷ tokens) in
      with_line text s t tokens stack e f (rest (behind_line s stack (line_len (t ∷ tokens))) (drop (line_len (t ∷ tokens)) (t ∷ tokens)))
      (ih (behind_line s stack (line_len (t ∷ tokens))) (drop (line_len (t ∷ tokens)) (t ∷ tokens)) (omega arith))

  lines_case : (s : Spot) (t : Token) (tokens : List Token) → length tokens ≤ n → (b : Bool) → is_line_end t.kind ≡ b
      → AreLaid text s (t ∷ tokens) (if b then rest (behind_end s t) tokens else line_and rest s t tokens (entered text s))
  lines_case s t tokens l true e = with_end text s t tokens e (rest (behind_end s t) tokens) (ih (behind_end s t) tokens l)
  lines_case s t tokens l false e = line_is s t tokens l e (entered text s) refl

lines_are : (n : ℕ) (text : List ℕ) (s : Spot) (tokens : List Token) → length tokens ≤ n → AreLaid text s tokens (lines_by n text s tokens)
lines_are zero text s [] l = (s, layout.here)
lines_are zero text s (t ∷ tokens) l = absurd (omega arith)
lines_are (suc n) text s [] l = (s, layout.here)
lines_are (suc n) text s (t ∷ tokens) l = lines_case n text (lines_by n text) (lines_are n text) s t tokens (omega arith) (is_line_end t.kind) refl

abbrev pub IsLaid : List ℕ → List Token → Result (List LogicalLine) ℕ → Type 0
IsLaid text tokens (Ok lines) = AreLines text tokens lines
IsLaid text tokens (Err line) = layout.Stops text tokens line

laid_from_start : (text : List ℕ) (tokens : List Token) (r : Result (List LogicalLine) ℕ) → AreLaid text layout.start tokens r → IsLaid text tokens r
laid_from_start text tokens (Ok lines) h = h
laid_from_start text tokens (Err line) h =
    record { lines = h.lines; spot = h.spot; first = h.first; rest = h.rest; lays = h.lays; begins = h.begins; refused = h.refused; there = h.there }

pub laid_is : (text : List ℕ) (tokens : List Token) → IsLaid text tokens (laid text tokens)
unfolding laid
laid_is text tokens =
    laid_from_start text tokens (lines_by (length tokens) text layout.start tokens) (lines_are (length tokens) text layout.start tokens (omega arith))
