-- Where the tokens of a text stand.
use Rattle.std.proofs.Common.{◌≡◌, ℕ, ◌+◌, ◌-◌, ◌≤◌, List, [], ◌∷◌, ◌++◌, length, take, drop, Bool, true, false, cond, ◌==◌, ◌&&◌, ◌||◌, nat_lt, ap, sym, ◌∙◌, refl, subst, arith}
use Rattle.std.specs.List.{prefix_len}
use Rattle.std.proofs.lemmas.Bool.{and_right}
use Rattle.std.proofs.lemmas.List.Sums.{prefix_len-le-length, sum_by-append}
use Rattle.std.proofs.lemmas.List.{drop-drop, length-take-le, length-drop}
use Rattle.py_lexer.specs.declared.token.TokenKind.{TokenKind}
use Rattle.py_lexer.specs.declared.token.Token.{Token}
use Rattle.py_lexer.specs.Form.{kind_of}
use Rattle.py_lexer.specs.Cut.{IsToken, blank_len, is_inside_line, begins_with_end, Place, ends_in, behind_token, token_at, Cuts, here, blank, token, AreTokens}
use Rattle.py_lexer.specs.Span.{IsSpan, AreSpans}
use Rattle.py_lexer.proofs.Lists.{take_add}
use Rattle.py_lexer.proofs.Fronts.{allowed_some}
use Rattle.py_lexer.proofs.Cutting.{filled}

ends_append : (a b : List ℕ) → ends_in (a ++ b) ≡ ends_in a + ends_in b
ends_append a b = sum_by-append (λ c. cond (c == 10) 1 0) a b

weaken : (text : List ℕ) (a b : ℕ) (tokens : List Token) → a ≤ b → AreSpans text b tokens → AreSpans text a tokens
weaken text a b [] l s = tt
weaken text a b (t ∷ tokens) l s = (let k = s.0 in omega arith, s.1, s.2)

-- a place in a whole text, and what follows there
pub record IsPlace (whole : List ℕ) (p : Place) (text : List ℕ) : Type 0 where
  within : p.at ≤ length whole
  rest : text ≡ drop p.at whole
  line : p.line ≡ 1 + ends_in (take p.at whole)

moved : (whole : List ℕ) (p : Place) (text : List ℕ) (nested n : ℕ) → n ≤ length text → IsPlace whole p text
    → IsPlace whole (record { at = p.at + length (take n text); line = p.line + ends_in (take n text); nested = nested }) (drop n text)
moved whole p text nested n l h =
    let long = length-take-le n text l in
    let left = length-drop p.at whole in
    let size = ap length h.rest in
    let line = h.line in
    let more : ends_in (take (p.at + n) whole) ≡ ends_in (take p.at whole) + ends_in (take n (drop p.at whole)) = ap ends_in (take_add p.at n whole) ∙ ends_append (take p.at whole) (take n (drop p.at whole)) in
    let same : ends_in (take n text) ≡ ends_in (take n (drop p.at whole)) = ap (λ z. ends_in (take n z)) h.rest in
    let far : ends_in (take (p.at + length (take n text)) whole) ≡ ends_in (take (p.at + n) whole) = ap (λ k. ends_in (take (p.at + k) whole)) long in
    record {
      within = let w = h.within in omega arith;
      rest = ap (drop n) h.rest ∙ drop-drop n p.at whole ∙ ap (λ k. drop (p.at + k) whole) (sym long);
      line = omega arith;
    }

cond_within : (b : Bool) (x y n : ℕ) → x ≤ n → y ≤ n → cond b x y ≤ n
cond_within true x y n h k = h
cond_within false x y n h k = k

two_within : (c y : ℕ) (text : List ℕ) → y ≤ length (c ∷ text) → cond ((c == 92) && begins_with_end text) 2 y ≤ length (c ∷ text)
two_within c y [] l = subst (λ b. cond b 2 y ≤ 1) (sym (and_right (c == 92) false refl)) l
two_within c y (d ∷ text) l = cond_within ((c == 92) && (d == 10)) 2 y (length (c ∷ d ∷ text)) (omega arith) l

blank_within : (nested : ℕ) (text : List ℕ) → blank_len nested text ≤ length text
blank_within nested [] = omega arith
blank_within nested (c ∷ text) =
    let few = prefix_len-le-length is_inside_line text in
    let n : ℕ = length (c ∷ text) in
    let last : cond ((c == 10) && nat_lt 0 nested) 1 0 ≤ length (c ∷ text) = cond_within ((c == 10) && nat_lt 0 nested) 1 0 n (omega arith) (omega arith) in
    let two : cond ((c == 92) && begins_with_end text) 2 (cond ((c == 10) && nat_lt 0 nested) 1 0) ≤ length (c ∷ text) = two_within c (cond ((c == 10) && nat_lt 0 nested) 1 0) text last in
    cond_within ((c == 32) || (c == 9)) 1 (cond (c == 35) (1 + prefix_len is_inside_line text) (cond ((c == 92) && begins_with_end text) 2 (cond ((c == 10) && nat_lt 0 nested) 1 0))) n (omega arith)
    (cond_within (c == 35) (1 + prefix_len is_inside_line text) (cond ((c == 92) && begins_with_end text) 2 (cond ((c == 10) && nat_lt 0 nested) 1 0)) n (omega arith) two)

span : (whole : List ℕ) (p : Place) (text : List ℕ) (k : TokenKind) (n : ℕ) → IsPlace whole p text → IsToken p.nested text k n → IsSpan whole (token_at p k n)
span whole p text k n h t =
    let left = length-drop p.at whole in
    let size = ap length h.rest in
    let w = h.within in
    let r = t.within in
    let some = filled p.nested text k n t in
    let cut : p.at + n - p.at ≡ n = omega arith in
    record {
      filled = omega arith;
      within = omega arith;
      kind = ap (λ m. kind_of (take m (drop p.at whole))) cut ∙ ap (λ z. kind_of (take n z)) (sym h.rest) ∙ allowed_some p.nested (drop n text) (kind_of (take n text)) k t.kind;
      line = h.line;
    }

pub spans : {p q : Place} {text rest : List ℕ} {tokens : List Token} → Cuts p text tokens q rest → (whole : List ℕ) → IsPlace whole p text → AreSpans whole p.at tokens
spans here whole h = tt
spans (blank {p} {q} {text} {rest} {tokens} l c) whole h =
    let n = blank_len p.nested text in
    weaken whole p.at (p.at + length (take n text)) tokens (omega arith) (spans c whole (moved whole p text p.nested n (blank_within p.nested text) h))
spans (token {p} {q} {text} {rest} {tokens} {k} {n} t c) whole h =
    let long = length-take-le n text t.within in
    (omega arith, span whole p text k n h t, subst (λ m. AreSpans whole (p.at + m) tokens) long (spans c whole (moved whole p text (behind_token p k (take n text)).nested n t.within h)))

pub are_spans : (text : List ℕ) (tokens : List Token) → AreTokens text tokens → AreSpans text 0 tokens
are_spans text tokens a = spans a.1 text (record { within = omega arith; rest = refl; line = refl })
