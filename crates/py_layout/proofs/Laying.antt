-- Tokens are put into lines in one way.
use Rattle.std.proofs.Common.{◌≡◌, ℕ, zero, suc, ◌+◌, ◌<◌, ◌≤◌, List, [], ◌∷◌, ◌++◌, length, drop, get_or, filter, Bool, true, false, cond, ◌==◌, not, nat_lt, nat_le, Option, Some, None, option_and_then, Result, Ok, Err, ap, sym, ◌∙◌, refl, subst, append_assoc, arith}
use Rattle.std.specs.List.{list_any, list_all}
use Rattle.std.proofs.lemmas.Bool.{cond-true, cond-false}
use Rattle.std.proofs.lemmas.List.{append-nil, drop-drop, drop_all, drop_more, get_or_default}
use Rattle.py_lexer.specs.declared.token.TokenKind.TheVariants.{Word}
use Rattle.py_lexer.specs.declared.token.Token.{Token}
use Rattle.py_lexer.specs.Cut.{AreTokens}
use Rattle.py_lexer.specs.Span.{AreSpans}
use Rattle.py_lexer.proofs.Spans.{are_spans}
use Rattle.py_layout.specs.declared.line.LogicalLine.{LogicalLine}
use Rattle.py_layout.specs.declared.fault.LayoutFault.{LayoutFault}
use Rattle.py_layout.specs.declared.fault.LayoutFault.TheVariants.{At, NoMemory}
use Rattle.py_layout.specs.Layout.{is_line_end, indent_of, stack_after, line_len, Spot, start, entered, behind_end, behind_line, line_at, Lays, here, skip, laid, AreLines, Stops, IsLaid, Gives, IsEntered}

-- ---- two ways

-- no line begins there, since there is no token or its width is refused
pub data IsFinal (text : List ℕ) : Spot → List Token → Type 0 where
  ended : {s : Spot} → IsFinal text s []
  stuck : {s : Spot} {t : Token} {tokens : List Token} → is_line_end t.kind ≡ false → entered text s ≡ None → IsFinal text s (t ∷ tokens)

pub record Same (ls : List LogicalLine) (s : Spot) (ts : List Token) (ms : List LogicalLine) (e : Spot) (us : List Token) : Type 0 where
  pub lines : ls ≡ ms
  pub spot : s ≡ e
  pub rest : ts ≡ us

no_end : {text : List ℕ} {s : Spot} {tokens : List Token} → IsFinal text s tokens → (t : Token) (ts : List Token) → tokens ≡ t ∷ ts → is_line_end t.kind ≡ false
no_end ended t ts e = cc
no_end (stuck {t = u} h k) t ts e = let same : u ≡ t = cc in ap (λ z. is_line_end z.kind) (sym same) ∙ h

no_width : {text : List ℕ} {s : Spot} {tokens : List Token} → IsFinal text s tokens → (t : Token) (ts : List Token) → tokens ≡ t ∷ ts → entered text s ≡ None
no_width ended t ts e = cc
no_width (stuck h k) t ts e = k

from_here : {text : List ℕ} {s e : Spot} {tokens rest : List Token} {ms : List LogicalLine} → Lays text s tokens ms e rest → IsFinal text s tokens → Same [] s tokens ms e rest
from_here here f = record { lines = refl; spot = refl; rest = refl }
from_here (skip {t} {tokens} h l) f = absurd (let k = no_end f t tokens refl in let z : true ≡ false = sym h ∙ k in cc)
from_here (laid {t} {tokens} {stack} h k l) f = absurd (let n = no_width f t tokens refl in let z : Some stack ≡ None = sym k ∙ n in cc)

from_skip : {text : List ℕ} {s e : Spot} {tokens rest : List Token} {ms : List LogicalLine} → Lays text s tokens ms e rest → IsFinal text e rest → (t : Token) (ts : List Token) → tokens ≡ t ∷ ts → is_line_end t.kind ≡ true
    → Lays text (behind_end s t) ts ms e rest
from_skip here f t ts e h = absurd (let k = no_end f t ts e in let z : true ≡ false = sym h ∙ k in cc)
from_skip {text} (skip {s} {e} {t = u} {tokens} {rest} {lines} k l) f t ts q h =
    let same : u ≡ t = cc in
    let others : tokens ≡ ts = cc in
    subst (λ z. Lays text (behind_end s z) ts lines e rest) same (subst (λ z. Lays text (behind_end s u) z lines e rest) others l)
from_skip (laid {t = u} k w l) f t ts e h = absurd (let same : u ≡ t = cc in let z : true ≡ false = sym h ∙ ap (λ z. is_line_end z.kind) (sym same) ∙ k in cc)

record After (text : List ℕ) (s : Spot) (t : Token) (ts : List Token) (stack : List ℕ) (ms : List LogicalLine) (e : Spot) (rest : List Token) : Type 0 where
  others : List LogicalLine
  whole : ms ≡ line_at s t stack (line_len (t ∷ ts)) ∷ others
  lays : Lays text (behind_line s stack (line_len (t ∷ ts))) (drop (line_len (t ∷ ts)) (t ∷ ts)) others e rest

same_some : {A : Type 0} {x y : A} → Some x ≡ Some y → x ≡ y
same_some e = cc

from_line : {text : List ℕ} {s e : Spot} {tokens rest : List Token} {ms : List LogicalLine} → Lays text s tokens ms e rest → IsFinal text e rest → (t : Token) (ts : List Token) (stack : List ℕ) → tokens ≡ t ∷ ts
    → is_line_end t.kind ≡ false → entered text s ≡ Some stack → After text s t ts stack ms e rest
from_line here f t ts stack e h k = absurd (let n = no_width f t ts e in let z : Some stack ≡ None = sym k ∙ n in cc)
from_line (skip {t = u} j l) f t ts stack e h k = absurd (let same : u ≡ t = cc in let z : true ≡ false = sym j ∙ ap (λ z. is_line_end z.kind) same ∙ h in cc)
from_line {text} (laid {s} {e} {t = u} {tokens} {rest} {lines} {stack = other} j w l) f t ts stack q h k =
    let same : u ≡ t = cc in
    let more : tokens ≡ ts = cc in
    let one : other ≡ stack = same_some (sym w ∙ k) in
    let given : After text s u tokens other (line_at s u other (line_len (u ∷ tokens)) ∷ lines) e rest = record { others = lines; whole = refl; lays = l } in
    subst (λ z. After text s t ts z (line_at s u other (line_len (u ∷ tokens)) ∷ lines) e rest) one
    (subst (λ z. After text s t z other (line_at s u other (line_len (u ∷ tokens)) ∷ lines) e rest) more
    (subst (λ z. After text s z tokens other (line_at s u other (line_len (u ∷ tokens)) ∷ lines) e rest) same given))

pub one_way : {text : List ℕ} {s e : Spot} {tokens rest : List Token} {ls : List LogicalLine} → Lays text s tokens ls e rest → IsFinal text e rest
    → {d : Spot} {end : List Token} {ms : List LogicalLine} → Lays text s tokens ms d end → IsFinal text d end → Same ls e rest ms d end
one_way here f b g = from_here b f
one_way (skip {t} {tokens} h l) f b g = one_way l f (from_skip b g t tokens refl h) g
one_way (laid {s} {t} {tokens} {stack} h k l) f b g =
    let a = from_line b g t tokens stack refl h k in
    let r = one_way l f a.lays g in
    record { lines = ap (λ z. line_at s t stack (line_len (t ∷ tokens)) ∷ z) r.lines ∙ sym a.whole; spot = r.spot; rest = r.rest }

-- ---- the laws

final_stop : (text : List ℕ) (tokens : List Token) (line : ℕ) (s : Stops text tokens line) → IsFinal text s.spot (s.first ∷ s.rest)
final_stop text tokens line s = stuck s.begins s.refused

pub one_list : (text : List ℕ) (tokens : List Token) (ls ms : List LogicalLine) → AreLines text tokens ls → AreLines text tokens ms → ls ≡ ms
one_list text tokens ls ms a b = let r = one_way a.1 ended b.1 ended in r.lines

pub one_stop : (text : List ℕ) (tokens : List Token) (line other : ℕ) → Stops text tokens line → Stops text tokens other → line ≡ other
one_stop text tokens line other a b =
    let r = one_way a.lays (final_stop text tokens line a) b.lays (final_stop text tokens other b) in
    let same : a.first ≡ b.first = let q = r.rest in cc in
    sym a.there ∙ ap (λ z. z.line) same ∙ b.there

pub not_both : (text : List ℕ) (tokens : List Token) (ls : List LogicalLine) (line : ℕ) → AreLines text tokens ls → Stops text tokens line → ⊥
not_both text tokens ls line a b = let r = one_way a.1 ended b.lays (final_stop text tokens line b) in let q = r.rest in cc

pub complete : (text : List ℕ) (tokens : List Token) (r : Result (List LogicalLine) LayoutFault) → IsLaid text tokens r → (ls : List LogicalLine) → AreLines text tokens ls → Gives r (Ok ls)
complete text tokens (Ok ms) h ls a = ap (λ z. Ok z) (one_list text tokens ms ls h a)
complete text tokens (Err (At n)) h ls a = absurd (not_both text tokens ls n a h)
complete text tokens (Err NoMemory) h ls a = tt

pub refused : (text : List ℕ) (tokens : List Token) (r : Result (List LogicalLine) LayoutFault) → IsLaid text tokens r → (n : ℕ) → Stops text tokens n → Gives r (Err (At n))
refused text tokens (Ok ms) h n a = absurd (not_both text tokens ms n h a)
refused text tokens (Err (At m)) h n a = ap (λ z. Err (At z)) (one_stop text tokens m n h a)
refused text tokens (Err NoMemory) h n a = tt

-- ---- spans

pub spans_within : (text : List ℕ) (from : ℕ) (tokens : List Token) → AreSpans text from tokens → (i : ℕ) (d : Token) → i < length tokens → (get_or tokens i d).end ≤ length text
spans_within text from [] s i d l = absurd (omega arith)
spans_within text from (t ∷ tokens) s zero d l = let k = s.1 in k.within
spans_within text from (t ∷ tokens) s (suc i) d l = spans_within text t.end tokens s.2 i d (omega arith)

spans_count : (text : List ℕ) (from : ℕ) (tokens : List Token) → from ≤ length text → AreSpans text from tokens → from + length tokens ≤ length text
spans_count text from [] l s = omega arith
spans_count text from (t ∷ tokens) l s =
    let k = s.1 in
    let w = k.within in
    let f = k.filled in
    let b = s.0 in
    let more = spans_count text t.end tokens w s.2 in
    omega arith

pub token_within : (text : List ℕ) (tokens : List Token) → AreTokens text tokens → (i : ℕ) (d : Token) → i < length tokens → (get_or tokens i d).end ≤ length text
token_within text tokens a = spans_within text 0 tokens (are_spans text tokens a)

pub few_tokens : (text : List ℕ) (tokens : List Token) → AreTokens text tokens → length tokens ≤ length text
few_tokens text tokens a = let k = spans_count text 0 tokens (omega arith) (are_spans text tokens a) in omega arith

-- ---- so far

abbrev pub spot : ℕ → ℕ → List ℕ → Spot
spot begin index stack = record { begin = begin; index = index; stack = stack }

-- the lines so far are those of the tokens up to a place: whatever the rest is put into completes them
pub record SoFar (text : List ℕ) (tokens : List Token) (s : Spot) (rest : List Token) (lines : List LogicalLine) : Type 0 where
  pub more : (ls : List LogicalLine) (e : Spot) (end : List Token) → Lays text s rest ls e end → Lays text start tokens (lines ++ ls) e end

pub begins : (text : List ℕ) (tokens : List Token) → SoFar text tokens start tokens []
begins text tokens = record { more = λ ls e end l. l }

module _ (text : List ℕ) (tokens : List Token) (begin index : ℕ) (stack : List ℕ) (lines : List LogicalLine) (s : SoFar text tokens (spot begin index stack) (drop index tokens) lines) (l : index < length tokens) where
  at_token : (t : Token) → t ≡ get_or tokens index t → drop index tokens ≡ t ∷ drop (index + 1) tokens
  at_token t e = drop_more tokens index t l ∙ ap (λ z. z ∷ drop (index + 1) tokens) (sym e)

  pub after_end : (t : Token) → t ≡ get_or tokens index t → is_line_end t.kind ≡ true → SoFar text tokens (spot t.end (index + 1) stack) (drop (index + 1) tokens) lines
  after_end t e h = record {
    more = λ ls d end m. s.more ls d end (subst (λ z. Lays text (spot begin index stack) z ls d end) (sym (at_token t e)) (skip h m));
  }

  pub after_line : (t : Token) (new : List ℕ) (n : ℕ) → t ≡ get_or tokens index t → is_line_end t.kind ≡ false → entered text (spot begin index stack) ≡ Some new → n ≡ line_len (drop index tokens)
      → SoFar text tokens (spot begin (index + n) new) (drop (index + n) tokens) (lines ++ line_at (spot begin index stack) t new n ∷ [])
  after_line t new n e h k m =
      let there = at_token t e in
      let long : n ≡ line_len (t ∷ drop (index + 1) tokens) = m ∙ ap line_len there in
      let rest : drop (index + n) tokens ≡ drop n (t ∷ drop (index + 1) tokens) = sym (drop-drop n index tokens) ∙ ap (drop n) there in
      record {
        more = λ ls d end x.
            subst (λ z. Lays text start tokens z d end) (sym (append_assoc lines (line_at (spot begin index stack) t new n ∷ []) ls))
            (s.more (line_at (spot begin index stack) t new n ∷ ls) d end
            (subst (λ z. Lays text (spot begin index stack) z (line_at (spot begin index stack) t new n ∷ ls) d end) (sym there)
            (subst (λ z. Lays text (spot begin index stack) (t ∷ drop (index + 1) tokens) (line_at (spot begin index stack) t new z ∷ ls) d end) (sym long)
            (laid h k
            (subst (λ z. Lays text (spot begin (index + z) new) (drop z (t ∷ drop (index + 1) tokens)) ls d end) long
            (subst (λ z. Lays text (spot begin (index + n) new) z ls d end) rest x))))));
      }

  pub stops_here : (t : Token) → t ≡ get_or tokens index t → is_line_end t.kind ≡ false → entered text (spot begin index stack) ≡ None → Stops text tokens t.line
  stops_here t e h k = record {
    lines = lines;
    spot = spot begin index stack;
    first = t;
    rest = drop (index + 1) tokens;
    lays = subst (λ z. Lays text start tokens z (spot begin index stack) (t ∷ drop (index + 1) tokens)) (append-nil lines)
        (s.more [] (spot begin index stack) (t ∷ drop (index + 1) tokens) (subst (λ z. Lays text (spot begin index stack) z [] (spot begin index stack) (t ∷ drop (index + 1) tokens)) (sym (at_token t e)) here));
    begins = h;
    refused = k;
    there = refl;
  }

pub found_at_end : (text : List ℕ) (tokens : List Token) (begin index : ℕ) (stack : List ℕ) (lines : List LogicalLine) → SoFar text tokens (spot begin index stack) (drop index tokens) lines → length tokens ≤ index → AreLines text tokens lines
found_at_end text tokens begin index stack lines s l =
    (spot begin index stack, subst (λ z. Lays text start tokens z (spot begin index stack) []) (append-nil lines) (s.more [] (spot begin index stack) [] (subst (λ z. Lays text (spot begin index stack) z [] (spot begin index stack) []) (sym (drop_all index tokens l)) here)))

-- ---- the stack

pub pushed : (stack : List ℕ) (width : ℕ) → list_any (λ v. v == width) stack ≡ false → list_all (λ v. nat_lt v width) stack ≡ true → stack_after stack width ≡ Some (stack ++ width ∷ [])
pushed stack width h k =
    cond-false (list_any (λ v. v == width) stack) (Some (filter (λ v. nat_le v width) stack)) (cond (list_all (λ v. nat_lt v width) stack) (Some (stack ++ width ∷ [])) None) h
    ∙ cond-true (list_all (λ v. nat_lt v width) stack) (Some (stack ++ width ∷ [])) None k

filter_one : (b : Bool) (v : ℕ) (kept stack : List ℕ) → length kept ≤ length stack → length (cond b (v ∷ kept) kept) ≤ length (v ∷ stack)
filter_one true v kept stack l = omega arith
filter_one false v kept stack l = omega arith

pub filter_few : (test : ℕ → Bool) (stack : List ℕ) → length (filter test stack) ≤ length stack
filter_few test [] = omega arith
filter_few test (v ∷ stack) = filter_one (test v) v (filter test stack) stack (filter_few test stack)

-- ---- a token that was read

abbrev pub no_token : Token
no_token = record { kind = Word; start = 0; end = 0; line = 0 }

abbrev pub read : List Token → ℕ → Token
read tokens i = get_or tokens i no_token

pub read_is : (tokens : List Token) (i : ℕ) → i < length tokens → read tokens i ≡ get_or tokens i (read tokens i)
read_is tokens i l = get_or_default tokens i no_token (read tokens i) l

pub not_indented : (text : List ℕ) (s : Spot) → indent_of (drop s.begin text) ≡ None → entered text s ≡ None
not_indented text s e = ap (λ z. option_and_then (stack_after s.stack) z) e

pub indented : (text : List ℕ) (s : Spot) (width : ℕ) (after : Option (List ℕ)) → indent_of (drop s.begin text) ≡ Some width → stack_after s.stack width ≡ after → entered text s ≡ after
indented text s width after e h = ap (λ z. option_and_then (stack_after s.stack) z) e ∙ h

pub was_entered : (after : Option (List ℕ)) (new : List ℕ) (done : Bool) → IsEntered after new done → done ≡ true → after ≡ Some new
was_entered after new true h e = h
was_entered after new false h e = cc

pub was_refused : (after : Option (List ℕ)) (new : List ℕ) (done : Bool) → IsEntered after new done → done ≡ false → after ≡ None
was_refused after new true h e = cc
was_refused after new false h e = h

-- a line has a token
pub line_filled : (tokens : List Token) (i : ℕ) → i < length tokens → read tokens i ≡ get_or tokens i (read tokens i) → is_line_end (read tokens i).kind ≡ false → (n : ℕ) → n ≡ line_len (drop i tokens) → 0 < n
line_filled tokens i l e h n m =
    let there : drop i tokens ≡ read tokens i ∷ drop (i + 1) tokens = drop_more tokens i (read tokens i) l ∙ ap (λ z. z ∷ drop (i + 1) tokens) (sym e) in
    let long = m ∙ ap line_len there ∙ cond-true (not (is_line_end (read tokens i).kind)) (1 + line_len (drop (i + 1) tokens)) 0 (ap not h) in
    omega arith
