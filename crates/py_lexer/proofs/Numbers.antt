-- Numbers at the front of a text.
use Rattle.std.proofs.Common.{◌≡◌, ℕ, zero, suc, ◌+◌, ◌<◌, ◌≤◌, List, [], ◌∷◌, ◌++◌, length, take, drop, Bool, true, false, cond, ◌&&◌, ◌||◌, ◌==◌, not, ap, sym, ◌∙◌, refl, subst, ◌⊎◌, inl, inr, ⊎_elim, append_assoc, length-append, drop_at, arith, codes, lit<}
use Rattle.std.specs.List.{list_all}
use Rattle.std.proofs.lemmas.Bool.{cases_Bool, or_cases, or_parts, or_from, and_parts, and_from, and_left, or_left, or_right, cond-true, cond-false, eqb-true, eq-eqb, ne_eqb, false_from_ne_true, cases_lt}
use Rattle.std.proofs.lemmas.List.{append-nil, take_all, length-drop}
use Rattle.py_scalars.specs.NumberForm.{is_digit, is_spaced, begins_with_digit}
use Rattle.py_lexer.specs.Form.{joins, is_one_of, one_of, is_digits, is_exponent, is_pointed, is_real, is_unsupported_number}
use Rattle.py_lexer.specs.Scan.{has_digit, spaced_len, digits_len, begins_with_one, one_len, if_more, signed_len, exponent_len, tail_len, fraction_len, behind_digits_len, real_len}
use Rattle.py_lexer.proofs.Lists.{joins_from, joins_parts, one_parts, listed_has, take_add}

-- ---- digits

pub spaced_step : (base : ℕ) (text : List ℕ) (at : ℕ) → at < length text → has_digit base (drop at text) ≡ true → spaced_len base (drop at text) ≡ 1 + spaced_len base (drop (at + 1) text)
spaced_step base [] at l h = absurd (omega arith)
spaced_step base (c ∷ text) zero l h = cond-true (has_digit base (c ∷ text)) (1 + spaced_len base text) 0 h
spaced_step base (c ∷ text) (suc at) l h =
    let e : suc at + 1 ≡ suc (at + 1) = omega arith in
    spaced_step base text at (omega arith) h ∙ ap (λ n. 1 + spaced_len base (drop n (c ∷ text))) (sym e)

pub spaced_none : (base : ℕ) (text : List ℕ) → has_digit base text ≡ false → spaced_len base text ≡ 0
spaced_none base [] h = refl
spaced_none base (c ∷ text) h = cond-false (has_digit base (c ∷ text)) (1 + spaced_len base text) 0 h

begins_more : (base : ℕ) (d rest : List ℕ) → begins_with_digit base d ≡ true → begins_with_digit base (d ++ rest) ≡ true
begins_more base [] rest h = cc
begins_more base (c ∷ d) rest h = h

has_more : (base c : ℕ) (d rest : List ℕ) → has_digit base (c ∷ d) ≡ true → has_digit base (c ∷ (d ++ rest)) ≡ true
has_more base c d rest h =
    ⊎_elim
    (λ digit. or_left (is_digit base c) ((c == 95) && begins_with_digit base (d ++ rest)) digit)
    (λ gap.
    let both = and_parts (c == 95) (begins_with_digit base d) gap in
    or_right (is_digit base c) ((c == 95) && begins_with_digit base (d ++ rest)) (and_from (c == 95) (begins_with_digit base (d ++ rest)) both.0 (begins_more base d rest both.1)))
    (or_cases (is_digit base c) ((c == 95) && begins_with_digit base d) h)

pub spaced_exact : (base : ℕ) (d rest : List ℕ) → is_spaced base d ≡ true → has_digit base rest ≡ false → spaced_len base (d ++ rest) ≡ length d
spaced_exact base [] rest h s = spaced_none base rest s
spaced_exact base (c ∷ d) rest h s =
    let both = and_parts (has_digit base (c ∷ d)) (is_spaced base d) h in
    let more = spaced_exact base d rest both.1 s in
    cond-true (has_digit base (c ∷ (d ++ rest))) (1 + spaced_len base (d ++ rest)) 0 (has_more base c d rest both.0) ∙ omega arith

pub spaced_least : (base : ℕ) (d rest : List ℕ) → is_spaced base d ≡ true → length d ≤ spaced_len base (d ++ rest)
spaced_least base [] rest h = omega arith
spaced_least base (c ∷ d) rest h =
    let both = and_parts (has_digit base (c ∷ d)) (is_spaced base d) h in
    let more = spaced_least base d rest both.1 in
    let e = cond-true (has_digit base (c ∷ (d ++ rest))) (1 + spaced_len base (d ++ rest)) 0 (has_more base c d rest both.0) in
    omega arith

digit_first : (base : ℕ) (text : List ℕ) → begins_with_digit base text ≡ true → 0 < spaced_len base text
digit_first base [] h = cc
digit_first base (c ∷ text) h =
    let e = cond-true (has_digit base (c ∷ text)) (1 + spaced_len base text) 0 (or_left (is_digit base c) ((c == 95) && begins_with_digit base text) h) in
    omega arith

begins_taken : (base n : ℕ) (text : List ℕ) → 0 < n → begins_with_digit base text ≡ true → begins_with_digit base (take n text) ≡ true
begins_taken base zero text l h = absurd (omega arith)
begins_taken base (suc n) [] l h = cc
begins_taken base (suc n) (c ∷ text) l h = h

one_more : (n : ℕ) → 1 + n ≡ suc n
one_more n = omega arith

pub spaced_take : (base : ℕ) (text : List ℕ) → is_spaced base (take (spaced_len base text) text) ≡ true
spaced_take base [] = refl
spaced_take base (c ∷ text) =
    ⊎_elim
    (λ h.
    let front = take (spaced_len base text) text in
    let head : has_digit base (c ∷ take (spaced_len base text) text) ≡ true =
    ⊎_elim
    (λ digit. or_left (is_digit base c) ((c == 95) && begins_with_digit base front) digit)
    (λ gap.
    let both = and_parts (c == 95) (begins_with_digit base text) gap in
    or_right (is_digit base c) ((c == 95) && begins_with_digit base front)
    (and_from (c == 95) (begins_with_digit base front) both.0 (begins_taken base (spaced_len base text) text (digit_first base text both.1) both.1)))
    (or_cases (is_digit base c) ((c == 95) && begins_with_digit base text) h) in
    ap (λ n. is_spaced base (take n (c ∷ text))) (cond-true (has_digit base (c ∷ text)) (1 + spaced_len base text) 0 h ∙ one_more (spaced_len base text))
    ∙ and_from (has_digit base (c ∷ front)) (is_spaced base front) head (spaced_take base text))
    (λ h. ap (λ n. is_spaced base (take n (c ∷ text))) (cond-false (has_digit base (c ∷ text)) (1 + spaced_len base text) 0 h))
    (cases_Bool (has_digit base (c ∷ text)))

pub spaced_whole : (base : ℕ) (text : List ℕ) → (spaced_len base text == length text) ≡ is_spaced base text
spaced_whole base text =
    ⊎_elim
    (λ h.
    eq-eqb (spaced_len base text) (length text) (ap (spaced_len base) (sym (append-nil text)) ∙ spaced_exact base text [] h refl) ∙ sym h)
    (λ h.
    ne_eqb (spaced_len base text) (length text) (λ e.
    let whole : take (spaced_len base text) text ≡ text = take_all (spaced_len base text) text (omega arith) in
    let t : is_spaced base text ≡ true = ap (is_spaced base) (sym whole) ∙ spaced_take base text in cc)
    ∙ sym h)
    (cases_Bool (is_spaced base text))

pub digits_begin : (d rest : List ℕ) → is_digits d ≡ true → begins_with_digit 10 (d ++ rest) ≡ true
digits_begin [] rest h = cc
digits_begin (c ∷ d) rest h = (and_parts (is_digit 10 c) (is_spaced 10 d) h).0

digits_spaced : (d : List ℕ) → is_digits d ≡ true → is_spaced 10 d ≡ true
digits_spaced [] h = cc
digits_spaced (c ∷ d) h =
    let both = and_parts (is_digit 10 c) (is_spaced 10 d) h in
    and_from (has_digit 10 (c ∷ d)) (is_spaced 10 d) (or_left (is_digit 10 c) ((c == 95) && begins_with_digit 10 d) both.0) both.1

digits_are : (d rest : List ℕ) → is_digits d ≡ true → digits_len (d ++ rest) ≡ spaced_len 10 (d ++ rest)
digits_are d rest h = cond-true (begins_with_digit 10 (d ++ rest)) (spaced_len 10 (d ++ rest)) 0 (digits_begin d rest h)

pub digits_exact : (d rest : List ℕ) → is_digits d ≡ true → has_digit 10 rest ≡ false → digits_len (d ++ rest) ≡ length d
digits_exact d rest h s = digits_are d rest h ∙ spaced_exact 10 d rest (digits_spaced d h) s

pub digits_least : (d rest : List ℕ) → is_digits d ≡ true → length d ≤ digits_len (d ++ rest)
digits_least d rest h = let e = digits_are d rest h in let l = spaced_least 10 d rest (digits_spaced d h) in omega arith

digits_filled : (d : List ℕ) → is_digits d ≡ true → 0 < length d
digits_filled [] h = cc
digits_filled (c ∷ d) h = omega arith

pub digits_none : (text : List ℕ) → has_digit 10 text ≡ false → digits_len text ≡ 0
digits_none [] h = refl
digits_none (c ∷ text) h = cond-false (is_digit 10 c) (spaced_len 10 (c ∷ text)) 0 (or_parts (is_digit 10 c) ((c == 95) && begins_with_digit 10 text) h).0

from_spaced : (text : List ℕ) → begins_with_digit 10 text ≡ true → is_spaced 10 text ≡ true → is_digits text ≡ true
from_spaced [] b h = cc
from_spaced (c ∷ text) b h = and_from (is_digit 10 c) (is_spaced 10 text) b (and_parts (has_digit 10 (c ∷ text)) (is_spaced 10 text) h).1

pub digits_take : (text : List ℕ) → 0 < digits_len text → is_digits (take (digits_len text) text) ≡ true
digits_take text l =
    ⊎_elim
    (λ b.
    let e = cond-true (begins_with_digit 10 text) (spaced_len 10 text) 0 b in
    ap (λ n. is_digits (take n text)) e
    ∙ from_spaced (take (spaced_len 10 text) text) (begins_taken 10 (spaced_len 10 text) text (digit_first 10 text b) b) (spaced_take 10 text))
    (λ b. let e = cond-false (begins_with_digit 10 text) (spaced_len 10 text) 0 b in absurd (omega arith))
    (cases_Bool (begins_with_digit 10 text))

-- ---- letters

-- ---- letters

if_more_is : (n m : ℕ) → 0 < m → if_more n m ≡ n + m
if_more_is n zero l = absurd (omega arith)
if_more_is n (suc m) l = refl

if_more_some : (n m : ℕ) → 0 < if_more n m → 0 < m
if_more_some n zero l = l
if_more_some n (suc m) l = omega arith

-- neither a digit nor an underscore
abbrev is_no_part : ℕ → Bool
is_no_part c = not (is_digit 10 c) && not (c == 95)

not_true : (b : Bool) → not b ≡ true → b ≡ false
not_true true h = cc
not_true false h = refl

no_digit : (c : ℕ) (text : List ℕ) → is_no_part c ≡ true → has_digit 10 (c ∷ text) ≡ false
no_digit c text h =
    let both = and_parts (not (is_digit 10 c)) (not (c == 95)) h in
    or_from (is_digit 10 c) ((c == 95) && begins_with_digit 10 text) (not_true (is_digit 10 c) both.0) (and_left (c == 95) (begins_with_digit 10 text) (not_true (c == 95) both.1))

listed_no_digit : (points : List ℕ) (c : ℕ) (text : List ℕ) → is_one_of points c ≡ true → list_all is_no_part points ≡ true → has_digit 10 (c ∷ text) ≡ false
listed_no_digit points c text h all = no_digit c text (listed_has is_no_part points c h all)

-- two lists of points have none in common
apart : (points others : List ℕ) (c : ℕ) → is_one_of points c ≡ true → list_all (λ d. not (is_one_of others d)) points ≡ true → is_one_of others c ≡ false
apart points others c h all = not_true (is_one_of others c) (listed_has (λ d. not (is_one_of others d)) points c h all)

-- a digit is none of these
digit_apart : (points : List ℕ) (c : ℕ) → is_digit 10 c ≡ true → list_all (λ d. not (is_digit 10 d)) points ≡ true → is_one_of points c ≡ false
digit_apart points c h all =
    false_from_ne_true (is_one_of points c) (λ e.
    let n : not (is_digit 10 c) ≡ true = listed_has (λ d. not (is_digit 10 d)) points c e all in
    let f = not_true (is_digit 10 c) n in cc)

-- ---- exponents

one_yes : (points : List ℕ) (c : ℕ) (text : List ℕ) → is_one_of points c ≡ true → one_len points (c ∷ text) ≡ 1
one_yes points c text h = cond-true (is_one_of points c) 1 0 h

one_no : (points : List ℕ) (c : ℕ) (text : List ℕ) → is_one_of points c ≡ false → one_len points (c ∷ text) ≡ 0
one_no points c text h = cond-false (is_one_of points c) 1 0 h

digits_one_no : (points d rest : List ℕ) → is_digits d ≡ true → list_all (λ c. not (is_digit 10 c)) points ≡ true → one_len points (d ++ rest) ≡ 0
digits_one_no points [] rest h all = cc
digits_one_no points (c ∷ d) rest h all = one_no points c (d ++ rest) (digit_apart points c (and_parts (is_digit 10 c) (is_spaced 10 d) h).0 all)

-- an exponent has a front and digits, and so many code points are read
record Exponent (e : List ℕ) : Type 0 where
  front : ℕ
  digits : List ℕ
  are : is_digits digits ≡ true
  long : length e ≡ front + length digits
  reads : (rest : List ℕ) → exponent_len (e ++ rest) ≡ front + digits_len (digits ++ rest)
  letter : ℕ
  more : List ℕ
  whole : e ≡ letter ∷ more
  listed : is_one_of (codes "eE") letter ≡ true

digits_some : (d rest : List ℕ) → is_digits d ≡ true → 0 < digits_len (d ++ rest)
digits_some d rest h = let l = digits_least d rest h in let f = digits_filled d h in omega arith

signed_plain : (d rest : List ℕ) → is_digits d ≡ true → signed_len (d ++ rest) ≡ digits_len (d ++ rest)
signed_plain d rest h =
    ap (λ k. if_more k (digits_len (drop k (d ++ rest)))) (digits_one_no (codes "+-") d rest h refl)
    ∙ if_more_is 0 (digits_len (d ++ rest)) (digits_some d rest h) ∙ omega arith

signed_sign : (s : ℕ) (d rest : List ℕ) → is_one_of (codes "+-") s ≡ true → is_digits d ≡ true → signed_len (s ∷ (d ++ rest)) ≡ 1 + digits_len (d ++ rest)
signed_sign s d rest h k =
    ap (λ n. if_more n (digits_len (drop n (s ∷ (d ++ rest))))) (one_yes (codes "+-") s (d ++ rest) h)
    ∙ if_more_is 1 (digits_len (d ++ rest)) (digits_some d rest k)

exponent_reads : (x : ℕ) (text : List ℕ) → is_one_of (codes "eE") x ≡ true → 0 < signed_len text → exponent_len (x ∷ text) ≡ 1 + signed_len text
exponent_reads x text h l = cond-true (is_one_of (codes "eE") x) (if_more 1 (signed_len text)) 0 h ∙ if_more_is 1 (signed_len text) l

exponent_plain : (e : List ℕ) → joins (one_of (codes "eE")) is_digits e ≡ true → Exponent e
exponent_plain e h =
    let p = joins_parts (one_of (codes "eE")) is_digits e h in
    let x = one_parts (codes "eE") p.front p.first in
    let whole : e ≡ x.point ∷ p.behind = p.whole ∙ ap (λ z. z ++ p.behind) x.whole in
    record {
      front = 1;
      digits = p.behind;
      are = p.second;
      long = ap length whole ∙ omega arith;
      reads = λ rest.
          let plain = signed_plain p.behind rest p.second in
          let some = digits_some p.behind rest p.second in
          ap (λ z. exponent_len (z ++ rest)) whole ∙ exponent_reads x.point (p.behind ++ rest) x.listed (omega arith) ∙ ap (λ n. 1 + n) plain;
      letter = x.point;
      more = p.behind;
      whole = whole;
      listed = x.listed;
    }

exponent_signed : (e : List ℕ) → joins (one_of (codes "eE")) (joins (one_of (codes "+-")) is_digits) e ≡ true → Exponent e
exponent_signed e h =
    let p = joins_parts (one_of (codes "eE")) (joins (one_of (codes "+-")) is_digits) e h in
    let x = one_parts (codes "eE") p.front p.first in
    let q = joins_parts (one_of (codes "+-")) is_digits p.behind p.second in
    let s = one_parts (codes "+-") q.front q.first in
    let behind : p.behind ≡ s.point ∷ q.behind = q.whole ∙ ap (λ z. z ++ q.behind) s.whole in
    let whole : e ≡ x.point ∷ s.point ∷ q.behind = p.whole ∙ ap (λ z. z ++ p.behind) x.whole ∙ ap (λ z. x.point ∷ z) behind in
    record {
      front = 2;
      digits = q.behind;
      are = q.second;
      long = ap length whole ∙ omega arith;
      reads = λ rest.
          let signed = signed_sign s.point q.behind rest s.listed q.second in
          ap (λ z. exponent_len (z ++ rest)) whole ∙ exponent_reads x.point (s.point ∷ (q.behind ++ rest)) x.listed (omega arith) ∙ omega arith;
      letter = x.point;
      more = s.point ∷ q.behind;
      whole = whole;
      listed = x.listed;
    }

exponent_parts : (e : List ℕ) → is_exponent e ≡ true → Exponent e
exponent_parts e h =
    ⊎_elim (λ p. exponent_plain e p) (λ s. exponent_signed e s)
    (or_cases (joins (one_of (codes "eE")) is_digits e) (joins (one_of (codes "eE")) (joins (one_of (codes "+-")) is_digits) e) h)

signed_exponent : (x : ℕ) (text : List ℕ) → is_one_of (codes "eE") x ≡ true → 0 < signed_len text → is_exponent (x ∷ take (signed_len text) text) ≡ true
signed_exponent x [] h l = absurd (omega arith)
signed_exponent x (c ∷ text) h l =
    ⊎_elim
    (λ s.
    let one = one_yes (codes "+-") c text s in
    let e : signed_len (c ∷ text) ≡ if_more 1 (digits_len text) = ap (λ n. if_more n (digits_len (drop n (c ∷ text)))) one in
    let some : 0 < digits_len text = if_more_some 1 (digits_len text) (subst (λ n. 0 < n) e l) in
    let long : signed_len (c ∷ text) ≡ suc (digits_len text) = e ∙ if_more_is 1 (digits_len text) some ∙ one_more (digits_len text) in
    ap (λ n. is_exponent (x ∷ take n (c ∷ text))) long
    ∙ or_right (joins (one_of (codes "eE")) is_digits (x ∷ c ∷ take (digits_len text) text)) (joins (one_of (codes "eE")) (joins (one_of (codes "+-")) is_digits) (x ∷ c ∷ take (digits_len text) text))
    (joins_from (one_of (codes "eE")) (joins (one_of (codes "+-")) is_digits) (x ∷ []) (c ∷ take (digits_len text) text) h
    (joins_from (one_of (codes "+-")) is_digits (c ∷ []) (take (digits_len text) text) s (digits_take text some))))
    (λ s.
    let one = one_no (codes "+-") c text s in
    let e : signed_len (c ∷ text) ≡ if_more 0 (digits_len (c ∷ text)) = ap (λ n. if_more n (digits_len (drop n (c ∷ text)))) one in
    let some : 0 < digits_len (c ∷ text) = if_more_some 0 (digits_len (c ∷ text)) (subst (λ n. 0 < n) e l) in
    let long : signed_len (c ∷ text) ≡ digits_len (c ∷ text) = e ∙ if_more_is 0 (digits_len (c ∷ text)) some ∙ omega arith in
    ap (λ n. is_exponent (x ∷ take n (c ∷ text))) long
    ∙ or_left (joins (one_of (codes "eE")) is_digits (x ∷ take (digits_len (c ∷ text)) (c ∷ text))) (joins (one_of (codes "eE")) (joins (one_of (codes "+-")) is_digits) (x ∷ take (digits_len (c ∷ text)) (c ∷ text)))
    (joins_from (one_of (codes "eE")) is_digits (x ∷ []) (take (digits_len (c ∷ text)) (c ∷ text)) h (digits_take (c ∷ text) some)))
    (cases_Bool (is_one_of (codes "+-") c))

exponent_take : (text : List ℕ) → 0 < exponent_len text → is_exponent (take (exponent_len text) text) ≡ true
exponent_take [] l = absurd (omega arith)
exponent_take (x ∷ text) l =
    ⊎_elim
    (λ h.
    let e = cond-true (is_one_of (codes "eE") x) (if_more 1 (signed_len text)) 0 h in
    let some : 0 < signed_len text = if_more_some 1 (signed_len text) (subst (λ n. 0 < n) e l) in
    let long : exponent_len (x ∷ text) ≡ suc (signed_len text) = e ∙ if_more_is 1 (signed_len text) some ∙ one_more (signed_len text) in
    ap (λ n. is_exponent (take n (x ∷ text))) long ∙ signed_exponent x text h some)
    (λ h. let e = cond-false (is_one_of (codes "eE") x) (if_more 1 (signed_len text)) 0 h in absurd (omega arith))
    (cases_Bool (is_one_of (codes "eE") x))

-- ---- what may follow the digits of a number

pub data Tail : List ℕ → Type 0 where
  nothing : Tail []
  letter : {c : ℕ} → is_one_of (codes "jJ") c ≡ true → Tail (c ∷ [])
  exponent : {e : List ℕ} → is_exponent e ≡ true → Tail e
  both : (e : List ℕ) (c : ℕ) → is_exponent e ≡ true → is_one_of (codes "jJ") c ≡ true → Tail (e ++ c ∷ [])

exponent_none : (text : List ℕ) → begins_with_one (codes "eE") text ≡ false → exponent_len text ≡ 0
exponent_none text h = cond-false (begins_with_one (codes "eE") text) (if_more 1 (signed_len (drop 1 text))) 0 h

exponent_least : (e rest : List ℕ) → is_exponent e ≡ true → length e ≤ exponent_len (e ++ rest)
exponent_least e rest h =
    let p = exponent_parts e h in
    let l = digits_least p.digits rest p.are in
    let r = p.reads rest in
    omega (arith, p.long)

exponent_exact : (e rest : List ℕ) → is_exponent e ≡ true → has_digit 10 rest ≡ false → exponent_len (e ++ rest) ≡ length e
exponent_exact e rest h s =
    let p = exponent_parts e h in
    let l = digits_exact p.digits rest p.are s in
    let r = p.reads rest in
    omega (arith, p.long)

tail_letter : (c : ℕ) (rest : List ℕ) → is_one_of (codes "jJ") c ≡ true → tail_len (c ∷ rest) ≡ 1
tail_letter c rest h =
    ap (λ n. n + one_len (codes "jJ") (drop n (c ∷ rest))) (exponent_none (c ∷ rest) (apart (codes "jJ") (codes "eE") c h refl))
    ∙ ap (λ n. 0 + n) (one_yes (codes "jJ") c rest h)

tail_both : (e : List ℕ) (c : ℕ) (rest : List ℕ) → is_exponent e ≡ true → is_one_of (codes "jJ") c ≡ true → tail_len (e ++ c ∷ rest) ≡ length e + 1
tail_both e c rest h k =
    ap (λ n. n + one_len (codes "jJ") (drop n (e ++ c ∷ rest))) (exponent_exact e (c ∷ rest) h (listed_no_digit (codes "jJ") c rest k refl))
    ∙ ap (λ t. length e + one_len (codes "jJ") t) (drop_at e (c ∷ rest) (length e) refl)
    ∙ ap (λ n. length e + n) (one_yes (codes "jJ") c rest k)

tail_least : {t : List ℕ} → Tail t → (rest : List ℕ) → length t ≤ tail_len (t ++ rest)
tail_least nothing rest = omega arith
tail_least (letter {c} h) rest = let e = tail_letter c rest h in omega arith
tail_least (exponent {e} h) rest = let l = exponent_least e rest h in omega arith
tail_least (both e c h k) rest =
    let r : tail_len ((e ++ c ∷ []) ++ rest) ≡ length e + 1 = ap tail_len (append_assoc e (c ∷ []) rest) ∙ tail_both e c rest h k in
    let l = length-append e (c ∷ []) in
    omega arith

exponent_begins : (e rest : List ℕ) → is_exponent e ≡ true → begins_with_one (codes "eE") (e ++ rest) ≡ true
exponent_begins e rest h = let p = exponent_parts e h in ap (λ z. begins_with_one (codes "eE") (z ++ rest)) p.whole ∙ p.listed

letters_no_digit : (points text : List ℕ) → begins_with_one points text ≡ true → list_all is_no_part points ≡ true → has_digit 10 text ≡ false
letters_no_digit points [] h all = refl
letters_no_digit points (c ∷ text) h all = listed_no_digit points c text h all

letters_no_point : (points text : List ℕ) → begins_with_one points text ≡ true → list_all (λ d. not (is_one_of (codes ".") d)) points ≡ true → begins_with_one (codes ".") text ≡ false
letters_no_point points [] h all = refl
letters_no_point points (c ∷ text) h all = apart points (codes ".") c h all

letters_wider : (e rest : List ℕ) → is_exponent e ≡ true → begins_with_one (codes "eEjJ") (e ++ rest) ≡ true
letters_wider e rest h =
    let p = exponent_parts e h in
    ap (λ z. begins_with_one (codes "eEjJ") (z ++ rest)) p.whole ∙ listed_has (is_one_of (codes "eEjJ")) (codes "eE") p.letter p.listed refl

-- a tail with something in it begins with a letter
tail_begins : {t : List ℕ} → Tail t → (rest : List ℕ) → 0 < length t → begins_with_one (codes "eEjJ") (t ++ rest) ≡ true
tail_begins nothing rest l = absurd (omega arith)
tail_begins (letter {c} h) rest l = listed_has (is_one_of (codes "eEjJ")) (codes "jJ") c h refl
tail_begins (exponent {e} h) rest l = letters_wider e rest h
tail_begins (both e c h k) rest l = ap (begins_with_one (codes "eEjJ")) (append_assoc e (c ∷ []) rest) ∙ letters_wider e (c ∷ rest) h

tail_no_digit : {t : List ℕ} → Tail t → (rest : List ℕ) → 0 < length t → has_digit 10 (t ++ rest) ≡ false
tail_no_digit {t} tail rest l = letters_no_digit (codes "eEjJ") (t ++ rest) (tail_begins tail rest l) refl

fraction_least : {t : List ℕ} → Tail t → (d rest : List ℕ) → is_digits d ≡ true → length d + length t ≤ fraction_len (d ++ (t ++ rest))
fraction_least {t} tail d rest h =
    ⊎_elim
    (λ (l : 0 < length t).
    let f : fraction_len (d ++ (t ++ rest)) ≡ length d + tail_len (t ++ rest) =
    ap (λ n. n + tail_len (drop n (d ++ (t ++ rest)))) (digits_exact d (t ++ rest) h (tail_no_digit tail rest l))
    ∙ ap (λ z. length d + tail_len z) (drop_at d (t ++ rest) (length d) refl) in
    let m = tail_least tail rest in
    omega arith)
    (λ (l : length t ≤ 0). let m = digits_least d (t ++ rest) h in omega arith)
    (cases_lt 0 (length t))

fraction_tail : {t : List ℕ} → Tail t → (rest : List ℕ) → length t ≤ fraction_len (t ++ rest)
fraction_tail {t} tail rest =
    ⊎_elim
    (λ (l : 0 < length t).
    let f : fraction_len (t ++ rest) ≡ 0 + tail_len (t ++ rest) = ap (λ n. n + tail_len (drop n (t ++ rest))) (digits_none (t ++ rest) (tail_no_digit tail rest l)) in
    let m = tail_least tail rest in
    omega arith)
    (λ (l : length t ≤ 0). omega arith)
    (cases_lt 0 (length t))

-- ---- the whole number

-- what the definition makes of a number: a front with a point and a tail, or digits and a tail that is not empty
pub data Real : List ℕ → Type 0 where
  after_point : (d t : List ℕ) → is_digits d ≡ true → Tail t → Real (d ++ (46 ∷ t))
  around_point : (d b t : List ℕ) → is_digits d ≡ true → is_digits b ≡ true → Tail t → Real (d ++ (46 ∷ (b ++ t)))
  behind_point : (b t : List ℕ) → is_digits b ≡ true → Tail t → Real (46 ∷ (b ++ t))
  no_point : (d t : List ℕ) → is_digits d ≡ true → Tail t → 0 < length t → Real (d ++ t)

digit_head : (d rest : List ℕ) → is_digits d ≡ true → 0 < behind_digits_len rest → has_digit 10 rest ≡ false → real_len (d ++ rest) ≡ length d + behind_digits_len rest
digit_head [] rest h l s = cc
digit_head (c ∷ d) rest h l s =
    let digit = (and_parts (is_digit 10 c) (is_spaced 10 d) h).0 in
    let text : List ℕ = c ∷ (d ++ rest) in
    let n = digits_exact (c ∷ d) rest h s in
    cond-false (c == 46) (cond (begins_with_digit 10 (d ++ rest)) (1 + fraction_len (d ++ rest)) 0) (if_more (digits_len (c ∷ (d ++ rest))) (behind_digits_len (drop (digits_len (c ∷ (d ++ rest))) (c ∷ (d ++ rest)))))
    (ne_eqb c 46 (λ e. let f : is_digit 10 46 ≡ true = ap (is_digit 10) (sym e) ∙ digit in cc))
    ∙ ap (λ k. if_more k (behind_digits_len (drop k (c ∷ (d ++ rest))))) n
    ∙ ap (λ z. if_more (length (c ∷ d)) (behind_digits_len z)) (drop_at (c ∷ d) rest (length (c ∷ d)) refl)
    ∙ if_more_is (length (c ∷ d)) (behind_digits_len rest) l

pub real_bound : {t : List ℕ} → Real t → (rest : List ℕ) → length t ≤ real_len (t ++ rest)
real_bound (after_point d t h tail) rest =
    let e : (d ++ (46 ∷ t)) ++ rest ≡ d ++ (46 ∷ (t ++ rest)) = append_assoc d (46 ∷ t) rest in
    let r : real_len ((d ++ (46 ∷ t)) ++ rest) ≡ length d + (1 + fraction_len (t ++ rest)) = ap real_len e ∙ digit_head d (46 ∷ (t ++ rest)) h (omega arith) refl in
    let m = fraction_tail tail rest in
    let l = length-append d (46 ∷ t) in
    omega arith
real_bound (around_point d b t h k tail) rest =
    let e : (d ++ (46 ∷ (b ++ t))) ++ rest ≡ d ++ (46 ∷ (b ++ (t ++ rest))) = append_assoc d (46 ∷ (b ++ t)) rest ∙ ap (λ z. d ++ (46 ∷ z)) (append_assoc b t rest) in
    let r : real_len ((d ++ (46 ∷ (b ++ t))) ++ rest) ≡ length d + (1 + fraction_len (b ++ (t ++ rest))) = ap real_len e ∙ digit_head d (46 ∷ (b ++ (t ++ rest))) h (omega arith) refl in
    let m = fraction_least tail b rest k in
    let l = length-append d (46 ∷ (b ++ t)) in
    let f = length-append b t in
    omega arith
real_bound (behind_point b t k tail) rest =
    let e : 46 ∷ ((b ++ t) ++ rest) ≡ 46 ∷ (b ++ (t ++ rest)) = ap (λ z. 46 ∷ z) (append_assoc b t rest) in
    let r : real_len (46 ∷ ((b ++ t) ++ rest)) ≡ 1 + fraction_len (b ++ (t ++ rest)) =
    ap real_len e ∙ cond-true (begins_with_digit 10 (b ++ (t ++ rest))) (1 + fraction_len (b ++ (t ++ rest))) 0 (digits_begin b (t ++ rest) k) in
    let m = fraction_least tail b rest k in
    let f = length-append b t in
    omega arith
real_bound (no_point d t h tail l) rest =
    let m = tail_least tail rest in
    let b : behind_digits_len (t ++ rest) ≡ tail_len (t ++ rest) =
    cond-false (begins_with_one (codes ".") (t ++ rest)) (1 + fraction_len (drop 1 (t ++ rest))) (tail_len (t ++ rest))
    (letters_no_point (codes "eEjJ") (t ++ rest) (tail_begins tail rest l) refl) in
    let r : real_len ((d ++ t) ++ rest) ≡ length d + behind_digits_len (t ++ rest) =
    ap real_len (append_assoc d t rest) ∙ digit_head d (t ++ rest) h (omega arith) (tail_no_digit tail rest l) in
    let f = length-append d t in
    omega arith

-- ---- the definition and its parts

listed_point : (c : ℕ) → is_one_of (codes ".") c ≡ true → c ≡ 46
listed_point c h = ⊎_elim (λ e. eqb-true c 46 e) (λ (e : false ≡ true). cc) (or_cases (c == 46) false h)

pointed_real : (p t : List ℕ) → is_pointed p ≡ true → Tail t → Real (p ++ t)
pointed_real p t h tail =
    ⊎_elim
    (λ outer.
    ⊎_elim
    (λ a.
    let parts = joins_parts is_digits (one_of (codes ".")) p a in
    let point = one_parts (codes ".") parts.behind parts.second in
    let dot = listed_point point.point point.listed in
    let whole : p ++ t ≡ parts.front ++ (46 ∷ t) =
    ap (λ z. z ++ t) (parts.whole ∙ ap (λ z. parts.front ++ z) (point.whole ∙ ap (λ c. c ∷ []) dot)) ∙ append_assoc parts.front (46 ∷ []) t in
    subst Real (sym whole) (after_point parts.front t parts.first tail))
    (λ b.
    let parts = joins_parts is_digits (joins (one_of (codes ".")) is_digits) p b in
    let inner = joins_parts (one_of (codes ".")) is_digits parts.behind parts.second in
    let point = one_parts (codes ".") inner.front inner.first in
    let dot = listed_point point.point point.listed in
    let behind : parts.behind ≡ 46 ∷ inner.behind = inner.whole ∙ ap (λ z. z ++ inner.behind) (point.whole ∙ ap (λ c. c ∷ []) dot) in
    let whole : p ++ t ≡ parts.front ++ (46 ∷ (inner.behind ++ t)) =
    ap (λ z. z ++ t) (parts.whole ∙ ap (λ z. parts.front ++ z) behind) ∙ append_assoc parts.front (46 ∷ inner.behind) t in
    subst Real (sym whole) (around_point parts.front inner.behind t parts.first inner.second tail))
    (or_cases (joins is_digits (one_of (codes ".")) p) (joins is_digits (joins (one_of (codes ".")) is_digits) p) outer))
    (λ c.
    let parts = joins_parts (one_of (codes ".")) is_digits p c in
    let point = one_parts (codes ".") parts.front parts.first in
    let dot = listed_point point.point point.listed in
    let whole : p ++ t ≡ 46 ∷ (parts.behind ++ t) =
    ap (λ z. z ++ t) (parts.whole ∙ ap (λ z. z ++ parts.behind) (point.whole ∙ ap (λ c. c ∷ []) dot)) in
    subst Real (sym whole) (behind_point parts.behind t parts.second tail))
    (or_cases (joins is_digits (one_of (codes ".")) p || joins is_digits (joins (one_of (codes ".")) is_digits) p) (joins (one_of (codes ".")) is_digits p) h)

exponent_filled : (e : List ℕ) → is_exponent e ≡ true → 0 < length e
exponent_filled e h = let p = exponent_parts e h in let l = ap length p.whole in omega arith

-- a real with a tail that is an exponent, or nothing: the tail can end with a `j`
real_parts : (t : List ℕ) → is_real t ≡ true → Real t
real_parts t h =
    ⊎_elim
    (λ outer.
    ⊎_elim
    (λ a. subst Real (append-nil t) (pointed_real t [] a nothing))
    (λ b.
    let parts = joins_parts is_pointed is_exponent t b in
    subst Real (sym parts.whole) (pointed_real parts.front parts.behind parts.first (exponent parts.second)))
    (or_cases (is_pointed t) (joins is_pointed is_exponent t) outer))
    (λ c.
    let parts = joins_parts is_digits is_exponent t c in
    subst Real (sym parts.whole) (no_point parts.front parts.behind parts.first (exponent parts.second) (exponent_filled parts.behind parts.second)))
    (or_cases (is_pointed t || joins is_pointed is_exponent t) (joins is_digits is_exponent t) h)

real_letter : (t : List ℕ) (c : ℕ) → is_real t ≡ true → is_one_of (codes "jJ") c ≡ true → Real (t ++ c ∷ [])
real_letter t c h k =
    ⊎_elim
    (λ outer.
    ⊎_elim
    (λ a. pointed_real t (c ∷ []) a (letter k))
    (λ b.
    let parts = joins_parts is_pointed is_exponent t b in
    let whole : t ++ c ∷ [] ≡ parts.front ++ (parts.behind ++ c ∷ []) = ap (λ z. z ++ c ∷ []) parts.whole ∙ append_assoc parts.front parts.behind (c ∷ []) in
    subst Real (sym whole) (pointed_real parts.front (parts.behind ++ c ∷ []) parts.first (both parts.behind c parts.second k)))
    (or_cases (is_pointed t) (joins is_pointed is_exponent t) outer))
    (λ d.
    let parts = joins_parts is_digits is_exponent t d in
    let whole : t ++ c ∷ [] ≡ parts.front ++ (parts.behind ++ c ∷ []) = ap (λ z. z ++ c ∷ []) parts.whole ∙ append_assoc parts.front parts.behind (c ∷ []) in
    let l = length-append parts.behind (c ∷ []) in
    subst Real (sym whole) (no_point parts.front (parts.behind ++ c ∷ []) parts.first (both parts.behind c parts.second k) (omega arith)))
    (or_cases (is_pointed t || joins is_pointed is_exponent t) (joins is_digits is_exponent t) h)

pub unsupported_parts : (t : List ℕ) → is_unsupported_number t ≡ true → Real t
unsupported_parts t h =
    ⊎_elim
    (λ outer.
    ⊎_elim
    (λ a. real_parts t a)
    (λ b.
    let parts = joins_parts is_real (one_of (codes "jJ")) t b in
    let j = one_parts (codes "jJ") parts.behind parts.second in
    subst Real (sym (parts.whole ∙ ap (λ z. parts.front ++ z) j.whole)) (real_letter parts.front j.point parts.first j.listed))
    (or_cases (is_real t) (joins is_real (one_of (codes "jJ")) t) outer))
    (λ c.
    let parts = joins_parts is_digits (one_of (codes "jJ")) t c in
    let j = one_parts (codes "jJ") parts.behind parts.second in
    subst Real (sym (parts.whole ∙ ap (λ z. parts.front ++ z) j.whole)) (no_point parts.front (j.point ∷ []) parts.first (letter j.listed) (lit< tt)))
    (or_cases (is_real t || joins is_real (one_of (codes "jJ")) t) (joins is_digits (one_of (codes "jJ")) t) h)

-- ---- what is read is a number

unsupported_real : (t : List ℕ) → is_real t ≡ true → is_unsupported_number t ≡ true
unsupported_real t h =
    or_left (is_real t || joins is_real (one_of (codes "jJ")) t) (joins is_digits (one_of (codes "jJ")) t) (or_left (is_real t) (joins is_real (one_of (codes "jJ")) t) h)

unsupported_letter : (t : List ℕ) (c : ℕ) → is_real t ≡ true → is_one_of (codes "jJ") c ≡ true → is_unsupported_number (t ++ c ∷ []) ≡ true
unsupported_letter t c h k =
    or_left (is_real (t ++ c ∷ []) || joins is_real (one_of (codes "jJ")) (t ++ c ∷ [])) (joins is_digits (one_of (codes "jJ")) (t ++ c ∷ []))
    (or_right (is_real (t ++ c ∷ [])) (joins is_real (one_of (codes "jJ")) (t ++ c ∷ [])) (joins_from is_real (one_of (codes "jJ")) t (c ∷ []) h k))

real_pointed : (p : List ℕ) → is_pointed p ≡ true → is_real p ≡ true
real_pointed p h = or_left (is_pointed p || joins is_pointed is_exponent p) (joins is_digits is_exponent p) (or_left (is_pointed p) (joins is_pointed is_exponent p) h)

real_pointed_exponent : (p e : List ℕ) → is_pointed p ≡ true → is_exponent e ≡ true → is_real (p ++ e) ≡ true
real_pointed_exponent p e h k =
    or_left (is_pointed (p ++ e) || joins is_pointed is_exponent (p ++ e)) (joins is_digits is_exponent (p ++ e))
    (or_right (is_pointed (p ++ e)) (joins is_pointed is_exponent (p ++ e)) (joins_from is_pointed is_exponent p e h k))

real_exponent : (d e : List ℕ) → is_digits d ≡ true → is_exponent e ≡ true → is_real (d ++ e) ≡ true
real_exponent d e h k =
    or_right (is_pointed (d ++ e) || joins is_pointed is_exponent (d ++ e)) (joins is_digits is_exponent (d ++ e)) (joins_from is_digits is_exponent d e h k)

pointed_with : (p : List ℕ) {t : List ℕ} → is_pointed p ≡ true → Tail t → is_unsupported_number (p ++ t) ≡ true
pointed_with p h nothing = ap is_unsupported_number (append-nil p) ∙ unsupported_real p (real_pointed p h)
pointed_with p h (letter {c} k) = unsupported_letter p c (real_pointed p h) k
pointed_with p h (exponent {e} k) = unsupported_real (p ++ e) (real_pointed_exponent p e h k)
pointed_with p h (both e c k l) =
    ap is_unsupported_number (sym (append_assoc p e (c ∷ []))) ∙ unsupported_letter (p ++ e) c (real_pointed_exponent p e h k) l

digits_with : (d : List ℕ) {t : List ℕ} → is_digits d ≡ true → Tail t → 0 < length t → is_unsupported_number (d ++ t) ≡ true
digits_with d h nothing l = absurd (omega arith)
digits_with d h (letter {c} k) l =
    or_right (is_real (d ++ c ∷ []) || joins is_real (one_of (codes "jJ")) (d ++ c ∷ [])) (joins is_digits (one_of (codes "jJ")) (d ++ c ∷ []))
    (joins_from is_digits (one_of (codes "jJ")) d (c ∷ []) h k)
digits_with d h (exponent {e} k) l = unsupported_real (d ++ e) (real_exponent d e h k)
digits_with d h (both e c k j) l =
    ap is_unsupported_number (sym (append_assoc d e (c ∷ []))) ∙ unsupported_letter (d ++ e) c (real_exponent d e h k) j

record Taken (points text : List ℕ) : Type 0 where
  point : ℕ
  rest : List ℕ
  whole : text ≡ point ∷ rest
  listed : is_one_of points point ≡ true

taken : (points text : List ℕ) → begins_with_one points text ≡ true → Taken points text
taken points [] h = cc
taken points (c ∷ text) h = record { point = c; rest = text; whole = refl; listed = h }

one_take : (points text : List ℕ) (t : Taken points text) → take (one_len points text) text ≡ t.point ∷ []
one_take points text t =
    ap (λ z. take (one_len points z) z) t.whole ∙ ap (λ n. take n (t.point ∷ t.rest)) (one_yes points t.point t.rest t.listed)

one_none : (points text : List ℕ) → begins_with_one points text ≡ false → one_len points text ≡ 0
one_none points text h = cond-false (begins_with_one points text) 1 0 h

exponent_or : (text : List ℕ) (n : ℕ) → exponent_len text ≡ n → (is_exponent (take n text) ≡ true) ⊎ (n ≡ 0)
exponent_or text zero e = inr refl
exponent_or text (suc n) e = inl (ap (λ m. is_exponent (take m text)) (sym e) ∙ exponent_take text (omega arith))

tail_made : (e j : List ℕ) → (is_exponent e ≡ true) ⊎ (e ≡ []) → ((c : ℕ) × (j ≡ c ∷ []) × (is_one_of (codes "jJ") c ≡ true)) ⊎ (j ≡ []) → Tail (e ++ j)
tail_made e j (inl h) (inl k) = subst (λ z. Tail (e ++ z)) (sym k.1) (both e k.0 h k.2)
tail_made e j (inl h) (inr k) = subst Tail (sym (append-nil e) ∙ ap (λ z. e ++ z) (sym k)) (exponent h)
tail_made e j (inr h) (inl k) = subst (λ z. Tail (z ++ j)) (sym h) (subst Tail (sym k.1) (letter k.2))
tail_made e j (inr h) (inr k) = subst (λ z. Tail (z ++ j)) (sym h) (subst Tail (sym k) nothing)

letter_or : (text : List ℕ) → ((c : ℕ) × (take (one_len (codes "jJ") text) text ≡ c ∷ []) × (is_one_of (codes "jJ") c ≡ true)) ⊎ (take (one_len (codes "jJ") text) text ≡ [])
letter_or text =
    ⊎_elim
    (λ h. let t = taken (codes "jJ") text h in inl (t.point, one_take (codes "jJ") text t, t.listed))
    (λ h. inr (ap (λ n. take n text) (one_none (codes "jJ") text h)))
    (cases_Bool (begins_with_one (codes "jJ") text))

tail_take : (text : List ℕ) → Tail (take (tail_len text) text)
tail_take text =
    subst Tail (sym (take_add (exponent_len text) (one_len (codes "jJ") (drop (exponent_len text) text)) text))
    (tail_made (take (exponent_len text) text) (take (one_len (codes "jJ") (drop (exponent_len text) text)) (drop (exponent_len text) text))
    (⊎_elim (λ h. inl h) (λ e. inr (ap (λ n. take n text) e)) (exponent_or text (exponent_len text) refl))
    (letter_or (drop (exponent_len text) text)))

-- behind a point that makes the front one with a point, with digits and without
fraction_take : (front text : List ℕ) → is_pointed (front ++ 46 ∷ []) ≡ true → ((b : List ℕ) → is_digits b ≡ true → is_pointed (front ++ (46 ∷ b)) ≡ true)
    → is_unsupported_number (front ++ (46 ∷ take (fraction_len text) text)) ≡ true
fraction_take front text bare more =
    let n = digits_len text in
    let t : List ℕ = take (tail_len (drop (digits_len text) text)) (drop (digits_len text) text) in
    let tail : Tail t = tail_take (drop n text) in
    let cut : take (fraction_len text) text ≡ take (digits_len text) text ++ t = take_add n (tail_len (drop n text)) text in
    ⊎_elim
    (λ (l : 0 < digits_len text).
    ap (λ z. is_unsupported_number (front ++ (46 ∷ z))) cut
    ∙ ap is_unsupported_number (sym (append_assoc front (46 ∷ take n text) t))
    ∙ pointed_with (front ++ (46 ∷ take n text)) (more (take n text) (digits_take text l)) tail)
    (λ (l : digits_len text ≤ 0).
    let zero_digits : digits_len text ≡ 0 = omega arith in
    ap (λ z. is_unsupported_number (front ++ (46 ∷ z))) (cut ∙ ap (λ k. take k text ++ t) zero_digits)
    ∙ ap is_unsupported_number (sym (append_assoc front (46 ∷ []) t))
    ∙ pointed_with (front ++ 46 ∷ []) bare tail)
    (cases_lt 0 (digits_len text))

pointed_bare : (d : List ℕ) → is_digits d ≡ true → is_pointed (d ++ 46 ∷ []) ≡ true
pointed_bare d h =
    or_left (joins is_digits (one_of (codes ".")) (d ++ 46 ∷ []) || joins is_digits (joins (one_of (codes ".")) is_digits) (d ++ 46 ∷ [])) (joins (one_of (codes ".")) is_digits (d ++ 46 ∷ []))
    (or_left (joins is_digits (one_of (codes ".")) (d ++ 46 ∷ [])) (joins is_digits (joins (one_of (codes ".")) is_digits) (d ++ 46 ∷ []))
    (joins_from is_digits (one_of (codes ".")) d (46 ∷ []) h refl))

pointed_more : (d b : List ℕ) → is_digits d ≡ true → is_digits b ≡ true → is_pointed (d ++ (46 ∷ b)) ≡ true
pointed_more d b h k =
    or_left (joins is_digits (one_of (codes ".")) (d ++ (46 ∷ b)) || joins is_digits (joins (one_of (codes ".")) is_digits) (d ++ (46 ∷ b))) (joins (one_of (codes ".")) is_digits (d ++ (46 ∷ b)))
    (or_right (joins is_digits (one_of (codes ".")) (d ++ (46 ∷ b))) (joins is_digits (joins (one_of (codes ".")) is_digits) (d ++ (46 ∷ b)))
    (joins_from is_digits (joins (one_of (codes ".")) is_digits) d (46 ∷ b) h (joins_from (one_of (codes ".")) is_digits (46 ∷ []) b refl k)))

pointed_first : (b : List ℕ) → is_digits b ≡ true → is_pointed (46 ∷ b) ≡ true
pointed_first b k =
    or_right (joins is_digits (one_of (codes ".")) (46 ∷ b) || joins is_digits (joins (one_of (codes ".")) is_digits) (46 ∷ b)) (joins (one_of (codes ".")) is_digits (46 ∷ b))
    (joins_from (one_of (codes ".")) is_digits (46 ∷ []) b refl k)

length_taken : (m : ℕ) (text : List ℕ) → 0 < m → 0 < length text → 0 < length (take m text)
length_taken zero text l k = l
length_taken (suc m) [] l k = k
length_taken (suc m) (c ∷ text) l k = omega arith

tail_filled : (text : List ℕ) → 0 < tail_len text → 0 < length text
tail_filled [] l = l
tail_filled (c ∷ text) l = omega arith

behind_take : (d text : List ℕ) → is_digits d ≡ true → 0 < behind_digits_len text → is_unsupported_number (d ++ take (behind_digits_len text) text) ≡ true
behind_take d text h l =
    ⊎_elim
    (λ k.
    let t = taken (codes ".") text k in
    let dot = listed_point t.point t.listed in
    let whole : text ≡ 46 ∷ t.rest = t.whole ∙ ap (λ z. z ∷ t.rest) dot in
    let long : behind_digits_len (46 ∷ t.rest) ≡ suc (fraction_len t.rest) = one_more (fraction_len t.rest) in
    ap (λ z. is_unsupported_number (d ++ take (behind_digits_len z) z)) whole
    ∙ ap (λ n. is_unsupported_number (d ++ take n (46 ∷ t.rest))) long
    ∙ fraction_take d t.rest (pointed_bare d h) (λ b k. pointed_more d b h k))
    (λ k.
    let e = cond-false (begins_with_one (codes ".") text) (1 + fraction_len (drop 1 text)) (tail_len text) k in
    ap (λ n. is_unsupported_number (d ++ take n text)) e
    ∙ digits_with d h (tail_take text) (length_taken (tail_len text) text (omega arith) (tail_filled text (omega arith))))
    (cases_Bool (begins_with_one (codes ".") text))

-- a number that begins with a digit
pub real_take : (c : ℕ) (text : List ℕ) → is_digit 10 c ≡ true → 0 < real_len (c ∷ text) → is_unsupported_number (take (real_len (c ∷ text)) (c ∷ text)) ≡ true
real_take c text digit l =
    let n = digits_len (c ∷ text) in
    let m = behind_digits_len (drop (digits_len (c ∷ text)) (c ∷ text)) in
    let is : real_len (c ∷ text) ≡ if_more (digits_len (c ∷ text)) (behind_digits_len (drop (digits_len (c ∷ text)) (c ∷ text))) =
    cond-false (c == 46) (cond (begins_with_digit 10 text) (1 + fraction_len text) 0) (if_more n m)
    (ne_eqb c 46 (λ e. let f : is_digit 10 46 ≡ true = ap (is_digit 10) (sym e) ∙ digit in cc)) in
    let some : 0 < behind_digits_len (drop (digits_len (c ∷ text)) (c ∷ text)) = if_more_some n m (subst (λ k. 0 < k) is l) in
    let first : 0 < digits_len (c ∷ text) =
    subst (λ k. 0 < k) (sym (cond-true (is_digit 10 c) (spaced_len 10 (c ∷ text)) 0 digit)) (digit_first 10 (c ∷ text) digit) in
    ap (λ k. is_unsupported_number (take k (c ∷ text))) (is ∙ if_more_is n m some)
    ∙ ap is_unsupported_number (take_add n m (c ∷ text))
    ∙ behind_take (take n (c ∷ text)) (drop n (c ∷ text)) (digits_take (c ∷ text) first) some

-- a number that begins with its point
pub point_take : (text : List ℕ) → begins_with_digit 10 text ≡ true → is_unsupported_number (take (real_len (46 ∷ text)) (46 ∷ text)) ≡ true
point_take text digit =
    let e : real_len (46 ∷ text) ≡ suc (fraction_len text) = cond-true (begins_with_digit 10 text) (1 + fraction_len text) 0 digit ∙ one_more (fraction_len text) in
    let some : 0 < digits_len text = subst (λ k. 0 < k) (sym (cond-true (begins_with_digit 10 text) (spaced_len 10 text) 0 digit)) (digit_first 10 text digit) in
    let n = digits_len text in
    let t : List ℕ = take (tail_len (drop (digits_len text) text)) (drop (digits_len text) text) in
    ap (λ k. is_unsupported_number (take k (46 ∷ text))) e
    ∙ ap (λ z. is_unsupported_number (46 ∷ z)) (take_add n (tail_len (drop n text)) text)
    ∙ pointed_with (46 ∷ take n text) (pointed_first (take n text) (digits_take text some)) (tail_take (drop n text))

digits_head : (d text : List ℕ) (c : ℕ) (more : List ℕ) → is_digits d ≡ true → d ++ text ≡ c ∷ more → is_digit 10 c ≡ true
digits_head [] text c more h e = cc
digits_head (x ∷ d) text c more h e =
    let same : x ≡ c = cc in
    ap (is_digit 10) (sym same) ∙ (and_parts (is_digit 10 x) (is_spaced 10 d) h).0

real_head : {t : List ℕ} → Real t → {c : ℕ} {more : List ℕ} → t ≡ c ∷ more → (is_digit 10 c ≡ true) ⊎ ((c ≡ 46) × (begins_with_digit 10 more ≡ true))
real_head (after_point d t h tail) {c} {more} e = inl (digits_head d (46 ∷ t) c more h e)
real_head (around_point d b t h k tail) {c} {more} e = inl (digits_head d (46 ∷ (b ++ t)) c more h e)
real_head (behind_point b t k tail) {c} {more} e =
    let same : 46 ≡ c = cc in
    let rest : b ++ t ≡ more = cc in
    inr (sym same, ap (begins_with_digit 10) (sym rest) ∙ digits_begin b t k)
real_head (no_point d t h tail l) {c} {more} e = inl (digits_head d t c more h e)

-- it begins with a digit, or with its point and then one
pub unsupported_head : (c : ℕ) (text : List ℕ) → is_unsupported_number (c ∷ text) ≡ true → (is_digit 10 c ≡ true) ⊎ ((c ≡ 46) × (begins_with_digit 10 text ≡ true))
unsupported_head c text h = real_head (unsupported_parts (c ∷ text) h) refl

-- ---- what is read is within the text

cond_within : (b : Bool) (x y n : ℕ) → x ≤ n → y ≤ n → cond b x y ≤ n
cond_within true x y n h k = h
cond_within false x y n h k = k

if_more_within : (n m : ℕ) → if_more n m ≤ n + m
if_more_within n zero = omega arith
if_more_within n (suc m) = omega arith

spaced_within : (base : ℕ) (text : List ℕ) → spaced_len base text ≤ length text
spaced_within base [] = omega arith
spaced_within base (c ∷ text) =
    let more = spaced_within base text in cond_within (has_digit base (c ∷ text)) (1 + spaced_len base text) 0 (length (c ∷ text)) (omega arith) (omega arith)

digits_within : (text : List ℕ) → digits_len text ≤ length text
digits_within text = cond_within (begins_with_digit 10 text) (spaced_len 10 text) 0 (length text) (spaced_within 10 text) (omega arith)

one_within : (points text : List ℕ) → one_len points text ≤ length text
one_within points [] = omega arith
one_within points (c ∷ text) = cond_within (is_one_of points c) 1 0 (length (c ∷ text)) (omega arith) (omega arith)

signed_within : (text : List ℕ) → signed_len text ≤ length text
signed_within text =
    let n = one_len (codes "+-") text in
    omega (arith, one_within (codes "+-") text, digits_within (drop n text), length-drop n text, if_more_within n (digits_len (drop n text)))

exponent_within : (text : List ℕ) → exponent_len text ≤ length text
exponent_within [] = omega arith
exponent_within (c ∷ text) =
    let s = signed_within text in
    let m = if_more_within 1 (signed_len text) in
    cond_within (is_one_of (codes "eE") c) (if_more 1 (signed_len text)) 0 (length (c ∷ text)) (omega arith) (omega arith)

tail_within : (text : List ℕ) → tail_len text ≤ length text
tail_within text =
    let n = exponent_len text in
    omega (arith, exponent_within text, one_within (codes "jJ") (drop n text), length-drop n text)

fraction_within : (text : List ℕ) → fraction_len text ≤ length text
fraction_within text =
    let n = digits_len text in
    omega (arith, digits_within text, tail_within (drop n text), length-drop n text)

behind_within : (text : List ℕ) → behind_digits_len text ≤ length text
behind_within [] = omega arith
behind_within (c ∷ text) =
    let f = fraction_within text in
    cond_within (is_one_of (codes ".") c) (1 + fraction_len text) (tail_len (c ∷ text)) (length (c ∷ text)) (omega arith) (tail_within (c ∷ text))

pub real_within : (text : List ℕ) → real_len text ≤ length text
real_within [] = omega arith
real_within (c ∷ text) =
    let n = digits_len (c ∷ text) in
    let f = fraction_within text in
    let b = behind_within (drop n (c ∷ text)) in
    let d = digits_within (c ∷ text) in
    let l = length-drop n (c ∷ text) in
    let m = if_more_within n (behind_digits_len (drop n (c ∷ text))) in
    cond_within (c == 46) (cond (begins_with_digit 10 text) (1 + fraction_len text) 0) (if_more n (behind_digits_len (drop n (c ∷ text)))) (length (c ∷ text))
    (cond_within (begins_with_digit 10 text) (1 + fraction_len text) 0 (length (c ∷ text)) (omega arith) (omega arith))
    (omega arith)
