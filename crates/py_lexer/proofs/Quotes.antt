-- Literals at the front of a text.
use Rattle.std.proofs.Common.{◌≡◌, ℕ, zero, suc, ◌+◌, ◌<◌, ◌≤◌, List, [], ◌∷◌, ◌++◌, length, take, drop, Bool, true, false, cond, ◌&&◌, ◌==◌, nat_le, Option, Some, None, is_some, ap, sym, ◌∙◌, refl, subst, ◌⊎◌, inl, inr, ⊎_elim, arith, lit<, lit≤}
use Rattle.std.specs.List.{list_all, prefix_len}
use Rattle.std.specs.Char.{digit_value}
use Rattle.std.proofs.lemmas.Bool.{cases_Bool, or_cases, and_parts, and_from, and_left, and_right, cond-true, cond-false, eqb-true, eq-eqb, ne_eqb, ltb-true, lt-ltb, false_from_ne_true}
use Rattle.std.proofs.lemmas.List.{take-take, take_at, take-append-drop, nil_from_length, length-take}
use Rattle.std.proofs.lemmas.List.Sums.{prefix_len-le-length}
use Rattle.py_scalars.specs.NumberForm.{is_digit}
use Rattle.py_scalars.specs.Search.{begins_with}
use Rattle.py_scalars.specs.TextForm.{escape_at, octal_escape, hex_escape, code_escape, scalar_behind, letter_escape, meant_or_kept, simple_escape, digit_count, is_scalar, content, after_escape, before_rest, text_of}
use Rattle.std.specs.Str.Parse.{digits_value_after}
use Rattle.py_scalars.proofs.SearchLemmas.{begins_with-take}
use Rattle.py_lexer.specs.Form.{is_quote, is_closed, is_quoted, is_literal}
use Rattle.py_lexer.specs.Scan.{closed_len, longer, or_else, quoted_len, if_literal, literal_len}
use Rattle.py_lexer.proofs.Lists.{run_passes}

-- ---- the loop

pub longer_more : (n : ℕ) (found : Option ℕ) → longer n (longer 1 found) ≡ longer (n + 1) found
longer_more n None = refl
longer_more n (Some m) = let e : n + (1 + m) ≡ n + 1 + m = omega arith in ap (λ k. Some k) e

pub closed_behind : (quotes text : List ℕ) (at : ℕ) → at < length text → closed_len quotes true (drop at text) ≡ longer 1 (closed_len quotes false (drop (at + 1) text))
closed_behind quotes [] at l = absurd (omega arith)
closed_behind quotes (c ∷ text) zero l = refl
closed_behind quotes (c ∷ text) (suc at) l =
    let e : suc at + 1 ≡ suc (at + 1) = omega arith in
    closed_behind quotes text at (omega arith) ∙ ap (λ n. longer 1 (closed_len quotes false (drop n (c ∷ text)))) (sym e)

longer_some : (n m : ℕ) (found : Option ℕ) → longer n found ≡ Some m → (k : ℕ) × (found ≡ Some k) × (m ≡ n + k)
longer_some n m None e = cc
longer_some n m (Some k) e = (k, refl, let same : n + k ≡ m = cc in sym same)

-- ---- beginnings

begins_more : (part text rest : List ℕ) → begins_with part text ≡ true → begins_with part (text ++ rest) ≡ true
begins_more [] text rest h = refl
begins_more (p ∷ part) [] rest h = cc
begins_more (p ∷ part) (c ∷ text) rest h =
    let both = and_parts (p == c) (begins_with part text) h in and_from (p == c) (begins_with part (text ++ rest)) both.0 (begins_more part text rest both.1)

begins_less : (part text rest : List ℕ) → begins_with part (text ++ rest) ≡ true → length part ≤ length text → begins_with part text ≡ true
begins_less [] text rest h l = refl
begins_less (p ∷ part) [] rest h l = absurd (omega arith)
begins_less (p ∷ part) (c ∷ text) rest h l =
    let both = and_parts (p == c) (begins_with part (text ++ rest)) h in and_from (p == c) (begins_with part text) both.0 (begins_less part text rest both.1 (omega arith))

begins_taken : (part text : List ℕ) (n : ℕ) → begins_with part (take n text) ≡ true → begins_with part text ≡ true
begins_taken part text n h = ap (begins_with part) (sym (take-append-drop n text)) ∙ begins_more part (take n text) (drop n text) h

begins_itself : (part : List ℕ) → begins_with part part ≡ true
begins_itself [] = refl
begins_itself (p ∷ part) = and_from (p == p) (begins_with part part) (eq-eqb p p refl) (begins_itself part)

-- ---- closing quotes

one_more : (n : ℕ) → 1 + n ≡ suc n
one_more n = omega arith

closed_itself : (quotes : List ℕ) → 0 < length quotes → is_closed quotes false quotes ≡ true
closed_itself [] l = absurd (omega arith)
closed_itself (q ∷ qs) l =
    cond-true (begins_with (q ∷ qs) (q ∷ qs)) (length qs + 1 == suc (length qs)) (cond ((q == 10) && (length (q ∷ qs) == 1)) false (is_closed (q ∷ qs) (q == 92) qs)) (begins_itself (q ∷ qs))
    ∙ eq-eqb (length qs + 1) (suc (length qs)) (omega arith)

module _ (quotes : List ℕ) where
  -- what the definition and the scanner do at a code point
  abbrev closed_at : ℕ → List ℕ → Bool
  closed_at c text = cond ((c == 10) && (length quotes == 1)) false (is_closed quotes (c == 92) text)

  abbrev len_at : ℕ → List ℕ → Option ℕ
  len_at c text = cond ((c == 10) && (length quotes == 1)) None (longer 1 (closed_len quotes (c == 92) text))

  pub closed_long : (behind : Bool) (t : List ℕ) → is_closed quotes behind t ≡ true → length quotes ≤ length t
  closed_long behind [] h = cc
  closed_long true (c ∷ t) h = let l = closed_long false t h in omega arith
  closed_long false (c ∷ t) h =
      ⊎_elim
      (λ b.
      let e = eqb-true (length t + 1) (length quotes) (sym (cond-true (begins_with quotes (c ∷ t)) (length t + 1 == length quotes) (closed_at c t) b) ∙ h) in
      omega arith)
      (λ b.
      let k : closed_at c t ≡ true = sym (cond-false (begins_with quotes (c ∷ t)) (length t + 1 == length quotes) (closed_at c t) b) ∙ h in
      ⊎_elim
      (λ n. let f : false ≡ true = sym (cond-true ((c == 10) && (length quotes == 1)) false (is_closed quotes (c == 92) t) n) ∙ k in cc)
      (λ n. let l = closed_long (c == 92) t (sym (cond-false ((c == 10) && (length quotes == 1)) false (is_closed quotes (c == 92) t) n) ∙ k) in omega arith)
      (cases_Bool ((c == 10) && (length quotes == 1))))
      (cases_Bool (begins_with quotes (c ∷ t)))

  pub closed_exact : (behind : Bool) (t rest : List ℕ) → is_closed quotes behind t ≡ true → closed_len quotes behind (t ++ rest) ≡ Some (length t)
  closed_exact behind [] rest h = cc
  closed_exact true (c ∷ t) rest h = ap (longer 1) (closed_exact false t rest h) ∙ ap (λ n. Some n) (one_more (length t))
  closed_exact false (c ∷ t) rest h =
      ⊎_elim
      (λ b.
      let e = eqb-true (length t + 1) (length quotes) (sym (cond-true (begins_with quotes (c ∷ t)) (length t + 1 == length quotes) (closed_at c t) b) ∙ h) in
      let n : length quotes ≡ suc (length t) = omega arith in
      cond-true (begins_with quotes (c ∷ (t ++ rest))) (Some (length quotes)) (len_at c (t ++ rest)) (begins_more quotes (c ∷ t) rest b) ∙ ap (λ n. Some n) n)
      (λ b.
      let k : closed_at c t ≡ true = sym (cond-false (begins_with quotes (c ∷ t)) (length t + 1 == length quotes) (closed_at c t) b) ∙ h in
      let long = closed_long false (c ∷ t) h in
      let no : begins_with quotes (c ∷ (t ++ rest)) ≡ false =
      false_from_ne_true (begins_with quotes (c ∷ (t ++ rest))) (λ y. let z = begins_less quotes (c ∷ t) rest y long in cc) in
      ⊎_elim
      (λ n. let f : false ≡ true = sym (cond-true ((c == 10) && (length quotes == 1)) false (is_closed quotes (c == 92) t) n) ∙ k in cc)
      (λ n.
      cond-false (begins_with quotes (c ∷ (t ++ rest))) (Some (length quotes)) (len_at c (t ++ rest)) no
      ∙ cond-false ((c == 10) && (length quotes == 1)) None (longer 1 (closed_len quotes (c == 92) (t ++ rest))) n
      ∙ ap (longer 1) (closed_exact (c == 92) t rest (sym (cond-false ((c == 10) && (length quotes == 1)) false (is_closed quotes (c == 92) t) n) ∙ k))
      ∙ ap (λ n. Some n) (one_more (length t)))
      (cases_Bool ((c == 10) && (length quotes == 1))))
      (cases_Bool (begins_with quotes (c ∷ t)))

  pub record Closed (behind : Bool) (text : List ℕ) (n : ℕ) : Type 0 where
    pub within : n ≤ length text
    pub closed : is_closed quotes behind (take n text) ≡ true

  closed_next : (behind : Bool) (c : ℕ) (text : List ℕ) (m n : ℕ) → Closed behind text m → n ≡ 1 + m → ((t : List ℕ) → is_closed quotes behind (take m text) ≡ true → is_closed quotes false (c ∷ take m text) ≡ true) → Closed false (c ∷ text) n
  closed_next behind c text m n k e f =
      let long : n ≡ suc m = omega arith in
      record { within = let w = k.within in omega arith; closed = ap (λ z. is_closed quotes false (take z (c ∷ text))) long ∙ f text k.closed }

  pub closed_take : (filled : 0 < length quotes) (behind : Bool) (text : List ℕ) (n : ℕ) → closed_len quotes behind text ≡ Some n → Closed behind text n
  closed_take filled behind [] n e = cc
  closed_take filled true (c ∷ text) n e =
      let s = longer_some 1 n (closed_len quotes false text) e in
      let k = closed_take filled false text s.0 s.1 in
      let long : n ≡ suc s.0 = s.2 ∙ one_more s.0 in
      record { within = let w = k.within in omega arith; closed = ap (λ z. is_closed quotes true (take z (c ∷ text))) long ∙ k.closed }
  closed_take filled false (c ∷ text) n e =
      ⊎_elim
      (λ b.
      let is : Some (length quotes) ≡ Some n = sym (cond-true (begins_with quotes (c ∷ text)) (Some (length quotes)) (len_at c text) b) ∙ e in
      let long : length quotes ≡ n = cc in
      let t = begins_with-take quotes (c ∷ text) b in
      record {
        within = let w = t.0 in omega arith;
        closed = ap (λ z. is_closed quotes false (take z (c ∷ text))) (sym long) ∙ ap (is_closed quotes false) t.1 ∙ closed_itself quotes filled;
      })
      (λ b.
      let k : len_at c text ≡ Some n = sym (cond-false (begins_with quotes (c ∷ text)) (Some (length quotes)) (len_at c text) b) ∙ e in
      ⊎_elim
      (λ (l : ((c == 10) && (length quotes == 1)) ≡ true). let f : None ≡ Some n = sym (cond-true ((c == 10) && (length quotes == 1)) None (longer 1 (closed_len quotes (c == 92) text)) l) ∙ k in cc)
      (λ (l : ((c == 10) && (length quotes == 1)) ≡ false).
      let s = longer_some 1 n (closed_len quotes (c == 92) text) (sym (cond-false ((c == 10) && (length quotes == 1)) None (longer 1 (closed_len quotes (c == 92) text)) l) ∙ k) in
      closed_next (c == 92) c text s.0 n (closed_take filled (c == 92) text s.0 s.1) s.2 (λ t h.
      let no : begins_with quotes (c ∷ take s.0 text) ≡ false =
      false_from_ne_true (begins_with quotes (c ∷ take s.0 text)) (λ y. let z = begins_taken quotes (c ∷ text) (suc s.0) y in cc) in
      cond-false (begins_with quotes (c ∷ take s.0 text)) (length (take s.0 text) + 1 == length quotes) (closed_at c (take s.0 text)) no
      ∙ cond-false ((c == 10) && (length quotes == 1)) false (is_closed quotes (c == 92) (take s.0 text)) l ∙ h))
      (cases_Bool ((c == 10) && (length quotes == 1))))
      (cases_Bool (begins_with quotes (c ∷ text)))

-- ---- a literal with no test of its escapes

-- one quote closed by the next: the text has two code points
two_long : (q : ℕ) (t rest : List ℕ) → is_closed (q ∷ []) false t ≡ true → begins_with (q ∷ q ∷ []) (t ++ rest) ≡ true → t ≡ q ∷ []
two_long q [] rest h b = cc
two_long q (x ∷ t) rest h b =
    let same = (and_parts (q == x) (begins_with (q ∷ []) (t ++ rest)) b).0 in
    let yes : begins_with (q ∷ []) (x ∷ t) ≡ true = and_from (q == x) true same refl in
    let e = eqb-true (length t + 1) 1 (sym (cond-true (begins_with (q ∷ []) (x ∷ t)) (length t + 1 == 1) (closed_at (q ∷ []) x t) yes) ∙ h) in
    let none : t ≡ [] = nil_from_length t (omega arith) in
    ap (λ z. x ∷ z) none ∙ ap (λ z. z ∷ []) (sym (eqb-true q x same))

-- three quotes, and behind them a text
record Three (q : ℕ) (text : List ℕ) : Type 0 where
  rest : List ℕ
  whole : text ≡ q ∷ q ∷ rest

three : (q : ℕ) (text : List ℕ) → begins_with (q ∷ q ∷ []) text ≡ true → Three q text
three q [] h = cc
three q (a ∷ []) h = let both = and_parts (q == a) false h in let f = both.1 in cc
three q (a ∷ b ∷ text) h =
    let both = and_parts (q == a) ((q == b) && true) h in
    let second = and_parts (q == b) true both.1 in
    record { rest = text; whole = ap (λ z. z ∷ b ∷ text) (sym (eqb-true q a both.0)) ∙ ap (λ z. q ∷ z ∷ text) (sym (eqb-true q b second.0)) }

three_begin : (q : ℕ) (text : List ℕ) → begins_with (q ∷ q ∷ []) (q ∷ q ∷ text) ≡ true
three_begin q text = begins_more (q ∷ q ∷ []) (q ∷ q ∷ []) text (begins_itself (q ∷ q ∷ []))

-- what is found of a literal: as long as it is, or longer
pub record Found (found : Option ℕ) (n : ℕ) : Type 0 where
  pub long : ℕ
  pub is : found ≡ Some long
  pub least : n ≤ long

or_else_two : (found : Option ℕ) → ((m : ℕ) → found ≡ Some m → 2 ≤ m) → Found (or_else found (Some 2)) 2
or_else_two None h = record { long = 2; is = refl; least = lit≤ tt }
or_else_two (Some m) h = record { long = m; is = refl; least = h m refl }

found_from : (found : Option ℕ) (n : ℕ) → found ≡ Some n → Found found n
found_from found n e = record { long = n; is = e; least = omega arith }

found_by : (found other : Option ℕ) (n : ℕ) → found ≡ other → Found other n → Found found n
found_by found other n e f = record { long = f.long; is = e ∙ f.is; least = f.least }

three_least : (found : Option ℕ) (m : ℕ) → longer 3 found ≡ Some m → 2 ≤ m
three_least found m e = let s = longer_some 3 m found e in let l = s.2 in omega arith

quoted_of : (q : ℕ) (text : List ℕ) → is_quote q ≡ true
    → quoted_len (q ∷ text) ≡ cond (begins_with (q ∷ q ∷ []) text) (or_else (longer 3 (closed_len (q ∷ q ∷ q ∷ []) false (drop 2 text))) (Some 2)) (longer 1 (closed_len (q ∷ []) false text))
quoted_of q text h = cond-true (is_quote q) (cond (begins_with (q ∷ q ∷ []) text) (or_else (longer 3 (closed_len (q ∷ q ∷ q ∷ []) false (drop 2 text))) (Some 2)) (longer 1 (closed_len (q ∷ []) false text))) None h

pub quoted_exact : (t rest : List ℕ) → is_quoted t ≡ true → Found (quoted_len (t ++ rest)) (length t)
quoted_exact [] rest h = cc
quoted_exact (q ∷ t) rest h =
    let both = and_parts (is_quote q) (cond (begins_with (q ∷ q ∷ []) t) (is_closed (q ∷ q ∷ q ∷ []) false (drop 2 t)) (is_closed (q ∷ []) false t)) h in
    let of = quoted_of q (t ++ rest) both.0 in
    ⊎_elim
    (λ (b : begins_with (q ∷ q ∷ []) t ≡ true).
    let w = three q t b in
    let k : is_closed (q ∷ q ∷ q ∷ []) false (drop 2 t) ≡ true = sym (cond-true (begins_with (q ∷ q ∷ []) t) (is_closed (q ∷ q ∷ q ∷ []) false (drop 2 t)) (is_closed (q ∷ []) false t) b) ∙ both.1 in
    let k' : is_closed (q ∷ q ∷ q ∷ []) false w.rest ≡ true = ap (λ z. is_closed (q ∷ q ∷ q ∷ []) false (drop 2 z)) (sym w.whole) ∙ k in
    let long : length (q ∷ t) ≡ 3 + length w.rest = ap (λ z. length (q ∷ z)) w.whole ∙ omega arith in
    found_from (quoted_len (q ∷ (t ++ rest))) (length (q ∷ t))
    (of
    ∙ cond-true (begins_with (q ∷ q ∷ []) (t ++ rest)) (or_else (longer 3 (closed_len (q ∷ q ∷ q ∷ []) false (drop 2 (t ++ rest)))) (Some 2)) (longer 1 (closed_len (q ∷ []) false (t ++ rest))) (begins_more (q ∷ q ∷ []) t rest b)
    ∙ ap (λ z. or_else (longer 3 (closed_len (q ∷ q ∷ q ∷ []) false (drop 2 (z ++ rest)))) (Some 2)) w.whole
    ∙ ap (λ z. or_else (longer 3 z) (Some 2)) (closed_exact (q ∷ q ∷ q ∷ []) false w.rest rest k')
    ∙ ap (λ n. Some n) (sym long)))
    (λ (b : begins_with (q ∷ q ∷ []) t ≡ false).
    let k : is_closed (q ∷ []) false t ≡ true = sym (cond-false (begins_with (q ∷ q ∷ []) t) (is_closed (q ∷ q ∷ q ∷ []) false (drop 2 t)) (is_closed (q ∷ []) false t) b) ∙ both.1 in
    ⊎_elim
    (λ (y : begins_with (q ∷ q ∷ []) (t ++ rest) ≡ true).
    let two = two_long q t rest k y in
    subst (λ n. Found (quoted_len (q ∷ (t ++ rest))) n) (sym (ap (λ z. length (q ∷ z)) two))
    (found_by (quoted_len (q ∷ (t ++ rest))) (or_else (longer 3 (closed_len (q ∷ q ∷ q ∷ []) false (drop 2 (t ++ rest)))) (Some 2)) 2
    (of ∙ cond-true (begins_with (q ∷ q ∷ []) (t ++ rest)) (or_else (longer 3 (closed_len (q ∷ q ∷ q ∷ []) false (drop 2 (t ++ rest)))) (Some 2)) (longer 1 (closed_len (q ∷ []) false (t ++ rest))) y)
    (or_else_two (longer 3 (closed_len (q ∷ q ∷ q ∷ []) false (drop 2 (t ++ rest)))) (λ m e. three_least (closed_len (q ∷ q ∷ q ∷ []) false (drop 2 (t ++ rest))) m e))))
    (λ (y : begins_with (q ∷ q ∷ []) (t ++ rest) ≡ false).
    found_from (quoted_len (q ∷ (t ++ rest))) (length (q ∷ t))
    (of ∙ cond-false (begins_with (q ∷ q ∷ []) (t ++ rest)) (or_else (longer 3 (closed_len (q ∷ q ∷ q ∷ []) false (drop 2 (t ++ rest)))) (Some 2)) (longer 1 (closed_len (q ∷ []) false (t ++ rest))) y
    ∙ ap (longer 1) (closed_exact (q ∷ []) false t rest k) ∙ ap (λ n. Some n) (one_more (length t))))
    (cases_Bool (begins_with (q ∷ q ∷ []) (t ++ rest))))
    (cases_Bool (begins_with (q ∷ q ∷ []) t))

-- a front of a text, and what is true of it
pub record Front (P : List ℕ → Type 0) (text : List ℕ) (n : ℕ) : Type 0 where
  pub within : n ≤ length text
  pub is : P (take n text)

or_else_cases : (found : Option ℕ) (n : ℕ) → or_else found (Some 2) ≡ Some n → (found ≡ Some n) ⊎ (n ≡ 2)
or_else_cases None n e = let same : 2 ≡ n = cc in inr (sym same)
or_else_cases (Some m) n e = inl e

abbrev pub IsQuoted : List ℕ → Type 0
IsQuoted t = is_quoted t ≡ true

two_quoted : (q : ℕ) → is_quote q ≡ true → is_quoted (q ∷ q ∷ []) ≡ true
two_quoted q h =
    and_from (is_quote q) (cond (begins_with (q ∷ q ∷ []) (q ∷ [])) (is_closed (q ∷ q ∷ q ∷ []) false []) (is_closed (q ∷ []) false (q ∷ []))) h
    (cond-false (begins_with (q ∷ q ∷ []) (q ∷ [])) (is_closed (q ∷ q ∷ q ∷ []) false []) (is_closed (q ∷ []) false (q ∷ [])) (and_right (q == q) false refl)
    ∙ closed_itself (q ∷ []) (lit< tt))

triple_quoted : (q : ℕ) (t : List ℕ) → is_quote q ≡ true → is_closed (q ∷ q ∷ q ∷ []) false t ≡ true → is_quoted (q ∷ q ∷ q ∷ t) ≡ true
triple_quoted q t h k =
    and_from (is_quote q) (cond (begins_with (q ∷ q ∷ []) (q ∷ q ∷ t)) (is_closed (q ∷ q ∷ q ∷ []) false t) (is_closed (q ∷ []) false (q ∷ q ∷ t))) h
    (cond-true (begins_with (q ∷ q ∷ []) (q ∷ q ∷ t)) (is_closed (q ∷ q ∷ q ∷ []) false t) (is_closed (q ∷ []) false (q ∷ q ∷ t)) (three_begin q t) ∙ k)

single_quoted : (q : ℕ) (t : List ℕ) → is_quote q ≡ true → begins_with (q ∷ q ∷ []) t ≡ false → is_closed (q ∷ []) false t ≡ true → is_quoted (q ∷ t) ≡ true
single_quoted q t h b k =
    and_from (is_quote q) (cond (begins_with (q ∷ q ∷ []) t) (is_closed (q ∷ q ∷ q ∷ []) false (drop 2 t)) (is_closed (q ∷ []) false t)) h
    (cond-false (begins_with (q ∷ q ∷ []) t) (is_closed (q ∷ q ∷ q ∷ []) false (drop 2 t)) (is_closed (q ∷ []) false t) b ∙ k)

triple_front : (q : ℕ) (rest : List ℕ) (n : ℕ) → is_quote q ≡ true → longer 3 (closed_len (q ∷ q ∷ q ∷ []) false rest) ≡ Some n → Front IsQuoted (q ∷ q ∷ q ∷ rest) n
triple_front q rest n h e =
    let s = longer_some 3 n (closed_len (q ∷ q ∷ q ∷ []) false rest) e in
    let k = closed_take (q ∷ q ∷ q ∷ []) (lit< tt) false rest s.0 s.1 in
    let long : n ≡ suc (suc (suc s.0)) = let l = s.2 in omega arith in
    record {
      within = let w = k.within in omega arith;
      is = ap (λ m. is_quoted (take m (q ∷ q ∷ q ∷ rest))) long ∙ triple_quoted q (take s.0 rest) h k.closed;
    }

two_front : (q : ℕ) (rest : List ℕ) (n : ℕ) → is_quote q ≡ true → n ≡ 2 → Front IsQuoted (q ∷ q ∷ q ∷ rest) n
two_front q rest n h e = record { within = omega arith; is = ap (λ m. is_quoted (take m (q ∷ q ∷ q ∷ rest))) e ∙ two_quoted q h }

single_front : (q : ℕ) (text : List ℕ) (n : ℕ) → is_quote q ≡ true → begins_with (q ∷ q ∷ []) text ≡ false → longer 1 (closed_len (q ∷ []) false text) ≡ Some n → Front IsQuoted (q ∷ text) n
single_front q text n h b e =
    let s = longer_some 1 n (closed_len (q ∷ []) false text) e in
    let k = closed_take (q ∷ []) (lit< tt) false text s.0 s.1 in
    let long : n ≡ suc s.0 = let l = s.2 in omega arith in
    let no : begins_with (q ∷ q ∷ []) (take s.0 text) ≡ false = false_from_ne_true (begins_with (q ∷ q ∷ []) (take s.0 text)) (λ y. let z = begins_taken (q ∷ q ∷ []) text s.0 y in cc) in
    record {
      within = let w = k.within in omega arith;
      is = ap (λ m. is_quoted (take m (q ∷ text))) long ∙ single_quoted q (take s.0 text) h no k.closed;
    }

pub quoted_take : (text : List ℕ) (n : ℕ) → quoted_len text ≡ Some n → Front IsQuoted text n
quoted_take [] n e = cc
quoted_take (q ∷ text) n e =
    ⊎_elim
    (λ h.
    let of = sym (quoted_of q text h) ∙ e in
    ⊎_elim
    (λ (b : begins_with (q ∷ q ∷ []) text ≡ true).
    let w = three q text b in
    let k : or_else (longer 3 (closed_len (q ∷ q ∷ q ∷ []) false (drop 2 text))) (Some 2) ≡ Some n =
    sym (cond-true (begins_with (q ∷ q ∷ []) text) (or_else (longer 3 (closed_len (q ∷ q ∷ q ∷ []) false (drop 2 text))) (Some 2)) (longer 1 (closed_len (q ∷ []) false text)) b) ∙ of in
    let k' : or_else (longer 3 (closed_len (q ∷ q ∷ q ∷ []) false w.rest)) (Some 2) ≡ Some n =
    ap (λ z. or_else (longer 3 (closed_len (q ∷ q ∷ q ∷ []) false (drop 2 z))) (Some 2)) (sym w.whole) ∙ k in
    subst (λ z. Front IsQuoted (q ∷ z) n) (sym w.whole)
    (⊎_elim (λ f. triple_front q w.rest n h f) (λ two. two_front q w.rest n h two) (or_else_cases (longer 3 (closed_len (q ∷ q ∷ q ∷ []) false w.rest)) n k')))
    (λ (b : begins_with (q ∷ q ∷ []) text ≡ false).
    single_front q text n h b
    (sym (cond-false (begins_with (q ∷ q ∷ []) text) (or_else (longer 3 (closed_len (q ∷ q ∷ q ∷ []) false (drop 2 text))) (Some 2)) (longer 1 (closed_len (q ∷ []) false text)) b) ∙ of))
    (cases_Bool (begins_with (q ∷ q ∷ []) text)))
    (λ h.
    let f : None ≡ Some n = sym (cond-false (is_quote q) (cond (begins_with (q ∷ q ∷ []) text) (or_else (longer 3 (closed_len (q ∷ q ∷ q ∷ []) false (drop 2 text))) (Some 2)) (longer 1 (closed_len (q ∷ []) false text))) None h) ∙ e in cc)
    (cases_Bool (is_quote q))

-- ---- a literal with its escapes is one without the test

abbrev pub is_hex : ℕ → Bool
is_hex c = is_digit 16 c

-- what an escape takes behind its first code point are hexadecimal digits
pub record Escape (text : List ℕ) (n : ℕ) : Type 0 where
  pub more : ℕ
  pub long : n ≡ suc more
  pub digits : list_all is_hex (take more text) ≡ true

octal_hex : (c : ℕ) → is_digit 8 c ≡ true → is_hex c ≡ true
octal_hex c h = let l = ltb-true (digit_value c) 8 h in lt-ltb (digit_value c) 16 (omega arith)

all_octal_hex : (text : List ℕ) → list_all (is_digit 8) text ≡ true → list_all is_hex text ≡ true
all_octal_hex [] h = refl
all_octal_hex (c ∷ text) h =
    let both = and_parts (is_digit 8 c) (list_all (is_digit 8) text) h in and_from (is_hex c) (list_all is_hex text) (octal_hex c both.0) (all_octal_hex text both.1)

octal_digits : (c : ℕ) (text : List ℕ) → is_digit 8 c ≡ true → Escape text (digit_count 8 3 (c ∷ text))
octal_digits c text h =
    let n = prefix_len (is_digit 8) (take 2 text) in
    let long : digit_count 8 3 (c ∷ text) ≡ suc (prefix_len (is_digit 8) (take 2 text)) = cond-true (is_digit 8 c) (1 + n) 0 h ∙ one_more n in
    let few : prefix_len (is_digit 8) (take 2 text) ≤ 2 = omega (arith, prefix_len-le-length (is_digit 8) (take 2 text), length-take 2 text) in
    record {
      more = n;
      long = long;
      digits = all_octal_hex (take n text) (ap (list_all (is_digit 8)) (sym (take-take n 2 text few)) ∙ run_passes (is_digit 8) (take 2 text));
    }

hex_digits : (n : ℕ) (text : List ℕ) (e : ℕ × List ℕ) → hex_escape n text ≡ Some e → Escape text e.0
hex_digits n text e h =
    ⊎_elim
    (λ l.
    let k : code_escape n (scalar_behind 0 (take n text)) ≡ Some e = sym (cond-true (nat_le n (length text)) (code_escape n (scalar_behind 0 (take n text))) None l) ∙ h in
    ⊎_elim
    (λ s.
    let both = and_parts (list_all is_hex (take n text)) (is_scalar (digits_value_after 16 0 (take n text))) s in
    let m : Some (suc n, digits_value_after 16 0 (take n text) ∷ []) ≡ Some e =
    sym (ap (code_escape n) (cond-true (list_all is_hex (take n text) && is_scalar (digits_value_after 16 0 (take n text))) (Some (digits_value_after 16 0 (take n text))) None s)) ∙ k in
    let same : (suc n, digits_value_after 16 0 (take n text) ∷ []) ≡ e = cc in
    record { more = n; long = sym (ap (λ z. z.0) same); digits = both.0 })
    (λ s.
    let m : None ≡ Some e = sym (ap (code_escape n) (cond-false (list_all is_hex (take n text) && is_scalar (digits_value_after 16 0 (take n text))) (Some (digits_value_after 16 0 (take n text))) None s)) ∙ k in cc)
    (cases_Bool (list_all is_hex (take n text) && is_scalar (digits_value_after 16 0 (take n text)))))
    (λ l. let f : None ≡ Some e = sym (cond-false (nat_le n (length text)) (code_escape n (scalar_behind 0 (take n text))) None l) ∙ h in cc)
    (cases_Bool (nat_le n (length text)))

letter_digits : (c : ℕ) (text : List ℕ) (rest : List ℕ) → Escape text (cond {A = ℕ × List ℕ} (c == 10) (1, []) (1, rest)).0
letter_digits c text rest =
    ⊎_elim
    (λ e. record { more = 0; long = ap (λ z. z.0) (cond-true {A = ℕ × List ℕ} (c == 10) (1, []) (1, rest) e); digits = refl })
    (λ e. record { more = 0; long = ap (λ z. z.0) (cond-false {A = ℕ × List ℕ} (c == 10) (1, []) (1, rest) e); digits = refl })
    (cases_Bool (c == 10))

pub chosen : {A : Type 0} (b : Bool) (x y z : A) → cond b x y ≡ z → ((b ≡ true) × (x ≡ z)) ⊎ ((b ≡ false) × (y ≡ z))
chosen true x y z e = inl (refl, e)
chosen false x y z e = inr (refl, e)

pub same_some : {A : Type 0} {x y : A} → Some x ≡ Some y → x ≡ y
same_some e = cc

escape_other : (c : ℕ) (text : List ℕ) (e : ℕ × List ℕ) → cond (c == 78) None (Some (letter_escape c)) ≡ Some e → Escape text e.0
escape_other c text e h =
    elim (chosen (c == 78) None (Some (letter_escape c)) (Some e) h) [
      | inl p ↦ let f = p.1 in cc
      | inr p ↦ subst (λ z. Escape text z.0) (same_some p.1) (letter_digits c text (meant_or_kept c (simple_escape c)))
    ]

escape_letter : (c : ℕ) (text : List ℕ) (e : ℕ × List ℕ) → cond (c == 120) (hex_escape 2 text) (cond (c == 117) (hex_escape 4 text) (cond (c == 85) (hex_escape 8 text) (cond (c == 78) None (Some (letter_escape c))))) ≡ Some e → Escape text e.0
escape_letter c text e h =
    elim (chosen (c == 120) (hex_escape 2 text) (cond (c == 117) (hex_escape 4 text) (cond (c == 85) (hex_escape 8 text) (cond (c == 78) None (Some (letter_escape c))))) (Some e) h) [
      | inl p ↦ hex_digits 2 text e p.1
      | inr p ↦ elim (chosen (c == 117) (hex_escape 4 text) (cond (c == 85) (hex_escape 8 text) (cond (c == 78) None (Some (letter_escape c)))) (Some e) p.1) [
        | inl q ↦ hex_digits 4 text e q.1
        | inr q ↦ elim (chosen (c == 85) (hex_escape 8 text) (cond (c == 78) None (Some (letter_escape c))) (Some e) q.1) [
          | inl r ↦ hex_digits 8 text e r.1
          | inr r ↦ escape_other c text e r.1
        ]
      ]
    ]

pub escape_digits : (c : ℕ) (text : List ℕ) (e : ℕ × List ℕ) → escape_at (c ∷ text) ≡ Some e → Escape text e.0
escape_digits c text e h =
    elim (chosen (is_digit 8 c) (octal_escape (c ∷ text)) (cond (c == 120) (hex_escape 2 text) (cond (c == 117) (hex_escape 4 text) (cond (c == 85) (hex_escape 8 text) (cond (c == 78) None (Some (letter_escape c)))))) (Some e) h) [
      | inl p ↦ subst (λ z. Escape text z.0) (same_some p.1) (octal_digits c text p.0)
      | inr p ↦ escape_letter c text e p.1
    ]

ends : (b : Bool) (w : List ℕ) → (let none : List ℕ = [] in cond b (Some none) None ≡ Some w) → b ≡ true
ends true w e = refl
ends false w e = cc

some_of : (found : Option (List ℕ)) → is_some found ≡ true → (w : List ℕ) × (found ≡ Some w)
some_of None h = cc
some_of (Some w) h = (w, refl)

before_some : (what : List ℕ) (rest : Option (List ℕ)) (w : List ℕ) → before_rest what rest ≡ Some w → (v : List ℕ) × (rest ≡ Some v)
before_some what None w e = cc
before_some what (Some v) w e = (v, refl)

-- an escape that was read, and the content behind it
record Escaped (text : List ℕ) (reads : ℕ → Option (List ℕ)) : Type 0 where
  more : ℕ
  letter : ℕ
  rest : List ℕ
  after : List ℕ
  whole : text ≡ letter ∷ rest
  content : reads (suc more) ≡ Some after
  digits : list_all is_hex (take more rest) ≡ true

escape_with : (c : ℕ) (text : List ℕ) (content : ℕ → Option (List ℕ)) (w : List ℕ) (e : Option (ℕ × List ℕ)) → escape_at (c ∷ text) ≡ e → after_escape e content ≡ Some w → Escaped (c ∷ text) content
escape_with c text content w None e h = cc
escape_with c text content w (Some x) e h =
    let d = escape_digits c text x e in
    let m = before_some x.1 (content x.0) w h in
    record { more = d.more; letter = c; rest = text; after = m.0; whole = refl; content = ap content (sym d.long) ∙ m.1; digits = d.digits }

escape_some : (text : List ℕ) (content : ℕ → Option (List ℕ)) (w : List ℕ) → after_escape (escape_at text) content ≡ Some w → Escaped text content
escape_some [] content w h = cc
escape_some (c ∷ text) content w h = escape_with c text content w (escape_at (c ∷ text)) refl h

module _ (q : ℕ) (qs : List ℕ) (is : is_quote q ≡ true) where
  -- a hexadecimal digit is neither the quote nor a backslash nor a line end
  digit_passed : (c : ℕ) (text : List ℕ) → is_hex c ≡ true → is_closed (q ∷ qs) false text ≡ true → is_closed (q ∷ qs) false (c ∷ text) ≡ true
  digit_passed c text h k =
      let no_quote : (q == c) ≡ false = ne_eqb q c (λ e.
      elim (or_cases (q == 39) (q == 34) is) [
        | inl p ↦ let f : is_hex 39 ≡ true = ap is_hex (sym (eqb-true q 39 p) ∙ e) ∙ h in cc
        | inr p ↦ let f : is_hex 34 ≡ true = ap is_hex (sym (eqb-true q 34 p) ∙ e) ∙ h in cc
      ]) in
      let no_end : (c == 10) ≡ false = ne_eqb c 10 (λ e. let f : is_hex 10 ≡ true = ap is_hex (sym e) ∙ h in cc) in
      let no_backslash : (c == 92) ≡ false = ne_eqb c 92 (λ e. let f : is_hex 92 ≡ true = ap is_hex (sym e) ∙ h in cc) in
      cond-false (begins_with (q ∷ qs) (c ∷ text)) (length text + 1 == length (q ∷ qs)) (closed_at (q ∷ qs) c text) (and_left (q == c) (begins_with qs text) no_quote)
      ∙ cond-false ((c == 10) && (length (q ∷ qs) == 1)) false (is_closed (q ∷ qs) (c == 92) text) (and_left (c == 10) (length (q ∷ qs) == 1) no_end)
      ∙ ap (λ b. is_closed (q ∷ qs) b text) no_backslash ∙ k

  -- the content of a literal is closed, its escapes not looked at. The length bounds what stands behind an escape
  content_closed : (bound n : ℕ) (text w : List ℕ) → length text ≤ bound → content (q ∷ qs) n text ≡ Some w → list_all is_hex (take n text) ≡ true → is_closed (q ∷ qs) false text ≡ true
  content_closed bound zero [] w l e h = cc
  content_closed bound (suc n) [] w l e h = cc
  content_closed zero n (c ∷ text) w l e h = absurd (omega arith)
  content_closed (suc bound) (suc n) (c ∷ text) w l e h =
      let both = and_parts (is_hex c) (list_all is_hex (take n text)) h in
      digit_passed c text both.0 (content_closed bound n text w (omega arith) e both.1)
  content_closed (suc bound) zero (c ∷ text) w l e h =
      elim (chosen (begins_with (q ∷ qs) (c ∷ text)) (cond (length text + 1 == length (q ∷ qs)) (Some []) None)
      (cond ((c == 10) && (length (q ∷ qs) == 1)) None (cond (c == 92) (after_escape (escape_at text) (λ n. content (q ∷ qs) n text)) (before_rest (c ∷ []) (content (q ∷ qs) 0 text)))) (Some w) e) [
        | inl p ↦ cond-true (begins_with (q ∷ qs) (c ∷ text)) (length text + 1 == length (q ∷ qs)) (closed_at (q ∷ qs) c text) p.0 ∙ ends (length text + 1 == length (q ∷ qs)) w p.1
        | inr p ↦ elim (chosen ((c == 10) && (length (q ∷ qs) == 1)) None (cond (c == 92) (after_escape (escape_at text) (λ n. content (q ∷ qs) n text)) (before_rest (c ∷ []) (content (q ∷ qs) 0 text))) (Some w) p.1) [
          | inl r ↦ let f = r.1 in cc
          | inr r ↦
              cond-false (begins_with (q ∷ qs) (c ∷ text)) (length text + 1 == length (q ∷ qs)) (closed_at (q ∷ qs) c text) p.0
              ∙ cond-false ((c == 10) && (length (q ∷ qs) == 1)) false (is_closed (q ∷ qs) (c == 92) text) r.0
              ∙ elim (chosen (c == 92) (after_escape (escape_at text) (λ n. content (q ∷ qs) n text)) (before_rest (c ∷ []) (content (q ∷ qs) 0 text)) (Some w) r.1) [
                | inl s ↦
                    let x = escape_some text (λ n. content (q ∷ qs) n text) w s.1 in
                    ap (λ b. is_closed (q ∷ qs) b text) s.0
                    ∙ ap (is_closed (q ∷ qs) true) x.whole
                    ∙ content_closed bound x.more x.rest x.after (let e = ap length x.whole in omega arith) (sym (ap (content (q ∷ qs) (suc x.more)) x.whole) ∙ x.content) x.digits
                | inr s ↦
                    let m = before_some (c ∷ []) (content (q ∷ qs) 0 text) w s.1 in
                    ap (λ b. is_closed (q ∷ qs) b text) s.0 ∙ content_closed bound zero text m.0 (omega arith) m.1 refl
              ]
        ]
      ]

literal_closed : (q : ℕ) (text : List ℕ) → is_quote q ≡ true → is_literal (q ∷ text) ≡ true → is_quoted (q ∷ text) ≡ true
literal_closed q text h k =
    let some = some_of (text_of (q ∷ text)) k in
    let of = sym (cond-true (is_quote q) (cond (begins_with (q ∷ q ∷ []) text) (content (q ∷ q ∷ q ∷ []) 0 (drop 2 text)) (content (q ∷ []) 0 text)) None h) ∙ some.1 in
    elim (chosen (begins_with (q ∷ q ∷ []) text) (content (q ∷ q ∷ q ∷ []) 0 (drop 2 text)) (content (q ∷ []) 0 text) (Some some.0) of) [
      | inl p ↦
          let w = three q text p.0 in
          ap (λ z. is_quoted (q ∷ z)) w.whole
          ∙ triple_quoted q w.rest h (content_closed q (q ∷ q ∷ []) h (length w.rest) 0 w.rest some.0 (omega arith) (ap (λ z. content (q ∷ q ∷ q ∷ []) 0 (drop 2 z)) (sym w.whole) ∙ p.1) refl)
      | inr p ↦ single_quoted q text h p.0 (content_closed q [] h (length text) 0 text some.0 (omega arith) p.1 refl)
    ]

-- ---- the literal at the front

if_literal_yes : (text : List ℕ) (n : ℕ) → is_literal (take n text) ≡ true → if_literal text (Some n) ≡ Some n
if_literal_yes text n h = cond-true (is_literal (take n text)) (Some n) None h

if_literal_some : (text : List ℕ) (found : Option ℕ) (n : ℕ) → if_literal text found ≡ Some n → (found ≡ Some n) × (is_literal (take n text) ≡ true)
if_literal_some text None n e = cc
if_literal_some text (Some m) n e =
    elim (chosen (is_literal (take m text)) (Some m) None (Some n) e) [
      | inl p ↦ let same : m ≡ n = same_some p.1 in (p.1, ap (λ k. is_literal (take k text)) (sym same) ∙ p.0)
      | inr p ↦ let f = p.1 in cc
    ]

whole_front : (t rest : List ℕ) → is_literal t ≡ true → (n : ℕ) → length t ≡ n → is_literal (take n (t ++ rest)) ≡ true
whole_front t rest h n e = ap is_literal (take_at t rest n e) ∙ h

-- by whether three quotes begin the text, and what is found then
literal_triple : (q : ℕ) (text : List ℕ) → begins_with (q ∷ q ∷ []) text ≡ true
    → literal_len (q ∷ text) ≡ or_else (if_literal (q ∷ text) (longer 3 (closed_len (q ∷ q ∷ q ∷ []) false (drop 2 text)))) (Some 2)
literal_triple q text b =
    cond-true (begins_with (q ∷ q ∷ []) text) (or_else (if_literal (q ∷ text) (longer 3 (closed_len (q ∷ q ∷ q ∷ []) false (drop 2 text)))) (Some 2)) (if_literal (q ∷ text) (longer 1 (closed_len (q ∷ []) false text))) b

literal_single : (q : ℕ) (text : List ℕ) → begins_with (q ∷ q ∷ []) text ≡ false → literal_len (q ∷ text) ≡ if_literal (q ∷ text) (longer 1 (closed_len (q ∷ []) false text))
literal_single q text b =
    cond-false (begins_with (q ∷ q ∷ []) text) (or_else (if_literal (q ∷ text) (longer 3 (closed_len (q ∷ q ∷ q ∷ []) false (drop 2 text)))) (Some 2)) (if_literal (q ∷ text) (longer 1 (closed_len (q ∷ []) false text))) b

pub literal_exact : (q : ℕ) (t rest : List ℕ) → is_quote q ≡ true → is_literal (q ∷ t) ≡ true → Found (literal_len (q ∷ (t ++ rest))) (length (q ∷ t))
literal_exact q t rest quote h =
    let both = and_parts (is_quote q) (cond (begins_with (q ∷ q ∷ []) t) (is_closed (q ∷ q ∷ q ∷ []) false (drop 2 t)) (is_closed (q ∷ []) false t)) (literal_closed q t quote h) in
    ⊎_elim
    (λ (b : begins_with (q ∷ q ∷ []) t ≡ true).
    let w = three q t b in
    let k : is_closed (q ∷ q ∷ q ∷ []) false w.rest ≡ true =
    ap (λ z. is_closed (q ∷ q ∷ q ∷ []) false (drop 2 z)) (sym w.whole)
    ∙ sym (cond-true (begins_with (q ∷ q ∷ []) t) (is_closed (q ∷ q ∷ q ∷ []) false (drop 2 t)) (is_closed (q ∷ []) false t) b) ∙ both.1 in
    let long : 3 + length w.rest ≡ length (q ∷ t) = omega (arith, ap (λ z. length (q ∷ z)) w.whole) in
    found_from (literal_len (q ∷ (t ++ rest))) (length (q ∷ t))
    (literal_triple q (t ++ rest) (begins_more (q ∷ q ∷ []) t rest b)
    ∙ ap (λ z. or_else (if_literal (q ∷ (t ++ rest)) (longer 3 (closed_len (q ∷ q ∷ q ∷ []) false (drop 2 (z ++ rest))))) (Some 2)) w.whole
    ∙ ap (λ z. or_else (if_literal (q ∷ (t ++ rest)) (longer 3 z)) (Some 2)) (closed_exact (q ∷ q ∷ q ∷ []) false w.rest rest k)
    ∙ ap (λ n. or_else (if_literal (q ∷ (t ++ rest)) (Some n)) (Some 2)) long
    ∙ ap (λ z. or_else z (Some 2)) (if_literal_yes (q ∷ (t ++ rest)) (length (q ∷ t)) (whole_front (q ∷ t) rest h (length (q ∷ t)) refl))))
    (λ (b : begins_with (q ∷ q ∷ []) t ≡ false).
    let k : is_closed (q ∷ []) false t ≡ true = sym (cond-false (begins_with (q ∷ q ∷ []) t) (is_closed (q ∷ q ∷ q ∷ []) false (drop 2 t)) (is_closed (q ∷ []) false t) b) ∙ both.1 in
    ⊎_elim
    (λ (y : begins_with (q ∷ q ∷ []) (t ++ rest) ≡ true).
    let two = two_long q t rest k y in
    subst (λ n. Found (literal_len (q ∷ (t ++ rest))) n) (sym (ap (λ z. length (q ∷ z)) two))
    (found_by (literal_len (q ∷ (t ++ rest))) (or_else (if_literal (q ∷ (t ++ rest)) (longer 3 (closed_len (q ∷ q ∷ q ∷ []) false (drop 2 (t ++ rest))))) (Some 2)) 2
    (literal_triple q (t ++ rest) y)
    (or_else_two (if_literal (q ∷ (t ++ rest)) (longer 3 (closed_len (q ∷ q ∷ q ∷ []) false (drop 2 (t ++ rest))))) (λ m e.
    three_least (closed_len (q ∷ q ∷ q ∷ []) false (drop 2 (t ++ rest))) m (if_literal_some (q ∷ (t ++ rest)) (longer 3 (closed_len (q ∷ q ∷ q ∷ []) false (drop 2 (t ++ rest)))) m e).0))))
    (λ (y : begins_with (q ∷ q ∷ []) (t ++ rest) ≡ false).
    found_from (literal_len (q ∷ (t ++ rest))) (length (q ∷ t))
    (literal_single q (t ++ rest) y
    ∙ ap (λ z. if_literal (q ∷ (t ++ rest)) (longer 1 z)) (closed_exact (q ∷ []) false t rest k)
    ∙ ap (λ n. if_literal (q ∷ (t ++ rest)) (Some n)) (one_more (length t))
    ∙ if_literal_yes (q ∷ (t ++ rest)) (length (q ∷ t)) (whole_front (q ∷ t) rest h (length (q ∷ t)) refl)))
    (cases_Bool (begins_with (q ∷ q ∷ []) (t ++ rest))))
    (cases_Bool (begins_with (q ∷ q ∷ []) t))

two_literal : (q : ℕ) → is_quote q ≡ true → is_literal (q ∷ q ∷ []) ≡ true
two_literal q h =
    let none : Option (List ℕ) = None in
    let empty : Option (List ℕ) = Some [] in
    ap is_some
    (cond-true (is_quote q) (cond (begins_with (q ∷ q ∷ []) (q ∷ [])) (content (q ∷ q ∷ q ∷ []) 0 []) (content (q ∷ []) 0 (q ∷ []))) none h
    ∙ cond-false (begins_with (q ∷ q ∷ []) (q ∷ [])) (content (q ∷ q ∷ q ∷ []) 0 []) (content (q ∷ []) 0 (q ∷ [])) (and_right (q == q) false refl)
    ∙ cond-true (begins_with (q ∷ []) (q ∷ [])) empty
    (cond ((q == 10) && true) none (cond (q == 92) (after_escape (escape_at []) (λ n. content (q ∷ []) n [])) (before_rest (q ∷ []) (content (q ∷ []) 0 [])))) (begins_itself (q ∷ [])))

abbrev pub IsLiteral : List ℕ → Type 0
IsLiteral t = is_literal t ≡ true

pub literal_take : (q : ℕ) (text : List ℕ) (n : ℕ) → is_quote q ≡ true → literal_len (q ∷ text) ≡ Some n → Front IsLiteral (q ∷ text) n
literal_take q text n h e =
    ⊎_elim
    (λ (b : begins_with (q ∷ q ∷ []) text ≡ true).
    let w = three q text b in
    elim (or_else_cases (if_literal (q ∷ text) (longer 3 (closed_len (q ∷ q ∷ q ∷ []) false (drop 2 text)))) n (sym (literal_triple q text b) ∙ e)) [
      | inl f ↦
          let k = if_literal_some (q ∷ text) (longer 3 (closed_len (q ∷ q ∷ q ∷ []) false (drop 2 text))) n f in
          let r = triple_front q w.rest n h (ap (λ z. longer 3 (closed_len (q ∷ q ∷ q ∷ []) false (drop 2 z))) (sym w.whole) ∙ k.0) in
          record { within = let l = r.within in let m = ap (λ z. length (q ∷ z)) w.whole in omega arith; is = k.1 }
      | inr two ↦ record {
        within = let m = ap (λ z. length (q ∷ z)) w.whole in omega arith;
        is = ap (λ m. is_literal (take m (q ∷ text))) two ∙ ap (λ z. is_literal (take 2 (q ∷ z))) w.whole ∙ two_literal q h;
      }
    ])
    (λ (b : begins_with (q ∷ q ∷ []) text ≡ false).
    let k = if_literal_some (q ∷ text) (longer 1 (closed_len (q ∷ []) false text)) n (sym (literal_single q text b) ∙ e) in
    let r = single_front q text n h b k.0 in
    record { within = r.within; is = k.1 })
    (cases_Bool (begins_with (q ∷ q ∷ []) text))
