-- The literals of texts: what each code point of a literal reads as.
use Rattle.std.proofs.Common.{◌≡◌, ◌≢◌, ℕ, zero, suc, ◌+◌, ◌*◌, ◌/◌, ◌%◌, ◌^◌, ◌<◌, ◌≤◌, List, [], ◌∷◌, ◌++◌, length, get_or, take, drop, Bool, true, false, cond, not, ◌==◌, ◌&&◌, ◌||◌, nat_lt, Option, Some, None, ap, sym, ◌∙◌, refl, subst, ◌⊎◌, inl, inr, ⊎_elim, append_assoc, arith}
use Rattle.std.specs.List.{flat_map, list_any, list_all, prefix_len}
use Rattle.std.specs.Char.{digit_value, digit_char}
use Rattle.std.specs.Str.Parse.{digits_value, digits_value_after}
use Rattle.std.proofs.lemmas.Bool.{cases_Bool, cases_lt, or_cases, or_parts, eqb-true, eqb-false, eq-eqb, ne_eqb, lt-ltb, le-ltb, ltb-true, le-leb}
use Rattle.std.proofs.lemmas.List.{drop-drop, drop_more, take_more, get_or-take, length-take}
use Rattle.std.proofs.lemmas.List.Sums.{prefix_len-drop_no, prefix_len-drop_yes}
use Rattle.std.proofs.lemmas.Grind.{pow_more}
use Rattle.std.proofs.lemmas.Str.{digit_value-digit_char}
use Rattle.std.proofs.lemmas.Nat.{div-add-mod', mod_below}
use Rattle.py_scalars.specs.NumberForm.{is_digit}
use Rattle.py_scalars.specs.Search.{begins_with}
use Rattle.py_scalars.proofs.NumberLemmas.{grows}
use Rattle.std.proofs.Math.Nat.{le_trans, pow-le-pow_right}
use Rattle.py_scalars.specs.TextForm.{is_scalar, scalar_behind, letter_escape, octal_escape, code_escape, hex_escape, escape_at, before_rest, after_escape, content, text_of, shown, shown_other, repr_of}

-- code points that belong to an escape are passed over
pub content-skip : (quotes : List ℕ) (n : ℕ) (text : List ℕ) → content quotes n text ≡ content quotes 0 (drop n text)
content-skip quotes zero text = refl
content-skip quotes (suc n) [] = refl
content-skip quotes (suc n) (c ∷ text) = content-skip quotes n text

skip_all : (quotes spelled text : List ℕ) → content quotes (length spelled) (spelled ++ text) ≡ content quotes 0 text
skip_all quotes [] text = refl
skip_all quotes (c ∷ spelled) text = skip_all quotes spelled text

-- two hexadecimal digits of a control character
hex_pair : (c : ℕ) (text : List ℕ) → c < 128 → hex_escape 2 (digit_char (c / 16) ∷ digit_char (c % 16) ∷ text) ≡ Some (3, c ∷ [])
hex_pair c text h =
    let high : c / 16 < 16 = omega (arith, div-add-mod' c 16) in
    let low : c % 16 < 16 = mod_below c 16 (omega arith) in
    let first : digit_value (digit_char (c / 16)) ≡ c / 16 = digit_value-digit_char (c / 16) (omega arith) in
    let second : digit_value (digit_char (c % 16)) ≡ c % 16 = digit_value-digit_char (c % 16) (omega arith) in
    let value : (0 * 16 + digit_value (digit_char (c / 16))) * 16 + digit_value (digit_char (c % 16)) ≡ c = omega (arith, div-add-mod' c 16) in
    let is_first : is_digit 16 (digit_char (c / 16)) ≡ true = lt-ltb _ 16 (omega arith) in
    let is_second : is_digit 16 (digit_char (c % 16)) ≡ true = lt-ltb _ 16 (omega arith) in
    let scalar : is_scalar c ≡ true = ap (λ b. b || nat_lt 0xDFFF c && nat_lt c 0x110000) (lt-ltb c 0xD800 (omega arith)) in
    ap (λ b. cond b (code_escape 2 (scalar_behind 0 (digit_char (c / 16) ∷ digit_char (c % 16) ∷ []))) None) (le-leb 2 (length (digit_char (c / 16) ∷ digit_char (c % 16) ∷ text)) (omega arith))
    ∙ ap (λ b. code_escape 2 (cond ((b && (is_digit 16 (digit_char (c % 16)) && true)) && is_scalar ((0 * 16 + digit_value (digit_char (c / 16))) * 16 + digit_value (digit_char (c % 16)))) (Some ((0 * 16 + digit_value (digit_char (c / 16))) * 16 + digit_value (digit_char (c % 16)))) None)) is_first
    ∙ ap (λ b. code_escape 2 (cond ((b && true) && is_scalar ((0 * 16 + digit_value (digit_char (c / 16))) * 16 + digit_value (digit_char (c % 16)))) (Some ((0 * 16 + digit_value (digit_char (c / 16))) * 16 + digit_value (digit_char (c % 16)))) None)) is_second
    ∙ ap (λ v. code_escape 2 (cond (is_scalar v) (Some v) None)) value
    ∙ ap (λ b. code_escape 2 (cond b (Some c) None)) scalar

-- what stands for a code point is an escape of it, or itself
record IsEscaped (q c : ℕ) : Type 0 where
  spelled : List ℕ
  written : shown q c ≡ 92 ∷ spelled
  reads : (text : List ℕ) → escape_at (spelled ++ text) ≡ Some (length spelled, c ∷ [])

record IsPlain (q c : ℕ) : Type 0 where
  written : shown q c ≡ c ∷ []
  no_quote : (q == c) ≡ false
  no_end : (c == 10) ≡ false
  no_backslash : (c == 92) ≡ false

module _ (q : ℕ) (other : (q == 92) ≡ false) (itself : (text : List ℕ) → escape_at (q ∷ text) ≡ Some (1, q ∷ [])) where
  form_other : (c : ℕ) → ((c == 92) || (c == q)) ≡ false → (c == 10) ≡ false → (c == 13) ≡ false → (c == 9) ≡ false → IsEscaped q c ⊎ IsPlain q c
  form_other c own ten thirteen nine =
      let start : shown q c ≡ shown_other c =
      ap (λ b. cond b (92 ∷ c ∷ []) (cond (c == 10) (92 ∷ 110 ∷ []) (cond (c == 13) (92 ∷ 114 ∷ []) (cond (c == 9) (92 ∷ 116 ∷ []) (shown_other c))))) own
      ∙ ap (λ b. cond b (92 ∷ 110 ∷ []) (cond (c == 13) (92 ∷ 114 ∷ []) (cond (c == 9) (92 ∷ 116 ∷ []) (shown_other c)))) ten
      ∙ ap (λ b. cond b (92 ∷ 114 ∷ []) (cond (c == 9) (92 ∷ 116 ∷ []) (shown_other c))) thirteen
      ∙ ap (λ b. cond b (92 ∷ 116 ∷ []) (shown_other c)) nine in
      ⊎_elim
      (λ control.
      let small : c < 128 = ⊎_elim (λ l. omega (arith, ltb-true c 32 l)) (λ e. omega (arith, eqb-true c 127 e)) (or_cases (nat_lt c 32) (c == 127) control) in
      inl (record {
        spelled = 120 ∷ digit_char (c / 16) ∷ digit_char (c % 16) ∷ [];
        written = start ∙ ap (λ b. cond b (92 ∷ 120 ∷ digit_char (c / 16) ∷ digit_char (c % 16) ∷ []) (c ∷ [])) control;
        reads = λ text. hex_pair c text small;
      }))
      (λ plain.
      inr (record {
        written = start ∙ ap (λ b. cond b (92 ∷ 120 ∷ digit_char (c / 16) ∷ digit_char (c % 16) ∷ []) (c ∷ [])) plain;
        no_quote = ne_eqb q c (λ e. eqb-false c q (or_parts (c == 92) (c == q) own).1 (sym e));
        no_end = ten;
        no_backslash = (or_parts (c == 92) (c == q) own).0;
      }))
      (cases_Bool (nat_lt c 32 || (c == 127)))

  named : (c d letter : ℕ) → c ≡ d → ((c == 92) || (c == q)) ≡ false → shown q c ≡ 92 ∷ letter ∷ [] → ((text : List ℕ) → escape_at (letter ∷ text) ≡ Some (1, d ∷ [])) → IsEscaped q c ⊎ IsPlain q c
  named c d letter e own written reads = inl (record {
    spelled = letter ∷ [];
    written = written;
    reads = λ text. reads text ∙ ap (λ x. Some (1, x ∷ [])) (sym e);
  })

  form : (c : ℕ) → IsEscaped q c ⊎ IsPlain q c
  form c =
      ⊎_elim
      (λ own. ⊎_elim
      (λ e. let is : c ≡ 92 = eqb-true c 92 e in
      inl (record { spelled = c ∷ []; written = ap (λ b. cond b (92 ∷ c ∷ []) (cond (c == 10) (92 ∷ 110 ∷ []) (cond (c == 13) (92 ∷ 114 ∷ []) (cond (c == 9) (92 ∷ 116 ∷ []) (shown_other c))))) own; reads = λ text. subst (λ x. escape_at (x ∷ text) ≡ Some (1, x ∷ [])) (sym is) refl }))
      (λ e. let is : c ≡ q = eqb-true c q e in
      inl (record { spelled = c ∷ []; written = ap (λ b. cond b (92 ∷ c ∷ []) (cond (c == 10) (92 ∷ 110 ∷ []) (cond (c == 13) (92 ∷ 114 ∷ []) (cond (c == 9) (92 ∷ 116 ∷ []) (shown_other c))))) own; reads = λ text. subst (λ x. escape_at (x ∷ text) ≡ Some (1, x ∷ [])) (sym is) (itself text) }))
      (or_cases (c == 92) (c == q) own))
      (λ own.
      let start : shown q c ≡ cond (c == 10) (92 ∷ 110 ∷ []) (cond (c == 13) (92 ∷ 114 ∷ []) (cond (c == 9) (92 ∷ 116 ∷ []) (shown_other c))) = ap (λ b. cond b (92 ∷ c ∷ []) (cond (c == 10) (92 ∷ 110 ∷ []) (cond (c == 13) (92 ∷ 114 ∷ []) (cond (c == 9) (92 ∷ 116 ∷ []) (shown_other c))))) own in
      ⊎_elim
      (λ ten. named c 10 110 (eqb-true c 10 ten) own (start ∙ ap (λ b. cond b (92 ∷ 110 ∷ []) (cond (c == 13) (92 ∷ 114 ∷ []) (cond (c == 9) (92 ∷ 116 ∷ []) (shown_other c)))) ten) (λ text. refl))
      (λ ten.
      let start2 = start ∙ ap (λ b. cond b (92 ∷ 110 ∷ []) (cond (c == 13) (92 ∷ 114 ∷ []) (cond (c == 9) (92 ∷ 116 ∷ []) (shown_other c)))) ten in
      ⊎_elim
      (λ thirteen. named c 13 114 (eqb-true c 13 thirteen) own (start2 ∙ ap (λ b. cond b (92 ∷ 114 ∷ []) (cond (c == 9) (92 ∷ 116 ∷ []) (shown_other c))) thirteen) (λ text. refl))
      (λ thirteen.
      let start3 = start2 ∙ ap (λ b. cond b (92 ∷ 114 ∷ []) (cond (c == 9) (92 ∷ 116 ∷ []) (shown_other c))) thirteen in
      ⊎_elim
      (λ nine. named c 9 116 (eqb-true c 9 nine) own (start3 ∙ ap (λ b. cond b (92 ∷ 116 ∷ []) (shown_other c)) nine) (λ text. refl))
      (λ nine. form_other c own ten thirteen nine)
      (cases_Bool (c == 9)))
      (cases_Bool (c == 13)))
      (cases_Bool (c == 10)))
      (cases_Bool ((c == 92) || (c == q)))

  -- an escape and a plain code point, read
  read_escape : (spelled text : List ℕ) (what : List ℕ) → escape_at (spelled ++ text) ≡ Some (length spelled, what) → content (q ∷ []) 0 (92 ∷ (spelled ++ text)) ≡ before_rest what (content (q ∷ []) 0 text)
  read_escape spelled text what e =
      ap (λ b. cond (b && true) (cond (length (spelled ++ text) + 1 == 1) (Some []) None) (after_escape (escape_at (spelled ++ text)) (λ n. content (q ∷ []) n (spelled ++ text)))) other
      ∙ ap (λ o. after_escape o (λ n. content (q ∷ []) n (spelled ++ text))) e
      ∙ ap (before_rest what) (skip_all (q ∷ []) spelled text)

  read_plain : (c : ℕ) (text : List ℕ) → (q == c) ≡ false → (c == 10) ≡ false → (c == 92) ≡ false → content (q ∷ []) 0 (c ∷ text) ≡ before_rest (c ∷ []) (content (q ∷ []) 0 text)
  read_plain c text no_quote no_end no_backslash =
      ap (λ b. cond (b && true) (cond (length text + 1 == 1) (Some []) None) (cond ((c == 10) && true) None (cond (c == 92) (after_escape (escape_at text) (λ n. content (q ∷ []) n text)) (before_rest (c ∷ []) (content (q ∷ []) 0 text))))) no_quote
      ∙ ap (λ b. cond (b && true) None (cond (c == 92) (after_escape (escape_at text) (λ n. content (q ∷ []) n text)) (before_rest (c ∷ []) (content (q ∷ []) 0 text)))) no_end
      ∙ ap (λ b. cond b (after_escape (escape_at text) (λ n. content (q ∷ []) n text)) (before_rest (c ∷ []) (content (q ∷ []) 0 text))) no_backslash

  read_shown : (c : ℕ) (text : List ℕ) → content (q ∷ []) 0 (shown q c ++ text) ≡ before_rest (c ∷ []) (content (q ∷ []) 0 text)
  read_shown c text =
      ⊎_elim
      (λ (w : IsEscaped q c). ap (λ s. content (q ∷ []) 0 (s ++ text)) w.written ∙ read_escape w.spelled text (c ∷ []) (w.reads text))
      (λ (w : IsPlain q c). ap (λ s. content (q ∷ []) 0 (s ++ text)) w.written ∙ read_plain c text w.no_quote w.no_end w.no_backslash)
      (form c)

  read_all : (text : List ℕ) → content (q ∷ []) 0 (flat_map (shown q) text ++ q ∷ []) ≡ Some text
  read_all [] = ap (λ b. cond (b && true) (Some []) (cond ((q == 10) && true) None (cond (q == 92) None None))) (eq-eqb q q refl)
  read_all (c ∷ text) =
      ap (content (q ∷ []) 0) (append_assoc (shown q c) (flat_map (shown q) text) (q ∷ []))
      ∙ read_shown c (flat_map (shown q) text ++ q ∷ [])
      ∙ ap (before_rest (c ∷ [])) (read_all text)

  no_second : (c : ℕ) (text : List ℕ) → begins_with (q ∷ q ∷ []) (shown q c ++ text) ≡ false
  no_second c text =
      ⊎_elim
      (λ (w : IsEscaped q c). ap (λ s. begins_with (q ∷ q ∷ []) (s ++ text)) w.written ∙ ap (λ b. b && begins_with (q ∷ []) (w.spelled ++ text)) other)
      (λ (w : IsPlain q c). ap (λ s. begins_with (q ∷ q ∷ []) (s ++ text)) w.written ∙ ap (λ b. b && begins_with (q ∷ []) text) w.no_quote)
      (form c)

  no_triple : (text : List ℕ) → begins_with (q ∷ q ∷ []) (flat_map (shown q) text ++ q ∷ []) ≡ false
  no_triple [] = and_none (q == q)
    where
      and_none : (b : Bool) → (b && false) ≡ false
      and_none true = refl
      and_none false = refl
  no_triple (c ∷ text) = ap (begins_with (q ∷ q ∷ [])) (append_assoc (shown q c) (flat_map (shown q) text) (q ∷ [])) ∙ no_second c _

  pub read_literal : (text : List ℕ) → ((q == 39) || (q == 34)) ≡ true → text_of (q ∷ (flat_map (shown q) text ++ q ∷ [])) ≡ Some text
  read_literal text quote =
      ap (λ b. cond b (cond (begins_with (q ∷ q ∷ []) (flat_map (shown q) text ++ q ∷ [])) (content (q ∷ q ∷ q ∷ []) 0 (drop 2 (flat_map (shown q) text ++ q ∷ []))) (content (q ∷ []) 0 (flat_map (shown q) text ++ q ∷ []))) None) quote
      ∙ ap (λ b. cond b (content (q ∷ q ∷ q ∷ []) 0 (drop 2 (flat_map (shown q) text ++ q ∷ []))) (content (q ∷ []) 0 (flat_map (shown q) text ++ q ∷ []))) (no_triple text)
      ∙ read_all text

pub text_of-repr_of : (text : List ℕ) → text_of (repr_of text) ≡ Some text
text_of-repr_of text = at_quote (list_any (λ c. c == 39) text && not (list_any (λ c. c == 34) text))
  where
    at_quote : (b : Bool) → text_of (cond b 34 39 ∷ (flat_map (shown (cond b 34 39)) text ++ cond b 34 39 ∷ [])) ≡ Some text
    at_quote true = read_literal 34 refl (λ text. refl) text refl
    at_quote false = read_literal 39 refl (λ text. refl) text refl

-- ---- what the readers leave

no_scalar : (n : ℕ) → 0x110000 ≤ n → is_scalar n ≡ false
no_scalar n h =
    ap (λ b. b || nat_lt 0xDFFF n && nat_lt n 0x110000) (le-ltb n 0xD800 (omega arith)) ∙ ap (λ b. nat_lt 0xDFFF n && b) (le-ltb n 0x110000 h) ∙ right (nat_lt 0xDFFF n)
  where
    right : (b : Bool) → (b && false) ≡ false
    right true = refl
    right false = refl

pub hex-large : (n i c : ℕ) (text : List ℕ) (whole : Option ℕ) → i < length text → c ≡ get_or text i c → 0x110000 ≤ n * 16 + digit_value c → scalar_behind n (drop i text) ≡ whole → None ≡ whole
hex-large n i c text whole l is_point large was =
    sym (ap (λ b. cond (list_all (is_digit 16) (c ∷ drop (i + 1) text) && b) (Some (digits_value_after 16 n (c ∷ drop (i + 1) text))) None) (no_scalar _ (le_trans large (grows 16 (n * 16 + digit_value c) (drop (i + 1) text) (omega arith)))) ∙ none (list_all (is_digit 16) (c ∷ drop (i + 1) text)) _)
    ∙ ap (λ x. scalar_behind n (x ∷ drop (i + 1) text)) is_point
    ∙ ap (scalar_behind n) (sym (drop_more text i c l))
    ∙ was
  where
    none : (b : Bool) (o : Option ℕ) → cond (b && false) o None ≡ None
    none true o = refl
    none false o = refl

pub escape-letter : (c : ℕ) (text : List ℕ) → is_digit 8 c ≡ false → c ≢ 120 → c ≢ 117 → c ≢ 85 → c ≢ 78 → escape_at (c ∷ text) ≡ Some (letter_escape c)
escape-letter c text digit x u big_u n =
    ap (λ b. cond b (octal_escape (c ∷ text)) (cond (c == 120) (hex_escape 2 text) (cond (c == 117) (hex_escape 4 text) (cond (c == 85) (hex_escape 8 text) (cond (c == 78) None (Some (letter_escape c))))))) digit
    ∙ ap (λ b. cond b (hex_escape 2 text) (cond (c == 117) (hex_escape 4 text) (cond (c == 85) (hex_escape 8 text) (cond (c == 78) None (Some (letter_escape c)))))) (ne_eqb c 120 x)
    ∙ ap (λ b. cond b (hex_escape 4 text) (cond (c == 85) (hex_escape 8 text) (cond (c == 78) None (Some (letter_escape c))))) (ne_eqb c 117 u)
    ∙ ap (λ b. cond b (hex_escape 8 text) (cond (c == 78) None (Some (letter_escape c)))) (ne_eqb c 85 big_u)
    ∙ ap (λ b. cond b None (Some (letter_escape c))) (ne_eqb c 78 n)

-- one code point, and one escape, of the content
rest-append : (old what : List ℕ) (o : Option (List ℕ)) → before_rest (old ++ what) o ≡ before_rest old (before_rest what o)
rest-append old what None = refl
rest-append old what (Some more) = ap (λ t. Some t) (append_assoc old what more)

pub content_plain : (quotes text : List ℕ) (at c : ℕ) (old new : List ℕ) (whole : Option (List ℕ)) → at < length text → c ≡ get_or text at c → begins_with quotes (drop at text) ≡ false → ((c == 10) && (length quotes == 1)) ≡ false → c ≢ 92 → new ≡ old ++ c ∷ [] → before_rest old (content quotes 0 (drop at text)) ≡ whole → before_rest new (content quotes 0 (drop (at + 1) text)) ≡ whole
content_plain quotes text at c old new whole l is_point open_yet no_end other is_new was =
    let split : drop at text ≡ c ∷ drop (at + 1) text = drop_more text at c l ∙ ap (λ x. x ∷ drop (at + 1) text) (sym is_point) in
    let rest : List ℕ = drop (at + 1) text in
    let here : content quotes 0 (drop at text) ≡ before_rest (c ∷ []) (content quotes 0 (drop (at + 1) text)) =
    ap (content quotes 0) split
    ∙ ap (λ b. cond b (cond (length rest + 1 == length quotes) (Some []) None) (cond ((c == 10) && (length quotes == 1)) None (cond (c == 92) (after_escape (escape_at rest) (λ n. content quotes n rest)) (before_rest (c ∷ []) (content quotes 0 rest))))) (ap (begins_with quotes) (sym split) ∙ open_yet)
    ∙ ap (λ b. cond b None (cond (c == 92) (after_escape (escape_at rest) (λ n. content quotes n rest)) (before_rest (c ∷ []) (content quotes 0 rest)))) no_end
    ∙ ap (λ b. cond b (after_escape (escape_at rest) (λ n. content quotes n rest)) (before_rest (c ∷ []) (content quotes 0 rest))) (ne_eqb c 92 other) in
    ap (λ t. before_rest t (content quotes 0 rest)) is_new ∙ rest-append old (c ∷ []) (content quotes 0 rest) ∙ ap (before_rest old) (sym here) ∙ was

pub content_escape : (quotes text : List ℕ) (at c n : ℕ) (what old new : List ℕ) (whole : Option (List ℕ)) → at < length text → c ≡ get_or text at c → begins_with quotes (drop at text) ≡ false → ((c == 10) && (length quotes == 1)) ≡ false → c ≡ 92 → escape_at (drop (at + 1) text) ≡ Some (n, what) → new ≡ old ++ what → before_rest old (content quotes 0 (drop at text)) ≡ whole → before_rest new (content quotes 0 (drop (at + 1 + n) text)) ≡ whole
content_escape quotes text at c n what old new whole l is_point open_yet no_end slash escape is_new was =
    let split : drop at text ≡ c ∷ drop (at + 1) text = drop_more text at c l ∙ ap (λ x. x ∷ drop (at + 1) text) (sym is_point) in
    let rest : List ℕ = drop (at + 1) text in
    let here : content quotes 0 (drop at text) ≡ before_rest what (content quotes 0 (drop (at + 1 + n) text)) =
    ap (content quotes 0) split
    ∙ ap (λ b. cond b (cond (length rest + 1 == length quotes) (Some []) None) (cond ((c == 10) && (length quotes == 1)) None (cond (c == 92) (after_escape (escape_at rest) (λ n. content quotes n rest)) (before_rest (c ∷ []) (content quotes 0 rest))))) (ap (begins_with quotes) (sym split) ∙ open_yet)
    ∙ ap (λ b. cond b None (cond (c == 92) (after_escape (escape_at rest) (λ n. content quotes n rest)) (before_rest (c ∷ []) (content quotes 0 rest)))) no_end
    ∙ ap (λ b. cond b (after_escape (escape_at rest) (λ n. content quotes n rest)) (before_rest (c ∷ []) (content quotes 0 rest))) (eq-eqb c 92 slash)
    ∙ ap (λ o. after_escape o (λ n. content quotes n rest)) escape
    ∙ ap (before_rest what) (content-skip quotes n rest ∙ ap (content quotes 0) (drop-drop n (at + 1) text)) in
    ap (λ t. before_rest t (content quotes 0 (drop (at + 1 + n) text))) is_new ∙ rest-append old what (content quotes 0 (drop (at + 1 + n) text)) ∙ ap (before_rest old) (sym here) ∙ was

-- one octal digit more
pub digits_more : (base : ℕ) (text : List ℕ) (i c : ℕ) → i < length text → c ≡ get_or text i c → digits_value base (take (i + 1) text) ≡ digits_value base (take i text) * base + digit_value c
digits_more base text i c l is_point =
    ap (digits_value base) (take_more text i c l ∙ ap (λ x. take i text ++ x ∷ []) (sym is_point)) ∙ after 0 (take i text)
  where
    after : (n : ℕ) (ds : List ℕ) → digits_value_after base n (ds ++ c ∷ []) ≡ digits_value_after base n ds * base + digit_value c
    after n [] = refl
    after n (d ∷ ds) = after (n * base + digit_value d) ds

octal_inside : (text : List ℕ) (i : ℕ) → i < 3 → i < length text → i < length (take 3 text)
octal_inside text i h l = omega (arith, length-take 3 text)

pub octal-stop : (text : List ℕ) (i c whole : ℕ) → i < 3 → i < length text → c ≡ get_or text i c → (digit_value c < 8 → ⊥) → i + prefix_len (is_digit 8) (drop i (take 3 text)) ≡ whole → i ≡ whole
octal-stop text i c whole h l is_point other was =
    let stops : is_digit 8 c ≡ false = le-ltb (digit_value c) 8 (⊎_elim (λ b. absurd (other b)) (λ a. a) (cases_lt (digit_value c) 8)) in
    let none = prefix_len-drop_no (is_digit 8) (take 3 text) i c (octal_inside text i h l) (ap (is_digit 8) (get_or-take 3 text i c h ∙ sym is_point) ∙ stops) in
    omega (arith, none)

pub octal-more : (text : List ℕ) (i c whole : ℕ) → i < 3 → i < length text → c ≡ get_or text i c → digit_value c < 8 → i + prefix_len (is_digit 8) (drop i (take 3 text)) ≡ whole → i + 1 + prefix_len (is_digit 8) (drop (i + 1) (take 3 text)) ≡ whole
octal-more text i c whole h l is_point digit was =
    let goes : is_digit 8 c ≡ true = lt-ltb (digit_value c) 8 digit in
    let one = prefix_len-drop_yes (is_digit 8) (take 3 text) i c (octal_inside text i h l) (ap (is_digit 8) (get_or-take 3 text i c h ∙ sym is_point) ∙ goes) in
    omega (arith, one)

pub octal_below : (i n : ℕ) → i ≤ 3 → n < 8 ^ i → n < 512
octal_below i n h l =
    let top : 8 ^ i ≤ 8 ^ 3 = pow-le-pow_right {n = 8} (omega arith) h in
    omega arith

pub octal_room : (i n : ℕ) → i < 3 → n < 8 ^ i → n < 64
octal_room i n h l =
    let below : i ≤ 2 = omega arith in
    let top : 8 ^ i ≤ 8 ^ 2 = pow-le-pow_right {n = 8} (omega arith) below in
    omega arith

pub octal_next : (i n d : ℕ) → n < 8 ^ i → d < 8 → n * 8 + d < 8 ^ (i + 1)
octal_next i n d l h = omega (arith, pow_more 8 i)
