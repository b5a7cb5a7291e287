-- The literal of a text is cut where it ends, and reads as the text.
use Rattle.std.proofs.Common.{◌≡◌, ℕ, ◌+◌, ◌<◌, ◌≤◌, List, [], ◌∷◌, ◌++◌, length, take, drop, Bool, true, false, cond, ◌==◌, ◌&&◌, ◌||◌, not, nat_lt, Option, Some, None, refl, sym, ap, ◌∙◌, subst, ◌⊎◌, inl, inr, ⊎_elim, arith, append_assoc, lit<}
use Rattle.std.specs.List.{flat_map, list_any}
use Rattle.std.specs.Prelude.{is_some, option_map, if◌then◌else◌}
use Rattle.std.proofs.Math.Seq.{take-append_seam}
use Rattle.std.proofs.lemmas.Bool.{cases_Bool, or_parts, cond-true, cond-false, ne_eqb, eqb-false}
use Rattle.py_scalars.specs.NumberForm.{is_digit}
use Rattle.py_scalars.specs.Search.{begins_with}
use Rattle.py_scalars.specs.TextForm.{text_of, shown, shown_other, quote_for, repr_of}
use Rattle.py_scalars.proofs.TextLemmas.{text_of-repr_of}
use Rattle.py_lexer.specs.declared.token.TokenKind.TheVariants.{Text as TextToken}
use Rattle.py_lexer.specs.Form.{is_name_start, is_quote, is_literal}
use Rattle.py_lexer.specs.Scan.{longer, closed_len, or_else, if_literal, literal_len, word_front, number_front, literal_front, other_front}
use Rattle.py_lexer.proofs.Quotes.{chosen, same_some, literal_exact, literal_take}
use Rattle.py_grammar.specs.declared.sign.Sign.TheVariants.{Text}
use Rattle.py_signs.specs.Signs.{text_sign}
use Rattle.py_block.specs.Lexing.{front_of}
use Rattle.py_print.proofs.Classes.{word, goes}
use Rattle.py_print.proofs.WordFronts.{no_start, ends_parts}
use Rattle.py_print.proofs.MarkFronts.{IsCut}

-- ---- what closes a literal closes it whatever follows

longer_some : (n : ℕ) (found : Option ℕ) (k : ℕ) → longer n found ≡ Some k → (j : ℕ) × (found ≡ Some j) × (n + j ≡ k)
longer_some n None k e = cc
longer_some n (Some j) k e = (j, refl, same_some e)

closed_more : (q : ℕ) (behind : Bool) (t rest : List ℕ) (n : ℕ) → closed_len (q ∷ []) behind t ≡ Some n → closed_len (q ∷ []) behind (t ++ rest) ≡ Some n
closed_more q behind [] rest n e = cc
closed_more q true (c ∷ t) rest n e =
    let l = longer_some 1 (closed_len (q ∷ []) false t) n e in
    ap (longer 1) (closed_more q false t rest l.0 l.1) ∙ ap Some l.2
closed_more q false (c ∷ t) rest n e =
    elim (chosen (begins_with (q ∷ []) (c ∷ t)) (Some 1) (cond ((c == 10) && true) None (longer 1 (closed_len (q ∷ []) (c == 92) t))) (Some n) e) [
      | inl p ↦ cond-true (begins_with (q ∷ []) (c ∷ t)) (Some 1) (cond ((c == 10) && true) None (longer 1 (closed_len (q ∷ []) (c == 92) (t ++ rest)))) p.0 ∙ p.1
      | inr p ↦ elim (chosen ((c == 10) && true) None (longer 1 (closed_len (q ∷ []) (c == 92) t)) (Some n) p.1) [
        | inl r ↦ (let f = r.1 in cc)
        | inr r ↦ (
            let l = longer_some 1 (closed_len (q ∷ []) (c == 92) t) n r.1 in
            cond-false (begins_with (q ∷ []) (c ∷ t)) (Some 1) (cond ((c == 10) && true) None (longer 1 (closed_len (q ∷ []) (c == 92) (t ++ rest)))) p.0
            ∙ cond-false ((c == 10) && true) None (longer 1 (closed_len (q ∷ []) (c == 92) (t ++ rest))) r.0
            ∙ ap (longer 1) (closed_more q (c == 92) t rest l.0 l.1)
            ∙ ap Some l.2)
      ]
    ]

-- ---- a literal in single quotes, which does not begin with two more

single_is : (q : ℕ) (t : List ℕ) → begins_with (q ∷ q ∷ []) t ≡ false → literal_len (q ∷ t) ≡ if_literal (q ∷ t) (longer 1 (closed_len (q ∷ []) false t))
single_is q t b =
    cond-false (begins_with (q ∷ q ∷ []) t) (or_else (if_literal (q ∷ t) (longer 3 (closed_len (q ∷ q ∷ q ∷ []) false (drop 2 t)))) (Some 2))
    (if_literal (q ∷ t) (longer 1 (closed_len (q ∷ []) false t))) b

if_some : (text : List ℕ) (found : Option ℕ) (n : ℕ) → if_literal text found ≡ Some n → found ≡ Some n
if_some text None n e = e
if_some text (Some k) n e =
    elim (chosen (is_literal (take k text)) (Some k) None (Some n) e) [
      | inl p ↦ p.1
      | inr p ↦ (let f = p.1 in cc)
    ]

same_long : (n k l : ℕ) → n ≤ k → k ≤ l → n ≡ l → k ≡ n
same_long n k l a b c = omega arith

whole_literal : (q : ℕ) (t : List ℕ) → is_quote q ≡ true → is_literal (q ∷ t) ≡ true → literal_len (q ∷ t) ≡ Some (length (q ∷ t))
whole_literal q t k h =
    let f = literal_exact q t [] k h in
    let e : literal_len (q ∷ t) ≡ Some f.long = ap (λ z. literal_len (q ∷ z)) (sym (append_nil t)) ∙ f.is in
    let w = literal_take q t f.long k e in
    e ∙ ap Some (same_long (length (q ∷ t)) f.long (length (q ∷ t)) f.least w.within refl)
  where
    append_nil : (t : List ℕ) → t ++ [] ≡ t
    append_nil [] = refl
    append_nil (c ∷ t) = ap (λ z. c ∷ z) (append_nil t)

literal_behind : (q : ℕ) (t rest : List ℕ) → is_quote q ≡ true → is_literal (q ∷ t) ≡ true → begins_with (q ∷ q ∷ []) t ≡ false → begins_with (q ∷ q ∷ []) (t ++ rest) ≡ false
    → literal_len ((q ∷ t) ++ rest) ≡ Some (length (q ∷ t))
literal_behind q t rest k h b d =
    let found : longer 1 (closed_len (q ∷ []) false t) ≡ Some (length (q ∷ t)) = if_some (q ∷ t) (longer 1 (closed_len (q ∷ []) false t)) (length (q ∷ t)) (sym (single_is q t b) ∙ whole_literal q t k h) in
    let l = longer_some 1 (closed_len (q ∷ []) false t) (length (q ∷ t)) found in
    single_is q (t ++ rest) d
    ∙ ap (λ z. if_literal (q ∷ (t ++ rest)) (longer 1 z)) (closed_more q false t rest l.0 l.1)
    ∙ ap (λ n. if_literal (q ∷ (t ++ rest)) (Some n)) l.2
    ∙ cond-true (is_literal (take (length (q ∷ t)) (q ∷ (t ++ rest)))) (Some (length (q ∷ t))) None (ap is_literal (take-append_seam (q ∷ t) rest) ∙ h)

-- ---- what is shown does not begin with its quote

record Head (q : ℕ) (text : List ℕ) : Type 0 where
  head : ℕ
  behind : List ℕ
  whole : text ≡ head ∷ behind
  other : (q == head) ≡ false

head_92 : (q : ℕ) (w : List ℕ) → (q == 92) ≡ false → Head q (92 ∷ w)
head_92 q w e = record { head = 92; behind = w; whole = refl; other = e }

head_other : (q c : ℕ) → (q == 92) ≡ false → (q == c) ≡ false → Head q (shown_other c)
head_other q c e f =
    ⊎_elim
    (λ b. subst (Head q) (sym (cond-true (nat_lt c 32 || (c == 127)) _ (c ∷ []) b)) (head_92 q _ e))
    (λ b. subst (Head q) (sym (cond-false (nat_lt c 32 || (c == 127)) _ (c ∷ []) b)) (record { head = c; behind = []; whole = refl; other = f }))
    (cases_Bool (nat_lt c 32 || (c == 127)))

swap : (a b : ℕ) → (a == b) ≡ false → (b == a) ≡ false
swap a b e = ne_eqb b a (λ f. eqb-false a b e (sym f))

head_if : (q : ℕ) (b : Bool) (x y : List ℕ) → Head q x → (b ≡ false → Head q y) → Head q (if b then x else y)
head_if q true x y h k = h
head_if q false x y h k = k refl

shown_head : (q c : ℕ) → (q == 92) ≡ false → Head q (shown q c)
shown_head q c e =
    ⊎_elim
    (λ b. subst (Head q) (sym (cond-true ((c == 92) || (c == q)) (92 ∷ c ∷ []) _ b)) (head_92 q (c ∷ []) e))
    (λ b. subst (Head q) (sym (cond-false ((c == 92) || (c == q)) (92 ∷ c ∷ []) _ b))
    (head_if q (c == 10) (92 ∷ 110 ∷ []) _ (head_92 q (110 ∷ []) e) (λ x.
    head_if q (c == 13) (92 ∷ 114 ∷ []) _ (head_92 q (114 ∷ []) e) (λ y.
    head_if q (c == 9) (92 ∷ 116 ∷ []) (shown_other c) (head_92 q (116 ∷ []) e) (λ z.
    head_other q c e (swap c q (or_parts (c == 92) (c == q) b).1))))))
    (cases_Bool ((c == 92) || (c == q)))

-- a text that begins with another code point
no_two : (q : ℕ) (text : List ℕ) (h : Head q text) (more : List ℕ) → begins_with (q ∷ q ∷ []) (text ++ more) ≡ false
no_two q text h more =
    ap (λ z. begins_with (q ∷ q ∷ []) (z ++ more)) h.whole ∙ ap (λ z. z && begins_with (q ∷ []) (h.behind ++ more)) h.other

-- ---- the literal of a text

cut_literal : (nested q : ℕ) (text : List ℕ) (n : ℕ) → is_name_start q ≡ false → is_digit 10 q ≡ false → is_quote q ≡ true → literal_len (q ∷ text) ≡ Some n
    → front_of nested (q ∷ text) ≡ Some (TextToken, n)
cut_literal nested q text n s d k e =
    cond-false (is_name_start q) (Some (word_front (q ∷ text))) (if is_digit 10 q then number_front (q ∷ text) else (if is_quote q then literal_front (q ∷ text) else other_front nested (q ∷ text))) s
    ∙ cond-false (is_digit 10 q) (number_front (q ∷ text)) (if is_quote q then literal_front (q ∷ text) else other_front nested (q ∷ text)) d
    ∙ cond-true (is_quote q) (literal_front (q ∷ text)) (other_front nested (q ∷ text)) k
    ∙ ap (option_map (λ n. (TextToken, n))) e

-- an empty literal is two quotes, and no third follows
empty_len : (rest : List ℕ) → goes word rest ≡ true → literal_len (39 ∷ 39 ∷ rest) ≡ Some 2
empty_len [] g = cc
empty_len (c ∷ rest) g =
    let other : (39 == c) ≡ false = swap c 39 (or_parts (c == 39) (c == 34) (ends_parts c g).1).0 in
    literal_behind 39 (39 ∷ []) (c ∷ rest) refl refl refl (ap (λ z. z && true) other)

filled_len : (q c : ℕ) (x rest : List ℕ) → is_quote q ≡ true → (q == 92) ≡ false → is_literal (q ∷ (flat_map (shown q) (c ∷ x) ++ q ∷ [])) ≡ true
    → literal_len ((q ∷ (flat_map (shown q) (c ∷ x) ++ q ∷ [])) ++ rest) ≡ Some (length (q ∷ (flat_map (shown q) (c ∷ x) ++ q ∷ [])))
filled_len q c x rest k e h =
    let head = shown_head q c e in
    let t = flat_map (shown q) (c ∷ x) ++ q ∷ [] in
    let split : t ≡ shown q c ++ (flat_map (shown q) x ++ q ∷ []) = append_assoc (shown q c) (flat_map (shown q) x) (q ∷ []) in
    literal_behind q t rest k h
    (ap (begins_with (q ∷ q ∷ [])) split ∙ no_two q (shown q c) head (flat_map (shown q) x ++ q ∷ []))
    (ap (λ z. begins_with (q ∷ q ∷ []) (z ++ rest)) split
    ∙ ap (begins_with (q ∷ q ∷ [])) (append_assoc (shown q c) (flat_map (shown q) x ++ q ∷ []) rest)
    ∙ no_two q (shown q c) head ((flat_map (shown q) x ++ q ∷ []) ++ rest))

repr_literal : (x : List ℕ) → is_literal (repr_of x) ≡ true
repr_literal x = ap is_some (text_of-repr_of x)

quote_len : (q c : ℕ) (x rest : List ℕ) → quote_for (c ∷ x) ≡ q → is_quote q ≡ true → (q == 92) ≡ false → literal_len (repr_of (c ∷ x) ++ rest) ≡ Some (length (repr_of (c ∷ x)))
quote_len q c x rest f k e =
    let literal : is_literal (q ∷ (flat_map (shown q) (c ∷ x) ++ q ∷ [])) ≡ true = ap (λ z. is_literal (z ∷ (flat_map (shown z) (c ∷ x) ++ z ∷ []))) (sym f) ∙ repr_literal (c ∷ x) in
    ap (λ z. literal_len ((z ∷ (flat_map (shown z) (c ∷ x) ++ z ∷ [])) ++ rest)) f
    ∙ filled_len q c x rest k e literal
    ∙ ap (λ z. Some (length (z ∷ (flat_map (shown z) (c ∷ x) ++ z ∷ [])))) (sym f)

repr_len : (x rest : List ℕ) → goes word rest ≡ true → literal_len (repr_of x ++ rest) ≡ Some (length (repr_of x))
repr_len [] rest g = empty_len rest g
repr_len (c ∷ x) rest g =
    let b = list_any (λ c. c == 39) (c ∷ x) && not (list_any (λ c. c == 34) (c ∷ x)) in
    ⊎_elim
    (λ e. quote_len 34 c x rest (cond-true b 34 39 e) refl refl)
    (λ e. quote_len 39 c x rest (cond-false b 34 39 e) refl refl)
    (cases_Bool b)

quote_facts : (b : Bool) → (is_name_start (cond b 34 39) ≡ false) × (is_digit 10 (cond b 34 39) ≡ false) × (is_quote (cond b 34 39) ≡ true)
quote_facts true = (no_start 34 refl, refl, refl)
quote_facts false = (no_start 39 refl, refl, refl)

pub text_is_cut : (x : List ℕ) → IsCut TextToken (repr_of x) word (Text x)
text_is_cut x = record {
  front = λ nested rest g.
      let f = quote_facts (list_any (λ c. c == 39) x && not (list_any (λ c. c == 34) x)) in
      cut_literal nested (quote_for x) ((flat_map (shown (quote_for x)) x ++ quote_for x ∷ []) ++ rest) (length (repr_of x)) f.0 f.1 f.2 (repr_len x rest g);
  sign = ap text_sign (text_of-repr_of x);
}
