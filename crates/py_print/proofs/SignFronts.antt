-- The sign of a token that a text can hold is cut where it ends, and what its text begins with may stand behind what it fits.
use Rattle.std.proofs.Common.{◌≡◌, ℕ, zero, suc, ◌+◌, ◌-◌, ◌^◌, ◌<◌, ◌≤◌, pos, negsuc, List, [], ◌∷◌, ◌++◌, Bool, true, false, cond, ◌==◌, ◌&&◌, ◌||◌, not, nat_lt, Some, None, refl, sym, ap, ◌∙◌, subst, ◌⊎◌, ⊎_elim, arith, lit<, lit≤}
use Rattle.std.specs.List.{list_all, list_any}
use Rattle.std.specs.Prelude.{if◌then◌else◌}
use Rattle.std.specs.Char.{digit_value}
use Rattle.std.specs.Fmt.{decimal}
use Rattle.std.proofs.lemmas.Bool.{cases_lt, and_parts, and_from, cond-false, false_from_ne_true, ne_eqb, ltb-true, le-ltb, agree_below_at}
use Rattle.unicode_ident.specs.Ident.{is_xid_continue}
use Rattle.py_scalars.specs.NumberForm.{is_digit}
use Rattle.py_scalars.specs.TextForm.{repr_of}
use Rattle.py_lexer.specs.Form.{is_name_start, is_name, is_prefixed, is_unsupported_word, is_number, is_unsupported_number, is_literal, is_operator, is_unsupported_sign, is_quote, one_of, word_kind, number_kind, literal_kind, other_kind}
use Rattle.py_lexer.specs.Cut.{open_after}
use Rattle.py_lexer.specs.declared.token.TokenKind.TheVariants.{Word, Number as NumberToken, Text as TextToken, Op, LineEnd, Unsupported}
use Rattle.py_lexer.proofs.Words.{name_continues}
use Rattle.py_grammar.specs.Reading.{mark_begins}
use Rattle.py_grammar.specs.declared.mark.Mark.{Mark}
use Rattle.py_grammar.specs.declared.mark.Mark.TheVariants as m
use Rattle.py_grammar.specs.declared.sign.Sign.{Sign}
use Rattle.py_grammar.specs.declared.sign.Sign.TheVariants.{Name, Number, Text, Mark as The, Other}
use Rattle.py_signs.specs.Signs.{sign_of}
use Rattle.py_print.specs.Pieces.{sign_text, mark_text}
use Rattle.py_print.specs.Spelled.{IsOwnName, IsWritten}
use Rattle.py_print.proofs.Classes.{Class, free, unary, point, word, digits, gap, ends_word, may, goes, class_of, kind_of_sign, mark_class, mark_kind}
use Rattle.py_print.proofs.WordFronts.{is_low_other, no_start, word_is_cut, is_punctuation, punctuation_ends}
use Rattle.py_print.proofs.MarkFronts.{IsCut, mark_is_cut}
use Rattle.py_print.proofs.NumberFronts.{is_figure, figure, number_is_cut, decimal_begins}
use Rattle.py_print.proofs.TextFronts.{text_is_cut}
use Rattle.py_print.proofs.Runs.{is_closer, is_dot, fits, mark_turn, turn_of, turned, less}

-- ---- names

-- a token that is a word begins as one and goes on so
pub record IsWord (x : List ℕ) : Type 0 where
  pub first : ℕ
  pub behind : List ℕ
  pub whole : x ≡ first ∷ behind
  pub start : is_name_start first ≡ true
  pub all : list_all is_xid_continue (first ∷ behind) ≡ true
  pub known : is_unsupported_word (first ∷ behind) ≡ false

not_number : (a b : Bool) → (if a then Some Unsupported else (if b then Some NumberToken else None)) ≡ Some Word → ⊥
not_number true b e = cc
not_number false true e = cc
not_number false false e = cc

not_literal : (a : Bool) → (if a then Some TextToken else None) ≡ Some Word → ⊥
not_literal true e = cc
not_literal false e = cc

not_other : (a b c d : Bool) → (if a then Some LineEnd else (if b then Some Unsupported else (if c then Some Op else (if d then Some Unsupported else None)))) ≡ Some Word → ⊥
not_other true b c d e = cc
not_other false true c d e = cc
not_other false false true d e = cc
not_other false false false true e = cc
not_other false false false false e = cc

word_parts : (a b c : Bool) → (if a then Some Unsupported else (if b then (if c then Some Unsupported else Some Word) else None)) ≡ Some Word → (b ≡ true) × (c ≡ false)
word_parts true b c e = cc
word_parts false true true e = cc
word_parts false true false e = (refl, refl)
word_parts false false c e = cc

word_by : (c : ℕ) (w : List ℕ) (a b d : Bool) → is_name_start c ≡ a
    → (if a then word_kind (c ∷ w) else (if b then number_kind (c ∷ w) else (if d then literal_kind (c ∷ w) else other_kind (c ∷ w)))) ≡ Some Word
    → IsWord (c ∷ w)
word_by c w true b d s e =
    let parts = word_parts (is_prefixed (c ∷ w)) (is_name (c ∷ w)) (is_unsupported_word (c ∷ w)) e in
    let both = and_parts (is_name_start c) (list_all is_xid_continue w) parts.0 in
    record { first = c; behind = w; whole = refl; start = s; all = and_from (is_xid_continue c) (list_all is_xid_continue w) (name_continues c s) both.1; known = parts.1 }
word_by c w false true d s e = absurd (not_number (is_unsupported_number (c ∷ w)) (is_number (c ∷ w)) e)
word_by c w false false true s e = absurd (not_literal (is_literal (c ∷ w)) e)
word_by c w false false false s e = absurd (not_other (one_of (10 ∷ []) (c ∷ w)) (is_unsupported_number (c ∷ w)) (is_operator (c ∷ w)) (is_unsupported_sign (c ∷ w)) e)

pub own_word : (x : List ℕ) → IsOwnName x → IsWord x
own_word [] n = let e = n.token in cc
own_word (c ∷ w) n = word_by c w (is_name_start c) (is_digit 10 c) (is_quote c) refl n.token

name_is_cut : (x : List ℕ) → IsOwnName x → IsCut Word x word (Name x)
name_is_cut x n =
    let w = own_word x n in
    subst (λ z. IsCut Word z word (Name x)) (sym w.whole)
    (record { front = λ nested rest g. word_is_cut nested w.first w.behind rest w.start w.all w.known g; sign = ap (sign_of Word) (sym w.whole) ∙ n.own })

-- ---- each sign

pub below_wide : (n : ℕ) → n < 2 ^ 127 → n < 10 ^ 64
below_wide n h = omega (arith, h, two_below)
  where
    two_below : 2 ^ 127 < 10 ^ 64
    two_below = lit< tt

pub sign_is_cut : (s : Sign) → IsWritten s → IsCut (kind_of_sign s) (sign_text s) (class_of s) s
sign_is_cut (Name x) h = name_is_cut x h
sign_is_cut (Number (pos n)) h = number_is_cut n (below_wide n h)
sign_is_cut (Number (negsuc n)) h = absurd h
sign_is_cut (Text x) h = text_is_cut x
sign_is_cut (The k) h = mark_is_cut k
sign_is_cut Other h = absurd h

-- ---- what a sign begins with

digit_large : (c : ℕ) → 128 ≤ c → digit_value c ≡ 36
digit_large c k =
    cond-false (nat_lt c 48) 36 (cond (nat_lt c 58) (c - 48) (cond (nat_lt c 65) 36 (cond (nat_lt c 91) (c - 55) (cond (nat_lt c 97) 36 (cond (nat_lt c 123) (c - 87) 36))))) (le-ltb c 48 (omega arith))
    ∙ cond-false (nat_lt c 58) (c - 48) (cond (nat_lt c 65) 36 (cond (nat_lt c 91) (c - 55) (cond (nat_lt c 97) 36 (cond (nat_lt c 123) (c - 87) 36)))) (le-ltb c 58 (omega arith))
    ∙ cond-false (nat_lt c 65) 36 (cond (nat_lt c 91) (c - 55) (cond (nat_lt c 97) 36 (cond (nat_lt c 123) (c - 87) 36))) (le-ltb c 65 (omega arith))
    ∙ cond-false (nat_lt c 91) (c - 55) (cond (nat_lt c 97) 36 (cond (nat_lt c 123) (c - 87) 36)) (le-ltb c 91 (omega arith))
    ∙ cond-false (nat_lt c 97) 36 (cond (nat_lt c 123) (c - 87) 36) (le-ltb c 97 (omega arith))
    ∙ cond-false (nat_lt c 123) (c - 87) 36 (le-ltb c 123 (omega arith))

abbrev no_digit_starts : ℕ → Bool
no_digit_starts c = not (is_digit 10 c) || is_low_other c

abbrev always : ℕ → Bool
always c = true

-- no digit begins a name
start_no_digit : (c : ℕ) → is_name_start c ≡ true → is_digit 10 c ≡ false
start_no_digit c h =
    false_from_ne_true (is_digit 10 c) (λ d. ⊎_elim
    (λ (k : c < 128).
    let t : no_digit_starts c ≡ true = agree_below_at no_digit_starts always 128 c refl k in
    let u : is_low_other c ≡ true = ap (λ z. not z || is_low_other c) (sym d) ∙ t in
    let f = no_start c u in cc)
    (λ (k : 128 ≤ c). let e = digit_large c k in let s = ltb-true (digit_value c) 10 d in absurd (omega arith))
    (cases_lt c 128))

start_not : (c d : ℕ) → is_name_start c ≡ true → is_low_other d ≡ true → (c == d) ≡ false
start_not c d h o = ne_eqb c d (λ e. let f = ap is_name_start e in let g = no_start d o in cc)

figure_not : (c d : ℕ) → is_figure c ≡ true → is_figure d ≡ false → (c == d) ≡ false
figure_not c d h o = ne_eqb c d (λ e. let f = ap is_figure e in cc)

name_unary : (c : ℕ) → is_name_start c ≡ true → may unary c ≡ true
name_unary c h =
    and_from (not (c == 61)) (not (c == 62)) (ap not (start_not c 61 h refl)) (ap not (start_not c 62 h refl))

name_point : (c : ℕ) → is_name_start c ≡ true → may point c ≡ true
name_point c h = and_from (not (is_digit 10 c)) (not (c == 46)) (ap not (start_no_digit c h)) (ap not (start_not c 46 h refl))

figure_unary : (c : ℕ) → is_figure c ≡ true → may unary c ≡ true
figure_unary c h = and_from (not (c == 61)) (not (c == 62)) (ap not (figure_not c 61 h refl)) (ap not (figure_not c 62 h refl))

mark_free : (k : Mark) (rest : List ℕ) → goes free (mark_text k ++ rest) ≡ true
mark_free m.False rest = refl
mark_free _ rest = refl

mark_unary : (k : Mark) (rest : List ℕ) → mark_begins k ≡ true → goes unary (mark_text k ++ rest) ≡ true
mark_unary m.None rest h = refl
mark_unary m.True rest h = refl
mark_unary m.False rest h = refl
mark_unary m.Open rest h = refl
mark_unary m.OpenSquare rest h = refl
mark_unary m.OpenCurly rest h = refl
mark_unary m.Plus rest h = refl
mark_unary m.Minus rest h = refl
mark_unary m.Not rest h = refl
mark_unary m.Lambda rest h = refl
mark_unary _ rest h = cc

ends_at : (c : ℕ) → is_punctuation c && not (is_quote c) ≡ true → ends_word c ≡ true
ends_at c h =
    let both = and_parts (is_punctuation c) (not (is_quote c)) h in
    and_from (not (is_xid_continue c)) (not (is_quote c)) (ap not (punctuation_ends c both.0)) both.1

mark_word : (k : Mark) (rest : List ℕ) → is_closer k || is_dot k ≡ true → goes word (mark_text k ++ rest) ≡ true
mark_word m.Open rest h = ends_at 40 refl
mark_word m.Close rest h = ends_at 41 refl
mark_word m.OpenSquare rest h = ends_at 91 refl
mark_word m.CloseSquare rest h = ends_at 93 refl
mark_word m.CloseCurly rest h = ends_at 125 refl
mark_word m.Comma rest h = ends_at 44 refl
mark_word m.Colon rest h = ends_at 58 refl
mark_word m.Equals rest h = ends_at 61 refl
mark_word m.Dot rest h = ends_at 46 refl
mark_word _ rest h = cc

digits_at : (c : ℕ) → is_punctuation c && not (is_quote c) ≡ true → not (c == 46) ≡ true → may digits c ≡ true
digits_at c h n = and_from (ends_word c) (not (c == 46)) (ends_at c h) n

mark_digits : (k : Mark) (rest : List ℕ) → is_closer k ≡ true → goes digits (mark_text k ++ rest) ≡ true
mark_digits m.Open rest h = digits_at 40 refl refl
mark_digits m.Close rest h = digits_at 41 refl refl
mark_digits m.OpenSquare rest h = digits_at 91 refl refl
mark_digits m.CloseSquare rest h = digits_at 93 refl refl
mark_digits m.CloseCurly rest h = digits_at 125 refl refl
mark_digits m.Comma rest h = digits_at 44 refl refl
mark_digits m.Colon rest h = digits_at 58 refl refl
mark_digits m.Equals rest h = digits_at 61 refl refl
mark_digits _ rest h = cc

mark_goes : (k : Class) (c : Mark) (rest : List ℕ) → fits k (The c) ≡ true → goes k (mark_text c ++ rest) ≡ true
mark_goes free c rest h = mark_free c rest
mark_goes unary c rest h = mark_unary c rest h
mark_goes point c rest h = cc
mark_goes word c rest h = mark_word c rest h
mark_goes digits c rest h = mark_digits c rest h
mark_goes gap c rest h = cc

name_goes : (k : Class) (x rest : List ℕ) → IsOwnName x → fits k (Name x) ≡ true → goes k (x ++ rest) ≡ true
name_goes k x rest n h = let w = own_word x n in ap (λ z. goes k (z ++ rest)) w.whole ∙ by_class k w.first h w.start
  where
    by_class : (k : Class) (c : ℕ) → fits k (Name x) ≡ true → is_name_start c ≡ true → may k c ≡ true
    by_class free c h s = refl
    by_class unary c h s = name_unary c s
    by_class point c h s = name_point c s
    by_class word c h s = cc
    by_class digits c h s = cc
    by_class gap c h s = cc

number_goes : (k : Class) (n : ℕ) (rest : List ℕ) → n < 10 ^ 64 → fits k (Number (pos n)) ≡ true → goes k (decimal n ++ rest) ≡ true
number_goes k n rest l h = let w = decimal_begins n l in ap (λ z. goes k (z ++ rest)) w.whole ∙ by_class k w.first h w.figure
  where
    by_class : (k : Class) (c : ℕ) → fits k (Number (pos n)) ≡ true → is_figure c ≡ true → may k c ≡ true
    by_class free c h s = refl
    by_class unary c h s = figure_unary c s
    by_class point c h s = cc
    by_class word c h s = cc
    by_class digits c h s = cc
    by_class gap c h s = cc

quote_unary : (b : Bool) → may unary (cond b 34 39) ≡ true
quote_unary true = refl
quote_unary false = refl

text_goes : (k : Class) (x rest : List ℕ) → fits k (Text x) ≡ true → goes k (repr_of x ++ rest) ≡ true
text_goes free x rest h = refl
text_goes unary x rest h = quote_unary (list_any (λ c. c == 39) x && not (list_any (λ c. c == 34) x))
text_goes point x rest h = cc
text_goes word x rest h = cc
text_goes digits x rest h = cc
text_goes gap x rest h = cc

pub sign_goes : (k : Class) (s : Sign) (rest : List ℕ) → IsWritten s → fits k s ≡ true → goes k (sign_text s ++ rest) ≡ true
sign_goes k (Name x) rest w h = name_goes k x rest w h
sign_goes k (Number (pos n)) rest w h = number_goes k n rest (below_wide n w) h
sign_goes k (Number (negsuc n)) rest w h = absurd w
sign_goes k (Text x) rest w h = text_goes k x rest h
sign_goes k (The c) rest w h = mark_goes k c rest h
sign_goes k Other rest w h = absurd w

pub space_goes : (k : Class) (rest : List ℕ) → goes k (32 ∷ rest) ≡ true
space_goes free rest = refl
space_goes unary rest = refl
space_goes point rest = refl
space_goes word rest = ends_at 32 refl
space_goes digits rest = digits_at 32 refl refl
space_goes gap rest = refl

pub end_goes : (k : Class) (rest : List ℕ) → goes k (10 ∷ rest) ≡ true
end_goes free rest = refl
end_goes unary rest = refl
end_goes point rest = refl
end_goes word rest = ends_at 10 refl
end_goes digits rest = digits_at 10 refl refl
end_goes gap rest = refl

-- ---- brackets

one_less : (n : ℕ) → n - 1 ≡ less n
one_less zero = omega arith
one_less (suc n) = omega arith

one_more : (n : ℕ) → n + 1 ≡ suc n
one_more n = omega arith

mark_turns : (k : Mark) (n : ℕ) → open_after n (mark_kind (mark_class k)) (mark_text k) ≡ turned n (mark_turn k)
mark_turns m.Open n = one_more n
mark_turns m.OpenSquare n = one_more n
mark_turns m.OpenCurly n = one_more n
mark_turns m.Close n = one_less n
mark_turns m.CloseSquare n = one_less n
mark_turns m.CloseCurly n = one_less n
mark_turns _ n = refl

pub sign_turns : (s : Sign) (n : ℕ) → IsWritten s → open_after n (kind_of_sign s) (sign_text s) ≡ turned n (turn_of s)
sign_turns (Name x) n h = refl
sign_turns (Number z) n h = refl
sign_turns (Text x) n h = refl
sign_turns (The k) n h = mark_turns k n
sign_turns Other n h = absurd h
