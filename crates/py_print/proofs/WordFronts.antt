-- A name or a keyword is cut where it ends.
use Rattle.std.proofs.Common.{◌≡◌, ℕ, suc, ◌+◌, ◌<◌, List, [], ◌∷◌, ◌++◌, length, take, drop, Bool, true, false, cond, ◌==◌, ◌&&◌, ◌||◌, not, nat_lt, Option, Some, None, refl, sym, ap, ◌∙◌, ◌⊎◌, ⊎_elim, arith}
use Rattle.std.specs.List.{list_all, prefix_len}
use Rattle.std.specs.Prelude.{codes, if◌then◌else◌}
use Rattle.std.specs.Char.{is_ascii_alphabetic, is_ascii_alphanumeric}
use Rattle.std.proofs.Math.Seq.{take-append_seam}
use Rattle.std.proofs.lemmas.Bool.{cases_Bool, and_parts, and_from, cond-true, cond-false, ltb-true, false_from_ne_true}
use Rattle.unicode_ident.specs.Ident.{is_xid_start, is_xid_continue}
use Rattle.unicode_ident.proofs.IdentLemmas.{is_xid_continue-ascii, is_xid_start-ascii}
use Rattle.py_lexer.specs.declared.token.TokenKind.TheVariants.{Word, Unsupported}
use Rattle.py_lexer.specs.Form.{is_name_start, is_one_of, is_prefix_letter, is_quote, is_unsupported_word}
use Rattle.py_lexer.specs.Scan.{longer, quoted_len, prefixed_len, word_of, word_or_prefixed, word_front, number_front, literal_front, other_front}
use Rattle.py_lexer.proofs.Lists.{Stops, run_exact, listed_has}
use Rattle.py_lexer.proofs.Words.{quote_ends}
use Rattle.py_scalars.specs.NumberForm.{is_digit}
use Rattle.py_block.specs.Lexing.{front_of}
use Rattle.py_print.proofs.Classes.{word, ends_word, goes}

-- ---- code points of ASCII

abbrev pub is_low : ℕ → Bool
is_low c = nat_lt c 128 && (is_ascii_alphanumeric c || (c == 95))

abbrev pub is_low_start : ℕ → Bool
is_low_start c = nat_lt c 128 && is_ascii_alphabetic c

pub low_continues : (c : ℕ) → is_low c ≡ true → is_xid_continue c ≡ true
low_continues c h =
    let both = and_parts (nat_lt c 128) (is_ascii_alphanumeric c || (c == 95)) h in
    is_xid_continue-ascii c (ltb-true c 128 both.0) ∙ both.1

pub low_starts : (c : ℕ) → is_low_start c ≡ true → is_name_start c ≡ true
low_starts c h =
    let both = and_parts (nat_lt c 128) (is_ascii_alphabetic c) h in
    ap (λ z. z || (c == 95)) (is_xid_start-ascii c (ltb-true c 128 both.0) ∙ both.1)

pub low_word : (w : List ℕ) → list_all is_low w ≡ true → list_all is_xid_continue w ≡ true
low_word [] h = refl
low_word (c ∷ w) h =
    let both = and_parts (is_low c) (list_all is_low w) h in
    and_from (is_xid_continue c) (list_all is_xid_continue w) (low_continues c both.0) (low_word w both.1)

-- ASCII that is no letter, digit or `_`
abbrev pub is_punctuation : ℕ → Bool
is_punctuation c = nat_lt c 128 && not (is_ascii_alphanumeric c || (c == 95))

pub not_false : (b : Bool) → not b ≡ true → b ≡ false
not_false true h = sym h
not_false false h = refl

pub punctuation_ends : (c : ℕ) → is_punctuation c ≡ true → is_xid_continue c ≡ false
punctuation_ends c h =
    let both = and_parts (nat_lt c 128) (not (is_ascii_alphanumeric c || (c == 95))) h in
    is_xid_continue-ascii c (ltb-true c 128 both.0) ∙ not_false (is_ascii_alphanumeric c || (c == 95)) both.1

-- ASCII that begins no name
abbrev pub is_low_other : ℕ → Bool
is_low_other c = nat_lt c 128 && not (is_ascii_alphabetic c || (c == 95))

pub no_start : (c : ℕ) → is_low_other c ≡ true → is_name_start c ≡ false
no_start c h =
    let both = and_parts (nat_lt c 128) (not (is_ascii_alphabetic c || (c == 95))) h in
    ap (λ z. z || (c == 95)) (is_xid_start-ascii c (ltb-true c 128 both.0)) ∙ not_false (is_ascii_alphabetic c || (c == 95)) both.1

-- ---- what ends a word

pub ends_parts : (c : ℕ) → ends_word c ≡ true → (is_xid_continue c ≡ false) × (is_quote c ≡ false)
ends_parts c h =
    let both = and_parts (not (is_xid_continue c)) (not (is_quote c)) h in
    (not_false (is_xid_continue c) both.0, not_false (is_quote c) both.1)

-- of what continues names no list has a point that ends a word
pub not_listed : (points : List ℕ) (c : ℕ) → list_all is_low points ≡ true → is_xid_continue c ≡ false → is_one_of points c ≡ false
not_listed points c low h =
    false_from_ne_true (is_one_of points c) (λ e. let f = listed_has is_xid_continue points c e (low_word points low) in cc)

-- ---- no literal behind a prefix

no_quoted_start : (c : ℕ) (text : List ℕ) → is_quote c ≡ false → quoted_len (c ∷ text) ≡ None
no_quoted_start c text h = cond-false (is_quote c) _ None h

none_at_stop : (c : ℕ) (text : List ℕ) → is_prefix_letter c ≡ false → is_quote c ≡ false → quoted_len (drop (prefix_len is_prefix_letter (c ∷ text)) (c ∷ text)) ≡ None
none_at_stop c text h k =
    ap (λ n. quoted_len (drop n (c ∷ text))) (cond-false (is_prefix_letter c) (1 + prefix_len is_prefix_letter text) 0 h) ∙ no_quoted_start c text k

one_more : (n : ℕ) → 1 + n ≡ suc n
one_more n = omega arith

no_quote_in : (c : ℕ) → is_xid_continue c ≡ true → is_quote c ≡ false
no_quote_in c h = false_from_ne_true (is_quote c) (λ e. let f = quote_ends c e in cc)

none_behind : (w rest : List ℕ) → list_all is_xid_continue w ≡ true → goes word rest ≡ true
    → quoted_len (drop (prefix_len is_prefix_letter (w ++ rest)) (w ++ rest)) ≡ None
none_behind [] [] h g = cc
none_behind [] (c ∷ rest) h g =
    let parts = ends_parts c g in
    none_at_stop c rest (not_listed (codes "bBfFrRuU") c refl parts.0) parts.1
none_behind (c ∷ w) rest h g =
    let both = and_parts (is_xid_continue c) (list_all is_xid_continue w) h in
    ⊎_elim
    (λ e.
    ap (λ n. quoted_len (drop n (c ∷ (w ++ rest)))) (cond-true (is_prefix_letter c) (1 + prefix_len is_prefix_letter (w ++ rest)) 0 e ∙ one_more (prefix_len is_prefix_letter (w ++ rest)))
    ∙ none_behind w rest both.1 g)
    (λ e. none_at_stop c (w ++ rest) e (no_quote_in c both.0))
    (cases_Bool (is_prefix_letter c))

if_none : (b : Bool) (n : ℕ) (found : Option ℕ) → found ≡ None → (if b then longer n found else None) ≡ None
if_none true n found e = ap (longer n) e
if_none false n found e = refl

no_prefixed : (w rest : List ℕ) → list_all is_xid_continue w ≡ true → goes word rest ≡ true → prefixed_len (w ++ rest) ≡ None
no_prefixed w rest h g =
    if_none (nat_lt 0 (prefix_len is_prefix_letter (w ++ rest))) (prefix_len is_prefix_letter (w ++ rest))
    (quoted_len (drop (prefix_len is_prefix_letter (w ++ rest)) (w ++ rest))) (none_behind w rest h g)

-- ---- names and keywords

pub stops_word : (rest : List ℕ) → goes word rest ≡ true → Stops is_xid_continue rest
stops_word [] g = cc
stops_word (c ∷ rest) g = (ends_parts c g).0

word_front_of : (w rest : List ℕ) → list_all is_xid_continue w ≡ true → is_unsupported_word w ≡ false → goes word rest ≡ true
    → word_front (w ++ rest) ≡ (Word, length w)
word_front_of w rest h u g =
    let long = run_exact is_xid_continue w rest h (stops_word rest g) in
    ap (word_or_prefixed (w ++ rest)) (no_prefixed w rest h g)
    ∙ ap (λ n. (word_of (take n (w ++ rest)), n)) long
    ∙ ap (λ z. (word_of z, length w)) (take-append_seam w rest)
    ∙ ap (λ (z : Bool). (if z then Unsupported else Word, length w)) u

pub word_is_cut : (nested c : ℕ) (w rest : List ℕ) → is_name_start c ≡ true → list_all is_xid_continue (c ∷ w) ≡ true → is_unsupported_word (c ∷ w) ≡ false
    → goes word rest ≡ true → front_of nested ((c ∷ w) ++ rest) ≡ Some (Word, length (c ∷ w))
word_is_cut nested c w rest s h u g =
    cond-true (is_name_start c) (Some (word_front (c ∷ (w ++ rest))))
    (if is_digit 10 c then number_front (c ∷ (w ++ rest)) else (if is_quote c then literal_front (c ∷ (w ++ rest)) else other_front nested (c ∷ (w ++ rest)))) s
    ∙ ap Some (word_front_of (c ∷ w) rest h u g)

-- a word of ASCII
pub low_is_cut : (nested c : ℕ) (w rest : List ℕ) → is_low_start c ≡ true → list_all is_low (c ∷ w) ≡ true → is_unsupported_word (c ∷ w) ≡ false
    → goes word rest ≡ true → front_of nested ((c ∷ w) ++ rest) ≡ Some (Word, length (c ∷ w))
low_is_cut nested c w rest s h u g = word_is_cut nested c w rest (low_starts c s) (low_word (c ∷ w) h) u g
