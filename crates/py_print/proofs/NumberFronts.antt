-- A number in decimal is cut where it ends, and reads as the number.
use Rattle.std.proofs.Common.{◌≡◌, ℕ, ◌+◌, ◌*◌, ◌/◌, ◌%◌, ◌^◌, ◌<◌, ◌≤◌, pos, List, [], ◌∷◌, ◌++◌, length, take, drop, Bool, true, false, ◌==◌, ◌&&◌, ◌||◌, not, nat_lt, nat_le, Some, None, refl, sym, ap, ◌∙◌, ◌⊎◌, ⊎_elim, arith, lit<}
use Rattle.std.specs.List.{list_all, prefix_len}
use Rattle.std.specs.Prelude.{codes, is_some, filter, if◌then◌else◌}
use Rattle.std.specs.Fmt.{decimal}
use Rattle.std.specs.Str.Parse.{digits_value}
use Rattle.std.proofs.lemmas.Fmt.{decimal_is_IsNumeral_wide, decimal_by_steps_wide}
use Rattle.std.proofs.Math.Seq.{take-append_seam, drop-append_seam}
use Rattle.std.proofs.lemmas.Bool.{cases_Bool, and_parts, and_from, cond-true, cond-false, lt-ltb, leb-true, le-leb, false_from_ne_true, agree_below_at, eqb-true}
use Rattle.std.proofs.lemmas.Nat.{div-add-mod', mod_below}
use Rattle.unicode_ident.specs.Ident.{is_xid_continue}
use Rattle.py_scalars.specs.NumberForm.{is_digit, begins_with_digit, is_spaced, spaced_value, base_of, base_behind, based, is_zeros, decimal_form, number_of}
use Rattle.py_lexer.specs.declared.token.TokenKind.TheVariants.{Number as NumberToken, Unsupported}
use Rattle.py_lexer.specs.Form.{is_name_start, is_digits, is_quote, is_number}
use Rattle.py_lexer.specs.Scan.{has_digit, digits_len, begins_with_one, one_len, if_more, tail_len, fraction_len, behind_digits_len, real_len, word_front, number_front, literal_front, other_front}
use Rattle.py_lexer.proofs.Lists.{run_exact}
use Rattle.py_lexer.proofs.Numbers.{digits_exact}
use Rattle.py_lexer.proofs.Words.{digit_continues}
use Rattle.py_grammar.specs.declared.sign.Sign.TheVariants.{Number}
use Rattle.py_signs.specs.Signs.{number_sign}
use Rattle.py_block.specs.Lexing.{front_of}
use Rattle.py_print.proofs.Classes.{digits, word, ends_word, goes}
use Rattle.py_print.proofs.WordFronts.{is_low, is_low_other, low_continues, no_start, not_false, not_listed, ends_parts, stops_word}
use Rattle.py_print.proofs.MarkFronts.{IsCut}

-- ---- figures

abbrev pub is_figure : ℕ → Bool
is_figure c = nat_le 48 c && nat_le c 57

abbrev figure_facts : ℕ → Bool
figure_facts c = not (is_figure c) || (is_digit 10 c && (is_low_other c && (is_low c && (not (c == 95) && not (c == 46)))))

abbrev always : ℕ → Bool
always c = true

-- what a figure is
pub record IsFigure (c : ℕ) : Type 0 where
  pub digit : is_digit 10 c ≡ true
  pub other : is_low_other c ≡ true
  pub low : is_low c ≡ true
  pub no_line : (c == 95) ≡ false
  pub no_point : (c == 46) ≡ false

below : (c : ℕ) → is_figure c ≡ true → c < 128
below c h = let l = leb-true c 57 (and_parts (nat_le 48 c) (nat_le c 57) h).1 in omega arith

pub figure : (c : ℕ) → is_figure c ≡ true → IsFigure c
figure c h =
    let t : figure_facts c ≡ true = agree_below_at figure_facts always 128 c refl (below c h) in
    let u = ap (λ z. not z || (is_digit 10 c && (is_low_other c && (is_low c && (not (c == 95) && not (c == 46)))))) (sym h) ∙ t in
    let a = and_parts (is_digit 10 c) (is_low_other c && (is_low c && (not (c == 95) && not (c == 46)))) u in
    let b = and_parts (is_low_other c) (is_low c && (not (c == 95) && not (c == 46))) a.1 in
    let d = and_parts (is_low c) (not (c == 95) && not (c == 46)) b.1 in
    let e = and_parts (not (c == 95)) (not (c == 46)) d.1 in
    record { digit = a.0; other = b.0; low = d.0; no_line = not_false (c == 95) e.0; no_point = not_false (c == 46) e.1 }

figure_of : (d : ℕ) → d < 10 → is_figure (48 + d) ≡ true
figure_of d h = and_from (nat_le 48 (48 + d)) (nat_le (48 + d) 57) (le-leb 48 (48 + d) (omega arith)) (le-leb (48 + d) 57 (omega arith))

-- ---- numerals

abbrev first : List ℕ → ℕ
first [] = 0
first (c ∷ ds) = c

-- figures, of which the first is 0 only where the number is 0 and has no other
record IsNumeral (n : ℕ) (ds : List ℕ) : Type 0 where
  figures : list_all is_figure ds ≡ true
  some : 0 < length ds
  lead : first ds ≡ 48 → (n ≡ 0) × (ds ≡ 48 ∷ [])

one_numeral : (n : ℕ) → n < 10 → IsNumeral n ((48 + n) ∷ [])
one_numeral n h = record {
  figures = and_from (is_figure (48 + n)) true (figure_of n h) refl;
  some = omega arith;
  lead = λ e. let z : n ≡ 0 = omega arith in (z, ap (λ c. c ∷ []) e);
}

all_more : (ds : List ℕ) (c : ℕ) → list_all is_figure ds ≡ true → is_figure c ≡ true → list_all is_figure (ds ++ c ∷ []) ≡ true
all_more [] c h f = and_from (is_figure c) true f refl
all_more (d ∷ ds) c h f =
    let both = and_parts (is_figure d) (list_all is_figure ds) h in
    and_from (is_figure d) (list_all is_figure (ds ++ c ∷ [])) both.0 (all_more ds c both.1 f)

more_numeral : (n : ℕ) (ds : List ℕ) → 10 ≤ n → IsNumeral (n / 10) ds → IsNumeral n (ds ++ ((48 + n % 10) ∷ []))
more_numeral n [] h r = absurd (let s = r.some in omega arith)
more_numeral n (d ∷ ds) h r = record {
  figures = all_more (d ∷ ds) (48 + n % 10) r.figures (figure_of (n % 10) (mod_below n 10 (omega arith)));
  some = omega arith;
  lead = λ e. let z = (r.lead e).0 in let q = div-add-mod' n 10 in let l = mod_below n 10 (omega arith) in absurd (omega arith);
}

numeral : (n : ℕ) → n < 10 ^ 64 → IsNumeral n (decimal n)
numeral n h = decimal_by_steps_wide IsNumeral one_numeral more_numeral n h

-- ---- reading

spaced : (ds : List ℕ) → list_all is_figure ds ≡ true → is_spaced 10 ds ≡ true
spaced [] h = refl
spaced (c ∷ ds) h =
    let both = and_parts (is_figure c) (list_all is_figure ds) h in
    and_from (is_digit 10 c || (c == 95) && begins_with_digit 10 ds) (is_spaced 10 ds)
    (ap (λ z. z || (c == 95) && begins_with_digit 10 ds) (figure c both.0).digit) (spaced ds both.1)

no_lines : (ds : List ℕ) → list_all is_figure ds ≡ true → filter (λ c. not (c == 95)) ds ≡ ds
no_lines [] h = refl
no_lines (c ∷ ds) h =
    let both = and_parts (is_figure c) (list_all is_figure ds) h in
    ap (λ z. if not z then c ∷ filter (λ c. not (c == 95)) ds else filter (λ c. not (c == 95)) ds) (figure c both.0).no_line
    ∙ ap (λ z. c ∷ z) (no_lines ds both.1)

continues : (ds : List ℕ) → list_all is_figure ds ≡ true → list_all is_xid_continue ds ≡ true
continues [] h = refl
continues (c ∷ ds) h =
    let both = and_parts (is_figure c) (list_all is_figure ds) h in
    and_from (is_xid_continue c) (list_all is_xid_continue ds) (low_continues c (figure c both.0).low) (continues ds both.1)

no_base : (c : ℕ) → is_figure c ≡ true → (base_of c == 0) ≡ true
no_base c h =
    let t : (not (is_figure c) || (base_of c == 0)) ≡ true = agree_below_at (λ c. not (is_figure c) || (base_of c == 0)) always 128 c refl (below c h) in
    ap (λ z. not z || (base_of c == 0)) (sym h) ∙ t

no_base_behind : (ds : List ℕ) → list_all is_figure ds ≡ true → (base_behind ds == 0) ≡ true
no_base_behind [] h = refl
no_base_behind (c ∷ ds) h = no_base c (and_parts (is_figure c) (list_all is_figure ds) h).0

leads : (c : ℕ) (ds : List ℕ) → (c ≡ 48 → ds ≡ []) → (not (c == 48) || is_zeros ds) ≡ true
leads c ds h =
    ⊎_elim
    (λ e. ap (λ z. not z || is_zeros ds) e ∙ ap is_zeros (h (eqb-true c 48 e)))
    (λ e. ap (λ z. not z || is_zeros ds) e)
    (cases_Bool (c == 48))

tail_is : (c : ℕ) (ds : List ℕ) → c ∷ ds ≡ 48 ∷ [] → ds ≡ []
tail_is c ds e = ap (drop 1) e

read : (c : ℕ) (ds : List ℕ) → list_all is_figure (c ∷ ds) ≡ true → (c ≡ 48 → ds ≡ []) → number_of (c ∷ ds) ≡ Some (digits_value 10 (c ∷ ds))
read c ds h lead =
    let both = and_parts (is_figure c) (list_all is_figure ds) h in
    let no : ((c == 48) && not (base_behind ds == 0)) ≡ false = ap (λ z. (c == 48) && not z) (no_base_behind ds both.1) ∙ last (c == 48) in
    cond-false ((c == 48) && not (base_behind ds == 0)) (based (base_behind ds) (drop 1 ds)) (decimal_form (c ∷ ds)) no
    ∙ cond-true (is_digit 10 c && is_spaced 10 ds && (not (c == 48) || is_zeros ds)) (Some (spaced_value 10 (c ∷ ds))) None
    (and_from (is_digit 10 c && is_spaced 10 ds) (not (c == 48) || is_zeros ds)
    (and_from (is_digit 10 c) (is_spaced 10 ds) (figure c both.0).digit (spaced ds both.1)) (leads c ds lead))
    ∙ ap (λ z. Some (digits_value 10 z)) (no_lines (c ∷ ds) h)
  where
    last : (b : Bool) → (b && false) ≡ false
    last true = refl
    last false = refl

-- ---- cutting

no_more_digit : (rest : List ℕ) → goes digits rest ≡ true → has_digit 10 rest ≡ false
no_more_digit [] g = cc
no_more_digit (c ∷ rest) g =
    let ends = ends_parts c (and_parts (ends_word c) (not (c == 46)) g).0 in
    let no_digit : is_digit 10 c ≡ false = false_from_ne_true (is_digit 10 c) (λ e. let f = digit_continues 10 c (omega arith) e in cc) in
    let no_line : (c == 95) ≡ false = false_from_ne_true (c == 95) (λ e. let f = ap is_xid_continue (eqb-true c 95 e) ∙ low_continues 95 refl in cc) in
    ap (λ z. z || (c == 95) && begins_with_digit 10 rest) no_digit ∙ ap (λ z. z && begins_with_digit 10 rest) no_line

no_behind : (rest : List ℕ) → goes digits rest ≡ true → behind_digits_len rest ≡ 0
no_behind [] g = cc
no_behind (c ∷ rest) g =
    let both = and_parts (ends_word c) (not (c == 46)) g in
    let ends = ends_parts c both.0 in
    ap (λ z. if z || false then 1 + fraction_len rest else tail_len (c ∷ rest)) (not_false (c == 46) both.1)
    ∙ ap (λ n. n + one_len (codes "jJ") (drop n (c ∷ rest)))
    (cond-false (begins_with_one (codes "eE") (c ∷ rest)) _ 0 (not_listed (codes "eE") c refl ends.0))
    ∙ ap (λ z. 0 + (if z then 1 else 0)) (not_listed (codes "jJ") c refl ends.0)

if_more_none : (n m : ℕ) → m ≡ 0 → if_more n m ≡ 0
if_more_none n m e = ap (if_more n) e

real_none : (c : ℕ) (ds rest : List ℕ) → list_all is_figure (c ∷ ds) ≡ true → goes digits rest ≡ true → real_len ((c ∷ ds) ++ rest) ≡ 0
real_none c ds rest h g =
    let both = and_parts (is_figure c) (list_all is_figure ds) h in
    let f = figure c both.0 in
    let whole : is_digits (c ∷ ds) ≡ true = and_from (is_digit 10 c) (is_spaced 10 ds) f.digit (spaced ds both.1) in
    cond-false (c == 46) _ (if_more (digits_len (c ∷ (ds ++ rest))) (behind_digits_len (drop (digits_len (c ∷ (ds ++ rest))) (c ∷ (ds ++ rest))))) f.no_point
    ∙ if_more_none (digits_len (c ∷ (ds ++ rest))) (behind_digits_len (drop (digits_len (c ∷ (ds ++ rest))) (c ∷ (ds ++ rest))))
    (ap (λ n. behind_digits_len (drop n (c ∷ (ds ++ rest)))) (digits_exact (c ∷ ds) rest whole (no_more_digit rest g))
    ∙ ap behind_digits_len (drop-append_seam (c ∷ ds) rest)
    ∙ no_behind rest g)

number_front_of : (c : ℕ) (ds rest : List ℕ) → list_all is_figure (c ∷ ds) ≡ true → is_number (c ∷ ds) ≡ true → goes digits rest ≡ true
    → number_front ((c ∷ ds) ++ rest) ≡ Some (NumberToken, length (c ∷ ds))
number_front_of c ds rest h r g =
    let text = (c ∷ ds) ++ rest in
    let word : goes word rest ≡ true = goes_word rest g in
    let long : prefix_len is_xid_continue text ≡ length (c ∷ ds) = run_exact is_xid_continue (c ∷ ds) rest (continues (c ∷ ds) h) (stops_word rest word) in
    let whole : is_number (take (prefix_len is_xid_continue text) text) ≡ true = ap (λ n. is_number (take n text)) long ∙ ap is_number (take-append_seam (c ∷ ds) rest) ∙ r in
    let short : nat_lt (real_len text) (prefix_len is_xid_continue text) ≡ true = ap (λ n. nat_lt n (prefix_len is_xid_continue text)) (real_none c ds rest h g) ∙ ap (nat_lt 0) long ∙ lt-ltb 0 (length (c ∷ ds)) (omega arith) in
    cond-true (is_number (take (prefix_len is_xid_continue text) text) && nat_lt (real_len text) (prefix_len is_xid_continue text)) (Some (NumberToken, prefix_len is_xid_continue text))
    (if nat_lt 0 (real_len text) then Some (Unsupported, real_len text) else None)
    (and_from (is_number (take (prefix_len is_xid_continue text) text)) (nat_lt (real_len text) (prefix_len is_xid_continue text)) whole short)
    ∙ ap (λ n. Some (NumberToken, n)) long
  where
    goes_word : (rest : List ℕ) → goes digits rest ≡ true → goes word rest ≡ true
    goes_word [] g = cc
    goes_word (c ∷ rest) g = (and_parts (ends_word c) (not (c == 46)) g).0

cut_number : (nested c : ℕ) (ds rest : List ℕ) → list_all is_figure (c ∷ ds) ≡ true → is_number (c ∷ ds) ≡ true → goes digits rest ≡ true
    → front_of nested ((c ∷ ds) ++ rest) ≡ Some (NumberToken, length (c ∷ ds))
cut_number nested c ds rest h r g =
    let f = figure c (and_parts (is_figure c) (list_all is_figure ds) h).0 in
    let text = c ∷ (ds ++ rest) in
    cond-false (is_name_start c) (Some (word_front text)) (if is_digit 10 c then number_front text else (if is_quote c then literal_front text else other_front nested text)) (no_start c f.other)
    ∙ cond-true (is_digit 10 c) (number_front text) (if is_quote c then literal_front text else other_front nested text) f.digit
    ∙ number_front_of c ds rest h r g

number_cut_of : (n : ℕ) (ds : List ℕ) → digits_value 10 ds ≡ n → IsNumeral n ds → IsCut NumberToken ds digits (Number (pos n))
number_cut_of n [] v r = absurd (let s = r.some in omega arith)
number_cut_of n (c ∷ ds) v r =
    let value : number_of (c ∷ ds) ≡ Some n = read c ds r.figures (λ e. tail_is c ds (r.lead e).1) ∙ ap Some v in
    record {
      front = λ nested rest g. cut_number nested c ds rest r.figures (ap is_some value) g;
      sign = ap number_sign value;
    }

pub number_is_cut : (n : ℕ) → n < 10 ^ 64 → IsCut NumberToken (decimal n) digits (Number (pos n))
number_is_cut n h = number_cut_of n (decimal n) (decimal_is_IsNumeral_wide n h).1 (numeral n h)

pub decimal_reads : (n : ℕ) → n < 10 ^ 64 → number_of (decimal n) ≡ Some n
decimal_reads n h = reads_of n (decimal n) (decimal_is_IsNumeral_wide n h).1 (numeral n h)
  where
    reads_of : (n : ℕ) (ds : List ℕ) → digits_value 10 ds ≡ n → IsNumeral n ds → number_of ds ≡ Some n
    reads_of n [] v r = absurd (let s = r.some in omega arith)
    reads_of n (c ∷ ds) v r = read c ds r.figures (λ e. tail_is c ds (r.lead e).1) ∙ ap Some v

-- a number begins with a figure
pub record IsNumber (ds : List ℕ) : Type 0 where
  pub first : ℕ
  pub behind : List ℕ
  pub whole : ds ≡ first ∷ behind
  pub figure : is_figure first ≡ true
  pub all : list_all is_figure ds ≡ true

begins_of : (n : ℕ) (ds : List ℕ) → IsNumeral n ds → IsNumber ds
begins_of n [] r = absurd (let s = r.some in omega arith)
begins_of n (c ∷ ds) r = record { first = c; behind = ds; whole = refl; figure = (and_parts (is_figure c) (list_all is_figure ds) r.figures).0; all = r.figures }

pub decimal_begins : (n : ℕ) → n < 10 ^ 64 → IsNumber (decimal n)
decimal_begins n h = begins_of n (decimal n) (numeral n h)
