-- Printed text has no carriage return, so that its line ends stay.
use Rattle.std.proofs.Common.{◌≡◌, ℕ, zero, suc, ◌+◌, ◌*◌, ◌/◌, ◌%◌, ◌<◌, ◌≤◌, ◌^◌, pos, negsuc, List, [], ◌∷◌, ◌++◌, replicate, Bool, true, false, cond, ◌==◌, ◌&&◌, ◌||◌, not, nat_lt, if◌then◌else◌, refl, sym, ap, ◌∙◌, ◌⊎◌, ⊎_elim, arith}
use Rattle.std.specs.List.{list_all, list_any, flat_map, AllByRecursion}
use Rattle.std.specs.Char.{digit_char}
use Rattle.std.specs.Fmt.{decimal}
use Rattle.std.proofs.lemmas.List.Folds.{list_all-append}
use Rattle.std.proofs.lemmas.Bool.{cases_Bool, and_parts, and_from, cond-true, cond-false, ne_eqb, eqb-true}
use Rattle.unicode_ident.specs.Ident.{is_xid_continue}
use Rattle.py_scalars.specs.TextForm.{shown, shown_other, quote_for, repr_of}
use Rattle.py_grammar.specs.declared.mark.Mark.{Mark}
use Rattle.py_grammar.specs.declared.mark.Mark.TheVariants as m
use Rattle.py_grammar.specs.declared.sign.Sign.{Sign}
use Rattle.py_grammar.specs.declared.sign.Sign.TheVariants.{Name, Number, Text, Mark as The, Other}
use Rattle.py_block.specs.Parsed.{line_ends_from, with_line_ends}
use Rattle.py_print.specs.Pieces.{Piece, sign, space, signs_in, sign_text, mark_text, text_of}
use Rattle.py_print.specs.Printed.{PrintedLine, pieces, line_text, lines_text}
use Rattle.py_print.specs.Spelled.{IsWritten}
use Rattle.py_print.proofs.WordFronts.{punctuation_ends}
use Rattle.py_print.proofs.NumberFronts.{is_figure, decimal_begins}
use Rattle.py_print.proofs.SignFronts.{own_word, below_wide}

abbrev is_kept : ℕ → Bool
is_kept c = not (c == 13)

-- no carriage return in a text
abbrev IsKept : List ℕ → Type 0
IsKept text = list_all is_kept text ≡ true

kept_append : (a b : List ℕ) → IsKept a → IsKept b → IsKept (a ++ b)
kept_append a b h k = list_all-append is_kept a b ∙ and_from (list_all is_kept a) (list_all is_kept b) h k

not_13 : (c : ℕ) → (c == 13) ≡ false → is_kept c ≡ true
not_13 c e = ap not e

kept_word : (w : List ℕ) → list_all is_xid_continue w ≡ true → IsKept w
kept_word [] h = refl
kept_word (c ∷ w) h =
    let both = and_parts (is_xid_continue c) (list_all is_xid_continue w) h in
    and_from (is_kept c) (list_all is_kept w)
    (not_13 c (ne_eqb c 13 (λ e. let f = ap is_xid_continue (sym e) ∙ both.0 in let g = punctuation_ends 13 refl in cc)))
    (kept_word w both.1)

kept_figures : (ds : List ℕ) → list_all is_figure ds ≡ true → IsKept ds
kept_figures [] h = refl
kept_figures (c ∷ ds) h =
    let both = and_parts (is_figure c) (list_all is_figure ds) h in
    and_from (is_kept c) (list_all is_kept ds) (not_13 c (ne_eqb c 13 (λ e. let f = ap is_figure (sym e) ∙ both.0 in cc))) (kept_figures ds both.1)

-- ---- literals

digit_kept : (d : ℕ) → is_kept (digit_char d) ≡ true
digit_kept d =
    ⊎_elim
    (λ e. ap is_kept (cond-true (nat_lt d 10) (48 + d) (87 + d) e) ∙ not_13 (48 + d) (ne_eqb (48 + d) 13 (λ f. omega arith)))
    (λ e. ap is_kept (cond-false (nat_lt d 10) (48 + d) (87 + d) e) ∙ not_13 (87 + d) (ne_eqb (87 + d) 13 (λ f. omega arith)))
    (cases_Bool (nat_lt d 10))

kept_if : (b : Bool) (x y : List ℕ) → (b ≡ true → IsKept x) → (b ≡ false → IsKept y) → IsKept (if b then x else y)
kept_if true x y h k = h refl
kept_if false x y h k = k refl

shown_other_kept : (c : ℕ) → (c == 13) ≡ false → IsKept (shown_other c)
shown_other_kept c e =
    kept_if (nat_lt c 32 || (c == 127)) (92 ∷ 120 ∷ digit_char (c / 16) ∷ digit_char (c % 16) ∷ []) (c ∷ [])
    (λ b. and_from (is_kept (digit_char (c / 16))) (is_kept (digit_char (c % 16)) && true) (digit_kept (c / 16)) (and_from (is_kept (digit_char (c % 16))) true (digit_kept (c % 16)) refl))
    (λ b. and_from (is_kept c) true (not_13 c e) refl)

escaped_kept : (q c : ℕ) → is_kept q ≡ true → ((c == 92) || (c == q)) ≡ true → is_kept c ≡ true
escaped_kept q c k h = not_13 c (ne_eqb c 13 (λ e. let f : ((13 == 92) || (13 == q)) ≡ true = ap (λ z. (z == 92) || (z == q)) (sym e) ∙ h in let g : is_kept q ≡ false = ap is_kept (sym (eqb-true 13 q f)) in cc))

shown_kept : (q c : ℕ) → is_kept q ≡ true → IsKept (shown q c)
shown_kept q c k =
    kept_if ((c == 92) || (c == q)) (92 ∷ c ∷ []) _ (λ e. and_from (is_kept c) true (escaped_kept q c k e) refl) (λ e.
    kept_if (c == 10) (92 ∷ 110 ∷ []) _ (λ f. refl) (λ f.
    kept_if (c == 13) (92 ∷ 114 ∷ []) _ (λ g. refl) (λ g.
    kept_if (c == 9) (92 ∷ 116 ∷ []) (shown_other c) (λ h. refl) (λ h. shown_other_kept c g))))

all_shown_kept : (q : ℕ) (x : List ℕ) → is_kept q ≡ true → IsKept (flat_map (shown q) x)
all_shown_kept q [] k = refl
all_shown_kept q (c ∷ x) k = kept_append (shown q c) (flat_map (shown q) x) (shown_kept q c k) (all_shown_kept q x k)

quote_kept : (b : Bool) → is_kept (cond b 34 39) ≡ true
quote_kept true = refl
quote_kept false = refl

repr_kept : (x : List ℕ) → IsKept (repr_of x)
repr_kept x =
    let q = quote_for x in
    let k : is_kept q ≡ true = quote_kept (list_any (λ c. c == 39) x && not (list_any (λ c. c == 34) x)) in
    and_from (is_kept q) (list_all is_kept (flat_map (shown q) x ++ q ∷ [])) k
    (kept_append (flat_map (shown q) x) (q ∷ []) (all_shown_kept q x k) (and_from (is_kept q) true k refl))

-- ---- pieces and lines

mark_kept : (k : Mark) → IsKept (mark_text k)
mark_kept m.False = refl
mark_kept _ = refl

sign_kept : (s : Sign) → IsWritten s → IsKept (sign_text s)
sign_kept (Name x) h = let w = own_word x h in ap (list_all is_kept) w.whole ∙ kept_word (w.first ∷ w.behind) w.all
sign_kept (Number (pos n)) h = kept_figures (decimal n) (decimal_begins n (below_wide n h)).all
sign_kept (Number (negsuc n)) h = absurd h
sign_kept (Text x) h = repr_kept x
sign_kept (The k) h = mark_kept k
sign_kept Other h = absurd h

pieces_kept : (ps : List Piece) → AllByRecursion IsWritten (signs_in ps) → IsKept (text_of ps)
pieces_kept [] w = refl
pieces_kept (space ∷ ps) w = pieces_kept ps w
pieces_kept (sign s ∷ ps) w = kept_append (sign_text s) (text_of ps) (sign_kept s w.0) (pieces_kept ps w.1)

spaces_kept : (n : ℕ) → IsKept (replicate n 32)
spaces_kept zero = refl
spaces_kept (suc n) = spaces_kept n

lines_kept : (xs : List PrintedLine) → AllByRecursion (λ x. AllByRecursion IsWritten (signs_in (pieces x.row))) xs → IsKept (lines_text xs)
lines_kept [] w = refl
lines_kept (x ∷ xs) w =
    kept_append (line_text x) (lines_text xs)
    (kept_append (replicate (4 * x.deep) 32) (text_of (pieces x.row) ++ 10 ∷ []) (spaces_kept (4 * x.deep))
    (kept_append (text_of (pieces x.row)) (10 ∷ []) (pieces_kept (pieces x.row) w.0) refl))
    (lines_kept xs w.1)

ends_kept : (text : List ℕ) → IsKept text → line_ends_from false text ≡ text
ends_kept [] h = refl
ends_kept (c ∷ text) h =
    let both = and_parts (is_kept c) (list_all is_kept text) h in
    cond-false (c == 13) (10 ∷ line_ends_from true text) (c ∷ line_ends_from false text) (is_false (c == 13) both.0)
    ∙ ap (λ z. c ∷ z) (ends_kept text both.1)
  where
    is_false : (b : Bool) → not b ≡ true → b ≡ false
    is_false true h = sym h
    is_false false h = refl

pub ends_stay : (xs : List PrintedLine) → AllByRecursion (λ x. AllByRecursion IsWritten (signs_in (pieces x.row))) xs → with_line_ends (lines_text xs) ≡ lines_text xs
ends_stay xs w = ends_kept (lines_text xs) (lines_kept xs w)
