-- Places of parts, pieces and words of a text.
use Rattle.std.proofs.Common.{◌≡◌, ℕ, zero, suc, ◌+◌, ◌-◌, ◌<◌, ◌≤◌, List, [], ◌∷◌, ◌++◌, length, get_or, take, drop, Bool, true, false, cond, ◌==◌, Option, Some, None, option_map, filter, ap, sym, ◌∙◌, refl, subst, ⊎_elim, append_assoc, add-one, arith}
use Rattle.std.specs.List.{slice_split, onto_first, All}
use Rattle.std.specs.Char.{is_whitespace}
use lib.Pointwise.{pointwise}
use Rattle.std.specs.Prelude.{nat_eq}
use Rattle.std.proofs.lemmas.Slice.Eq.{slice_eq-Decides}
use Rattle.std.proofs.lemmas.Bool.Decides.{Decides-eqb}
use Rattle.std.proofs.lemmas.Bool.{cases_lt, and_parts, and_from, false_from_ne_true, eqb-true, eq-eqb}
use Rattle.std.proofs.lemmas.Option.{none-some, same_Some}
use Rattle.std.proofs.lemmas.List.{append-nil, drop-drop, take-append-drop, get_or-take, get_or-drop, get_or_default, length-take, length-drop, take_rest, drop_more}
use Rattle.std.proofs.lemmas.List.Splits.{slice_split_at, slice_split_none}
use Rattle.py_scalars.specs.Search.{begins_with, first_place, pieces, pieces_after, joined, replaced, words, is_filled}

-- ---- a text that begins with a part

pub begins_with-take : (part text : List ℕ) → begins_with part text ≡ true → (length part ≤ length text) × (take (length part) text ≡ part)
begins_with-take [] text h = (omega arith, refl)
begins_with-take (p ∷ part) [] h = cc
begins_with-take (p ∷ part) (c ∷ text) h =
    let both = and_parts (p == c) (begins_with part text) h in
    let rest = begins_with-take part text both.1 in
    (omega arith, ap (λ x. x ∷ take (length part) text) (sym (eqb-true p c both.0)) ∙ ap (λ t. p ∷ t) rest.1)

pub begins_with-from_take : (part text : List ℕ) → take (length part) text ≡ part → begins_with part text ≡ true
begins_with-from_take [] text e = refl
begins_with-from_take (p ∷ part) [] e = cc
begins_with-from_take (p ∷ part) (c ∷ text) e =
    let head : p ≡ c = cc in
    let tail : take (length part) text ≡ part = cc in
    and_from (p == c) (begins_with part text) (eq-eqb p c head) (begins_with-from_take part text tail)

pub begins_with_is : (part text : List ℕ) (b : Bool) → (b ≡ true → take (length part) text ≡ part) → (take (length part) text ≡ part → b ≡ true) → b ≡ begins_with part text
begins_with_is part text true h k = sym (begins_with-from_take part text (h refl))
begins_with_is part text false h k =
    sym (false_from_ne_true (begins_with part text) (λ e. let t : false ≡ true = k (begins_with-take part text e).1 in cc))

-- ---- the first place of a part

pub first_place-here : (part text : List ℕ) → begins_with part text ≡ true → first_place part text ≡ Some 0
first_place-here part [] h = ap (λ b. cond b (Some 0) None) h
first_place-here part (c ∷ text) h = ap (λ b. cond b (Some 0) (option_map suc (first_place part text))) h

pub first_place-next : (part text : List ℕ) (i : ℕ) → i < length text → begins_with part (drop i text) ≡ false → first_place part (drop i text) ≡ option_map suc (first_place part (drop (suc i) text))
first_place-next part [] i l h = absurd (omega arith)
first_place-next part (c ∷ text) zero l h =
    ap (λ b. cond b (Some 0) (option_map suc (first_place part text))) h
first_place-next part (c ∷ text) (suc i) l h = first_place-next part text i (omega arith) h

add-next : (i : ℕ) (o : Option ℕ) → option_map (λ n. i + n) (option_map suc o) ≡ option_map (λ n. i + 1 + n) o
add-next i None = refl
add-next i (Some n) = ap (λ m. Some m) (omega arith)

pub place_moves : (part text : List ℕ) (i : ℕ) → i < length text → begins_with part (drop i text) ≡ false → option_map (λ n. i + n) (first_place part (drop i text)) ≡ option_map (λ n. i + 1 + n) (first_place part (drop (i + 1) text))
place_moves part text i l h = ap (option_map (λ n. i + n)) (first_place-next part text i l h)
    ∙ add-next i (first_place part (drop (suc i) text))
    ∙ ap (λ m. option_map (λ n. i + 1 + n) (first_place part (drop m text))) (sym (add-one i))

pub place_found : (part text : List ℕ) (i : ℕ) → begins_with part (drop i text) ≡ true → Some i ≡ option_map (λ n. i + n) (first_place part (drop i text))
place_found part text i h =
    ap (λ m. Some m) (omega arith) ∙ ap (option_map (λ n. i + n)) (sym (first_place-here part (drop i text) h))

-- ---- pieces

skipped : (part : List ℕ) (n : ℕ) (text : List ℕ) → pieces_after part n text ≡ pieces_after part 0 (drop n text)
skipped part zero text = refl
skipped part (suc n) [] = refl
skipped part (suc n) (c ∷ text) = skipped part n text

-- where the part stands nowhere, and where it stands first
whole_piece : (part text : List ℕ) → first_place part text ≡ None → pieces part text ≡ text ∷ []
whole_piece part [] h = refl
whole_piece part (c ∷ text) h = at_head (begins_with part (c ∷ text)) (whole_piece part text) h
  where
    at_head : (b : Bool) → (first_place part text ≡ None → pieces part text ≡ text ∷ []) → cond b (Some 0) (option_map suc (first_place part text)) ≡ None → cond b ([] ∷ pieces_after part (length part - 1) text) (onto_first c (pieces part text)) ≡ (c ∷ text) ∷ []
    at_head true rest e = cc
    at_head false rest e = ap (onto_first c) (rest (none_before (first_place part text) e))
      where
        none_before : (o : Option ℕ) → option_map suc o ≡ None → o ≡ None
        none_before None e = refl
        none_before (Some n) e = cc

-- the pieces of a text in which the part stands first at n
pub pieces_at : (part text : List ℕ) (n : ℕ) → 0 < length part → first_place part text ≡ Some n → pieces part text ≡ take n text ∷ pieces part (drop (n + length part) text)
pieces_at part [] n l h = at_head (begins_with part []) refl h
  where
    at_head : (b : Bool) → begins_with part [] ≡ b → cond b (Some 0) None ≡ Some n → pieces part [] ≡ take n [] ∷ pieces part (drop (n + length part) [])
    at_head true e k = absurd (omega (arith, (begins_with-take part [] e).0))
    at_head false e k = absurd (none-some n k)
pieces_at part (c ∷ text) n l h = at_head (begins_with part (c ∷ text)) n (pieces_at part text) h
  where
    next_place : (o : Option ℕ) (m : ℕ) → option_map suc o ≡ Some m → (k : ℕ) × (o ≡ Some k) × (m ≡ suc k)
    next_place None m e = cc
    next_place (Some k) m e = (k, refl, cc)

    at_head : (b : Bool) (n : ℕ) → ((m : ℕ) → 0 < length part → first_place part text ≡ Some m → pieces part text ≡ take m text ∷ pieces part (drop (m + length part) text)) → cond b (Some 0) (option_map suc (first_place part text)) ≡ Some n → cond b ([] ∷ pieces_after part (length part - 1) text) (onto_first c (pieces part text)) ≡ take n (c ∷ text) ∷ pieces part (drop (n + length part) (c ∷ text))
    at_head true n rest e =
        let zero_place : 0 ≡ n = same_Some 0 n e in
        let jump : 0 + length part ≡ suc (length part - 1) = omega arith in
        subst (λ m. [] ∷ pieces_after part (length part - 1) text ≡ take m (c ∷ text) ∷ pieces part (drop (m + length part) (c ∷ text))) zero_place
        (ap (λ ps. [] ∷ ps) (skipped part (length part - 1) text ∙ ap (λ m. pieces part (drop m (c ∷ text))) (sym jump)))
    at_head false n rest e =
        let w = next_place (first_place part text) n e in
        let on : suc w.0 + length part ≡ suc (w.0 + length part) = omega arith in
        subst (λ m. onto_first c (pieces part text) ≡ take m (c ∷ text) ∷ pieces part (drop (m + length part) (c ∷ text))) (sym w.2)
        (ap (onto_first c) (rest w.0 l w.1) ∙ ap (λ m. (c ∷ take w.0 text) ∷ pieces part (drop m (c ∷ text))) (sym on))

some_place : (from at : ℕ) (o : Option ℕ) → Some at ≡ option_map (λ n. from + n) o → (n : ℕ) × (o ≡ Some n) × (at ≡ from + n)
some_place from at None e = absurd (none-some at (sym e))
some_place from at (Some n) e = (n, refl, same_Some at (from + n) e)

none_place : (from : ℕ) (o : Option ℕ) → None ≡ option_map (λ n. from + n) o → o ≡ None
none_place from None e = refl
none_place from (Some n) e = absurd (none-some (from + n) e)

pub pieces_from : (part text : List ℕ) (from at : ℕ) → 0 < length part → Some at ≡ option_map (λ n. from + n) (first_place part (drop from text)) → pieces part (drop from text) ≡ take (at - from) (drop from text) ∷ pieces part (drop (at + length part) text)
pieces_from part text from at l e =
    let w = some_place from at (first_place part (drop from text)) e in
    let n : w.0 ≡ at - from = omega (arith, w.2) in
    let on : from + (w.0 + length part) ≡ at + length part = omega (arith, w.2) in
    pieces_at part (drop from text) w.0 l w.1
    ∙ ap (λ t. take w.0 (drop from text) ∷ pieces part t) (drop-drop (w.0 + length part) from text)
    ∙ ap (λ m. take w.0 (drop from text) ∷ pieces part (drop m text)) on
    ∙ ap (λ m. take m (drop from text) ∷ pieces part (drop (at + length part) text)) n

pub pieces_rest : (part text : List ℕ) (from : ℕ) → None ≡ option_map (λ n. from + n) (first_place part (drop from text)) → pieces part (drop from text) ≡ drop from text ∷ []
pieces_rest part text from e = whole_piece part (drop from text) (none_place from _ e)

-- a text has at least one piece
filled_pieces : (part : List ℕ) (n : ℕ) (text : List ℕ) → (q : List ℕ) × (qs : List (List ℕ)) × (pieces_after part n text ≡ q ∷ qs)
filled_pieces part n [] = ([], [], refl)
filled_pieces part zero (c ∷ text) = at_head (begins_with part (c ∷ text)) (filled_pieces part 0 text)
  where
    at_head : (b : Bool) → ((q : List ℕ) × (qs : List (List ℕ)) × (pieces part text ≡ q ∷ qs)) → (q : List ℕ) × (qs : List (List ℕ)) × (cond b ([] ∷ pieces_after part (length part - 1) text) (onto_first c (pieces part text)) ≡ q ∷ qs)
    at_head true w = ([], pieces_after part (length part - 1) text, refl)
    at_head false w = (c ∷ w.0, w.1, ap (onto_first c) w.2)
filled_pieces part (suc n) (c ∷ text) = filled_pieces part n text

joined-cons : (b p q : List ℕ) (qs : List (List ℕ)) → joined b (p ∷ q ∷ qs) ≡ (p ++ b) ++ joined b (q ∷ qs)
joined-cons b p q qs = simp append_assoc

pub joined_more : (part text b p rest : List ℕ) (n : ℕ) → pieces_after part n text ≡ pieces_after part n text → joined b (p ∷ pieces_after part n text) ≡ (p ++ b) ++ joined b (pieces_after part n text)
joined_more part text b p rest n e =
    let w = filled_pieces part n text in
    ap (λ ps. joined b (p ∷ ps)) w.2 ∙ joined-cons b p w.0 w.1 ∙ ap (λ ps. (p ++ b) ++ joined b ps) (sym w.2)

pub joined_one : (b p : List ℕ) → joined b (p ∷ []) ≡ p
joined_one b p = append-nil p

pub replaced-filled : (a b text : List ℕ) → (length a ≡ 0 → ⊥) → joined b (pieces a text) ≡ replaced a b text
replaced-filled [] b text h = absurd (h refl)
replaced-filled (a ∷ part) b text h = refl

-- ---- words

no_white : (text : List ℕ) (from to : ℕ) → to ≤ length text → ((k : ℕ) → from ≤ k → k < to → is_whitespace (get_or text k 0) ≡ false) → All (λ c. is_whitespace c ≡ false) (take (to - from) (drop from text))
no_white text from to l h k d within =
    let near : k < to - from = omega (arith, length-take (to - from) (drop from text)) in
    let inside : k < length text - from = omega (arith, length-take (to - from) (drop from text), length-drop from text) in
    ap is_whitespace (get_or-take (to - from) (drop from text) k d near ∙ get_or-drop from text k d ∙ get_or_default text (from + k) d 0 (omega arith))
    ∙ h (from + k) (omega arith) (omega arith)

parted : (text : List ℕ) (from i : ℕ) → from ≤ i → i < length text → drop from text ≡ take (i - from) (drop from text) ++ get_or text i 0 ∷ drop (i + 1) text
parted text from i h l =
    let on : from + (i - from) ≡ i = omega arith in
    sym (take-append-drop (i - from) (drop from text))
    ∙ ap (λ t. take (i - from) (drop from text) ++ t) (drop-drop (i - from) from text ∙ ap (λ m. drop m text) on ∙ drop_more text i 0 l)

filter-cons : (p : List ℕ) (ps : List (List ℕ)) → filter is_filled (p ∷ ps) ≡ filter is_filled (p ∷ []) ++ filter is_filled ps
filter-cons [] ps = refl
filter-cons (c ∷ p) ps = refl

pub words_at : (text : List ℕ) (from i : ℕ) → from ≤ i → i < length text → ((k : ℕ) → from ≤ k → k < i → is_whitespace (get_or text k 0) ≡ false) → is_whitespace (get_or text i 0) ≡ true → words (drop from text) ≡ filter is_filled (take (i - from) (drop from text) ∷ []) ++ words (drop (i + 1) text)
words_at text from i h l black white =
    ap words (parted text from i h l)
    ∙ ap (filter is_filled) (slice_split_at is_whitespace (take (i - from) (drop from text)) (get_or text i 0) (drop (i + 1) text) (no_white text from i (omega arith) black) white)
    ∙ filter-cons (take (i - from) (drop from text)) (slice_split is_whitespace (drop (i + 1) text))

pub words_rest : (text : List ℕ) (from : ℕ) → from ≤ length text → ((k : ℕ) → from ≤ k → k < length text → is_whitespace (get_or text k 0) ≡ false) → words (drop from text) ≡ filter is_filled (take (length text - from) (drop from text) ∷ [])
words_rest text from h black =
    let all : take (length text - from) (drop from text) ≡ drop from text = take_rest text from in
    ap (filter is_filled) (slice_split_none is_whitespace (drop from text) (subst (All (λ c. is_whitespace c ≡ false)) all (no_white text from (length text) (omega arith) black)))
    ∙ ap (λ t. filter is_filled (t ∷ [])) (sym all)

-- ---- what the loops leave

pub split_step : (part text s p : List ℕ) (from at n : ℕ) (old new whole : List (List ℕ)) (piece : List ℕ) → s ≡ text → p ≡ part → n ≡ length part → 0 < length part → Some at ≡ option_map (λ n. from + n) (first_place p (drop from s)) → piece ≡ take (at - from) (drop from text) → new ≡ old ++ piece ∷ [] → old ++ pieces part (drop from text) ≡ whole → new ++ pieces part (drop (at + n) text) ≡ whole
split_step part text s p from at n old new whole piece is_s is_p is_n l place is_piece is_new was =
    let found = pieces_from part text from at l (place ∙ ap (λ t. option_map (λ n. from + n) (first_place p (drop from t))) is_s ∙ ap (λ q. option_map (λ n. from + n) (first_place q (drop from text))) is_p) in
    ap (λ m. new ++ pieces part (drop (at + m) text)) is_n
    ∙ ap (λ l. l ++ pieces part (drop (at + length part) text)) is_new
    ∙ append_assoc old (piece ∷ []) (pieces part (drop (at + length part) text))
    ∙ ap (λ q. old ++ q ∷ pieces part (drop (at + length part) text)) is_piece
    ∙ ap (λ ps. old ++ ps) (sym found)
    ∙ was

pub split_end : (part text s p : List ℕ) (from : ℕ) (old new whole : List (List ℕ)) (piece : List ℕ) → s ≡ text → p ≡ part → None ≡ option_map (λ n. from + n) (first_place p (drop from s)) → piece ≡ take (length text - from) (drop from text) → new ≡ old ++ piece ∷ [] → old ++ pieces part (drop from text) ≡ whole → new ≡ whole
split_end part text s p from old new whole piece is_s is_p place is_piece is_new was =
    let last = pieces_rest part text from (place ∙ ap (λ t. option_map (λ n. from + n) (first_place p (drop from t))) is_s ∙ ap (λ q. option_map (λ n. from + n) (first_place q (drop from text))) is_p) in
    is_new ∙ ap (λ q. old ++ q ∷ []) (is_piece ∙ take_rest text from) ∙ ap (λ ps. old ++ ps) (sym last) ∙ was

pub replace_step : (a text p b q : List ℕ) (from at n : ℕ) (old mid new whole : List ℕ) → p ≡ a → q ≡ b → n ≡ length a → 0 < length a → Some at ≡ option_map (λ n. from + n) (first_place p (drop from text)) → mid ≡ old ++ take (at - from) (drop from text) → new ≡ mid ++ q → old ++ joined b (pieces a (drop from text)) ≡ whole → new ++ joined b (pieces a (drop (at + n) text)) ≡ whole
replace_step a text p b q from at n old mid new whole is_p is_q is_n l place is_mid is_new was =
    let found = pieces_from a text from at l (place ∙ ap (λ r. option_map (λ n. from + n) (first_place r (drop from text))) is_p) in
    let piece : List ℕ = take (at - from) (drop from text) in
    let rest : List ℕ = joined b (pieces a (drop (at + length a) text)) in
    ap (λ m. new ++ joined b (pieces a (drop (at + m) text))) is_n
    ∙ ap (λ t. t ++ rest) (is_new ∙ ap (λ t. t ++ q) is_mid ∙ ap (λ t. (old ++ piece) ++ t) is_q ∙ append_assoc old piece b)
    ∙ append_assoc old (piece ++ b) rest
    ∙ ap (λ t. old ++ t) (sym (joined_more a (drop (at + length a) text) b piece [] 0 refl))
    ∙ ap (λ ps. old ++ joined b ps) (sym found)
    ∙ was

pub replace_end : (a text p b : List ℕ) (from : ℕ) (old new whole : List ℕ) → p ≡ a → None ≡ option_map (λ n. from + n) (first_place p (drop from text)) → new ≡ old ++ drop from text → old ++ joined b (pieces a (drop from text)) ≡ whole → new ≡ whole
replace_end a text p b from old new whole is_p place is_new was =
    let last = pieces_rest a text from (place ∙ ap (λ r. option_map (λ n. from + n) (first_place r (drop from text))) is_p) in
    is_new ∙ ap (λ t. old ++ t) (sym (ap (joined b) last ∙ joined_one b (drop from text))) ∙ was

pub black_more : (text : List ℕ) (from i x : ℕ) → ((k : ℕ) → from ≤ k → k < i → is_whitespace (get_or text k 0) ≡ false) → i < length text → x ≡ get_or text i x → is_whitespace x ≡ false → (k : ℕ) → from ≤ k → k < i + 1 → is_whitespace (get_or text k 0) ≡ false
black_more text from i x was l is_point black k h b =
    ⊎_elim
    (λ below. was k h below)
    (λ above. let here : k ≡ i = omega arith in ap (λ n. is_whitespace (get_or text n 0)) here ∙ ap is_whitespace (get_or_default text i 0 x l ∙ sym is_point) ∙ black)
    (cases_lt k i)

pub words_step : (text : List ℕ) (from i x : ℕ) (old new whole : List (List ℕ)) → from ≤ i → i < length text → ((k : ℕ) → from ≤ k → k < i → is_whitespace (get_or text k 0) ≡ false) → x ≡ get_or text i x → is_whitespace x ≡ true → new ≡ old ++ filter is_filled (take (i - from) (drop from text) ∷ []) → old ++ words (drop from text) ≡ whole → new ++ words (drop (i + 1) text) ≡ whole
words_step text from i x old new whole h l black is_point white is_new was =
    let found = words_at text from i h l black (ap is_whitespace (get_or_default text i 0 x l ∙ sym is_point) ∙ white) in
    ap (λ t. t ++ words (drop (i + 1) text)) is_new
    ∙ append_assoc old (filter is_filled (take (i - from) (drop from text) ∷ [])) (words (drop (i + 1) text))
    ∙ ap (λ t. old ++ t) (sym found)
    ∙ was

pub words_end : (text : List ℕ) (from n : ℕ) (old new whole : List (List ℕ)) → from ≤ length text → n ≡ length text → ((k : ℕ) → from ≤ k → k < length text → is_whitespace (get_or text k 0) ≡ false) → new ≡ old ++ filter is_filled (take (n - from) (drop from text) ∷ []) → old ++ words (drop from text) ≡ whole → new ≡ whole
words_end text from n old new whole h is_n black is_new was =
    is_new
    ∙ ap (λ m. old ++ filter is_filled (take (m - from) (drop from text) ∷ [])) is_n
    ∙ ap (λ t. old ++ t) (sym (words_rest text from h black))
    ∙ was

pub begins_none : (part text : List ℕ) → length text < length part → false ≡ begins_with part text
begins_none part text l =
    sym (false_from_ne_true (begins_with part text) (λ e. absurd (omega (arith, (begins_with-take part text e).0))))

pub begins_whole : (part text : List ℕ) (n : ℕ) (b : Bool) → n ≡ length part → b ≡ pointwise nat_eq (take n text) part → b ≡ begins_with part text
begins_whole part text n b l e =
    let same = slice_eq-Decides Decides-eqb (take n text) part b e in
    begins_with_is part text b (λ h. ap (λ m. take m text) (sym l) ∙ same.0 h) (λ h. same.1 (ap (λ m. take m text) l ∙ h))
