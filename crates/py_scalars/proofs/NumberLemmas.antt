-- The number of digits with underscores, read from the left.
use Rattle.std.proofs.Common.{◌≡◌, ◌≢◌, ℕ, ◌+◌, ◌*◌, ◌^◌, ◌<◌, ◌≤◌, List, [], ◌∷◌, length, drop, get_or, Bool, true, false, cond, not, ◌==◌, ◌&&◌, ◌||◌, Option, Some, None, ℤ, pos, filter, ap, sym, ◌∙◌, refl, arith, option_and_then}
use Rattle.std.specs.Char.{digit_value}
use Rattle.std.specs.Str.Parse.{digits_value_after}
use Rattle.std.proofs.lemmas.Bool.{eq-eqb, ne_eqb, lt-ltb, le-ltb}
use Rattle.std.proofs.lemmas.List.{drop_more}
use Rattle.std.proofs.Math.Nat.{le_trans, le-mul_of_pos_right}
use Rattle.py_scalars.specs.NumberForm.{is_digit, begins_with_digit, is_spaced, spaced_value, within, digits_within, based, based_within, number_within, decimal_form, base_behind, is_zeros}

abbrev significant : List ℕ → List ℕ
significant text = filter (λ c. not (c == 95)) text

-- what the rest of the digits makes of a number so far, and of whether an underscore stands before the rest
abbrev pub rest_within : ℕ → Bool → ℕ → List ℕ → Option ℤ
rest_within base gap n text =
    cond ((not gap || begins_with_digit base text) && is_spaced base text) (within (digits_value_after base n (significant text))) None

no_underscore : (base : ℕ) → base ≤ 16 → is_digit base 95 ≡ false
no_underscore base h = le-ltb 36 base (omega arith)

pub rest_double : (base n : ℕ) (text : List ℕ) → base ≤ 16 → rest_within base true n (95 ∷ text) ≡ None
rest_double base n text h =
    ap (λ b. cond (b && is_spaced base (95 ∷ text)) (within (digits_value_after base n (significant (95 ∷ text)))) None) (no_underscore base h)

pub rest_gap : (base n : ℕ) (text : List ℕ) → base ≤ 16 → rest_within base false n (95 ∷ text) ≡ rest_within base true n text
rest_gap base n text h =
    ap (λ b. cond ((b || begins_with_digit base text) && is_spaced base text) (within (digits_value_after base n (significant text))) None) (no_underscore base h)

pub rest_digit : (base n c : ℕ) (gap : Bool) (text : List ℕ) → c ≢ 95 → digit_value c < base → rest_within base gap n (c ∷ text) ≡ rest_within base false (n * base + digit_value c) text
rest_digit base n c gap text other h =
    let digit : is_digit base c ≡ true = lt-ltb (digit_value c) base h in
    ap (λ b. cond ((not gap || b) && ((b || (c == 95) && begins_with_digit base text) && is_spaced base text)) (within (digits_value_after base n (significant (c ∷ text)))) None) digit
    ∙ ap (λ b. cond (b && is_spaced base text) (within (digits_value_after base n (significant (c ∷ text)))) None) (either (not gap))
    ∙ ap (λ b. cond (is_spaced base text) (within (digits_value_after base n (cond (not b) (c ∷ significant text) (significant text)))) None) (ne_eqb c 95 other)
  where
    either : (b : Bool) → (b || true) ≡ true
    either true = refl
    either false = refl

pub rest_other : (base n c : ℕ) (gap : Bool) (text : List ℕ) → c ≢ 95 → base ≤ digit_value c → rest_within base gap n (c ∷ text) ≡ None
rest_other base n c gap text other h =
    let digit : is_digit base c ≡ false = le-ltb (digit_value c) base h in
    ap (λ b. cond ((not gap || b) && ((b || (c == 95) && begins_with_digit base text) && is_spaced base text)) (within (digits_value_after base n (significant (c ∷ text)))) None) digit
    ∙ ap (λ b. cond ((not gap || false) && ((b && begins_with_digit base text) && is_spaced base text)) (within (digits_value_after base n (significant (c ∷ text)))) None) (ne_eqb c 95 other)
    ∙ neither (not gap || false) (within (digits_value_after base n (significant (c ∷ text))))
  where
    neither : (b : Bool) (o : Option ℤ) → cond (b && false) o None ≡ None
    neither true o = refl
    neither false o = refl

pub grows : (base n : ℕ) (ds : List ℕ) → 1 ≤ base → n ≤ digits_value_after base n ds
grows base n [] h = omega arith
grows base n (c ∷ ds) h =
    let more = grows base (n * base + digit_value c) ds h in
    let larger : n ≤ n * base = le-mul_of_pos_right n h in
    omega arith

within_past : (n : ℕ) → 2 ^ 127 ≤ n → within n ≡ None
within_past n h = ap (λ b. cond b (Some (pos n)) None) (le-ltb n (2 ^ 127) h)

pub rest_large : (base n : ℕ) (text : List ℕ) → 1 ≤ base → 2 ^ 127 ≤ n → rest_within base false n text ≡ None
rest_large base n text h l =
    ap (λ o. cond (is_spaced base text) o None) (within_past _ (le_trans l (grows base n (significant text) h))) ∙ same (is_spaced base text)
  where
    same : (b : Bool) → ◌≡◌ {A = Option ℤ} (cond b None None) None
    same true = refl
    same false = refl

pub rest_end : (base n : ℕ) → n < 2 ^ 127 → rest_within base false n [] ≡ Some (pos n)
rest_end base n h = ap (λ b. cond b (Some (pos n)) None) (lt-ltb n (2 ^ 127) h)

-- ---- the forms of numbers

and_then-cond : (b : Bool) (n : ℕ) → option_and_then within (cond b (Some n) None) ≡ cond b (within n) None
and_then-cond true n = refl
and_then-cond false n = refl

pub based-filled : (base : ℕ) (text : List ℕ) → (length text ≡ 0 → ⊥) → digits_within base text ≡ based_within base text
based-filled base [] h = absurd (h refl)
based-filled base (c ∷ text) h = sym (and_then-cond (is_spaced base (c ∷ text)) (spaced_value base (c ∷ text)))

pub number-no_digit : (c : ℕ) (text : List ℕ) → is_digit 10 c ≡ false → number_within (c ∷ text) ≡ None
number-no_digit c text h =
    let other : (c == 48) ≡ false = ne_eqb c 48 (λ e. let t : is_digit 10 48 ≡ false = ap (is_digit 10) (sym e) ∙ h in cc) in
    ap (λ b. option_and_then within (cond (b && not (base_behind text == 0)) (based (base_behind text) (drop 1 text)) (decimal_form (c ∷ text)))) other
    ∙ ap (λ b. option_and_then within (cond (b && is_spaced 10 text && (not (c == 48) || is_zeros text)) (Some (spaced_value 10 (c ∷ text))) None)) h

pub number-based : (c base : ℕ) (text : List ℕ) → c ≡ 48 → base ≡ base_behind text → base ≢ 0 → based_within base (drop 1 text) ≡ number_within (c ∷ text)
number-based c base text e is_base h =
    let zero_first : (c == 48) ≡ true = eq-eqb c 48 e in
    let letter : (base_behind text == 0) ≡ false = ne_eqb (base_behind text) 0 (λ z. h (is_base ∙ z)) in
    ap (λ b. based_within b (drop 1 text)) is_base
    ∙ sym (ap (λ b. option_and_then within (cond (b && not (base_behind text == 0)) (based (base_behind text) (drop 1 text)) (decimal_form (c ∷ text)))) zero_first
    ∙ ap (λ b. option_and_then within (cond (not b) (based (base_behind text) (drop 1 text)) (decimal_form (c ∷ text)))) letter)

pub number-decimal : (c : ℕ) (text : List ℕ) (plain : Bool) → ((c == 48) && not (base_behind text == 0)) ≡ false → is_digit 10 c ≡ true → plain ≡ (not (c == 48) || is_zeros text) → number_within (c ∷ text) ≡ cond plain (digits_within 10 (c ∷ text)) None
number-decimal c text plain first digit is_plain =
    ap (λ b. option_and_then within (cond b (based (base_behind text) (drop 1 text)) (decimal_form (c ∷ text)))) first
    ∙ ap (λ b. option_and_then within (cond (b && is_spaced 10 text && (not (c == 48) || is_zeros text)) (Some (spaced_value 10 (c ∷ text))) None)) digit
    ∙ ap (λ b. option_and_then within (cond (is_spaced 10 text && b) (Some (spaced_value 10 (c ∷ text))) None)) (sym is_plain)
    ∙ swap (is_spaced 10 text) plain (spaced_value 10 (c ∷ text))
    ∙ ap (λ b. cond plain (cond ((b || (c == 95) && begins_with_digit 10 text) && is_spaced 10 text) (within (spaced_value 10 (c ∷ text))) None) None) (sym digit)
  where
    swap : (a b : Bool) (n : ℕ) → option_and_then within (cond (a && b) (Some n) None) ≡ cond b (cond a (within n) None) None
    swap true true n = refl
    swap true false n = refl
    swap false true n = refl
    swap false false n = refl

pub digits-large : (base n i c : ℕ) (gap : Bool) (text : List ℕ) (whole : Option ℤ) → 1 ≤ base → i < length text → c ≡ get_or text i c → c ≢ 95 → digit_value c < base → 2 ^ 127 ≤ n * base + digit_value c → rest_within base gap n (drop i text) ≡ whole → None ≡ whole
digits-large base n i c gap text whole h l is_point other digit large was =
    sym (rest_large base (n * base + digit_value c) (drop (i + 1) text) h large)
    ∙ sym (rest_digit base n c gap (drop (i + 1) text) other digit)
    ∙ ap (λ x. rest_within base gap n (x ∷ drop (i + 1) text)) is_point
    ∙ ap (rest_within base gap n) (sym (drop_more text i c l))
    ∙ was

pub number-zeros : (c : ℕ) (text : List ℕ) → c ≡ 48 → base_behind text ≡ 0 → is_zeros text ≡ false → number_within (c ∷ text) ≡ None
number-zeros c text e none zeros =
    let zero_first : (c == 48) ≡ true = eq-eqb c 48 e in
    let letter : ((c == 48) && not (base_behind text == 0)) ≡ false = ap (λ b. b && not (base_behind text == 0)) zero_first ∙ ap (λ n. not (n == 0)) none in
    let digit : is_digit 10 c ≡ true = ap (is_digit 10) e in
    number-decimal c text false letter digit (sym (ap (λ b. not b || is_zeros text) zero_first ∙ zeros))
