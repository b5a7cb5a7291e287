-- Names, literals with a prefix, and the letters of numbers.
use Rattle.std.proofs.Common.{◌≡◌, ℕ, zero, suc, ◌+◌, ◌-◌, ◌<◌, ◌≤◌, List, [], ◌∷◌, ◌++◌, length, take, drop, Bool, true, false, cond, ◌&&◌, ◌||◌, ◌==◌, not, nat_lt, Option, Some, None, is_some, ap, sym, ◌∙◌, refl, subst, ◌⊎◌, inl, inr, ⊎_elim, append_assoc, length-append, drop_at, arith, lit<, lit≤}
use Rattle.std.specs.List.{list_all, prefix_len}
use Rattle.std.specs.Char.{digit_value, is_ascii_alphanumeric}
use Rattle.std.proofs.lemmas.Bool.{cases_Bool, or_cases, and_parts, and_from, cond-true, cond-false, eqb-true, ltb-true, lt-ltb, cases_lt, agree_below_at, le-ltb}
use Rattle.std.proofs.lemmas.List.{take-append-drop, length-take-le, length-drop}
use Rattle.std.proofs.lemmas.List.Sums.{prefix_len-le-length}
use Rattle.unicode_ident.specs.Ident.{is_xid_start, is_xid_continue}
use Rattle.unicode_ident.proofs.IdentLemmas.{is_xid_continue-ascii, is_xid_start-is_xid_continue}
use Rattle.py_scalars.specs.NumberForm.{is_digit, is_spaced, begins_with_digit, based, base_behind, base_of, decimal_form, is_filled, is_zeros, spaced_value}
use Rattle.py_lexer.specs.Form.{is_name_start, is_number, is_quote, is_quoted, is_prefix_letter, is_prefix, is_prefixed}
use Rattle.py_lexer.specs.Scan.{longer, quoted_len, prefixed_len}
use Rattle.py_lexer.proofs.Lists.{joins_from, joins_parts, take_add, Stops, run_passes, run_exact, run_most}
use Rattle.py_lexer.proofs.Quotes.{Found, Front, quoted_exact, quoted_take, chosen}

-- ---- code points

pub name_continues : (c : ℕ) → is_name_start c ≡ true → is_xid_continue c ≡ true
name_continues c h =
    ⊎_elim (λ s. is_xid_start-is_xid_continue c s) (λ e. ap is_xid_continue (eqb-true c 95 e) ∙ is_xid_continue-ascii 95 (lit< tt)) (or_cases (is_xid_start c) (c == 95) h)

quote_is : (q : ℕ) → is_quote q ≡ true → (q ≡ 39) ⊎ (q ≡ 34)
quote_is q h = ⊎_elim (λ e. inl (eqb-true q 39 e)) (λ e. inr (eqb-true q 34 e)) (or_cases (q == 39) (q == 34) h)

pub quote_ends : (q : ℕ) → is_quote q ≡ true → is_xid_continue q ≡ false
quote_ends q h =
    ⊎_elim (λ e. ap is_xid_continue e ∙ is_xid_continue-ascii 39 (lit< tt)) (λ e. ap is_xid_continue e ∙ is_xid_continue-ascii 34 (lit< tt)) (quote_is q h)

quote_no_letter : (q : ℕ) → is_quote q ≡ true → is_prefix_letter q ≡ false
quote_no_letter q h = ⊎_elim (λ e. ap is_prefix_letter e) (λ e. ap is_prefix_letter e) (quote_is q h)

abbrev digit_goes_on : ℕ → Bool
digit_goes_on c = not (is_digit 16 c) || (is_ascii_alphanumeric c || (c == 95))

abbrev always : ℕ → Bool
always c = true

no_digit : (c : ℕ) → 128 ≤ c → digit_value c ≡ 36
no_digit c k =
    cond-false (nat_lt c 48) 36 (cond (nat_lt c 58) (c - 48) (cond (nat_lt c 65) 36 (cond (nat_lt c 91) (c - 55) (cond (nat_lt c 97) 36 (cond (nat_lt c 123) (c - 87) 36))))) (le-ltb c 48 (omega arith))
    ∙ cond-false (nat_lt c 58) (c - 48) (cond (nat_lt c 65) 36 (cond (nat_lt c 91) (c - 55) (cond (nat_lt c 97) 36 (cond (nat_lt c 123) (c - 87) 36)))) (le-ltb c 58 (omega arith))
    ∙ cond-false (nat_lt c 65) 36 (cond (nat_lt c 91) (c - 55) (cond (nat_lt c 97) 36 (cond (nat_lt c 123) (c - 87) 36))) (le-ltb c 65 (omega arith))
    ∙ cond-false (nat_lt c 91) (c - 55) (cond (nat_lt c 97) 36 (cond (nat_lt c 123) (c - 87) 36)) (le-ltb c 91 (omega arith))
    ∙ cond-false (nat_lt c 97) 36 (cond (nat_lt c 123) (c - 87) 36) (le-ltb c 97 (omega arith))
    ∙ cond-false (nat_lt c 123) (c - 87) 36 (le-ltb c 123 (omega arith))

pub digit_continues : (base c : ℕ) → base ≤ 16 → is_digit base c ≡ true → is_xid_continue c ≡ true
digit_continues base c l h =
    let small : digit_value c < 16 = let s = ltb-true (digit_value c) base h in omega arith in
    let digit : is_digit 16 c ≡ true = lt-ltb (digit_value c) 16 small in
    ⊎_elim
    (λ (k : c < 128).
    let e : digit_goes_on c ≡ true = agree_below_at digit_goes_on always 128 c refl k in
    is_xid_continue-ascii c k
    ∙ ⊎_elim (λ n. let f : false ≡ true = ap (λ b. not b) (sym digit) ∙ n in cc) (λ y. y) (or_cases (not (is_digit 16 c)) (is_ascii_alphanumeric c || (c == 95)) e))
    (λ (k : 128 ≤ c). let large : digit_value c ≡ 36 = no_digit c k in absurd (omega arith))
    (cases_lt c 128)

-- ---- whole numbers are made of what may continue a name

spaced_continues : (base : ℕ) (text : List ℕ) → base ≤ 16 → is_spaced base text ≡ true → list_all is_xid_continue text ≡ true
spaced_continues base [] l h = refl
spaced_continues base (c ∷ text) l h =
    let both = and_parts (is_digit base c || (c == 95) && begins_with_digit base text) (is_spaced base text) h in
    and_from (is_xid_continue c) (list_all is_xid_continue text)
    (⊎_elim
    (λ d. digit_continues base c l d)
    (λ u. ap is_xid_continue (eqb-true c 95 (and_parts (c == 95) (begins_with_digit base text) u).0) ∙ is_xid_continue-ascii 95 (lit< tt))
    (or_cases (is_digit base c) ((c == 95) && begins_with_digit base text) both.0))
    (spaced_continues base text l both.1)

one_of_two : (c a b : ℕ) → a < 128 → b < 128 → (is_ascii_alphanumeric a || (a == 95)) ≡ true → (is_ascii_alphanumeric b || (b == 95)) ≡ true → ((c == a) || (c == b)) ≡ true → is_xid_continue c ≡ true
one_of_two c a b l m h k e =
    ⊎_elim
    (λ x. ap is_xid_continue (eqb-true c a x) ∙ is_xid_continue-ascii a l ∙ h)
    (λ x. ap is_xid_continue (eqb-true c b x) ∙ is_xid_continue-ascii b m ∙ k)
    (or_cases (c == a) (c == b) e)

base_letter : (c : ℕ) → (base_of c == 0) ≡ false → (base_of c ≤ 16) × (is_xid_continue c ≡ true)
base_letter c h =
    elim (chosen ((c == 120) || (c == 88)) 16 (cond ((c == 111) || (c == 79)) 8 (cond ((c == 98) || (c == 66)) 2 0)) (base_of c) refl) [
      | inl p ↦ (let e = p.1 in omega arith, one_of_two c 120 88 (lit< tt) (lit< tt) refl refl p.0)
      | inr p ↦ elim (chosen ((c == 111) || (c == 79)) 8 (cond ((c == 98) || (c == 66)) 2 0) (base_of c) p.1) [
        | inl q ↦ (let e = q.1 in omega arith, one_of_two c 111 79 (lit< tt) (lit< tt) refl refl q.0)
        | inr q ↦ elim (chosen ((c == 98) || (c == 66)) 2 0 (base_of c) q.1) [
          | inl r ↦ (let e = r.1 in omega arith, one_of_two c 98 66 (lit< tt) (lit< tt) refl refl r.0)
          | inr r ↦ absurd (let f : (0 == 0) ≡ false = ap (λ z. z == 0) r.1 ∙ h in cc)
        ]
      ]
    ]

some_false : {A : Type 0} (b : Bool) (x : A) → is_some (cond b (Some x) None) ≡ true → b ≡ true
some_false true x h = refl
some_false false x h = cc

zero_continues : is_xid_continue 48 ≡ true
zero_continues = is_xid_continue-ascii 48 (lit< tt)

based_continues : (c : ℕ) (text : List ℕ) → c ≡ 48 → (base_behind text == 0) ≡ false → is_some (based (base_behind text) (drop 1 text)) ≡ true → list_all is_xid_continue (c ∷ text) ≡ true
based_continues c [] z n h = cc
based_continues c (x ∷ text) z n h =
    let l = base_letter x n in
    let both = and_parts (is_filled text) (is_spaced (base_of x) text) (some_false (is_filled text && is_spaced (base_of x) text) (spaced_value (base_of x) text) h) in
    and_from (is_xid_continue c) (list_all is_xid_continue (x ∷ text)) (ap is_xid_continue z ∙ zero_continues)
    (and_from (is_xid_continue x) (list_all is_xid_continue text) l.1 (spaced_continues (base_of x) text l.0 both.1))

decimal_continues : (c : ℕ) (text : List ℕ) → is_some (decimal_form (c ∷ text)) ≡ true → list_all is_xid_continue (c ∷ text) ≡ true
decimal_continues c text h =
    let all = some_false (is_digit 10 c && is_spaced 10 text && (not (c == 48) || is_zeros text)) (spaced_value 10 (c ∷ text)) h in
    let both = and_parts (is_digit 10 c && is_spaced 10 text) (not (c == 48) || is_zeros text) all in
    let digits = and_parts (is_digit 10 c) (is_spaced 10 text) both.0 in
    and_from (is_xid_continue c) (list_all is_xid_continue text) (digit_continues 10 c (lit≤ tt) digits.0) (spaced_continues 10 text (lit≤ tt) digits.1)

not_true : (b : Bool) → not b ≡ true → b ≡ false
not_true true h = cc
not_true false h = refl

pub number_continues : (text : List ℕ) → is_number text ≡ true → list_all is_xid_continue text ≡ true
number_continues [] h = cc
number_continues (c ∷ text) h =
    ⊎_elim
    (λ (b : ((c == 48) && not (base_behind text == 0)) ≡ true).
    let both = and_parts (c == 48) (not (base_behind text == 0)) b in
    based_continues c text (eqb-true c 48 both.0) (not_true (base_behind text == 0) both.1)
    (ap is_some (sym (cond-true ((c == 48) && not (base_behind text == 0)) (based (base_behind text) (drop 1 text)) (decimal_form (c ∷ text)) b)) ∙ h))
    (λ (b : ((c == 48) && not (base_behind text == 0)) ≡ false).
    decimal_continues c text
    (ap is_some (sym (cond-false ((c == 48) && not (base_behind text == 0)) (based (base_behind text) (drop 1 text)) (decimal_form (c ∷ text)) b)) ∙ h))
    (cases_Bool ((c == 48) && not (base_behind text == 0)))

-- ---- literals with a prefix

quoted_stops : (t rest : List ℕ) → is_quoted t ≡ true → Stops is_prefix_letter (t ++ rest)
quoted_stops [] rest h = cc
quoted_stops (q ∷ t) rest h = quote_no_letter q (and_parts (is_quote q) _ h).0

filled_long : (t : List ℕ) → is_filled t ≡ true → 0 < length t
filled_long [] h = cc
filled_long (c ∷ t) h = omega arith

longer_found : (n m : ℕ) (found : Option ℕ) → Found found m → Found (longer n found) (n + m)
longer_found n m found f = record { long = n + f.long; is = ap (longer n) f.is; least = let l = f.least in omega arith }

pub prefixed_exact : (t rest : List ℕ) → is_prefixed t ≡ true → Found (prefixed_len (t ++ rest)) (length t)
prefixed_exact t rest h =
    let p = joins_parts is_prefix is_quoted t h in
    let both = and_parts (is_filled p.front) (list_all is_prefix_letter p.front) p.first in
    let whole : t ++ rest ≡ p.front ++ (p.behind ++ rest) = ap (λ z. z ++ rest) p.whole ∙ append_assoc p.front p.behind rest in
    let run : prefix_len is_prefix_letter (p.front ++ (p.behind ++ rest)) ≡ length p.front = run_exact is_prefix_letter p.front (p.behind ++ rest) both.1 (quoted_stops p.behind rest p.second) in
    let is : prefixed_len (t ++ rest) ≡ longer (length p.front) (quoted_len (p.behind ++ rest)) =
    ap prefixed_len whole
    ∙ ap (λ n. cond (nat_lt 0 n) (longer n (quoted_len (drop n (p.front ++ (p.behind ++ rest))))) None) run
    ∙ cond-true (nat_lt 0 (length p.front)) (longer (length p.front) (quoted_len (drop (length p.front) (p.front ++ (p.behind ++ rest))))) None (lt-ltb 0 (length p.front) (filled_long p.front both.0))
    ∙ ap (λ z. longer (length p.front) (quoted_len z)) (drop_at p.front (p.behind ++ rest) (length p.front) refl) in
    let long : length t ≡ length p.front + length p.behind = ap length p.whole ∙ length-append p.front p.behind in
    let f = longer_found (length p.front) (length p.behind) (quoted_len (p.behind ++ rest)) (quoted_exact p.behind rest p.second) in
    record { long = f.long; is = is ∙ f.is; least = let l = f.least in omega arith }

abbrev pub IsPrefixed : List ℕ → Type 0
IsPrefixed t = is_prefixed t ≡ true

-- a literal with a prefix that was found, and how far a name goes there
pub record Prefixed (text : List ℕ) (n : ℕ) : Type 0 where
  pub front : Front IsPrefixed text n
  pub name : prefix_len is_xid_continue text ≤ n

record Quote (text : List ℕ) : Type 0 where
  quote : ℕ
  rest : List ℕ
  whole : text ≡ quote ∷ rest
  is : is_quote quote ≡ true

quote_first : (text : List ℕ) (n : ℕ) → quoted_len text ≡ Some n → Quote text
quote_first [] n e = cc
quote_first (q ∷ text) n e =
    ⊎_elim
    (λ h. record { quote = q; rest = text; whole = refl; is = h })
    (λ h. let f : None ≡ Some n = sym (cond-false (is_quote q) _ None h) ∙ e in cc)
    (cases_Bool (is_quote q))

longer_some : (n m : ℕ) (found : Option ℕ) → longer n found ≡ Some m → (k : ℕ) × (found ≡ Some k) × (m ≡ n + k)
longer_some n m None e = cc
longer_some n m (Some k) e = (k, refl, let same : n + k ≡ m = cc in sym same)

taken_filled : (n : ℕ) (text : List ℕ) → 0 < n → n ≤ length text → is_filled (take n text) ≡ true
taken_filled zero text l k = absurd (omega arith)
taken_filled (suc n) [] l k = absurd (omega arith)
taken_filled (suc n) (c ∷ text) l k = refl

pub prefixed_take : (text : List ℕ) (n : ℕ) → prefixed_len text ≡ Some n → Prefixed text n
prefixed_take text n e =
    let p = prefix_len is_prefix_letter text in
    ⊎_elim
    (λ (l : nat_lt 0 (prefix_len is_prefix_letter text) ≡ true).
    let s = longer_some p n (quoted_len (drop (prefix_len is_prefix_letter text) text)) (sym (cond-true (nat_lt 0 p) (longer p (quoted_len (drop p text))) None l) ∙ e) in
    let f = quoted_take (drop p text) s.0 s.1 in
    let q = quote_first (drop p text) s.0 s.1 in
    let fits : prefix_len is_prefix_letter text ≤ length text = prefix_len-le-length is_prefix_letter text in
    let some = ltb-true 0 (prefix_len is_prefix_letter text) l in
    let whole : text ≡ take (prefix_len is_prefix_letter text) text ++ (q.quote ∷ q.rest) = sym (take-append-drop p text) ∙ ap (λ z. take p text ++ z) q.whole in
    let name : prefix_len is_xid_continue text ≤ length (take (prefix_len is_prefix_letter text) text) =
    subst (λ z. prefix_len is_xid_continue z ≤ length (take (prefix_len is_prefix_letter text) text)) (sym whole) (run_most is_xid_continue (take p text) q.quote q.rest (quote_ends q.quote q.is)) in
    let long = length-take-le p text fits in
    record {
      front = record {
        within = let w = f.within in let d = length-drop p text in let m = s.2 in omega arith;
        is = ap (λ k. is_prefixed (take k text)) s.2 ∙ ap is_prefixed (take_add p s.0 text)
            ∙ joins_from is_prefix is_quoted (take p text) (take s.0 (drop p text))
            (and_from (is_filled (take p text)) (list_all is_prefix_letter (take p text)) (taken_filled p text some fits) (run_passes is_prefix_letter text)) f.is;
      };
      name = let m = s.2 in omega arith;
    })
    (λ (l : nat_lt 0 (prefix_len is_prefix_letter text) ≡ false). let f : None ≡ Some n = sym (cond-false (nat_lt 0 p) (longer p (quoted_len (drop p text))) None l) ∙ e in cc)
    (cases_Bool (nat_lt 0 (prefix_len is_prefix_letter text)))
