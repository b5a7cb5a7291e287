-- The longest token at the front of a text.
use Rattle.std.proofs.Common.{◌≡◌, ℕ, zero, suc, ◌+◌, ◌<◌, ◌≤◌, List, [], ◌∷◌, length, take, drop, get_or, Bool, true, false, cond, ◌&&◌, ◌==◌, nat_lt, Option, Some, None, option_map, Result, Ok, Err, IfOk, ap, sym, ◌∙◌, refl, subst, ◌⊎◌, inl, inr, ⊎_elim, arith}
use Rattle.std.specs.List.{list_all, prefix_len}
use Rattle.std.proofs.lemmas.Bool.{cases_Bool, or_from, and_parts, and_from, and_cases, and_left, cond-true, cond-false, eqb-true, eq-eqb, ne_eqb, ltb-true, ltb-false, false_from_ne_true}
use Rattle.std.proofs.lemmas.List.{take-append-drop, length-take-le}
use Rattle.std.proofs.lemmas.List.Sums.{prefix_len-le-length}
use Rattle.unicode_ident.specs.Ident.{is_xid_continue}
use Rattle.py_scalars.specs.NumberForm.{is_digit, begins_with_digit}
use Rattle.py_lexer.specs.declared.token.TokenKind.{TokenKind}
use Rattle.py_lexer.specs.declared.token.TokenKind.TheVariants.{Word, Number, Text, Op, LineEnd, Unsupported}
use Rattle.py_lexer.specs.Form.{is_name_start, is_name, is_unsupported_word, is_prefixed, is_number, is_unsupported_number, is_quote, is_literal, one_of, is_operator, is_unsupported_sign, word_kind, number_kind, literal_kind, sign_kind, other_kind, kind_of, continues, allowed, token_kind}
use Rattle.py_lexer.specs.Scan.{real_len, fraction_len, number_front, literal_len, literal_front, prefixed_len, word_or_prefixed, word_front, sign_front, other_front}
use Rattle.py_lexer.specs.Cut.{IsToken, HasNoToken, IsFront}
use Rattle.py_lexer.proofs.Lists.{Stops, run_stops, run_passes, run_exact, run_least}
use Rattle.py_lexer.proofs.Numbers.{real_bound, real_within, unsupported_parts, real_take, point_take, unsupported_head}
use Rattle.py_lexer.proofs.Quotes.{Found, literal_exact, literal_take, chosen, same_some}
use Rattle.py_lexer.proofs.Words.{name_continues, number_continues, prefixed_exact, prefixed_take}
use Rattle.py_lexer.proofs.Signs.{no_sign_end, point_sign, AreSigns, signs}

-- ---- what a place allows

pub allowed_some : (nested : ℕ) (rest : List ℕ) (o : Option TokenKind) (j : TokenKind) → allowed nested rest o ≡ Some j → o ≡ Some j
allowed_some nested rest None j e = cc
allowed_some nested rest (Some Word) j e = e
allowed_some nested rest (Some Number) j e =
    elim (chosen (continues rest) None (Some Number) (Some j) e) [ inl p ↦ let f = p.1 in cc | inr p ↦ p.1 ]
allowed_some nested rest (Some Text) j e = e
allowed_some nested rest (Some Op) j e = e
allowed_some nested rest (Some LineEnd) j e =
    elim (chosen (nested == 0) (Some LineEnd) None (Some j) e) [ inl p ↦ p.1 | inr p ↦ let f = p.1 in cc ]
allowed_some nested rest (Some Unsupported) j e = e

allowed_number : (nested : ℕ) (rest : List ℕ) → allowed nested rest (Some Number) ≡ Some Number → continues rest ≡ false
allowed_number nested rest e =
    elim (chosen (continues rest) None (Some Number) (Some Number) e) [ inl p ↦ let f = p.1 in cc | inr p ↦ p.0 ]

allowed_end : (nested : ℕ) (rest : List ℕ) → allowed nested rest (Some LineEnd) ≡ Some LineEnd → (nested == 0) ≡ true
allowed_end nested rest e =
    elim (chosen (nested == 0) (Some LineEnd) None (Some LineEnd) e) [ inl p ↦ p.0 | inr p ↦ let f = p.1 in cc ]

none_of : (o : Option TokenKind) → ((j : TokenKind) → o ≡ Some j → ⊥) → o ≡ None
none_of None h = refl
none_of (Some j) h = absurd (h j refl)

-- a token that a place allows is bounded
abbrev Bounds : ℕ → List ℕ → ℕ → Type 0
Bounds nested text n = (m : ℕ) (j : TokenKind) → m ≤ length text → kind_of (take m text) ≡ Some j → allowed nested (drop m text) (Some j) ≡ Some j → m ≤ n

make_token : (nested : ℕ) (text : List ℕ) (k : TokenKind) (n : ℕ) → n ≤ length text → kind_of (take n text) ≡ Some k → allowed nested (drop n text) (Some k) ≡ Some k
    → Bounds nested text n → IsToken nested text k n
make_token nested text k n l e a b = record {
  within = l;
  kind = ap (allowed nested (drop n text)) e ∙ a;
  longest = λ m j l f. let g = allowed_some nested (drop m text) (kind_of (take m text)) j f in b m j l g (sym (ap (allowed nested (drop m text)) g) ∙ f);
}

make_none : (nested : ℕ) (text : List ℕ) → ((m : ℕ) (j : TokenKind) → m ≤ length text → kind_of (take m text) ≡ Some j → allowed nested (drop m text) (Some j) ≡ Some j → ⊥) → HasNoToken nested text
make_none nested text b = λ m l.
    none_of (token_kind nested (take m text) (drop m text)) (λ j f.
    let g = allowed_some nested (drop m text) (kind_of (take m text)) j f in b m j l g (sym (ap (allowed nested (drop m text)) g) ∙ f))

-- ---- by the first code point

kind_word : (c : ℕ) (t : List ℕ) → is_name_start c ≡ true → kind_of (c ∷ t) ≡ word_kind (c ∷ t)
kind_word c t h = cond-true (is_name_start c) (word_kind (c ∷ t)) (cond (is_digit 10 c) (number_kind (c ∷ t)) (cond (is_quote c) (literal_kind (c ∷ t)) (other_kind (c ∷ t)))) h

kind_number : (c : ℕ) (t : List ℕ) → is_name_start c ≡ false → is_digit 10 c ≡ true → kind_of (c ∷ t) ≡ number_kind (c ∷ t)
kind_number c t h k =
    cond-false (is_name_start c) (word_kind (c ∷ t)) (cond (is_digit 10 c) (number_kind (c ∷ t)) (cond (is_quote c) (literal_kind (c ∷ t)) (other_kind (c ∷ t)))) h
    ∙ cond-true (is_digit 10 c) (number_kind (c ∷ t)) (cond (is_quote c) (literal_kind (c ∷ t)) (other_kind (c ∷ t))) k

kind_literal : (c : ℕ) (t : List ℕ) → is_name_start c ≡ false → is_digit 10 c ≡ false → is_quote c ≡ true → kind_of (c ∷ t) ≡ literal_kind (c ∷ t)
kind_literal c t h k q =
    cond-false (is_name_start c) (word_kind (c ∷ t)) (cond (is_digit 10 c) (number_kind (c ∷ t)) (cond (is_quote c) (literal_kind (c ∷ t)) (other_kind (c ∷ t)))) h
    ∙ cond-false (is_digit 10 c) (number_kind (c ∷ t)) (cond (is_quote c) (literal_kind (c ∷ t)) (other_kind (c ∷ t))) k
    ∙ cond-true (is_quote c) (literal_kind (c ∷ t)) (other_kind (c ∷ t)) q

pub kind_other : (c : ℕ) (t : List ℕ) → is_name_start c ≡ false → is_digit 10 c ≡ false → is_quote c ≡ false → kind_of (c ∷ t) ≡ other_kind (c ∷ t)
kind_other c t h k q =
    cond-false (is_name_start c) (word_kind (c ∷ t)) (cond (is_digit 10 c) (number_kind (c ∷ t)) (cond (is_quote c) (literal_kind (c ∷ t)) (other_kind (c ∷ t)))) h
    ∙ cond-false (is_digit 10 c) (number_kind (c ∷ t)) (cond (is_quote c) (literal_kind (c ∷ t)) (other_kind (c ∷ t))) k
    ∙ cond-false (is_quote c) (literal_kind (c ∷ t)) (other_kind (c ∷ t)) q

-- ---- words

name_all : (t : List ℕ) → is_name t ≡ true → list_all is_xid_continue t ≡ true
name_all [] h = cc
name_all (c ∷ t) h =
    let both = and_parts (is_name_start c) (list_all is_xid_continue t) h in and_from (is_xid_continue c) (list_all is_xid_continue t) (name_continues c both.0) both.1

word_long : (text : List ℕ) (o : Option ℕ) → prefixed_len text ≡ o → prefix_len is_xid_continue text ≤ (word_or_prefixed text o).1
word_long text None e = omega arith
word_long text (Some n) e = let p = prefixed_take text n e in p.name

word_bound : (text : List ℕ) (m : ℕ) (j : TokenKind) → m ≤ length text → word_kind (take m text) ≡ Some j → m ≤ (word_front text).1
word_bound text m j l e =
    let t : List ℕ = take m text in
    let long = length-take-le m text l in
    elim (chosen (is_prefixed t) (Some Unsupported) (cond (is_name t) (cond (is_unsupported_word t) (Some Unsupported) (Some Word)) None) (Some j) e) [
      | inl p ↦
          let f = prefixed_exact t (drop m text) p.0 in
          let is : prefixed_len text ≡ Some f.long = ap prefixed_len (sym (take-append-drop m text)) ∙ f.is in
          let n : (word_front text).1 ≡ f.long = ap (λ o. (word_or_prefixed text o).1) is in
          let least = f.least in
          omega arith
      | inr p ↦ elim (chosen (is_name t) (cond (is_unsupported_word t) (Some Unsupported) (Some Word)) None (Some j) p.1) [
        | inl q ↦
            let r : length t ≤ prefix_len is_xid_continue text = subst (λ z. length t ≤ prefix_len is_xid_continue z) (take-append-drop m text) (run_least is_xid_continue t (drop m text) (name_all t q.0)) in
            let w = word_long text (prefixed_len text) refl in
            omega arith
        | inr q ↦ let f = q.1 in cc
      ]
    ]

some_cond : (b : Bool) (x y : TokenKind) → cond b (Some x) (Some y) ≡ Some (cond b x y)
some_cond true x y = refl
some_cond false x y = refl

word_is : (c : ℕ) (cs : List ℕ) → is_name_start c ≡ true → (o : Option ℕ) → prefixed_len (c ∷ cs) ≡ o
    → ((word_or_prefixed (c ∷ cs) o).1 ≤ length (c ∷ cs)) × (word_kind (take (word_or_prefixed (c ∷ cs) o).1 (c ∷ cs)) ≡ Some (word_or_prefixed (c ∷ cs) o).0)
word_is c cs h (Some n) e =
    let p = prefixed_take (c ∷ cs) n e in
    let t : List ℕ = take n (c ∷ cs) in
    (p.front.within, cond-true (is_prefixed t) (Some Unsupported) (cond (is_name t) (cond (is_unsupported_word t) (Some Unsupported) (Some Word)) None) p.front.is)
word_is c cs h None e =
    let n = prefix_len is_xid_continue (c ∷ cs) in
    let t : List ℕ = take (prefix_len is_xid_continue (c ∷ cs)) (c ∷ cs) in
    let no : is_prefixed (take (prefix_len is_xid_continue (c ∷ cs)) (c ∷ cs)) ≡ false = false_from_ne_true (is_prefixed t) (λ y.
    let f = prefixed_exact t (drop n (c ∷ cs)) y in
    let is : None ≡ Some f.long = sym e ∙ ap prefixed_len (sym (take-append-drop n (c ∷ cs))) ∙ f.is in cc) in
    let long : prefix_len is_xid_continue (c ∷ cs) ≡ suc (prefix_len is_xid_continue cs) = cond-true (is_xid_continue c) (1 + prefix_len is_xid_continue cs) 0 (name_continues c h) ∙ omega arith in
    let name : is_name (take (prefix_len is_xid_continue (c ∷ cs)) (c ∷ cs)) ≡ true =
    ap (λ k. is_name (take k (c ∷ cs))) long ∙ and_from (is_name_start c) (list_all is_xid_continue (take (prefix_len is_xid_continue cs) cs)) h (run_passes is_xid_continue cs) in (
      prefix_len-le-length is_xid_continue (c ∷ cs),
      cond-false (is_prefixed t) (Some Unsupported) (cond (is_name t) (cond (is_unsupported_word t) (Some Unsupported) (Some Word)) None) no
          ∙ cond-true (is_name t) (cond (is_unsupported_word t) (Some Unsupported) (Some Word)) None name
          ∙ some_cond (is_unsupported_word t) Unsupported Word,
    )

word_taken : (c : ℕ) (cs : List ℕ) (n : ℕ) (k : TokenKind) → is_name_start c ≡ true → word_kind (take n (c ∷ cs)) ≡ Some k → kind_of (take n (c ∷ cs)) ≡ Some k
word_taken c cs zero k h e = cc
word_taken c cs (suc n) k h e = kind_word c (take n cs) h ∙ e

word_from : (c : ℕ) (cs : List ℕ) (n : ℕ) (k : TokenKind) → is_name_start c ≡ true → kind_of (take n (c ∷ cs)) ≡ Some k → word_kind (take n (c ∷ cs)) ≡ Some k
word_from c cs zero k h e = cc
word_from c cs (suc n) k h e = sym (kind_word c (take n cs) h) ∙ e

either_allowed : (nested : ℕ) (rest : List ℕ) (b : Bool) → allowed nested rest (Some (cond b Unsupported Word)) ≡ Some (cond b Unsupported Word)
either_allowed nested rest true = refl
either_allowed nested rest false = refl

word_allowed : (nested : ℕ) (rest text : List ℕ) (o : Option ℕ) → allowed nested rest (Some (word_or_prefixed text o).0) ≡ Some (word_or_prefixed text o).0
word_allowed nested rest text (Some n) = refl
word_allowed nested rest text None = either_allowed nested rest (is_unsupported_word (take (prefix_len is_xid_continue text) text))

pub word_is_front : (nested : ℕ) (text : List ℕ) (x : ℕ) → 0 < length text → x ≡ get_or text 0 x → is_name_start x ≡ true → IsToken nested text (word_front text).0 (word_front text).1
word_is_front nested [] x l e h = absurd (omega arith)
word_is_front nested (c ∷ cs) x l e h =
    let first : is_name_start c ≡ true = ap is_name_start (sym e) ∙ h in
    let w = word_is c cs first (prefixed_len (c ∷ cs)) refl in
    make_token nested (c ∷ cs) (word_front (c ∷ cs)).0 (word_front (c ∷ cs)).1 w.0
    (word_taken c cs (word_front (c ∷ cs)).1 (word_front (c ∷ cs)).0 first w.1)
    (word_allowed nested (drop (word_front (c ∷ cs)).1 (c ∷ cs)) (c ∷ cs) (prefixed_len (c ∷ cs)))
    (λ m j l f a. word_bound (c ∷ cs) m j l (word_from c cs m j first f))

-- ---- numbers

stops_from : (rest : List ℕ) → continues rest ≡ false → Stops is_xid_continue rest
stops_from [] h = tt
stops_from (c ∷ rest) h = h

stops_are : (rest : List ℕ) → Stops is_xid_continue rest → continues rest ≡ false
stops_are [] h = refl
stops_are (c ∷ rest) h = h

-- a number that fits is no longer than the one with a point, or a whole number as long as a name would go on
number_bound : (nested : ℕ) (text : List ℕ) (m : ℕ) (j : TokenKind) → m ≤ length text → number_kind (take m text) ≡ Some j → allowed nested (drop m text) (Some j) ≡ Some j
    → (m ≤ real_len text) ⊎ ((m ≡ prefix_len is_xid_continue text) × (is_number (take m text) ≡ true))
number_bound nested text m j l e a =
    let t : List ℕ = take m text in
    let long = length-take-le m text l in
    elim (chosen (is_unsupported_number t) (Some Unsupported) (cond (is_number t) (Some Number) None) (Some j) e) [
      | inl p ↦
          let r : length t ≤ real_len text = subst (λ z. length t ≤ real_len z) (take-append-drop m text) (real_bound (unsupported_parts t p.0) (drop m text)) in
          inl (omega arith)
      | inr p ↦ elim (chosen (is_number t) (Some Number) None (Some j) p.1) [
        | inl q ↦
            let same : Number ≡ j = same_some q.1 in
            let stop = allowed_number nested (drop m text) (subst (λ k. allowed nested (drop m text) (Some k) ≡ Some k) (sym same) a) in
            let r : prefix_len is_xid_continue text ≡ length t =
            ap (prefix_len is_xid_continue) (sym (take-append-drop m text)) ∙ run_exact is_xid_continue t (drop m text) (number_continues t q.0) (stops_from (drop m text) stop) in
            inr (omega arith, q.0)
        | inr q ↦ let f = q.1 in cc
      ]
    ]

number_taken : (c : ℕ) (cs : List ℕ) (n : ℕ) (k : TokenKind) → is_name_start c ≡ false → is_digit 10 c ≡ true → number_kind (take n (c ∷ cs)) ≡ Some k → kind_of (take n (c ∷ cs)) ≡ Some k
number_taken c cs zero k h d e = cc
number_taken c cs (suc n) k h d e = kind_number c (take n cs) h d ∙ e

number_from : (c : ℕ) (cs : List ℕ) (n : ℕ) (k : TokenKind) → is_name_start c ≡ false → is_digit 10 c ≡ true → kind_of (take n (c ∷ cs)) ≡ Some k → (0 < n) × (number_kind (take n (c ∷ cs)) ≡ Some k)
number_from c cs zero k h d e = cc
number_from c cs (suc n) k h d e = (omega arith, sym (kind_number c (take n cs) h d) ∙ e)

number_cases : (nested c : ℕ) (cs : List ℕ) → is_name_start c ≡ false → is_digit 10 c ≡ true → IsFront nested (c ∷ cs) (number_front (c ∷ cs))
number_cases nested c cs h d =
    let text : List ℕ = c ∷ cs in
    let u = real_len (c ∷ cs) in
    let p = prefix_len is_xid_continue (c ∷ cs) in
    let whole : List ℕ = take (prefix_len is_xid_continue (c ∷ cs)) (c ∷ cs) in
    let fits = prefix_len-le-length is_xid_continue (c ∷ cs) in
    ⊎_elim
    (λ (b : (is_number whole && nat_lt u p) ≡ true).
    let both = and_parts (is_number whole) (nat_lt u p) b in
    let less = ltb-true u p both.1 in
    let no : is_unsupported_number (take (prefix_len is_xid_continue (c ∷ cs)) (c ∷ cs)) ≡ false = false_from_ne_true (is_unsupported_number whole) (λ y.
    let r : length whole ≤ real_len (c ∷ cs) = subst (λ z. length whole ≤ real_len z) (take-append-drop p text) (real_bound (unsupported_parts whole y) (drop p text)) in
    let long = length-take-le p text fits in
    omega arith) in
    let stop : continues (drop (prefix_len is_xid_continue (c ∷ cs)) (c ∷ cs)) ≡ false = stops_are (drop p text) (run_stops is_xid_continue text) in
    subst (IsFront nested (c ∷ cs)) (sym (cond-true (is_number whole && nat_lt u p) (Some (Number, p)) (cond (nat_lt 0 u) (Some (Unsupported, u)) None) b))
    (make_token nested (c ∷ cs) Number (prefix_len is_xid_continue (c ∷ cs)) fits
    (number_taken c cs p Number h d (cond-false (is_unsupported_number whole) (Some Unsupported) (cond (is_number whole) (Some Number) None) no ∙ cond-true (is_number whole) (Some Number) None both.0))
    (cond-false (continues (drop p text)) None (Some Number) stop)
    (λ m j l f a. ⊎_elim (λ x. omega arith) (λ x. let e = x.0 in omega arith) (number_bound nested text m j l (number_from c cs m j h d f).1 a))))
    (λ (b : (is_number whole && nat_lt u p) ≡ false).
    let short : (m : ℕ) → m ≡ p → is_number (take m (c ∷ cs)) ≡ true → m ≤ u = λ m e y.
    ⊎_elim
    (λ (n : is_number whole ≡ false). let k : is_number whole ≡ true = ap (λ z. is_number (take z text)) (sym e) ∙ y in cc)
    (λ (n : nat_lt u p ≡ false). let k = ltb-false u p n in omega arith)
    (and_cases (is_number whole) (nat_lt u p) b) in
    subst (IsFront nested (c ∷ cs)) (sym (cond-false (is_number whole && nat_lt u p) (Some (Number, p)) (cond (nat_lt 0 u) (Some (Unsupported, u)) None) b))
    (⊎_elim
    (λ (s : nat_lt 0 u ≡ true).
    subst (IsFront nested (c ∷ cs)) (sym (cond-true (nat_lt 0 u) (Some (Unsupported, u)) None s))
    (make_token nested (c ∷ cs) Unsupported (real_len (c ∷ cs)) (real_within text)
    (number_taken c cs u Unsupported h d (cond-true (is_unsupported_number (take u text)) (Some Unsupported) (cond (is_number (take u text)) (Some Number) None) (real_take c cs d (ltb-true 0 u s))))
    refl
    (λ m j l f a. ⊎_elim (λ x. x) (λ x. short m x.0 x.1) (number_bound nested text m j l (number_from c cs m j h d f).1 a))))
    (λ (s : nat_lt 0 u ≡ false).
    let none = ltb-false 0 u s in
    subst (IsFront nested (c ∷ cs)) (sym (cond-false (nat_lt 0 u) (Some (Unsupported, u)) None s))
    (make_none nested (c ∷ cs) (λ m j l f a.
    let k = number_from c cs m j h d f in
    let some = k.0 in
    ⊎_elim (λ x. omega arith) (λ x. let y = short m x.0 x.1 in omega arith) (number_bound nested text m j l k.1 a))))
    (cases_Bool (nat_lt 0 u))))
    (cases_Bool (is_number whole && nat_lt u p))

pub number_is_front : (nested : ℕ) (text : List ℕ) (x : ℕ) → 0 < length text → x ≡ get_or text 0 x → is_name_start x ≡ false → is_digit 10 x ≡ true → IsFront nested text (number_front text)
number_is_front nested [] x l e h d = absurd (omega arith)
number_is_front nested (c ∷ cs) x l e h d = number_cases nested c cs (ap is_name_start (sym e) ∙ h) (ap (is_digit 10) (sym e) ∙ d)

-- ---- literals

literal_yes : (t : List ℕ) (j : TokenKind) → literal_kind t ≡ Some j → is_literal t ≡ true
literal_yes t j e = elim (chosen (is_literal t) (Some Text) None (Some j) e) [ inl p ↦ p.0 | inr p ↦ let f = p.1 in cc ]

-- what fits is found, and no longer than what is found
literal_found : (c : ℕ) (cs : List ℕ) (m : ℕ) (j : TokenKind) → is_name_start c ≡ false → is_digit 10 c ≡ false → is_quote c ≡ true → m ≤ length (c ∷ cs) → kind_of (take m (c ∷ cs)) ≡ Some j
    → Found (literal_len (c ∷ cs)) m
literal_found c cs zero j h d q l e = cc
literal_found c cs (suc m) j h d q l e =
    let f = literal_exact c (take m cs) (drop m cs) q (literal_yes (c ∷ take m cs) j (sym (kind_literal c (take m cs) h d q) ∙ e)) in
    let long = length-take-le m cs (omega arith) in
    record { long = f.long; is = ap (λ z. literal_len (c ∷ z)) (sym (take-append-drop m cs)) ∙ f.is; least = let k = f.least in omega arith }

literal_taken : (c : ℕ) (cs : List ℕ) (n : ℕ) → is_name_start c ≡ false → is_digit 10 c ≡ false → is_quote c ≡ true → is_literal (take n (c ∷ cs)) ≡ true → kind_of (take n (c ∷ cs)) ≡ Some Text
literal_taken c cs zero h d q e = cc
literal_taken c cs (suc n) h d q e = kind_literal c (take n cs) h d q ∙ cond-true (is_literal (c ∷ take n cs)) (Some Text) None e

literal_by : (nested c : ℕ) (cs : List ℕ) → is_name_start c ≡ false → is_digit 10 c ≡ false → is_quote c ≡ true → (o : Option ℕ) → literal_len (c ∷ cs) ≡ o
    → IsFront nested (c ∷ cs) (option_map (λ n. (Text, n)) o)
literal_by nested c cs h d q None e =
    make_none nested (c ∷ cs) (λ m j l f a. let x = literal_found c cs m j h d q l f in let y : None ≡ Some x.long = sym e ∙ x.is in cc)
literal_by nested c cs h d q (Some n) e =
    let r = literal_take c cs n q e in
    make_token nested (c ∷ cs) Text n r.within (literal_taken c cs n h d q r.is) refl (λ m j l f a.
    let x = literal_found c cs m j h d q l f in
    let same : n ≡ x.long = same_some (sym e ∙ x.is) in
    let least = x.least in
    omega arith)

pub literal_is_front : (nested : ℕ) (text : List ℕ) (x : ℕ) → 0 < length text → x ≡ get_or text 0 x → is_name_start x ≡ false → is_digit 10 x ≡ false → is_quote x ≡ true → IsFront nested text (literal_front text)
literal_is_front nested [] x l e h d q = absurd (omega arith)
literal_is_front nested (c ∷ cs) x l e h d q =
    literal_by nested c cs (ap is_name_start (sym e) ∙ h) (ap (is_digit 10) (sym e) ∙ d) (ap is_quote (sym e) ∙ q) (literal_len (c ∷ cs)) refl

-- ---- line ends, numbers that begin with their point, and signs

no_end : (c : ℕ) (t : List ℕ) → (c == 10) ≡ false → one_of (10 ∷ []) (c ∷ t) ≡ false
no_end c [] e = or_from (c == 10) false e refl
no_end c (d ∷ t) e = refl

digit_taken : (m : ℕ) (cs : List ℕ) → begins_with_digit 10 (take m cs) ≡ true → begins_with_digit 10 cs ≡ true
digit_taken zero cs h = cc
digit_taken (suc m) [] h = cc
digit_taken (suc m) (b ∷ cs) h = h

-- no sign is a number or a line end
sign_allowed : (nested : ℕ) (t : List ℕ) (k : TokenKind) (rest : List ℕ) → sign_kind t ≡ Some k → allowed nested rest (Some k) ≡ Some k
sign_allowed nested t k rest e =
    elim (chosen (is_operator t) (Some Op) (cond (is_unsupported_sign t) (Some Unsupported) None) (Some k) e) [
      | inl p ↦ subst (λ z. allowed nested rest (Some z) ≡ Some z) (same_some p.1) refl
      | inr p ↦ elim (chosen (is_unsupported_sign t) (Some Unsupported) None (Some k) p.1) [
        | inl r ↦ subst (λ z. allowed nested rest (Some z) ≡ Some z) (same_some r.1) refl
        | inr r ↦ let f = r.1 in cc
      ]
    ]

module _ (nested : ℕ) where
  -- what fits at another first code point
  other_from : (c : ℕ) (cs : List ℕ) (m : ℕ) (j : TokenKind) → is_name_start c ≡ false → is_digit 10 c ≡ false → is_quote c ≡ false → kind_of (take m (c ∷ cs)) ≡ Some j
      → (0 < m) × (other_kind (take m (c ∷ cs)) ≡ Some j)
  other_from c cs zero j h d q e = cc
  other_from c cs (suc m) j h d q e = (omega arith, sym (kind_other c (take m cs) h d q) ∙ e)

  other_taken : (c : ℕ) (cs : List ℕ) (n : ℕ) (k : TokenKind) → is_name_start c ≡ false → is_digit 10 c ≡ false → is_quote c ≡ false → other_kind (take n (c ∷ cs)) ≡ Some k → kind_of (take n (c ∷ cs)) ≡ Some k
  other_taken c cs zero k h d q e = cc
  other_taken c cs (suc n) k h d q e = kind_other c (take n cs) h d q ∙ e

  -- a line end is a token of one code point
  end_bound : (cs : List ℕ) (m : ℕ) (j : TokenKind) → other_kind (take m (10 ∷ cs)) ≡ Some j → m ≤ length (10 ∷ cs) → (m ≤ 1) × (LineEnd ≡ j)
  end_bound cs zero j e l = cc
  end_bound cs (suc zero) j e l = (omega arith, same_some e)
  end_bound [] (suc (suc m)) j e l = absurd (omega arith)
  end_bound (x ∷ cs) (suc (suc m)) j e l =
      let t : List ℕ = 10 ∷ x ∷ take m cs in
      elim (chosen (is_unsupported_number t) (Some Unsupported) (sign_kind t) (Some j) e) [
        | inl p ↦ absurd (⊎_elim (λ (y : is_digit 10 10 ≡ true). let f : false ≡ true = y in absurd (let g = f in cc)) (λ y. let f = y.0 in omega arith) (unsupported_head 10 (x ∷ take m cs) p.0))
        | inr p ↦ let k = no_sign_end (x ∷ take m cs) in cc
      ]

  end_is_front : (cs : List ℕ) → is_name_start 10 ≡ false → IsFront nested (10 ∷ cs) (cond (nested == 0) (Some (LineEnd, 1)) None)
  end_is_front cs h =
      ⊎_elim
      (λ (z : (nested == 0) ≡ true).
      subst (IsFront nested (10 ∷ cs)) (sym (cond-true (nested == 0) (Some (LineEnd, 1)) None z))
      (make_token nested (10 ∷ cs) LineEnd 1 (omega arith) (kind_other 10 [] h refl refl) (cond-true (nested == 0) (Some LineEnd) None z)
      (λ m j l f a. (end_bound cs m j (other_from 10 cs m j h refl refl f).1 l).0)))
      (λ (z : (nested == 0) ≡ false).
      subst (IsFront nested (10 ∷ cs)) (sym (cond-false (nested == 0) (Some (LineEnd, 1)) None z))
      (make_none nested (10 ∷ cs) (λ m j l f a.
      let same = (end_bound cs m j (other_from 10 cs m j h refl refl f).1 l).1 in
      let y = allowed_end nested (drop m (10 ∷ cs)) (subst (λ k. allowed nested (drop m (10 ∷ cs)) (Some k) ≡ Some k) (sym same) a) in cc)))
      (cases_Bool (nested == 0))

  -- neither a line end nor a number: a sign
  other_sign : (c : ℕ) (t : List ℕ) → (c == 10) ≡ false → is_unsupported_number (c ∷ t) ≡ false → other_kind (c ∷ t) ≡ sign_kind (c ∷ t)
  other_sign c t e u =
      cond-false (one_of (10 ∷ []) (c ∷ t)) (Some LineEnd) (cond (is_unsupported_number (c ∷ t)) (Some Unsupported) (sign_kind (c ∷ t))) (no_end c t e)
      ∙ cond-false (is_unsupported_number (c ∷ t)) (Some Unsupported) (sign_kind (c ∷ t)) u

  other_number : (c : ℕ) (t : List ℕ) → (c == 10) ≡ false → is_unsupported_number (c ∷ t) ≡ true → other_kind (c ∷ t) ≡ Some Unsupported
  other_number c t e u =
      cond-false (one_of (10 ∷ []) (c ∷ t)) (Some LineEnd) (cond (is_unsupported_number (c ∷ t)) (Some Unsupported) (sign_kind (c ∷ t))) (no_end c t e)
      ∙ cond-true (is_unsupported_number (c ∷ t)) (Some Unsupported) (sign_kind (c ∷ t)) u

  point_digit : (t : List ℕ) → begins_with_digit 10 t ≡ true → (b : ℕ) × (rest : List ℕ) × (t ≡ b ∷ rest) × (is_digit 10 b ≡ true)
  point_digit [] h = cc
  point_digit (b ∷ rest) h = (b, rest, refl, h)

  two_points : (b : ℕ) → is_digit 10 b ≡ true → (b == 46) ≡ false
  two_points b h = ne_eqb b 46 (λ e. let f : is_digit 10 46 ≡ true = ap (is_digit 10) (sym e) ∙ h in cc)

  -- a number that begins with its point is longer than a sign
  number_longer : (cs : List ℕ) → begins_with_digit 10 cs ≡ true → 1 ≤ real_len (46 ∷ cs)
  number_longer cs h = let e = cond-true (begins_with_digit 10 cs) (1 + fraction_len cs) 0 h in omega arith

  point_bound : (cs : List ℕ) (m : ℕ) (j : TokenKind) → begins_with_digit 10 cs ≡ true → m ≤ length (46 ∷ cs) → (0 < m) × (other_kind (take m (46 ∷ cs)) ≡ Some j) → m ≤ real_len (46 ∷ cs)
  point_bound cs zero j h l e = omega arith
  point_bound cs (suc m) j h l e =
      let t : List ℕ = 46 ∷ take m cs in
      let text : List ℕ = 46 ∷ cs in
      ⊎_elim
      (λ (u : is_unsupported_number t ≡ true).
      let r : length t ≤ real_len (46 ∷ cs) = subst (λ z. length t ≤ real_len z) (take-append-drop (suc m) text) (real_bound (unsupported_parts t u) (drop m cs)) in
      let long = length-take-le m cs (omega arith) in
      omega arith)
      (λ (u : is_unsupported_number t ≡ false).
      let d = point_digit cs h in
      let k : sign_kind (take (suc m) (46 ∷ d.0 ∷ d.1)) ≡ Some j = ap (λ z. sign_kind (46 ∷ take m z)) (sym d.2) ∙ sym (other_sign 46 (take m cs) refl u) ∙ e.1 in
      let size = ap length d.2 in
      let s = point_sign d.0 d.1 (suc m) j (omega arith) (two_points d.0 d.3) k in
      let n = number_longer cs h in
      omega arith)
      (cases_Bool (is_unsupported_number t))

  point_kind : (cs : List ℕ) (n : ℕ) → 1 ≤ n → is_unsupported_number (take n (46 ∷ cs)) ≡ true → other_kind (take n (46 ∷ cs)) ≡ Some Unsupported
  point_kind cs zero l u = absurd (omega arith)
  point_kind cs (suc n) l u = other_number 46 (take n cs) refl u

  point_is_front : (cs : List ℕ) → is_name_start 46 ≡ false → begins_with_digit 10 cs ≡ true → IsToken nested (46 ∷ cs) Unsupported (real_len (46 ∷ cs))
  point_is_front cs h digit =
      make_token nested (46 ∷ cs) Unsupported (real_len (46 ∷ cs)) (real_within (46 ∷ cs))
      (other_taken 46 cs (real_len (46 ∷ cs)) Unsupported h refl refl (point_kind cs (real_len (46 ∷ cs)) (number_longer cs digit) (point_take cs digit)))
      refl
      (λ m j l f a. point_bound cs m j digit l (other_from 46 cs m j h refl refl f))

  -- where a point and a digit do not begin the text, no front is a number
  no_number : (c : ℕ) (cs : List ℕ) (m : ℕ) → is_digit 10 c ≡ false → ((c == 46) && begins_with_digit 10 cs) ≡ false → is_unsupported_number (c ∷ take m cs) ≡ false
  no_number c cs m d p =
      false_from_ne_true (is_unsupported_number (c ∷ take m cs)) (λ u.
      ⊎_elim
      (λ (y : is_digit 10 c ≡ true). let f : true ≡ false = sym y ∙ d in cc)
      (λ y.
      let both : ((c == 46) && begins_with_digit 10 cs) ≡ true = and_from (c == 46) (begins_with_digit 10 cs) (eq-eqb c 46 y.0) (digit_taken m cs y.1) in
      let f : true ≡ false = sym both ∙ p in cc)
      (unsupported_head c (take m cs) u))

  sign_bound : (c : ℕ) (cs : List ℕ) (m : ℕ) (j : TokenKind) → is_name_start c ≡ false → is_digit 10 c ≡ false → is_quote c ≡ false → (c == 10) ≡ false → ((c == 46) && begins_with_digit 10 cs) ≡ false
      → kind_of (take m (c ∷ cs)) ≡ Some j → sign_kind (take m (c ∷ cs)) ≡ Some j
  sign_bound c cs zero j h d q e p f = cc
  sign_bound c cs (suc m) j h d q e p f =
      sym (other_sign c (take m cs) e (no_number c cs m d p)) ∙ sym (kind_other c (take m cs) h d q) ∙ f

  sign_taken : (c : ℕ) (cs : List ℕ) (n : ℕ) (k : TokenKind) → is_name_start c ≡ false → is_digit 10 c ≡ false → is_quote c ≡ false → (c == 10) ≡ false → ((c == 46) && begins_with_digit 10 cs) ≡ false
      → sign_kind (take n (c ∷ cs)) ≡ Some k → kind_of (take n (c ∷ cs)) ≡ Some k
  sign_taken c cs zero k h d q e p f = cc
  sign_taken c cs (suc n) k h d q e p f = kind_other c (take n cs) h d q ∙ other_sign c (take n cs) e (no_number c cs n d p) ∙ f

  sign_by : (c : ℕ) (cs : List ℕ) → is_name_start c ≡ false → is_digit 10 c ≡ false → is_quote c ≡ false → (c == 10) ≡ false → ((c == 46) && begins_with_digit 10 cs) ≡ false
      → (o : Option (TokenKind × ℕ)) → AreSigns (c ∷ cs) o → IsFront nested (c ∷ cs) o
  sign_by c cs h d q e p None s = make_none nested (c ∷ cs) (λ m j l f a. s m j l (sign_bound c cs m j h d q e p f))
  sign_by c cs h d q e p (Some x) s =
      make_token nested (c ∷ cs) x.0 x.1 s.within (sign_taken c cs x.1 x.0 h d q e p s.is) (sign_allowed nested (take x.1 (c ∷ cs)) x.0 (drop x.1 (c ∷ cs)) s.is)
      (λ m j l f a. s.longest m j l (sign_bound c cs m j h d q e p f))

  other_by : (c : ℕ) (cs : List ℕ) → is_name_start c ≡ false → is_digit 10 c ≡ false → is_quote c ≡ false → IsFront nested (c ∷ cs) (other_front nested (c ∷ cs))
  other_by c cs h d q =
      let line : Option (TokenKind × ℕ) = cond (nested == 0) (Some (LineEnd, 1)) None in
      let rest : Option (TokenKind × ℕ) = cond ((c == 46) && begins_with_digit 10 cs) (Some (Unsupported, real_len (c ∷ cs))) (sign_front (c ∷ cs)) in
      ⊎_elim
      (λ (e : (c == 10) ≡ true).
      let is = eqb-true c 10 e in
      subst (IsFront nested (c ∷ cs)) (sym (cond-true (c == 10) line rest e))
      (subst (λ z. IsFront nested (z ∷ cs) line) (sym is) (end_is_front cs (ap is_name_start (sym is) ∙ h))))
      (λ (e : (c == 10) ≡ false).
      subst (IsFront nested (c ∷ cs)) (sym (cond-false (c == 10) line rest e))
      (⊎_elim
      (λ (p : ((c == 46) && begins_with_digit 10 cs) ≡ true).
      let both = and_parts (c == 46) (begins_with_digit 10 cs) p in
      let is = eqb-true c 46 both.0 in
      subst (IsFront nested (c ∷ cs)) (sym (cond-true ((c == 46) && begins_with_digit 10 cs) (Some (Unsupported, real_len (c ∷ cs))) (sign_front (c ∷ cs)) p))
      (subst (λ z. IsToken nested (z ∷ cs) Unsupported (real_len (z ∷ cs))) (sym is) (point_is_front cs (ap is_name_start (sym is) ∙ h) both.1)))
      (λ (p : ((c == 46) && begins_with_digit 10 cs) ≡ false).
      subst (IsFront nested (c ∷ cs)) (sym (cond-false ((c == 46) && begins_with_digit 10 cs) (Some (Unsupported, real_len (c ∷ cs))) (sign_front (c ∷ cs)) p))
      (sign_by c cs h d q e p (sign_front (c ∷ cs)) (signs (c ∷ cs))))
      (cases_Bool ((c == 46) && begins_with_digit 10 cs))))
      (cases_Bool (c == 10))

pub if_ok_same : {A E : Type 0} (r : Result A E) (x : A) (P : A → Type 0) → IfOk r (λ y. y ≡ x) → P x → IfOk r P
if_ok_same (Ok y) x P e h = subst P (sym e) h
if_ok_same (Err y) x P e h = tt

pub other_is_front : (nested : ℕ) (text : List ℕ) (x : ℕ) → 0 < length text → x ≡ get_or text 0 x → is_name_start x ≡ false → is_digit 10 x ≡ false → is_quote x ≡ false → IsFront nested text (other_front nested text)
other_is_front nested [] x l e h d q = absurd (omega arith)
other_is_front nested (c ∷ cs) x l e h d q = other_by nested c cs (ap is_name_start (sym e) ∙ h) (ap (is_digit 10) (sym e) ∙ d) (ap is_quote (sym e) ∙ q)

-- ---- what begins no token

no_sign : (nested c : ℕ) (cs : List ℕ) (m : ℕ) (j : TokenKind) → is_name_start c ≡ false → is_digit 10 c ≡ false → is_quote c ≡ false → (c == 10) ≡ false → ((c == 46) && begins_with_digit 10 cs) ≡ false
    → ((t : List ℕ) → sign_kind (c ∷ t) ≡ None) → kind_of (take m (c ∷ cs)) ≡ Some j → ⊥
no_sign nested c cs zero j h d q e p s f = cc
no_sign nested c cs (suc m) j h d q e p s f =
    let k = sign_bound nested c cs (suc m) j h d q e p f in let n = s (take m cs) in cc

pub no_token : (nested c : ℕ) → is_name_start c ≡ false → is_digit 10 c ≡ false → is_quote c ≡ false → (c == 10) ≡ false → (c == 46) ≡ false → ((t : List ℕ) → sign_kind (c ∷ t) ≡ None) → (cs : List ℕ)
    → HasNoToken nested (c ∷ cs)
no_token nested c h d q e p s cs = make_none nested (c ∷ cs) (λ m j l f a. no_sign nested c cs m j h d q e (and_left (c == 46) (begins_with_digit 10 cs) p) s f)

pub no_token_end : (nested : ℕ) (cs : List ℕ) → is_name_start 10 ≡ false → (nested == 0) ≡ false → HasNoToken nested (10 ∷ cs)
no_token_end nested cs h z = subst (IsFront nested (10 ∷ cs)) (cond-false (nested == 0) (Some (LineEnd, 1)) None z) (end_is_front nested cs h)
