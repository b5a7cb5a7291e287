-- A text is looked up among the spellings of its own length.
use Rattle.std.proofs.Common.{◌≡◌, ◌≢◌, ◌==◌, ◌<◌, ◌≤◌, ℕ, Bool, true, false, ◌&&◌, List, [], ◌∷◌, length, refl, sym, ap, ◌∙◌, Option, Some, None, if◌then◌else◌, arith, eq-eqb, bytes_eq, nat_le, get_or}
use Rattle.std.specs.List.{list_all}
use Rattle.std.proofs.lemmas.Bool.{false≢true, cond-false, false_from_ne_true, and_parts, leb-true}
use Rattle.std.proofs.lemmas.Slice.Eq.{bytes_eq-Decides}
use Rattle.py_grammar.specs.declared.mark.Mark.{Mark}
use Rattle.py_signs.specs.Signs.{Spelling, among, of_length, keywords, operators, keyword_of, operator_of}

-- a text of another length is not this one
other_length : (text word : List ℕ) → length text ≢ length word → bytes_eq text word ≡ false
other_length text word h = false_from_ne_true _ (λ e. h (ap length ((bytes_eq-Decides text word).0 e)))

of_length_case : (n : ℕ) (s : Spelling) (ss : List Spelling) (text : List ℕ) → length text ≡ n → among ss text ≡ among (of_length n ss) text
    → (b : Bool) → (length s.0 == n) ≡ b → among (s ∷ ss) text ≡ among (if b then s ∷ of_length n ss else of_length n ss) text
of_length_case n s ss text h rest true e = ap (λ (z : Option Mark). if bytes_eq text s.0 then Some s.1 else z) rest
of_length_case n s ss text h rest false e =
    cond-false (bytes_eq text s.0) (Some s.1) (among ss text)
    (other_length text s.0 (λ same. false≢true (sym e ∙ eq-eqb (length s.0) n (sym same ∙ h))))
    ∙ rest

pub among_of_length : (n : ℕ) (ss : List Spelling) (text : List ℕ) → length text ≡ n → among ss text ≡ among (of_length n ss) text
among_of_length n [] text h = refl
among_of_length n (s ∷ ss) text h = of_length_case n s ss text h (among_of_length n ss text h) (length s.0 == n) refl

-- ---- texts shorter or longer than each

abbrev is_between : ℕ → ℕ → Spelling → Bool
is_between low high s = nat_le low (length s.0) && nat_le (length s.0) high

outside : (low high : ℕ) (ss : List Spelling) (text : List ℕ) → ((n : ℕ) → nat_le low n && nat_le n high ≡ true → length text ≢ n)
    → list_all (is_between low high) ss ≡ true → among ss text ≡ None
outside low high [] text h all = refl
outside low high (s ∷ ss) text h all =
    let parts = and_parts (is_between low high s) (list_all (is_between low high) ss) all in
    cond-false (bytes_eq text s.0) (Some s.1) (among ss text) (other_length text s.0 (h (length s.0) parts.0))
    ∙ outside low high ss text h parts.1

between : (low high n m : ℕ) → nat_le low n && nat_le n high ≡ true → m ≡ n → (low ≤ m) × (m ≤ high)
between low high n m h e =
    let parts = and_parts (nat_le low n) (nat_le n high) h in
    let below : low ≤ n = leb-true low n parts.0 in
    let above : n ≤ high = leb-true n high parts.1 in (omega arith, omega arith)

pub keyword_by_length : (n : ℕ) (text : List ℕ) → length text ≡ n → keyword_of text ≡ among (of_length n keywords) text
unfolding keyword_of
keyword_by_length n text h = among_of_length n keywords text h

pub operator_by_length : (n : ℕ) (text : List ℕ) → length text ≡ n → operator_of text ≡ among (of_length n operators) text
unfolding operator_of
operator_by_length n text h = among_of_length n operators text h

pub no_keyword : (text : List ℕ) → length text ≢ 2 → length text ≢ 3 → length text ≢ 4 → length text ≢ 5 → length text ≢ 6 → length text ≢ 7 → length text ≢ 8
    → keyword_of text ≡ None
unfolding keyword_of
no_keyword text a b c d e f g =
    outside 2 8 keywords text (λ n h same. let parts = between 2 8 n (length text) h same in absurd (omega arith)) refl

pub no_operator : (text : List ℕ) → length text ≢ 1 → length text ≢ 2 → length text ≢ 3 → operator_of text ≡ None
unfolding operator_of
no_operator text a b c =
    outside 1 3 operators text (λ n h same. let parts = between 1 3 n (length text) h same in absurd (omega arith)) refl

-- ---- texts of one, two and three code points

one_point : (text : List ℕ) (a : ℕ) → 1 ≤ length text → length text < 2 → a ≡ get_or text 0 a → text ≡ a ∷ []
one_point [] a low high is = absurd (omega arith)
one_point (x ∷ []) a low high is = ap (λ z. z ∷ []) (sym is)
one_point (x ∷ y ∷ text) a low high is = absurd (omega arith)

two_points : (text : List ℕ) (a b : ℕ) → 2 ≤ length text → length text < 3 → a ≡ get_or text 0 a → b ≡ get_or text 1 b → text ≡ a ∷ b ∷ []
two_points [] a b low high first second = absurd (omega arith)
two_points (x ∷ []) a b low high first second = absurd (omega arith)
two_points (x ∷ y ∷ []) a b low high first second = ap (λ z. z ∷ y ∷ []) (sym first) ∙ ap (λ z. a ∷ z ∷ []) (sym second)
two_points (x ∷ y ∷ z ∷ text) a b low high first second = absurd (omega arith)

three_points : (text : List ℕ) (a b c : ℕ) → 3 ≤ length text → length text < 4 → a ≡ get_or text 0 a → b ≡ get_or text 1 b → c ≡ get_or text 2 c
    → text ≡ a ∷ b ∷ c ∷ []
three_points [] a b c low high first second third = absurd (omega arith)
three_points (x ∷ []) a b c low high first second third = absurd (omega arith)
three_points (x ∷ y ∷ []) a b c low high first second third = absurd (omega arith)
three_points (x ∷ y ∷ z ∷ []) a b c low high first second third =
    ap (λ w. w ∷ y ∷ z ∷ []) (sym first) ∙ ap (λ w. a ∷ w ∷ z ∷ []) (sym second) ∙ ap (λ w. a ∷ b ∷ w ∷ []) (sym third)
three_points (x ∷ y ∷ z ∷ w ∷ text) a b c low high first second third = absurd (omega arith)

pub operator_of_one : (text : List ℕ) (a : ℕ) → 1 ≤ length text → length text < 2 → a ≡ get_or text 0 a
    → among (of_length 1 operators) (a ∷ []) ≡ operator_of text
operator_of_one text a low high is = ap (among (of_length 1 operators)) (sym (one_point text a low high is)) ∙ sym (operator_by_length 1 text (omega arith))

pub operator_of_two : (text : List ℕ) (a b : ℕ) → 2 ≤ length text → length text < 3 → a ≡ get_or text 0 a → b ≡ get_or text 1 b
    → among (of_length 2 operators) (a ∷ b ∷ []) ≡ operator_of text
operator_of_two text a b low high first second =
    ap (among (of_length 2 operators)) (sym (two_points text a b low high first second)) ∙ sym (operator_by_length 2 text (omega arith))

pub operator_of_three : (text : List ℕ) (a b c : ℕ) → 3 ≤ length text → length text < 4 → a ≡ get_or text 0 a → b ≡ get_or text 1 b → c ≡ get_or text 2 c
    → among (of_length 3 operators) (a ∷ b ∷ c ∷ []) ≡ operator_of text
operator_of_three text a b c low high first second third =
    ap (among (of_length 3 operators)) (sym (three_points text a b c low high first second third)) ∙ sym (operator_by_length 3 text (omega arith))
