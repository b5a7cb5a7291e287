-- What is told of one logical line, and the first line that a test passes.
use Rattle.std.proofs.Common.{◌≡◌, ℕ, ◌+◌, ◌≤◌, ◌<◌, Bool, true, false, ◌||◌, nat_lt, if◌then◌else◌, List, [], ◌∷◌, map, Option, Some, None, refl, sym, ap, ◌∙◌, subst, arith, ◌⊎◌, inl, inr}
use Rattle.std.proofs.lemmas.Bool.{cases_Bool, ltb-true, ltb-false}
use Rattle.py_lexer.specs.declared.token.Token.{Token}
use Rattle.py_layout.specs.declared.line.LogicalLine.{LogicalLine}
use Rattle.py_grammar.specs.Line as l
use Rattle.py_grammar.specs.Line.{Line, line_depth}
use Rattle.py_grammar.specs.LineReading.{read_line}
use Rattle.py_grammar.proofs.Lines.{line_found, line_only, line_deep, line_none}
use Rattle.py_grammar.proofs.Steps.{some_is}
use Rattle.py_signs.specs.Signs.{signs_of}
use Rattle.py_signs.specs.Limits.{has_unsupported, is_crowded, has_wide}
use Rattle.py_block.specs.Parsed.{Form, a_line, unsupported, over, no_line, form_read, form_of, Told, tokens_of, told, depth_of, is_form_unsupported, is_unsupported, is_form_over, is_over, first_number, with_line_ends}
use Rattle.py_block.specs.Cell.{counted, Spelled, IsUnsupported, IsOver, brackets, number, expression, stands_deep, counts_deep, HoldsOfNone, IsFirst, here, later}

or_cases : (a b : Bool) → (a || b) ≡ true → (a ≡ true) ⊎ (b ≡ true)
or_cases true b e = inl refl
or_cases false b e = inr e

or_left : (a b : Bool) → a ≡ true → (a || b) ≡ true
or_left true b e = refl
or_left false b e = cc

pub or_right : (a b : Bool) → b ≡ true → (a || b) ≡ true
or_right true b e = refl
or_right false b e = e

none_or : (a b : Bool) → (a || b) ≡ false → (a ≡ false) × (b ≡ false)
none_or true b e = cc
none_or false b e = (refl, e)

counted_is : (deep : ℕ) (x : Line) → depth_of deep (a_line x) ≡ counted deep x
counted_is deep (l.header h (x ∷ xs)) = refl
counted_is deep (l.header h []) = refl
counted_is deep (l.simples xs) = refl

pub depth_least : (deep : ℕ) (f : Form) → deep ≤ depth_of deep f
depth_least deep (a_line (l.header h (x ∷ xs))) = omega arith
depth_least deep (a_line (l.header h [])) = omega arith
depth_least deep (a_line (l.simples xs)) = omega arith
depth_least deep unsupported = omega arith
depth_least deep over = omega arith
depth_least deep no_line = omega arith

module _ (text : List ℕ) (tokens : List Token) (line : LogicalLine) where
  abbrev those : List Token
  those = tokens_of tokens line

  abbrev pub form : Form
  form = form_of (with_line_ends text) those

  abbrev read : Option (Option Line)
  read = read_line 60 (signs_of (with_line_ends text) those)

  -- ---- an unsupported token

  unsupported_form : (r : Option (Option Line)) (u c : Bool) → is_form_unsupported (if u then unsupported else (if c then over else form_read r)) ≡ u
  unsupported_form r true c = refl
  unsupported_form r false true = refl
  unsupported_form None false false = refl
  unsupported_form (Some None) false false = refl
  unsupported_form (Some (Some x)) false false = refl

  pub unsupported_is : is_unsupported (told (with_line_ends text) tokens line) ≡ has_unsupported those
  unsupported_is = unsupported_form read (has_unsupported those) (is_crowded (with_line_ends text) 0 those || has_wide (with_line_ends text) those)

  pub no_unsupported : (IsUnsupported text tokens line → ⊥) → has_unsupported those ≡ false
  no_unsupported h = elim (cases_Bool (has_unsupported those)) [ inl e ↦ absurd (h e) | inr e ↦ e ]

  -- ---- the form of a line without one

  supported_form : has_unsupported those ≡ false
      → form ≡ (if is_crowded (with_line_ends text) 0 those || has_wide (with_line_ends text) those then over else form_read read)
  supported_form e = ap (λ b. if b then unsupported else (if is_crowded (with_line_ends text) 0 those || has_wide (with_line_ends text) those then over else form_read read)) e

  crowded_form : has_unsupported those ≡ false → (is_crowded (with_line_ends text) 0 those || has_wide (with_line_ends text) those) ≡ true → form ≡ over
  crowded_form e c = supported_form e ∙ ap (λ b. if b then over else form_read read) c

  read_form : has_unsupported those ≡ false → (is_crowded (with_line_ends text) 0 those || has_wide (with_line_ends text) those) ≡ false → form ≡ form_read read
  read_form e c = supported_form e ∙ ap (λ b. if b then over else form_read read) c

  deep_spelled : (x : Line) → Spelled text tokens line x → 60 < line_depth x → (r : Option (Option Line)) → read ≡ r → form_read r ≡ over
  deep_spelled x s d None e = absurd (line_none 60 (signs_of (with_line_ends text) those) x (omega arith) e s)
  deep_spelled x s d (Some None) e = refl
  deep_spelled x s d (Some (Some y)) e =
      let f = line_found 60 (signs_of (with_line_ends text) those) y (omega arith) e in
      let same = line_only 60 (signs_of (with_line_ends text) those) y x (omega arith) e s in
      let d' = subst (λ z. 60 < line_depth z) same d in
      absurd (omega arith)

  read_spelled : (x : Line) → Spelled text tokens line x → (r : Option (Option Line)) → read ≡ r → (form_read r ≡ over) ⊎ (form_read r ≡ a_line x)
  read_spelled x s None e = absurd (line_none 60 (signs_of (with_line_ends text) those) x (omega arith) e s)
  read_spelled x s (Some None) e = inl refl
  read_spelled x s (Some (Some y)) e = inr (ap a_line (sym (line_only 60 (signs_of (with_line_ends text) those) y x (omega arith) e s)))

  pub spelled_form : has_unsupported those ≡ false → (x : Line) → Spelled text tokens line x → (form ≡ over) ⊎ (form ≡ a_line x)
  spelled_form e x s =
      elim (cases_Bool (is_crowded (with_line_ends text) 0 those || has_wide (with_line_ends text) those)) [
        | inl c ↦ inl (crowded_form e c)
        | inr c ↦ elim (read_spelled x s read refl) [ inl p ↦ inl (read_form e c ∙ p) | inr p ↦ inr (read_form e c ∙ p) ]
      ]

  -- ---- a line over a limit

  form_over : form ≡ over → is_over (told (with_line_ends text) tokens line) ≡ true
  form_over e = ap (λ f. is_form_over f || nat_lt 60 (depth_of line.depth f)) e

  less_true : (a b : ℕ) → a < b → nat_lt a b ≡ true
  less_true a b p = elim (cases_Bool (nat_lt a b)) [ inl e ↦ e | inr e ↦ let q = ltb-false a b e in absurd (omega arith) ]

  over_counted : (x : Line) → 60 < counted line.depth x → form ≡ a_line x → is_over (told (with_line_ends text) tokens line) ≡ true
  over_counted x d e =
      ap (λ f. is_form_over f || nat_lt 60 (depth_of line.depth f)) e ∙ ap (nat_lt 60) (counted_is line.depth x) ∙ less_true 60 (counted line.depth x) d

  pub over_told : has_unsupported those ≡ false → IsOver text tokens line → is_over (told (with_line_ends text) tokens line) ≡ true
  over_told e (brackets c) = form_over (crowded_form e (or_left (is_crowded (with_line_ends text) 0 those) (has_wide (with_line_ends text) those) c))
  over_told e (number c) = form_over (crowded_form e (or_right (is_crowded (with_line_ends text) 0 those) (has_wide (with_line_ends text) those) c))
  over_told e (expression {x} s d) =
      elim (cases_Bool (is_crowded (with_line_ends text) 0 those || has_wide (with_line_ends text) those)) [
        | inl c ↦ form_over (crowded_form e c)
        | inr c ↦ form_over (read_form e c ∙ deep_spelled x s d read refl)
      ]
  over_told e (stands_deep d) =
      or_right (is_form_over form) (nat_lt 60 (depth_of line.depth form)) (less_true 60 (depth_of line.depth form) (let p = depth_least line.depth form in omega arith))
  over_told e (counts_deep {x} s d) = elim (spelled_form e x s) [ inl p ↦ form_over p | inr p ↦ over_counted x d p ]

  -- the reason why a form is over
  over_read : (r : Option (Option Line)) → read ≡ r → form_read r ≡ over → IsOver text tokens line
  over_read None e f = cc
  over_read (Some None) e f = let d = line_deep 60 (signs_of (with_line_ends text) those) (omega arith) e in expression d.1 d.2
  over_read (Some (Some x)) e f = cc

  over_reason : has_unsupported those ≡ false → form ≡ over → IsOver text tokens line
  over_reason e f =
      elim (cases_Bool (is_crowded (with_line_ends text) 0 those || has_wide (with_line_ends text) those)) [
        | inl c ↦ elim (or_cases (is_crowded (with_line_ends text) 0 those) (has_wide (with_line_ends text) those) c) [ inl p ↦ brackets p | inr p ↦ number p ]
        | inr c ↦ over_read read refl (sym (read_form e c) ∙ f)
      ]

  pub line_form : has_unsupported those ≡ false → (x : Line) → form ≡ a_line x → Spelled text tokens line x
  line_form e x f =
      elim (cases_Bool (is_crowded (with_line_ends text) 0 those || has_wide (with_line_ends text) those)) [
        | inl c ↦ let k = sym (crowded_form e c) ∙ f in cc
        | inr c ↦ found read refl (sym (read_form e c) ∙ f)
      ]
    where
      found : (r : Option (Option Line)) → read ≡ r → form_read r ≡ a_line x → Spelled text tokens line x
      found None g h = cc
      found (Some None) g h = cc
      found (Some (Some y)) g h =
          let same : y ≡ x = cc in
          subst (Spelled text tokens line) same (line_found 60 (signs_of (with_line_ends text) those) y (omega arith) g).0

  deep_reason : has_unsupported those ≡ false → (f : Form) → form ≡ f → nat_lt 60 (depth_of line.depth f) ≡ true → IsOver text tokens line
  deep_reason e (a_line x) g d =
      counts_deep (line_form e x g) (subst (λ z. 60 < z) (counted_is line.depth x) (ltb-true 60 (depth_of line.depth (a_line x)) d))
  deep_reason e unsupported g d = stands_deep (ltb-true 60 line.depth d)
  deep_reason e over g d = stands_deep (ltb-true 60 line.depth d)
  deep_reason e no_line g d = stands_deep (ltb-true 60 line.depth d)

  over_form : (f : Form) → is_form_over f ≡ true → f ≡ over
  over_form over e = refl
  over_form _ e = cc

  pub told_over : has_unsupported those ≡ false → is_over (told (with_line_ends text) tokens line) ≡ true → IsOver text tokens line
  told_over e o =
      elim (or_cases (is_form_over form) (nat_lt 60 (depth_of line.depth form)) o) [
        | inl p ↦ over_reason e (over_form form p)
        | inr p ↦ deep_reason e form refl p
      ]

  pub not_over : has_unsupported those ≡ false → (IsOver text tokens line → ⊥) → is_over (told (with_line_ends text) tokens line) ≡ false
  not_over e h = elim (cases_Bool (is_over (told (with_line_ends text) tokens line))) [ inl o ↦ absurd (h (told_over e o)) | inr o ↦ o ]

  pub within_form : has_unsupported those ≡ false → (IsOver text tokens line → ⊥) → (x : Line) → Spelled text tokens line x → form ≡ a_line x
  within_form e h x s = elim (spelled_form e x s) [ inl p ↦ absurd (h (over_reason e p)) | inr p ↦ p ]

-- ---- the first line that a test passes

-- a test of what is told, and the property that it tests, of lines that have another
pub record Tests (text : List ℕ) (tokens : List Token) (test : Told → Bool) (P Q : LogicalLine → Type 0) : Type 0 where
  pub yes : (line : LogicalLine) → Q line → test (told (with_line_ends text) tokens line) ≡ true → P line
  pub passes : (line : LogicalLine) → Q line → P line → test (told (with_line_ends text) tokens line) ≡ true

abbrev pub HoldsOfAll : (LogicalLine → Type 0) → List LogicalLine → Type 0
HoldsOfAll Q [] = Unit {0}
HoldsOfAll Q (line ∷ lines) = Q line × HoldsOfAll Q lines

module _ (text : List ℕ) (tokens : List Token) (test : Told → Bool) (P Q : LogicalLine → Type 0) (t : Tests text tokens test P Q) where
  abbrev number_in : List LogicalLine → Option ℕ
  number_in lines = first_number test (map (told (with_line_ends text) tokens) lines)

  failed : (line : LogicalLine) → Q line → test (told (with_line_ends text) tokens line) ≡ false → P line → ⊥
  failed line q e p = let f = t.passes line q p in cc

  first_if : (b : Bool) (n m : ℕ) (o : Option ℕ) → (if b then Some n else o) ≡ Some m → ((b ≡ true) × (n ≡ m)) ⊎ ((b ≡ false) × (o ≡ Some m))
  first_if true n m o e = inl (refl, some_is e)
  first_if false n m o e = inr (refl, e)

  none_if : (b : Bool) (n : ℕ) (o : Option ℕ) → (if b then Some n else o) ≡ None → (b ≡ false) × (o ≡ None)
  none_if true n o e = cc
  none_if false n o e = (refl, e)

  pub first_is : (lines : List LogicalLine) (n : ℕ) → HoldsOfAll Q lines → number_in lines ≡ Some n → IsFirst P lines n
  first_is [] n q e = cc
  first_is (line ∷ lines) n q e =
      elim (first_if (test (told (with_line_ends text) tokens line)) line.line n (number_in lines) e) [
        | inl p ↦ subst (IsFirst P (line ∷ lines)) p.1 (here (t.yes line q.0 p.0))
        | inr p ↦ later (failed line q.0 p.0) (first_is lines n q.1 p.1)
      ]

  pub none_is : (lines : List LogicalLine) → HoldsOfAll Q lines → number_in lines ≡ None → HoldsOfNone P lines
  none_is [] q e = tt
  none_is (line ∷ lines) q e =
      let p = none_if (test (told (with_line_ends text) tokens line)) line.line (number_in lines) e in
      (failed line q.0 p.0, none_is lines q.1 p.1)

  not_passed : (line : LogicalLine) → Q line → (P line → ⊥) → test (told (with_line_ends text) tokens line) ≡ false
  not_passed line q h = elim (cases_Bool (test (told (with_line_ends text) tokens line))) [ inl e ↦ absurd (h (t.yes line q e)) | inr e ↦ e ]

  pub is_first : (lines : List LogicalLine) (n : ℕ) → HoldsOfAll Q lines → IsFirst P lines n → number_in lines ≡ Some n
  is_first [] n q f = elim f [ ]
  is_first (line ∷ lines) _ q (here p) = ap (λ b. if b then Some line.line else number_in lines) (t.passes line q.0 p)
  is_first (line ∷ lines) n q (later h f) = ap (λ b. if b then Some line.line else number_in lines) (not_passed line q.0 h) ∙ is_first lines n q.1 f

  pub is_none : (lines : List LogicalLine) → HoldsOfAll Q lines → HoldsOfNone P lines → number_in lines ≡ None
  is_none [] q h = refl
  is_none (line ∷ lines) q h = ap (λ b. if b then Some line.line else number_in lines) (not_passed line q.0 h.0) ∙ is_none lines q.1 h.1
