-- The form of a line by what is answered to its tokens.
use Rattle.std.proofs.Common.{◌≡◌, ℕ, ◌≤◌, ◌<◌, Bool, true, false, ◌||◌, nat_lt, if◌then◌else◌, List, Option, Some, None, Result, Ok, Err, refl, sym, ap, ◌∙◌, subst, arith, inl, inr}
use Rattle.std.proofs.lemmas.Bool.{cases_Bool, ltb-true, ltb-false}
use Rattle.py_lexer.specs.declared.token.Token.{Token}
use Rattle.py_layout.specs.declared.line.LogicalLine.{LogicalLine}
use Rattle.py_grammar.specs.Line.{Line, SpellsLine, line_depth}
use Rattle.py_grammar.specs.LineReading.{read_line}
use Rattle.py_grammar.proofs.Lines.{line_found, line_only, line_deep, line_none, one_line}
use Rattle.py_signs.specs.Signs.{signs_of}
use Rattle.py_signs.specs.Limits.{has_unsupported, is_crowded, has_wide}
use Rattle.py_line.specs.Answer.{IsPlain, IsAnswer, IsAnswerFrom, IsOver, brackets, number, depth}
use Rattle.py_line.specs.Form.{line_of}
use Rattle.py_line.specs.declared.form.LineForm.{LineForm}
use Rattle.py_line.specs.declared.line.LineFault.{LineFault}
use Rattle.py_line.specs.declared.line.LineFault.TheVariants.{Unsupported, Limit, NotALine, NoMemory}
use Rattle.py_line.specs.declared.line.LineRead.{LineRead}
use Rattle.py_block.specs.Parsed.{Form, a_line, unsupported, over, no_line, form_read, form_of, told, tokens_of, depth_of, is_form_unsupported, is_unsupported, is_form_over, is_over}
use Rattle.py_block.specs.Pass.{IsKept, IsRead, IsLimit, IsReadOrLimit}
use Rattle.py_block.specs.declared.fault.SyntaxFault.{SyntaxFault}
use Rattle.py_block.proofs.FormLaws.{or_right, depth_least}

-- ---- the form

abbrev pub IsForm : Form → Result LineForm LineFault → Type 0
IsForm form (Ok f) = form ≡ a_line (line_of f)
IsForm form (Err Unsupported) = form ≡ unsupported
IsForm form (Err Limit) = form ≡ over
IsForm form (Err NotALine) = form ≡ no_line
IsForm form (Err NoMemory) = Unit {0}

module _ (text : List ℕ) (tokens : List Token) where
  abbrev read : Option (Option Line)
  read = read_line 60 (signs_of text tokens)

  abbrev Spells : Line → Type 0
  Spells x = SpellsLine (signs_of text tokens) x

  supported_form : has_unsupported tokens ≡ false
      → form_of text tokens ≡ (if is_crowded text 0 tokens || has_wide text tokens then over else form_read read)
  supported_form e = ap (λ b. if b then unsupported else (if is_crowded text 0 tokens || has_wide text tokens then over else form_read read)) e

  within_form : has_unsupported tokens ≡ false → (is_crowded text 0 tokens || has_wide text tokens) ≡ false → form_of text tokens ≡ form_read read
  within_form e c = supported_form e ∙ ap (λ b. if b then over else form_read read) c

  over_form : has_unsupported tokens ≡ false → (is_crowded text 0 tokens || has_wide text tokens) ≡ true → form_of text tokens ≡ over
  over_form e c = supported_form e ∙ ap (λ b. if b then over else form_read read) c

  plain_form : IsPlain text tokens → form_of text tokens ≡ form_read read
  plain_form p = within_form p.supported (ap (λ b. b || has_wide text tokens) p.uncrowded ∙ p.narrow)

  spelled_form : (x : Line) → Spells x → line_depth x ≤ 60 → (r : Option (Option Line)) → read ≡ r → form_read r ≡ a_line x
  spelled_form x s d None e = absurd (line_none 60 (signs_of text tokens) x (omega arith) e s)
  spelled_form x s d (Some None) e =
      let f = line_deep 60 (signs_of text tokens) (omega arith) e in
      let d' = subst (λ z. line_depth z ≤ 60) (one_line (signs_of text tokens) x f.0 s f.1) d in
      absurd (omega (arith, f.2))
  spelled_form x s d (Some (Some y)) e = ap a_line (sym (line_only 60 (signs_of text tokens) y x (omega arith) e s))

  deep_form : (x : Line) → Spells x → 60 < line_depth x → (r : Option (Option Line)) → read ≡ r → form_read r ≡ over
  deep_form x s d None e = absurd (line_none 60 (signs_of text tokens) x (omega arith) e s)
  deep_form x s d (Some None) e = refl
  deep_form x s d (Some (Some y)) e =
      let f = line_found 60 (signs_of text tokens) y (omega arith) e in
      let d' = subst (λ z. 60 < line_depth z) (line_only 60 (signs_of text tokens) y x (omega arith) e s) d in
      absurd (omega (arith, f.1))

  no_form : ((x : Line) → Spells x → ⊥) → (r : Option (Option Line)) → read ≡ r → form_read r ≡ no_line
  no_form h None e = refl
  no_form h (Some None) e = let f = line_deep 60 (signs_of text tokens) (omega arith) e in absurd (h f.0 f.1)
  no_form h (Some (Some y)) e = absurd (h y (line_found 60 (signs_of text tokens) y (omega arith) e).0)

  limit_form : has_unsupported tokens ≡ false → IsOver text tokens → form_of text tokens ≡ over
  limit_form e (brackets c) = over_form e (ap (λ b. b || has_wide text tokens) c)
  limit_form e (number c) = over_form e (or_right (is_crowded text 0 tokens) (has_wide text tokens) c)
  limit_form e (depth {x} s d) =
      elim (cases_Bool (is_crowded text 0 tokens || has_wide text tokens)) [
        | inl c ↦ over_form e c
        | inr c ↦ within_form e c ∙ deep_form x s d read refl
      ]

  -- what is answered to the tokens of a line is its form
  pub form_is : (first : ℕ) (r : Result LineForm LineFault) → IsAnswer text tokens first r → IsForm (form_of text tokens) r
  form_is first (Ok f) a = plain_form a.0 ∙ spelled_form (line_of f) a.1 a.2 read refl
  form_is first (Err Unsupported) a = ap (λ b. if b then unsupported else (if is_crowded text 0 tokens || has_wide text tokens then over else form_read read)) a
  form_is first (Err Limit) a = limit_form a.0 a.1
  form_is first (Err NotALine) a = plain_form a.0 ∙ no_form a.1 read refl
  form_is first (Err NoMemory) a = tt

-- ---- whether it is unsupported, and whether it is over a limit

unsupported_read : (r : Option (Option Line)) (u c : Bool) → is_form_unsupported (if u then unsupported else (if c then over else form_read r)) ≡ u
unsupported_read r true c = refl
unsupported_read r false true = refl
unsupported_read None false false = refl
unsupported_read (Some None) false false = refl
unsupported_read (Some (Some x)) false false = refl

pub unsupported_told : (text : List ℕ) (tokens : List Token) (line : LogicalLine) → is_unsupported (told text tokens line) ≡ has_unsupported (tokens_of tokens line)
unsupported_told text tokens line =
    let these = tokens_of tokens line in
    unsupported_read (read_line 60 (signs_of text these)) (has_unsupported these) (is_crowded text 0 these || has_wide text these)

less_true : (a b : ℕ) → a < b → nat_lt a b ≡ true
less_true a b p = elim (cases_Bool (nat_lt a b)) [ inl e ↦ e | inr e ↦ let q = ltb-false a b e in absurd (omega arith) ]

less_false : (a b : ℕ) → b ≤ a → nat_lt a b ≡ false
less_false a b p = elim (cases_Bool (nat_lt a b)) [ inl e ↦ let q = ltb-true a b e in absurd (omega arith) | inr e ↦ e ]

module _ (text : List ℕ) (tokens : List Token) (line : LogicalLine) where
  abbrev form : Form
  form = form_of text (tokens_of tokens line)

  over_by : (f : Form) → form ≡ f → is_over (told text tokens line) ≡ (is_form_over f || nat_lt 60 (depth_of line.depth f))
  over_by f e = ap (λ z. is_form_over z || nat_lt 60 (depth_of line.depth z)) e

  pub stands_deep : 60 < line.depth → is_over (told text tokens line) ≡ true
  stands_deep d =
      or_right (is_form_over form) (nat_lt 60 (depth_of line.depth form)) (less_true 60 (depth_of line.depth form) (let p = depth_least line.depth form in omega arith))

  pub limit_told : (first : ℕ) → IsAnswer text (tokens_of tokens line) first (Err Limit) → is_over (told text tokens line) ≡ true
  limit_told first a = over_by over (form_is text (tokens_of tokens line) first (Err Limit) a)

  pub none_told : (first : ℕ) → line.depth ≤ 60 → IsAnswer text (tokens_of tokens line) first (Err NotALine) → IsReadOrLimit text tokens line first (Ok None)
  none_told first d a =
      let e : form_of text (tokens_of tokens line) ≡ no_line = form_is text (tokens_of tokens line) first (Err NotALine) a in
      (over_by no_line e ∙ less_false 60 line.depth d, e)

  pub kept_told : (first : ℕ) (read : LineRead) (r : Result (Option LineRead) SyntaxFault) → IsAnswerFrom text (tokens_of tokens line) first (Ok read) → IsKept line read r
      → IsReadOrLimit text tokens line first r
  kept_told first read (Ok kept) a k =
      let e : form_of text (tokens_of tokens line) ≡ a_line (line_of read.form) = form_is text (tokens_of tokens line) first (Ok read.form) a.0 in
      subst (IsRead text tokens line first) (sym k.0)
      (record { within = over_by (a_line (line_of read.form)) e ∙ less_false 60 (depth_of line.depth (a_line (line_of read.form))) k.1; is = e; counted = a.1 })
  kept_told first read (Err fault) a k =
      let e : form_of text (tokens_of tokens line) ≡ a_line (line_of read.form) = form_is text (tokens_of tokens line) first (Ok read.form) a.0 in
      subst (IsLimit text tokens line) (sym k.0)
      (over_by (a_line (line_of read.form)) e ∙ less_true 60 (depth_of line.depth (a_line (line_of read.form))) k.1, refl, refl)
