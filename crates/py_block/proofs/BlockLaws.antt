-- Logical lines put into blocks: what is answered is the block that they stand as, or the line at which they begin none.
use Rattle.std.proofs.Common.{◌≡◌, ℕ, false, List, [], ◌∷◌, ◌++◌, map, Option, Some, None, Result, Ok, Err, refl, sym, ap, ◌∙◌, subst, append_assoc}
use Rattle.std.proofs.lemmas.List.{append-nil}
use Rattle.flow_base.specs.declared.kinds.SyntaxKind.TheVariants.{Syntax}
use Rattle.py_ast.specs.Statement.{Block}
use Rattle.py_ast.specs.Lawful.{top}
use Rattle.py_lexer.specs.declared.token.Token.{Token}
use Rattle.py_layout.specs.declared.line.LogicalLine.{LogicalLine}
use Rattle.py_grammar.specs.Line.{Line}
use Rattle.py_grammar.specs.Blocks.{Placed, Stands}
use Rattle.py_grammar.specs.Reading.{◌>>=◌, on}
use Rattle.py_grammar.proofs.Lines.{one_line}
use Rattle.py_grammar.proofs.Steps.{some_is, bind_ok, bind_bind, bind_same}
use Rattle.py_signs.specs.Signs.{signs_of}
use Rattle.py_signs.specs.Limits.{has_unsupported}
use Rattle.py_block.specs.Machine.{State, start, step, run, accepted}
use Rattle.py_block.specs.Parsed.{Form, a_line, unsupported, over, no_line, Told, tokens_of, told, Fault, ended, next_in, next_of, blocks, with_line_ends}
use Rattle.py_block.specs.Cell.{Spelled, IsUnsupported, IsOver, AreSpelled, BeginCell, IsMisplaced, at, too_early, HoldsOfNone, last_number}
use Rattle.py_block.specs.Cell as c
use Rattle.py_block.proofs.FormLaws.{form, no_unsupported, line_form, within_form}
use Rattle.py_block.proofs.Law.{stands_accepted, run_begins, begins_run}
use Rattle.py_block.proofs.Means.{accepted_stands}

abbrev pub placed : LogicalLine → Line → Placed
placed line x = record { deep = line.depth; line = x }

some_again : (o : Option State) → (o >>= λ n. Some n) ≡ o
some_again None = refl
some_again (Some n) = refl

run_more : (s : State) (xs : List Placed) (x : Placed) → run s (xs ++ x ∷ []) ≡ (run s xs >>= λ n. step n x)
run_more s [] x = some_again (step s x)
run_more s (y ∷ ys) x =
    bind_same (step s y) (λ n. run n (ys ++ x ∷ [])) (λ n. run n ys >>= λ n. step n x) (λ n e. run_more n ys x)
    ∙ sym (bind_bind (step s y) (λ n. run n ys) (λ n. step n x))

last_after : (before : List LogicalLine) (line : LogicalLine) → last_number (before ++ line ∷ []) ≡ line.line
last_after [] line = refl
last_after (a ∷ []) line = refl
last_after (a ∷ b ∷ before) line = last_after (b ∷ before) line

-- the number of the last line, or another one where there is none
abbrev last_from : ℕ → List LogicalLine → ℕ
last_from k [] = k
last_from k (line ∷ lines) = last_from line.line lines

last_is : (lines : List LogicalLine) → last_from 0 lines ≡ last_number lines
last_is [] = refl
last_is (line ∷ []) = refl
last_is (line ∷ next ∷ lines) = last_is (next ∷ lines)

module _ (text : List ℕ) (tokens : List Token) where
  abbrev all_told : List LogicalLine → List Told
  all_told lines = map (told (with_line_ends text) tokens) lines

  -- ---- lines are spelled in one way

  pub one_spelling : {lines : List LogicalLine} {xs ys : List Placed} → AreSpelled text tokens lines xs → AreSpelled text tokens lines ys → xs ≡ ys
  one_spelling c.none c.none = refl
  one_spelling (c.and {line} {x = x} {xs = xs} s r) (c.and {x = y} {xs = ys} u v) =
      ap (λ z. placed line z ∷ xs) (one_line (signs_of (with_line_ends text) (tokens_of tokens line)) x y s u) ∙ ap (λ z. placed line y ∷ z) (one_spelling r v)

  pub spelled_more : {lines : List LogicalLine} {xs : List Placed} {x : Line} (line : LogicalLine) → AreSpelled text tokens lines xs → Spelled text tokens line x
      → AreSpelled text tokens (lines ++ line ∷ []) (xs ++ placed line x ∷ [])
  spelled_more line c.none s = c.and s c.none
  spelled_more line (c.and u r) s = c.and u (spelled_more line r s)

  -- the last of spelled lines
  record LastOf (lines : List LogicalLine) (line : LogicalLine) (xs : List Placed) : Type 0 where
    x : Line
    these : List Placed
    spelled : Spelled text tokens line x
    before : AreSpelled text tokens lines these
    is : xs ≡ these ++ placed line x ∷ []

  spelled_last : (lines : List LogicalLine) (line : LogicalLine) (xs : List Placed) → AreSpelled text tokens (lines ++ line ∷ []) xs → LastOf lines line xs
  spelled_last [] line _ (c.and {x = x} s c.none) = record { x = x; these = []; spelled = s; before = c.none; is = refl }
  spelled_last (a ∷ lines) line _ (c.and {x = x} {xs = xs} s r) =
      let l = spelled_last lines line xs r in
      record { x = l.x; these = placed a x ∷ l.these; spelled = l.spelled; before = c.and s l.before; is = ap (λ z. placed a x ∷ z) l.is }

  -- ---- what is answered

  abbrev pub IsAnswer : List LogicalLine → Result Block Fault → Type 0
  IsAnswer lines (Ok b) = (xs : List Placed) × AreSpelled text tokens lines xs × Stands top xs b
  IsAnswer lines (Err f) = IsMisplaced text tokens lines f.0 × (f.1 ≡ Syntax)

  end_answer : (lines : List LogicalLine) (xs : List Placed) (s : State) → AreSpelled text tokens lines xs → run start xs ≡ Some s → (o : Option Block) → accepted s ≡ o
      → IsAnswer lines (ended (last_number lines) o)
  end_answer lines xs s sp e (Some b) a = (xs, sp, accepted_stands xs s b e a)
  end_answer lines xs s sp e None a = (
    too_early (xs, sp, run_begins xs s e) (λ ys b u st.
        let same : run start ys ≡ Some s = ap (run start) (sym (one_spelling sp u)) ∙ e in
        let all : Some b ≡ None = sym (stands_accepted ys b st) ∙ ap (λ z. z >>= accepted) same ∙ a in
        cc),
    refl,
  )

  -- a line that may not stand there
  misplaced : (before : List LogicalLine) (line : LogicalLine) (after : List LogicalLine) (xs : List Placed) (s : State) → AreSpelled text tokens before xs
      → run start xs ≡ Some s → ((x : Line) → Spelled text tokens line x → step s (placed line x) ≡ None)
      → IsMisplaced text tokens (before ++ line ∷ after) line.line
  misplaced before line after xs s sp e h = at before line after refl (xs, sp, run_begins xs s e) (λ b.
      let l = spelled_last before line b.0 b.1 in
      let r = begins_run b.0 b.2 in
      let same : run start (xs ++ placed line l.x ∷ []) ≡ Some r.0 =
      ap (λ z. run start (z ++ placed line l.x ∷ [])) (one_spelling sp l.before) ∙ ap (run start) (sym l.is) ∙ r.1 in
      let stepped : step s (placed line l.x) ≡ Some r.0 = sym (ap (λ z. z >>= λ n. step n (placed line l.x)) e) ∙ sym (run_more start xs (placed line l.x)) ∙ same in
      let none = h l.x l.spelled in
      cc)

  module _ (s : State) (line : LogicalLine) (supported : has_unsupported (tokens_of tokens line) ≡ false) (within : IsOver text tokens line → ⊥) where
    -- what the levels after the line tell of it
    next_some : (n : State) (f : Form) → form text tokens line ≡ f → next_in s line.depth f ≡ Some n
        → (x : Line) × Spelled text tokens line x × (step s (placed line x) ≡ Some n)
    next_some n (a_line x) e m = (x, line_form text tokens line supported x e, m)
    next_some n unsupported e m = cc
    next_some n over e m = cc
    next_some n no_line e m = cc

    next_none : (f : Form) → form text tokens line ≡ f → next_in s line.depth f ≡ None → (x : Line) → Spelled text tokens line x → step s (placed line x) ≡ None
    next_none f e m x sp = ap (next_in s line.depth) (sym (within_form text tokens line supported within x sp) ∙ e) ∙ m

  line_answer : (before : List LogicalLine) (line : LogicalLine) (lines : List LogicalLine) (xs : List Placed) (s : State) → AreSpelled text tokens before xs → run start xs ≡ Some s
      → (h : HoldsOfNone (IsUnsupported text tokens) (line ∷ lines)) → HoldsOfNone (IsOver text tokens) (line ∷ lines)
      → ((n : State) (x : Line) → Spelled text tokens line x → step s (placed line x) ≡ Some n → IsAnswer (before ++ line ∷ lines) (blocks line.line n (all_told lines)))
      → (o : Option State) → next_of s (told (with_line_ends text) tokens line) ≡ o
      → IsAnswer (before ++ line ∷ lines) (on o (Err (line.line, Syntax)) (λ next. blocks line.line next (all_told lines)))
  line_answer before line lines xs s sp e h w more None m =
      (misplaced before line lines xs s sp e (next_none s line (no_unsupported text tokens line h.0) w.0 (form text tokens line) refl m), refl)
  line_answer before line lines xs s sp e h w more (Some n) m =
      let x = next_some s line (no_unsupported text tokens line h.0) w.0 n (form text tokens line) refl m in
      more n x.0 x.1 x.2

  blocks_answer : (before lines : List LogicalLine) (xs : List Placed) (s : State) → AreSpelled text tokens before xs → run start xs ≡ Some s
      → HoldsOfNone (IsUnsupported text tokens) lines → HoldsOfNone (IsOver text tokens) lines
      → IsAnswer (before ++ lines) (blocks (last_number before) s (all_told lines))
  blocks_answer before [] xs s sp e h w = subst (λ z. IsAnswer z (ended (last_number before) (accepted s))) (sym (append-nil before)) (end_answer before xs s sp e (accepted s) refl)
  blocks_answer before (line ∷ lines) xs s sp e h w =
      line_answer before line lines xs s sp e h w (λ n x sx st.
      let run_on : run start (xs ++ placed line x ∷ []) ≡ Some n = run_more start xs (placed line x) ∙ ap (λ z. z >>= λ n. step n (placed line x)) e ∙ st in
      let answer = blocks_answer (before ++ line ∷ []) lines (xs ++ placed line x ∷ []) n (spelled_more line sp sx) run_on h.1 w.1 in
      subst (λ z. IsAnswer z (blocks line.line n (all_told lines))) (append_assoc before (line ∷ []) lines)
      (subst (λ k. IsAnswer ((before ++ line ∷ []) ++ lines) (blocks k n (all_told lines))) (last_after before line) answer))
      (next_of s (told (with_line_ends text) tokens line)) refl

  pub blocks_are : (lines : List LogicalLine) → HoldsOfNone (IsUnsupported text tokens) lines → HoldsOfNone (IsOver text tokens) lines
      → IsAnswer lines (blocks 0 start (all_told lines))
  blocks_are lines h w = blocks_answer [] lines [] start c.none refl h w

  -- ---- the other way

  run_told : (lines : List LogicalLine) (xs : List Placed) (s n : State) (k : ℕ) (more : List LogicalLine) → AreSpelled text tokens lines xs → run s xs ≡ Some n
      → HoldsOfNone (IsUnsupported text tokens) lines → HoldsOfNone (IsOver text tokens) lines
      → blocks k s (all_told (lines ++ more)) ≡ blocks (last_from k lines) n (all_told more)
  run_told _ _ s n k more c.none e h w = ap (λ z. blocks k z (all_told more)) (some_is e)
  run_told _ _ s n k more (c.and {line} {lines} {x} {xs} sp r) e h w =
      let b = bind_ok (step s (placed line x)) (λ next. run next xs) n e in
      let f = within_form text tokens line (no_unsupported text tokens line h.0) w.0 x sp in
      let first : next_of s (told (with_line_ends text) tokens line) ≡ Some b.0 = ap (next_in s line.depth) f ∙ b.1 in
      ap (λ o. on o (Err (line.line, Syntax)) (λ next. blocks line.line next (all_told (lines ++ more)))) first
      ∙ run_told lines xs b.0 n line.line more r b.2 h.1 w.1

  -- a line that may not stand there is answered
  stuck_told : (before : List LogicalLine) (line : LogicalLine) (after : List LogicalLine) (xs : List Placed) (n : State) → AreSpelled text tokens before xs → run start xs ≡ Some n
      → has_unsupported (tokens_of tokens line) ≡ false → (BeginCell text tokens (before ++ line ∷ []) → ⊥) → (o : Option State)
      → next_of n (told (with_line_ends text) tokens line) ≡ o → o ≡ None
  stuck_told before line after xs n sp e h none None m = refl
  stuck_told before line after xs n sp e h none (Some next) m =
      let x = next_some_of (form text tokens line) refl m in
      absurd (none (
        xs ++ placed line x.0 ∷ [],
        spelled_more line sp x.1,
        run_begins (xs ++ placed line x.0 ∷ []) next (run_more start xs (placed line x.0) ∙ ap (λ z. z >>= λ n. step n (placed line x.0)) e ∙ x.2),
      ))
    where
      next_some_of : (f : Form) → form text tokens line ≡ f → next_in n line.depth f ≡ Some next → (x : Line) × Spelled text tokens line x × (step n (placed line x) ≡ Some next)
      next_some_of (a_line x) e m = (x, line_form text tokens line h x e, m)
      next_some_of unsupported e m = cc
      next_some_of over e m = cc
      next_some_of no_line e m = cc

  holds_parts : (P : LogicalLine → Type 0) (front back : List LogicalLine) → HoldsOfNone P (front ++ back) → HoldsOfNone P front × HoldsOfNone P back
  holds_parts P [] back h = (tt, h)
  holds_parts P (line ∷ front) back h = let r = holds_parts P front back h.1 in ((h.0, r.0), r.1)

  at_told : (before : List LogicalLine) (line : LogicalLine) (after : List LogicalLine) → BeginCell text tokens before → (BeginCell text tokens (before ++ line ∷ []) → ⊥)
      → HoldsOfNone (IsUnsupported text tokens) (before ++ line ∷ after) → HoldsOfNone (IsOver text tokens) (before ++ line ∷ after)
      → blocks 0 start (all_told (before ++ line ∷ after)) ≡ Err (line.line, Syntax)
  at_told before line after b none h w =
      let u = holds_parts (IsUnsupported text tokens) before (line ∷ after) h in
      let v = holds_parts (IsOver text tokens) before (line ∷ after) w in
      let r = begins_run b.0 b.2 in
      run_told before b.0 start r.0 0 (line ∷ after) b.1 r.1 u.0 v.0
      ∙ ap (λ o. on o (Err (line.line, Syntax)) (λ next. blocks line.line next (all_told after)))
      (stuck_told before line after b.0 r.0 b.1 r.1 (no_unsupported text tokens line u.1.0) none (next_of r.0 (told (with_line_ends text) tokens line)) refl)

  ended_none : (last : ℕ) (o : Option Block) → ((b : Block) → o ≡ Some b → ⊥) → ended last o ≡ Err (last, Syntax)
  ended_none last None h = refl
  ended_none last (Some b) h = absurd (h b refl)

  early_told : (lines : List LogicalLine) → BeginCell text tokens lines → ((xs : List Placed) (b : Block) → AreSpelled text tokens lines xs → Stands top xs b → ⊥)
      → HoldsOfNone (IsUnsupported text tokens) lines → HoldsOfNone (IsOver text tokens) lines → blocks 0 start (all_told lines) ≡ Err (last_number lines, Syntax)
  early_told lines b none h w =
      let r = begins_run b.0 b.2 in
      ap (λ z. blocks 0 start (all_told z)) (sym (append-nil lines))
      ∙ run_told lines b.0 start r.0 0 [] b.1 r.1 h w
      ∙ ended_none (last_from 0 lines) (accepted r.0) (λ x e. none b.0 x b.1 (accepted_stands b.0 r.0 x r.1 e))
      ∙ ap (λ n. Err (n, Syntax)) (last_is lines)

  pub misplaced_told : (lines : List LogicalLine) (n : ℕ) → IsMisplaced text tokens lines n → HoldsOfNone (IsUnsupported text tokens) lines → HoldsOfNone (IsOver text tokens) lines
      → blocks 0 start (all_told lines) ≡ Err (n, Syntax)
  misplaced_told lines _ (at before line after e b none) h w =
      ap (λ z. blocks 0 start (all_told z)) e
      ∙ at_told before line after b none (subst (HoldsOfNone (IsUnsupported text tokens)) e h) (subst (HoldsOfNone (IsOver text tokens)) e w)
  misplaced_told lines _ (too_early b none) h w = early_told lines b none h w

  pub stands_told : (lines : List LogicalLine) (xs : List Placed) (b : Block) → AreSpelled text tokens lines xs → Stands top xs b
      → HoldsOfNone (IsUnsupported text tokens) lines → HoldsOfNone (IsOver text tokens) lines → blocks 0 start (all_told lines) ≡ Ok b
  stands_told lines xs b sp st h w =
      let r = bind_ok (run start xs) accepted b (stands_accepted xs b st) in
      ap (λ z. blocks 0 start (all_told z)) (sym (append-nil lines)) ∙ run_told lines xs start r.0 0 [] sp r.1 h w ∙ ap (ended (last_from 0 lines)) r.2
