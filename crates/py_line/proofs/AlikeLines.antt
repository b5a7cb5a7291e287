-- Two ways of reading what is nested that agree on fewer signs: what is read over them of a line of so many signs.
use Rattle.std.proofs.Common.{◌≡◌, ℕ, ◌≤◌, ◌<◌, if◌then◌else◌, List, [], ◌∷◌, length, Option, Some, None, option_map, refl, ap, arith}
use Rattle.py_ast.specs.Statement as stmt
use Rattle.py_ast.specs.Statement.{Statement}
use Rattle.py_ast.specs.Tree.{Tree}
use Rattle.py_ast.specs.declared.expr.BinaryOp.{BinaryOp}
use Rattle.py_grammar.specs.Grammar.{Primary, Expr, Exprs}
use Rattle.py_grammar.specs.Kept.{Kept, kept, is_kept_target, push_kept, no_trees}
use Rattle.py_grammar.specs.Line as line
use Rattle.py_grammar.specs.Line.{Header}
use Rattle.py_grammar.specs.Reading.{Reader, ◌>>=◌, on, giving, if_mark, up_to, mark_at, name_at, marked, begins, next_at, Inside, primary, expr}
use Rattle.py_grammar.specs.Reading.{exprs, end_of_exprs, distinct_params, nested}
use Rattle.py_grammar.specs.LineReading.{as_target, Assigned, equals_at, next_value, assigned, augment_of, is_place_before, augmented, Word, pass, break}
use Rattle.py_grammar.specs.LineReading.{continue, return, raise, global, nonlocal, delete, assert, word_of, maybe, asserted_with}
use Rattle.py_grammar.specs.LineReading.{next_simple_at, with_simple, Head, an_if, an_elif, an_else, a_while, a_for, a_try, a_finally, an_except}
use Rattle.py_grammar.specs.LineReading.{a_def, a_class, head_of, tested, looped, defined, with_base, whole, both, places_turn, places, targets}
use Rattle.py_grammar.specs.LineReading.{assigned_turn, more_assigned, augment, unmarked, worded, simple, simples_turn, simples, except_of}
use Rattle.py_grammar.specs.LineReading.{define_of, base_of, class_of, header, after_colon, header_line, simple_line, read_line}
use Rattle.py_grammar.specs.declared.mark.Mark.TheVariants as m
use Rattle.py_grammar.specs.declared.sign.Sign.{Sign}
use Rattle.py_grammar.proofs.Steps.{bind_same, on_same}
use Rattle.py_grammar.proofs.Marks.{mark_less}
use Rattle.py_grammar.proofs.Takes.{sound_shorter}
use Rattle.py_grammar.proofs.Phrases.{OfLevel}
use Rattle.py_grammar.proofs.SoundLists.{nested_sound}
use Rattle.py_grammar.proofs.LineParts.{OfTargets, OfSimple, primary_nested, expr_nested, exprs_nested}
use Rattle.py_grammar.proofs.TargetReading.{places_shrink, targets_sound}
use Rattle.py_grammar.proofs.AssignReading.{assigned_shrink}
use Rattle.py_grammar.proofs.SimpleReading.{simple_sound, simples_shrink}
use Rattle.py_grammar.proofs.HeaderSound.{AfterHead, header_sound}
use Rattle.py_line.specs.Full.{full}
use Rattle.py_line.proofs.Alike.{bind_alike, on_alike, marked_less, name_less, Agree, Alike, TurnsAgree, loop_alike, primary_alike}
use Rattle.py_line.proofs.AlikeLists.{params_alike, expr_alike, exprs_alike}
use Rattle.py_line.proofs.Insides.{full_alike}

-- The first number is the most levels of a tree that are kept, and the second the nestings of one of the ways.
module _ (most : ℕ) (some : 0 < most) (d : ℕ) (j : Inside) (n : ℕ) (h : Alike n (nested most d) j) where
  abbrev i : Inside
  i = nested most d

  primary_same : Agree n (primary most i) (primary most j)
  primary_same = primary_alike most some i j (nested_sound most some d) n h

  expr_same : Agree n (expr most i) (expr most j)
  expr_same = expr_alike most some i j (nested_sound most some d) n h

  exprs_same : Agree n (exprs most i) (exprs most j)
  exprs_same = exprs_alike most some i j (nested_sound most some d) n h

  -- ---- targets

  pub places_turn_alike : TurnsAgree n (places_turn most i) (places_turn most j)
  unfolding places_turn
  places_turn_alike ts o tokens p = ap (λ z. z >>= giving (push_kept ts)) (primary_same tokens (omega arith))

  pub places_alike : Agree n (places most i) (places most j)
  unfolding places
  places_alike tokens p =
      bind_alike (primary most i tokens) (primary most j tokens) _ _ (primary_same tokens p) (λ a e.
      let at_most = sound_shorter (OfLevel most Primary) (primary most i) (primary_nested most some d) tokens a e in
      ap (λ z. z >>= end_of_exprs most)
      (loop_alike next_at (places_turn most i) (places_turn most j) (places_shrink most some d) n places_turn_alike
      (push_kept no_trees a.0) a.1 (omega arith)))

  pub targets_alike : Agree n (targets most i) (targets most j)
  unfolding targets
  targets_alike tokens p = ap (λ z. z >>= as_target) (places_alike tokens p)

  -- ---- simple statements

  pub assigned_turn_alike : TurnsAgree n (assigned_turn most i) (assigned_turn most j)
  unfolding assigned_turn
  assigned_turn_alike c o tokens p =
      ap (λ z. if is_kept_target c.1 then (z >>= giving (next_value c)) else None) (exprs_same tokens (omega arith))

  pub more_assigned_alike : (c : Assigned) → Agree n (more_assigned most i c) (more_assigned most j c)
  more_assigned_alike =
      loop_alike equals_at (assigned_turn most i) (assigned_turn most j) (assigned_shrink most some d) n assigned_turn_alike

  pub augment_alike : (tokens : List Sign) (a : Kept × List Sign) (o : BinaryOp × List Sign) → length o.1 ≤ n
      → augment most i tokens a o ≡ augment most j tokens a o
  unfolding augment
  augment_alike tokens a o p =
      ap (λ z. if is_place_before tokens a then (z >>= giving (augmented a.0 o.0)) else None) (exprs_same o.1 p)

  pub unmarked_alike : Agree n (unmarked most i) (unmarked most j)
  unfolding unmarked
  unmarked_alike tokens p =
      bind_alike (exprs most i tokens) (exprs most j tokens) _ _ (exprs_same tokens p) (λ a e.
      let at_most = sound_shorter (OfLevel most Exprs) (exprs most i) (exprs_nested most some d) tokens a e in
      on_alike (marked augment_of a.1) _ _ _ _
      (ap (λ z. z >>= giving assigned) (more_assigned_alike (no_trees, a.0) a.1 (omega arith)))
      (λ o eo. let less = marked_less augment_of a.1 o eo in augment_alike tokens a o (omega arith)))

  pub maybe_alike : (reader other : Reader Kept) (f : Option Tree → Statement) → Agree n reader other → Agree n (maybe reader f) (maybe other f)
  maybe_alike reader other f agree tokens p =
      ap (λ z. if begins tokens then (z >>= giving (λ a. option_map (λ a. f (Some a)) (kept a))) else Some (Some (f None), tokens))
      (agree tokens p)

  pub worded_alike : (w : Word) → Agree n (worded most i w) (worded most j w)
  unfolding worded
  worded_alike pass tokens p = refl
  worded_alike break tokens p = refl
  worded_alike continue tokens p = refl
  worded_alike return tokens p = maybe_alike (exprs most i) (exprs most j) stmt.return exprs_same tokens p
  worded_alike raise tokens p = maybe_alike (expr most i) (expr most j) stmt.raise expr_same tokens p
  worded_alike global tokens p = refl
  worded_alike nonlocal tokens p = refl
  worded_alike delete tokens p = ap (λ z. z >>= giving (λ a. option_map stmt.delete (kept a))) (targets_alike tokens p)
  worded_alike assert tokens p =
      bind_alike (expr most i tokens) (expr most j tokens) _ _ (expr_same tokens p) (λ a e.
      let at_most = sound_shorter (OfLevel most Expr) (expr most i) (expr_nested most some d) tokens a e in
      on_same (mark_at m.Comma a.1) _ _ _ (λ rest er.
      let less = mark_less m.Comma a.1 rest er in
      ap (λ z. z >>= giving (asserted_with a.0)) (expr_same rest (omega arith))))

  pub simple_alike : Agree n (simple most i) (simple most j)
  unfolding simple
  simple_alike tokens p =
      on_alike (marked word_of tokens) _ _ _ _ (unmarked_alike tokens p) (λ w e.
      let less = marked_less word_of tokens w e in
      worded_alike w.0 w.1 (omega arith))

  pub simples_turn_alike : TurnsAgree n (simples_turn most i) (simples_turn most j)
  unfolding simples_turn
  simples_turn_alike before o tokens p = ap (λ z. z >>= giving (with_simple before)) (simple_alike tokens (omega arith))

  pub simples_alike : Agree n (simples most i) (simples most j)
  unfolding simples
  simples_alike tokens p =
      bind_alike (simple most i tokens) (simple most j tokens) _ _ (simple_alike tokens p) (λ x e.
      let at_most = sound_shorter (OfSimple most) (simple most i) (simple_sound most some d) tokens x e in
      ap (λ z. z >>= if_mark m.Semicolon)
      (loop_alike next_simple_at (simples_turn most i) (simples_turn most j) (simples_shrink most some d) n simples_turn_alike
      (with_simple (Some []) x.0) x.1 (omega arith)))

  -- ---- headers

  pub except_of_alike : Agree n (except_of most i) (except_of most j)
  unfolding except_of
  except_of_alike tokens p = bind_alike (expr most i tokens) (expr most j tokens) _ _ (expr_same tokens p) (λ a e. refl)

  pub define_of_alike : Agree n (define_of most i) (define_of most j)
  unfolding define_of
  define_of_alike tokens p =
      bind_same (name_at tokens) _ _ (λ x e.
      let less = name_less tokens x e in
      bind_same (mark_at m.Open x.1) _ _ (λ rest er.
      let behind = mark_less m.Open x.1 rest er in
      ap (λ z. z >>= distinct_params >>= up_to m.Close (defined x.0))
      (params_alike most some i j (nested_sound most some d) n h rest (omega arith))))

  pub base_of_alike : (x : List ℕ) → Agree n (base_of most i x) (base_of most j x)
  unfolding base_of
  base_of_alike x tokens p =
      on_alike (mark_at m.Close tokens) _ _ _ _ (ap (λ z. z >>= up_to m.Close (with_base x)) (expr_same tokens p)) (λ after e. refl)

  pub class_of_alike : Agree n (class_of most i) (class_of most j)
  unfolding class_of
  class_of_alike tokens p =
      bind_same (name_at tokens) _ _ (λ x e.
      let less = name_less tokens x e in
      on_same (mark_at m.Open x.1) _ _ _ (λ rest er.
      let behind = mark_less m.Open x.1 rest er in
      base_of_alike x.0 rest (omega arith)))

  pub header_alike : (k : Head) → Agree n (header most i k) (header most j k)
  unfolding header
  header_alike an_if tokens p = ap (λ z. z >>= giving (tested line.if)) (expr_same tokens p)
  header_alike an_elif tokens p = ap (λ z. z >>= giving (tested line.elif)) (expr_same tokens p)
  header_alike an_else tokens p = refl
  header_alike a_while tokens p = ap (λ z. z >>= giving (tested line.while)) (expr_same tokens p)
  header_alike a_for tokens p =
      bind_alike (targets most i tokens) (targets most j tokens) _ _ (targets_alike tokens p) (λ a e.
      let at_most = sound_shorter (OfTargets most) (targets most i) (targets_sound most some d) tokens a e in
      bind_same (mark_at m.In a.1) _ _ (λ rest er.
      let less = mark_less m.In a.1 rest er in
      ap (λ z. z >>= giving (looped a.0)) (exprs_same rest (omega arith))))
  header_alike a_try tokens p = refl
  header_alike a_finally tokens p = refl
  header_alike an_except tokens p =
      ap (λ z. if begins tokens then z else Some (Some (line.except None None), tokens)) (except_of_alike tokens p)
  header_alike a_def tokens p = define_of_alike tokens p
  header_alike a_class tokens p = class_of_alike tokens p

  -- ---- lines

  pub after_colon_alike : (k : Option Header) (tokens : List Sign) → length tokens ≤ n → after_colon most i k tokens ≡ after_colon most j k tokens
  unfolding after_colon
  after_colon_alike k [] p = refl
  after_colon_alike k (x ∷ tokens) p = ap (λ z. option_map (both line.header k) (whole z)) (simples_alike (x ∷ tokens) p)

  pub header_line_alike : (k : Head × List Sign) → length k.1 ≤ n → header_line most i k ≡ header_line most j k
  unfolding header_line
  header_line_alike k p =
      bind_alike (header most i k.0 k.1) (header most j k.0 k.1) _ _ (header_alike k.0 k.1 p) (λ a e.
      let at_most = sound_shorter (AfterHead most k.0) (header most i k.0) (header_sound most some d k.0) k.1 a e in
      bind_same (mark_at m.Colon a.1) _ _ (λ rest er.
      let less = mark_less m.Colon a.1 rest er in
      after_colon_alike a.0 rest (omega arith)))

  pub simple_line_alike : (tokens : List Sign) → length tokens ≤ n → simple_line most i tokens ≡ simple_line most j tokens
  unfolding simple_line
  simple_line_alike tokens p = ap (λ z. option_map (option_map line.simples) (whole z)) (simples_alike tokens p)

-- a line is read with nestings that do not run out
pub line_full : (most : ℕ) → 0 < most → (tokens : List Sign)
    → read_line most tokens ≡ on (marked head_of tokens) (simple_line most (full most) tokens) (header_line most (full most))
unfolding read_line
line_full most some tokens =
    let n = length tokens in
    let h = full_alike most some n n (omega arith) in
    on_alike (marked head_of tokens) _ _ _ _ (simple_line_alike most some n (full most) n h tokens (omega arith)) (λ k e.
    let less = marked_less head_of tokens k e in
    header_line_alike most some n (full most) n h k (omega arith))
