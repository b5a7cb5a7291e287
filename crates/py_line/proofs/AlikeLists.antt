-- Two ways of reading what is nested that agree on fewer signs: what is read over them of so many signs, from parameters on.
use Rattle.std.proofs.Common.{◌≡◌, ℕ, ◌≤◌, ◌<◌, if◌then◌else◌, List, length, Some, None, ap, arith, inl, inr}
use Rattle.py_grammar.specs.Grammar.{Level, Atom, Primary, Power, Factor, Term, Sum, Comparison, Not, And, Or, Expr, Exprs}
use Rattle.py_grammar.specs.Kept.{Kept, made_choice, made_lambda, KeptAll, push_kept, no_trees}
use Rattle.py_grammar.specs.Reading.{◌>>=◌, giving, if_mark, mark_at, name_at, begins, next_at, begins_name, next_name_at, Inside}
use Rattle.py_grammar.specs.Reading.{disjunctions, condition, Parameters, no_params, with_default, is_distinct, distinct_params, param_onto}
use Rattle.py_grammar.specs.Reading.{param_turn, rest_of_params, params, lambda_body, lambda, expr, items_turn, items, row, end_of_exprs, exprs}
use Rattle.py_grammar.specs.Reading.{pair_onto, pair_turn, pairs, pair_row, start}
use Rattle.py_grammar.specs.declared.mark.Mark.TheVariants as m
use Rattle.py_grammar.specs.declared.sign.Sign.{Sign}
use Rattle.py_grammar.proofs.Steps.{some_is, bind_same, on_same, if_ok}
use Rattle.py_grammar.proofs.Marks.{mark_less}
use Rattle.py_grammar.proofs.Takes.{sound_shorter}
use Rattle.py_grammar.proofs.Phrases.{OfLevel, OfParams, SoundInside}
use Rattle.py_grammar.proofs.SoundLists.{disjunctions_sound, params_sound, params_shrinks, expr_sound, items_shrinks, pairs_shrinks}
use Rattle.py_line.proofs.Alike.{bind_alike, on_alike, name_less, Agree, Alike, TurnsAgree, loop_alike, level_alike, atom_alike}
use Rattle.py_line.proofs.Alike.{primary_alike, power_alike, factor_alike, term_alike, sum_alike, comparison_alike, negated_alike}
use Rattle.py_line.proofs.Alike.{conjunctions_alike, disjunctions_alike}

-- parameters with different names are what they were
pub distinct_same : (c d : Parameters × List Sign) → distinct_params c ≡ Some d → c ≡ d
distinct_same c d e =
    elim (if_ok (is_distinct c.0.0) (Some c) None d e) [
      | inl p ↦ some_is p.1
      | inr p ↦ cc
    ]

-- the number is the most levels of a tree that are kept
module _ (most : ℕ) (some : 0 < most) (i j : Inside) (s : SoundInside most i) (n : ℕ) (h : Alike n i j) where
  -- ---- conditional expressions

  pub condition_alike : (a : Kept × List Sign) → length a.1 ≤ n → condition most i a ≡ condition most j a
  unfolding condition
  condition_alike a p =
      on_same (mark_at m.If a.1) _ _ _ (λ rest e.
      let less = mark_less m.If a.1 rest e in
      bind_alike (disjunctions most i rest) (disjunctions most j rest) _ _
      (disjunctions_alike most some i j s n h rest (omega arith)) (λ test et.
      let at_most = sound_shorter (OfLevel most Or) (disjunctions most i) (disjunctions_sound most some i s) rest test et in
      bind_same (mark_at m.Else test.1) _ _ (λ after ea.
      let behind = mark_less m.Else test.1 after ea in
      ap (λ z. z >>= giving (made_choice most a.0 test.0)) (h.trees Expr after (omega arith)))))

  -- ---- parameters and lambdas

  pub param_onto_alike : (c : Parameters) → Agree n (param_onto most i c) (param_onto most j c)
  unfolding param_onto
  param_onto_alike c tokens p =
      bind_same (name_at tokens) _ _ (λ x e.
      let less = name_less tokens x e in
      on_same (mark_at m.Equals x.1) _ _ _ (λ rest er.
      let behind = mark_less m.Equals x.1 rest er in
      ap (λ z. z >>= giving (with_default c x.0)) (h.trees Expr rest (omega arith))))

  pub rest_of_params_alike : (c : Parameters × List Sign) → length c.1 ≤ n → rest_of_params most i c ≡ rest_of_params most j c
  rest_of_params_alike c p =
      ap (λ z. z >>= if_mark m.Comma)
      (loop_alike next_name_at (param_turn most i) (param_turn most j) (params_shrinks most some i s) n
      (λ c o tokens p. param_onto_alike c tokens (omega arith)) c.0 c.1 p)

  pub params_alike : Agree n (params most i) (params most j)
  unfolding params
  params_alike tokens p =
      ap (λ z. if begins_name tokens then z else Some (no_params, tokens))
      (bind_alike (param_onto most i no_params tokens) (param_onto most j no_params tokens) (rest_of_params most i) (rest_of_params most j)
      (param_onto_alike no_params tokens p) (λ c e.
      let at_most = (params_shrinks most some i s).turns no_params tt tokens c e in
      rest_of_params_alike c (omega arith)))

  pub lambda_body_alike : (c : Parameters × List Sign) → length c.1 ≤ n → lambda_body most i c ≡ lambda_body most j c
  unfolding lambda_body
  lambda_body_alike c p =
      bind_same (distinct_params c) _ _ (λ d e.
      let same : length c.1 ≡ length d.1 = ap (λ z. length z.1) (distinct_same c d e) in
      bind_same (mark_at m.Colon d.1) _ _ (λ rest er.
      let less = mark_less m.Colon d.1 rest er in
      ap (λ z. z >>= giving (made_lambda most d.0.0 d.0.1)) (h.trees Expr rest (omega arith))))

  pub lambda_alike : Agree n (lambda most i) (lambda most j)
  unfolding lambda
  lambda_alike rest p =
      bind_alike (params most i rest) (params most j rest) (lambda_body most i) (lambda_body most j) (params_alike rest p) (λ c e.
      let at_most = sound_shorter (OfParams most) (params most i) (params_sound most some i s) rest c e in
      lambda_body_alike c (omega arith))

  -- ---- expressions

  pub expr_alike : Agree n (expr most i) (expr most j)
  unfolding expr
  expr_alike tokens p =
      on_alike (mark_at m.Lambda tokens) _ _ _ _
      (bind_alike (disjunctions most i tokens) (disjunctions most j tokens) (condition most i) (condition most j)
      (disjunctions_alike most some i j s n h tokens p) (λ a e.
      let at_most = sound_shorter (OfLevel most Or) (disjunctions most i) (disjunctions_sound most some i s) tokens a e in
      condition_alike a (omega arith)))
      (λ rest e. let less = mark_less m.Lambda tokens rest e in lambda_alike rest (omega arith))

  -- ---- lists

  pub items_turn_alike : TurnsAgree n (items_turn most i) (items_turn most j)
  unfolding items_turn
  items_turn_alike c o tokens p = ap (λ z. z >>= giving (push_kept c)) (expr_alike tokens (omega arith))

  pub items_alike : Agree n (items most i) (items most j)
  unfolding items
  items_alike =
      level_alike next_at (items_turn most i) (items_turn most j) (items_shrinks most some i s) n items_turn_alike (push_kept no_trees)
      (expr most i) (expr most j) (sound_shorter (OfLevel most Expr) (expr most i) (expr_sound most some i s)) expr_alike

  pub row_alike : Agree n (row most i) (row most j)
  unfolding row
  row_alike tokens p = ap (λ z. if begins tokens then (z >>= if_mark m.Comma) else Some (no_trees, tokens)) (items_alike tokens p)

  pub exprs_alike : Agree n (exprs most i) (exprs most j)
  unfolding exprs
  exprs_alike tokens p = ap (λ z. z >>= end_of_exprs most) (items_alike tokens p)

  -- ---- keys and values

  pub pair_onto_alike : (c : KeptAll) → Agree n (pair_onto most i c) (pair_onto most j c)
  unfolding pair_onto
  pair_onto_alike c tokens p =
      bind_alike (expr most i tokens) (expr most j tokens) _ _ (expr_alike tokens p) (λ k e.
      let at_most = sound_shorter (OfLevel most Expr) (expr most i) (expr_sound most some i s) tokens k e in
      bind_same (mark_at m.Colon k.1) _ _ (λ rest er.
      let less = mark_less m.Colon k.1 rest er in
      ap (λ z. z >>= giving (push_kept (push_kept c k.0))) (expr_alike rest (omega arith))))

  pub pairs_alike : Agree n (pairs most i) (pairs most j)
  unfolding pairs
  pairs_alike =
      level_alike next_at (pair_turn most i) (pair_turn most j) (pairs_shrinks most some i s) n
      (λ c o tokens p. pair_onto_alike c tokens (omega arith)) (λ a. a)
      (pair_onto most i no_trees) (pair_onto most j no_trees) ((pairs_shrinks most some i s).turns no_trees tt) (pair_onto_alike no_trees)

  pub pair_row_alike : Agree n (pair_row most i) (pair_row most j)
  unfolding pair_row
  pair_row_alike tokens p = ap (λ z. if begins tokens then (z >>= if_mark m.Comma) else Some (no_trees, tokens)) (pairs_alike tokens p)

  -- ---- all levels

  pub start_alike : (l : Level) → Agree n (start most l i) (start most l j)
  start_alike Atom = atom_alike most some i j s n h
  start_alike Primary = primary_alike most some i j s n h
  start_alike Power = power_alike most some i j s n h
  start_alike Factor = factor_alike most some i j s n h
  start_alike Term = term_alike most some i j s n h
  start_alike Sum = sum_alike most some i j s n h
  start_alike Comparison = comparison_alike most some i j s n h
  start_alike Not = negated_alike most some i j s n h
  start_alike And = conjunctions_alike most some i j s n h
  start_alike Or = disjunctions_alike most some i j s n h
  start_alike Expr = expr_alike
  start_alike Exprs = exprs_alike
