-- The steps of the loop over what waits: operands, what stands before one, and the parameters of a lambda.
use Rattle.std.proofs.Common.{◌≡◌, ℕ, ◌+◌, ◌≤◌, ◌<◌, nat_le, true, false, if◌then◌else◌, List, [], ◌∷◌, ◌++◌, length, Option, Some, None, refl, sym, ap, ◌∙◌, arith, inl, inr}
use Rattle.std.proofs.lemmas.Bool.{leb-true, le-leb}
use Rattle.py_ast.specs.Tree as t
use Rattle.py_ast.specs.declared.expr.CompareOp.{CompareOp}
use Rattle.py_ast.specs.declared.expr.SignOp.{SignOp}
use Rattle.py_grammar.specs.Grammar as level
use Rattle.py_grammar.specs.Kept.{leaf, made, made_choice, made_lambda, value, compared, is_none_kept}
use Rattle.py_grammar.specs.Reading.{◌>>=◌, on, giving, mark_at, if_mark, marked, sign_op, name_at, begins_name, next_name_at, compare_at, with_operand, more_chain, Parameters, no_params, with_default, plain_param}
use Rattle.py_grammar.specs.Reading.{more_literals, marked_atom, is_distinct, param_onto, param_turn, more_params, rest_of_params, params, lambda_body, lambda, factor, power, negated, comparison, expr, disjunctions, condition}
use Rattle.py_grammar.specs.declared.mark.Mark.{Mark}
use Rattle.py_grammar.specs.declared.mark.Mark.TheVariants as m
use Rattle.py_grammar.specs.declared.sign.Sign.{Sign}
use Rattle.py_grammar.specs.declared.sign.Sign.TheVariants.{Name, Number, Text, Mark as The, Other}
use Rattle.py_grammar.proofs.Steps.{some_is, bind_bind, if_ok, Shrinks, loop_stops, loop_goes}
use Rattle.py_grammar.proofs.SoundParams.{params_shrinks}
use Rattle.py_line.specs.declared.frame.Rung.{Rung}
use Rattle.py_line.specs.declared.frame.Rung.TheVariants as r
use Rattle.py_line.specs.declared.frame.Frame.{Frame}
use Rattle.py_line.specs.declared.frame.Frame.TheVariants as f
use Rattle.py_line.specs.declared.kept.Kept.{Kept as Held}
use Rattle.py_line.specs.declared.kept.Chained.{Chained as HeldChain}
use Rattle.py_line.specs.declared.kept.Parameters.{Parameters as HeldParameters}
use Rattle.py_line.specs.declared.frame.Opening.{Opening}
use Rattle.py_line.specs.declared.frame.Opening.TheVariants as o
use Rattle.py_line.specs.Views.{kept_of, chained_of, params_of}
use Rattle.py_line.specs.Full.{full}
use Rattle.py_line.specs.Waiting.{rank, phrase, climb_to, turn, lambda_after, param_after, plain_after, asked, lambda_in, not_in, sign_in, opening_of, past_comma, wanted, resume, after, before, between}
use Rattle.py_line.proofs.Insides.{fixed, full_sound}
use Rattle.py_line.proofs.Rungs.{bind_some, on_at_none, of_operand, of_factor, of_not, waits_more}
use Rattle.py_line.proofs.Going.{on_at_some, chain_more, chain_stops}
use Rattle.py_line.proofs.Closing.{turns_to, if_true, if_false, if_past}

-- ---- what stands before an operand

asked_none : {A : Type 0} (n : ℕ) (w : Rung) (o : Option A) → asked n w o ≡ None → n ≤ rank w → o ≡ None
asked_none n w o e h = sym (if_true (nat_le n (rank w)) o None (le-leb n (rank w) h)) ∙ e

asked_some : {A : Type 0} (n : ℕ) (w : Rung) (o : Option A) (x : A) → asked n w o ≡ Some x → (n ≤ rank w) × (o ≡ Some x)
asked_some n w o x e =
    elim (if_ok (nat_le n (rank w)) o None x e) [
      | inl p ↦ (leb-true n (rank w) p.0, p.1)
      | inr p ↦ cc
    ]

module _ (w : Rung) (fs : List Frame) (tokens : List Sign) where
  -- a phrase of a rung with what follows it
  of_rung : (l : Rung) → phrase (wanted w fs) tokens ≡ (phrase l tokens >>= climb_to (wanted w fs) l) → before w fs tokens ≡ (phrase l tokens >>= after w fs l)
  unfolding before after
  of_rung l e = ap (λ z. z >>= resume w fs) e ∙ bind_bind (phrase l tokens) (climb_to (wanted w fs) l) (resume w fs)

  pub operand_first : lambda_in (wanted w fs) tokens ≡ None → not_in (wanted w fs) tokens ≡ None → sign_in (wanted w fs) tokens ≡ None
      → before w fs tokens ≡ (phrase r.Atom tokens >>= after w fs r.Atom)
  operand_first l n s =
      of_rung r.Atom (of_operand (wanted w fs) tokens (asked_none 3 (wanted w fs) (marked sign_op tokens) s)
      (asked_none 7 (wanted w fs) (mark_at m.Not tokens) n) (asked_none 10 (wanted w fs) (mark_at m.Lambda tokens) l))

  signed : (o : SignOp) (rest : List Sign) → marked sign_op tokens ≡ Some (o, rest) → phrase r.Factor tokens ≡ (phrase r.Factor rest >>= turn (f.Sign o))
  unfolding phrase factor
  signed o rest e =
      on_at_some (marked sign_op tokens) (power 60 (full 60) tokens) (λ o. (full 60).tree level.Factor o.1 >>= giving (made 60 (t.sign o.0) value)) (o, rest) e
      ∙ ap (λ z. z >>= giving (made 60 (t.sign o) value)) (fixed 60 (omega arith) level.Factor rest)

  pub sign_first : (o : SignOp) (rest : List Sign) → lambda_in (wanted w fs) tokens ≡ None → not_in (wanted w fs) tokens ≡ None
      → sign_in (wanted w fs) tokens ≡ Some (o, rest)
      → before w fs tokens ≡ before w (fs ++ f.Sign o ∷ []) rest
  sign_first o rest l n s =
      let e = asked_some 3 (wanted w fs) (marked sign_op tokens) (o, rest) s in
      of_rung r.Factor (of_factor (wanted w fs) tokens e.0
      (asked_none 7 (wanted w fs) (mark_at m.Not tokens) n) (asked_none 10 (wanted w fs) (mark_at m.Lambda tokens) l))
      ∙ ap (λ z. z >>= after w fs r.Factor) (signed o rest e.1)
      ∙ sym (waits_more w fs (f.Sign o) rest)

  denied : (rest : List Sign) → mark_at m.Not tokens ≡ Some rest → phrase r.Not tokens ≡ (phrase r.Not rest >>= turn f.Not)
  unfolding phrase negated
  denied rest e =
      on_at_some (mark_at m.Not tokens) (comparison 60 (full 60) tokens) (λ rest. (full 60).tree level.Not rest >>= giving (made 60 t.not value)) rest e
      ∙ ap (λ z. z >>= giving (made 60 t.not value)) (fixed 60 (omega arith) level.Not rest)

  pub not_first : (rest : List Sign) → lambda_in (wanted w fs) tokens ≡ None → not_in (wanted w fs) tokens ≡ Some rest
      → before w fs tokens ≡ before w (fs ++ f.Not ∷ []) rest
  not_first rest l n =
      let e = asked_some 7 (wanted w fs) (mark_at m.Not tokens) rest n in
      of_rung r.Not (of_not (wanted w fs) tokens e.0 (asked_none 10 (wanted w fs) (mark_at m.Lambda tokens) l))
      ∙ ap (λ z. z >>= after w fs r.Not) (denied rest e.1)
      ∙ sym (waits_more w fs f.Not rest)

  of_expr : (u : Rung) → 10 ≤ rank u → phrase u tokens ≡ (phrase r.Expr tokens >>= climb_to u r.Expr)
  of_expr r.Expr h = sym (bind_some (phrase r.Expr tokens))
  of_expr _ h = absurd (omega arith)

  lambdas : (rest : List Sign) → mark_at m.Lambda tokens ≡ Some rest → phrase r.Expr tokens ≡ lambda 60 (full 60) rest
  unfolding phrase expr
  lambdas rest e = on_at_some (mark_at m.Lambda tokens) (disjunctions 60 (full 60) tokens >>= condition 60 (full 60)) (lambda 60 (full 60)) rest e

  pub lambda_first : (rest : List Sign) → lambda_in (wanted w fs) tokens ≡ Some rest
      → before w fs tokens ≡ (lambda 60 (full 60) rest >>= after w fs r.Expr)
  lambda_first rest l =
      let e = asked_some 10 (wanted w fs) (mark_at m.Lambda tokens) rest l in
      of_rung r.Expr (of_expr (wanted w fs) e.0) ∙ ap (λ z. z >>= after w fs r.Expr) (lambdas rest e.1)

module _ (w : Rung) (fs : List Frame) (rest : List Sign) where
  pub params_first : begins_name rest ≡ true → (lambda 60 (full 60) rest >>= after w fs r.Expr) ≡ (param_after no_params rest >>= after w fs r.Expr)
  unfolding lambda params
  params_first b =
      ap (λ z. z >>= lambda_body 60 (full 60) >>= after w fs r.Expr)
      (if_true (begins_name rest) (param_onto 60 (full 60) no_params rest >>= rest_of_params 60 (full 60)) (Some (no_params, rest)) b)
      ∙ ap (λ z. z >>= after w fs r.Expr) (bind_bind (param_onto 60 (full 60) no_params rest) (rest_of_params 60 (full 60)) (lambda_body 60 (full 60)))

  pub no_params_first : begins_name rest ≡ false → (lambda 60 (full 60) rest >>= after w fs r.Expr) ≡ (lambda_body 60 (full 60) (no_params, rest) >>= after w fs r.Expr)
  unfolding lambda params
  no_params_first b =
      ap (λ z. z >>= lambda_body 60 (full 60) >>= after w fs r.Expr)
      (if_false (begins_name rest) (param_onto 60 (full 60) no_params rest >>= rest_of_params 60 (full 60)) (Some (no_params, rest)) b)

-- ---- the parameters of a lambda

module _ (w : Rung) (fs : List Frame) (tokens : List Sign) where
  pub default_goes : (s : HeldParameters) (u : Parameters) (x : List ℕ) (rest more : List Sign) → params_of s ≡ u → name_at tokens ≡ Some (x, rest) → mark_at m.Equals rest ≡ Some more
      → (param_onto 60 (full 60) u tokens >>= lambda_after >>= after w fs r.Expr) ≡ before w (fs ++ f.Default s x ∷ []) more
  unfolding param_onto phrase
  default_goes s u x rest more same n e =
      ap (λ z. z >>= (λ x. on (mark_at m.Equals x.1) (plain_param u x.0 x.1) (λ rest. (full 60).tree level.Expr rest >>= giving (with_default u x.0))) >>= lambda_after >>= after w fs r.Expr) n
      ∙ ap (λ z. z >>= lambda_after >>= after w fs r.Expr)
      (on_at_some (mark_at m.Equals rest) (plain_param u x rest) (λ rest. (full 60).tree level.Expr rest >>= giving (with_default u x)) more e)
      ∙ ap (λ z. z >>= giving (with_default u x) >>= lambda_after >>= after w fs r.Expr) (fixed 60 (omega arith) level.Expr more)
      ∙ ap (λ z. z >>= after w fs r.Expr) (bind_bind (expr 60 (full 60) more) (giving (with_default u x)) lambda_after)
      ∙ ap (λ z. expr 60 (full 60) more >>= (λ a. lambda_after (with_default z x a.0, a.1)) >>= after w fs r.Expr) (sym same)
      ∙ sym (waits_more w fs (f.Default s x) more)

  pub plain_next : (u : Parameters) (x : List ℕ) (rest : List Sign) → name_at tokens ≡ Some (x, rest) → mark_at m.Equals rest ≡ None
      → (param_after u tokens >>= after w fs r.Expr) ≡ (plain_after u x rest >>= after w fs r.Expr)
  unfolding param_onto
  plain_next u x rest n e =
      ap (λ z. z >>= (λ x. on (mark_at m.Equals x.1) (plain_param u x.0 x.1) (λ rest. (full 60).tree level.Expr rest >>= giving (with_default u x.0))) >>= lambda_after >>= after w fs r.Expr) n
      ∙ ap (λ z. z >>= lambda_after >>= after w fs r.Expr)
      (on_at_none (mark_at m.Equals rest) (plain_param u x rest) (λ rest. (full 60).tree level.Expr rest >>= giving (with_default u x)) e)

  pub plain_goes : (u : Parameters) (x : List ℕ) → is_none_kept u.1 ≡ true
      → (plain_after u x tokens >>= after w fs r.Expr) ≡ between w fs ((u.0 ++ x ∷ [], u.1), tokens)
  unfolding between
  plain_goes u x e = ap (λ z. z >>= lambda_after >>= after w fs r.Expr) (if_true (is_none_kept u.1) (Some ((u.0 ++ x ∷ [], u.1), tokens)) None e)

  pub plain_fails : (u : Parameters) (x : List ℕ) → is_none_kept u.1 ≡ false → (plain_after u x tokens >>= after w fs r.Expr) ≡ None
  plain_fails u x e = ap (λ z. z >>= lambda_after >>= after w fs r.Expr) (if_false (is_none_kept u.1) (Some ((u.0 ++ x ∷ [], u.1), tokens)) None e)

  pub nameless : (u : Parameters) → name_at tokens ≡ None → (param_onto 60 (full 60) u tokens >>= lambda_after >>= after w fs r.Expr) ≡ None
  unfolding param_onto
  nameless u n =
      ap (λ z. z >>= (λ x. on (mark_at m.Equals x.1) (plain_param u x.0 x.1) (λ rest. (full 60).tree level.Expr rest >>= giving (with_default u x.0))) >>= lambda_after >>= after w fs r.Expr) n

  params_shrink : Shrinks next_name_at (param_turn 60 (full 60))
  params_shrink = params_shrinks 60 (omega arith) (full 60) (full_sound 60 (omega arith))

  pub param_more : (u : Parameters) (rest : List Sign) → next_name_at tokens ≡ Some (tt, rest)
      → between w fs (u, tokens) ≡ (param_onto 60 (full 60) u rest >>= lambda_after >>= after w fs r.Expr)
  unfolding between
  param_more u rest n =
      ap (λ z. z >>= if_mark m.Comma >>= lambda_body 60 (full 60) >>= after w fs r.Expr)
      (loop_goes next_name_at (param_turn 60 (full 60)) params_shrink u tokens (tt, rest) n)
      ∙ ap (λ z. z >>= lambda_body 60 (full 60) >>= after w fs r.Expr)
      (bind_bind (param_onto 60 (full 60) u rest) (λ r. more_params 60 (full 60) r.0 r.1) (if_mark m.Comma))
      ∙ ap (λ z. z >>= after w fs r.Expr)
      (bind_bind (param_onto 60 (full 60) u rest) (rest_of_params 60 (full 60)) (lambda_body 60 (full 60)))

  pub params_end : (u : Parameters) → next_name_at tokens ≡ None
      → between w fs (u, tokens) ≡ (lambda_body 60 (full 60) (u, past_comma tokens) >>= after w fs r.Expr)
  unfolding between
  params_end u n =
      ap (λ z. z >>= if_mark m.Comma >>= lambda_body 60 (full 60) >>= after w fs r.Expr)
      (loop_stops next_name_at (param_turn 60 (full 60)) params_shrink u tokens n)
      ∙ ap (λ z. z >>= lambda_body 60 (full 60) >>= after w fs r.Expr) (if_past (mark_at m.Comma tokens) u tokens)

  pub body_goes : (s : HeldParameters) (rest : List Sign) → is_distinct (params_of s).0 ≡ true → mark_at m.Colon tokens ≡ Some rest
      → (lambda_body 60 (full 60) (params_of s, tokens) >>= after w fs r.Expr) ≡ before w (fs ++ f.Lambda s ∷ []) rest
  unfolding lambda_body phrase
  body_goes s rest d e =
      ap (λ z. z >>= (λ s. mark_at m.Colon s.1 >>= λ rest. (full 60).tree level.Expr rest >>= giving (made_lambda 60 s.0.0 s.0.1)) >>= after w fs r.Expr)
      (if_true (is_distinct (params_of s).0) (Some (params_of s, tokens)) None d)
      ∙ ap (λ z. z >>= (λ rest. (full 60).tree level.Expr rest >>= giving (made_lambda 60 (params_of s).0 (params_of s).1)) >>= after w fs r.Expr) e
      ∙ ap (λ z. z >>= giving (made_lambda 60 (params_of s).0 (params_of s).1) >>= after w fs r.Expr) (fixed 60 (omega arith) level.Expr rest)
      ∙ sym (waits_more w fs (f.Lambda s) rest)

  pub body_fails : (s : Parameters) → is_distinct s.0 ≡ false → (lambda_body 60 (full 60) (s, tokens) >>= after w fs r.Expr) ≡ None
  unfolding lambda_body
  body_fails s d =
      ap (λ z. z >>= (λ s. mark_at m.Colon s.1 >>= λ rest. (full 60).tree level.Expr rest >>= giving (made_lambda 60 s.0.0 s.0.1)) >>= after w fs r.Expr)
      (if_false (is_distinct s.0) (Some (s, tokens)) None d)

  pub no_colon : (s : Parameters) → is_distinct s.0 ≡ true → mark_at m.Colon tokens ≡ None → (lambda_body 60 (full 60) (s, tokens) >>= after w fs r.Expr) ≡ None
  unfolding lambda_body
  no_colon s d e =
      ap (λ z. z >>= (λ s. mark_at m.Colon s.1 >>= λ rest. (full 60).tree level.Expr rest >>= giving (made_lambda 60 s.0.0 s.0.1)) >>= after w fs r.Expr)
      (if_true (is_distinct s.0) (Some (s, tokens)) None d)
      ∙ ap (λ z. z >>= (λ rest. (full 60).tree level.Expr rest >>= giving (made_lambda 60 s.0 s.1)) >>= after w fs r.Expr) e

-- ---- where one that waits gets its phrase

module _ (w : Rung) (fs : List Frame) (a : Held) (tokens : List Sign) where
  pub else_goes : (l : Held) (rest : List Sign) → mark_at m.Else tokens ≡ Some rest
      → (turn (f.Test l) (kept_of a, tokens) >>= after w fs r.Expr) ≡ before w (fs ++ f.Else l a ∷ []) rest
  else_goes l rest e =
      turns_to w fs (f.Test l) (f.Else l a) (kept_of a, tokens) rest refl
      (ap (λ z. z >>= λ rest. phrase r.Expr rest >>= giving (made_choice 60 (kept_of l) (kept_of a))) e)

  pub else_fails : (l : Held) → mark_at m.Else tokens ≡ None → (turn (f.Test l) (kept_of a, tokens) >>= after w fs r.Expr) ≡ None
  else_fails l e = ap (λ z. z >>= (λ rest. phrase r.Expr rest >>= giving (made_choice 60 (kept_of l) (kept_of a))) >>= after w fs r.Expr) e

  pub default_given : (s : HeldParameters) (u : HeldParameters) (x : List ℕ) → params_of u ≡ with_default (params_of s) x (kept_of a)
      → (turn (f.Default s x) (kept_of a, tokens) >>= after w fs r.Expr) ≡ between w fs (params_of u, tokens)
  unfolding between
  default_given s u x same = ap (λ z. lambda_after (z, tokens) >>= after w fs r.Expr) (sym same)

  pub chain_on : (c v : HeldChain) (o p : CompareOp) (rest : List Sign) → chained_of v ≡ with_operand (chained_of c) o (kept_of a) → compare_at tokens ≡ Some (p, rest)
      → (turn (f.Chain c o) (kept_of a, tokens) >>= after w fs r.Comparison) ≡ before w (fs ++ f.Chain v p ∷ []) rest
  chain_on c v o p rest same e =
      turns_to w fs (f.Chain c o) (f.Chain v p) (kept_of a, tokens) rest refl
      (ap (λ z. z >>= giving (compared 60)) (chain_more w fs a tokens (with_operand (chained_of c) o (kept_of a)) p rest e)
      ∙ bind_bind (phrase r.Sum rest) (λ b. more_chain 60 (full 60) (with_operand (with_operand (chained_of c) o (kept_of a)) p b.0) b.1) (giving (compared 60))
      ∙ ap (λ z. phrase r.Sum rest >>= λ b. more_chain 60 (full 60) (with_operand z p b.0) b.1 >>= giving (compared 60)) (sym same))

  pub chain_done : (c v : HeldChain) (o : CompareOp) → chained_of v ≡ with_operand (chained_of c) o (kept_of a) → compare_at tokens ≡ None
      → (turn (f.Chain c o) (kept_of a, tokens) >>= after w fs r.Comparison) ≡ after w fs r.Comparison (compared 60 (chained_of v), tokens)
  chain_done c v o same e =
      ap (λ z. z >>= giving (compared 60) >>= after w fs r.Comparison) (chain_stops w fs a tokens (with_operand (chained_of c) o (kept_of a)) e)
      ∙ ap (λ z. after w fs r.Comparison (compared 60 z, tokens)) (sym same)

-- ---- marks with which an atom begins

abbrev pub mark_of : Opening → Mark
mark_of o.Nil = m.None
mark_of o.True = m.True
mark_of o.False = m.False
mark_of o.Round = m.Open
mark_of o.Square = m.OpenSquare
mark_of o.Curly = m.OpenCurly

opening_is : (k : Mark) (p : Opening) → opening_of k ≡ Some p → k ≡ mark_of p
opening_is m.None p e = ap mark_of (some_is e)
opening_is m.True p e = ap mark_of (some_is e)
opening_is m.False p e = ap mark_of (some_is e)
opening_is m.Open p e = ap mark_of (some_is e)
opening_is m.OpenSquare p e = ap mark_of (some_is e)
opening_is m.OpenCurly p e = ap mark_of (some_is e)
opening_is _ p e = cc

unopened : (k : Mark) (rest : List Sign) → opening_of k ≡ None → marked_atom 60 (full 60) k rest ≡ None
unfolding marked_atom
unopened m.None rest e = cc
unopened m.True rest e = cc
unopened m.False rest e = cc
unopened m.Open rest e = cc
unopened m.OpenSquare rest e = cc
unopened m.OpenCurly rest e = cc
unopened _ rest e = refl

module _ (k : Mark) (rest : List Sign) where
  pub no_opening : opening_of k ≡ None → marked_atom 60 (full 60) k rest ≡ None
  no_opening e = unopened k rest e

  pub opened : (p : Opening) → opening_of k ≡ Some p → marked_atom 60 (full 60) k rest ≡ marked_atom 60 (full 60) (mark_of p) rest
  opened p e = ap (λ k. marked_atom 60 (full 60) k rest) (opening_is k p e)

  pub nil_here : opening_of k ≡ Some o.Nil → marked_atom 60 (full 60) k rest ≡ Some (leaf t.nil, rest)
  unfolding marked_atom
  nil_here e = opened o.Nil e

  pub true_here : opening_of k ≡ Some o.True → marked_atom 60 (full 60) k rest ≡ Some (leaf (t.truth true), rest)
  unfolding marked_atom
  true_here e = opened o.True e

  pub false_here : opening_of k ≡ Some o.False → marked_atom 60 (full 60) k rest ≡ Some (leaf (t.truth false), rest)
  unfolding marked_atom
  false_here e = opened o.False e

  pub round_here : opening_of k ≡ Some o.Round → marked_atom 60 (full 60) k rest ≡ marked_atom 60 (full 60) m.Open rest
  round_here e = opened o.Round e

  pub square_here : opening_of k ≡ Some o.Square → marked_atom 60 (full 60) k rest ≡ marked_atom 60 (full 60) m.OpenSquare rest
  square_here e = opened o.Square e

  pub curly_here : opening_of k ≡ Some o.Curly → marked_atom 60 (full 60) k rest ≡ marked_atom 60 (full 60) m.OpenCurly rest
  curly_here e = opened o.Curly e

pub literals_less : (x : List ℕ) (tokens : List Sign) → length (more_literals x tokens).1 ≤ length tokens
literals_less x [] = omega arith
literals_less x (Text y ∷ rest) = let less = literals_less (x ++ y) rest in omega arith
literals_less x (Name y ∷ rest) = omega arith
literals_less x (Number n ∷ rest) = omega arith
literals_less x (The k ∷ rest) = omega arith
literals_less x (Other ∷ rest) = omega arith

pub literals_within : (x y : List ℕ) (tokens rest : List Sign) → ◌≡◌ {A = List ℕ × List Sign} (y, rest) (more_literals x tokens) → length rest ≤ length tokens
literals_within x y tokens rest e = let less = literals_less x tokens in let same = ap (λ z. length z.1) e in omega arith
