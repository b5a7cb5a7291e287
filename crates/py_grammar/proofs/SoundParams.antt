-- What is read of parameters and of lambdas is spelled so.
use Rattle.std.proofs.Common.{◌≡◌, ℕ, ◌≤◌, ◌<◌, true, List, [], ◌∷◌, ◌++◌, length, Option, Some, None, sym, ap, ◌∙◌, subst}
use Rattle.std.proofs.Common.{arith, inl, inr}
use Rattle.py_ast.specs.Tree as t
use Rattle.py_ast.specs.Tree.{Tree, Trees, none, more}
use Rattle.py_grammar.specs.Grammar as g
use Rattle.py_grammar.specs.Grammar.{Expr, Spells, push}
use Rattle.py_grammar.specs.Kept.{Kept, keep, made_lambda, keep_all}
use Rattle.py_grammar.specs.Kept.{is_none_kept}
use Rattle.py_grammar.specs.Reading.{◌>>=◌, on, giving, if_mark, mark_at, name_at, begins_name, next_name_at}
use Rattle.py_grammar.specs.Reading.{Inside, Parameters, no_params}
use Rattle.py_grammar.specs.Reading.{with_default, plain_param, param_onto, param_turn, more_params, rest_of_params, params, is_distinct}
use Rattle.py_grammar.specs.Reading.{distinct_params, lambda_body, lambda}
use Rattle.py_grammar.specs.declared.mark.Mark.TheVariants as m
use Rattle.py_grammar.specs.declared.sign.Sign.{Sign}
use Rattle.py_grammar.specs.declared.sign.Sign.TheVariants.{Name, Mark as The}
use Rattle.py_grammar.proofs.Steps.{some_is, bind_ok, bind_bind, on_ok, if_ok, Shrinks}
use Rattle.py_grammar.proofs.Marks.{mark_is, name_is, next_name_is}
use Rattle.py_grammar.proofs.Kept.{keep_lambda, keep_none, keep_one, keep_push, kept_none}
use Rattle.py_grammar.proofs.Distinct.{distinct_is}
use Rattle.py_grammar.proofs.Takes.{Takes, Sound, takes_none, shorter, after_mark, joined_with}
use Rattle.py_grammar.proofs.Takes.{giving_sound, if_mark_sound, Turns, level_sound}
use Rattle.py_grammar.proofs.Phrases.{OfLevel, OfSomeParams, OfParams, SoundInside}

module _ (most : ℕ) (some : 0 < most) (inside : Inside) (s : SoundInside most inside) where
  -- ---- parameters

  -- one parameter more, with or without a default
  data Parameter (before : Parameters) (tokens : List Sign) (r : Parameters × List Sign) : Type 0 where
    plain : (x : List ℕ) → is_none_kept before.1 ≡ true → (before.0 ++ x ∷ [], before.1) ≡ r.0 → tokens ≡ Name x ∷ r.1
        → Parameter before tokens r
    default : (x : List ℕ) (phrase : List Sign) (a : Tree) → Spells Expr phrase a → with_default before x (keep most a) ≡ r.0
        → tokens ≡ Name x ∷ The m.Equals ∷ phrase ++ r.1
        → Parameter before tokens r

  parameter_read : (before : Parameters) (tokens : List Sign) (r : Parameters × List Sign) → param_onto most inside before tokens ≡ Some r
      → Parameter before tokens r
  unfolding param_onto
  parameter_read before tokens r e =
      let x = bind_ok (name_at tokens) (λ x. on (mark_at m.Equals x.1) (plain_param before x.0 x.1)
      (λ rest. inside.tree Expr rest >>= giving (with_default before x.0))) r e in
      let n = name_is tokens x.0 x.1 in
      elim (on_ok (mark_at m.Equals x.0.1) (plain_param before x.0.0 x.0.1)
      (λ rest. inside.tree Expr rest >>= giving (with_default before x.0.0)) (Some r) x.2) [
        | inl p ↦
            elim (if_ok (is_none_kept before.1) (Some ((before.0 ++ x.0.0 ∷ [], before.1), x.0.1)) None r p.1) [
              | inl q ↦ plain x.0.0 q.0 (ap (λ z. z.0) (some_is q.1)) (n ∙ ap (λ z. Name x.0.0 ∷ z.1) (some_is q.1))
              | inr q ↦ cc
            ]
        | inr p ↦
            let b = bind_ok (inside.tree Expr p.0) (giving (with_default before x.0.0)) r p.2 in
            let y = s.trees Expr p.0 b.0 b.1 in
            default x.0.0 y.phrase y.is.tree y.is.spells (ap (with_default before x.0.0) y.is.kept ∙ ap (λ z. z.0) (some_is b.2))
            (n ∙ ap (λ z. Name x.0.0 ∷ z) (mark_is m.Equals x.0.1 p.0 p.1
            ∙ ap (λ z. The m.Equals ∷ z) (y.whole ∙ ap (λ z. y.phrase ++ z.1) (some_is b.2))))
      ]

  first_of : (tokens : List Sign) (r : Parameters × List Sign) → Parameter no_params tokens r → Takes (OfSomeParams most) tokens r
  first_of tokens r (plain x n e w) =
      record {
        phrase = Name x ∷ [];
        is = record { tree = (x ∷ [], none); spells = g.one_plain; kept = ap (λ z. (x ∷ [], z)) (keep_none most) ∙ e };
        whole = w;
      }
  first_of tokens r (default x phrase a sp e w) =
      record {
        phrase = Name x ∷ The m.Equals ∷ phrase;
        is = record { tree = (x ∷ [], more a none); spells = g.one_default sp; kept = ap (λ z. (x ∷ [], z)) (keep_one most a) ∙ e };
        whole = w;
      }

  -- parameters none of which has a default
  none_default : (xs : List Sign) (c : List (List ℕ) × Trees) → g.SomeParams xs c.0 c.1 → is_none_kept (keep_all most c.1) ≡ true
      → g.SomeParams xs c.0 none
  none_default xs c sp e = subst (λ z. g.SomeParams xs c.0 z) (kept_none most c.1 e) sp

  next_of : (before : List Sign) (c : Parameters) → OfSomeParams most before c → (tokens : List Sign) (r : Parameters × List Sign)
      → Parameter c tokens r
      → Takes (λ xs v. OfSomeParams most (before ++ The m.Comma ∷ xs) v) tokens r
  next_of before c sp tokens r (plain x n e w) =
      let n' : is_none_kept (keep_all most sp.tree.1) ≡ true = ap (λ z. is_none_kept z.1) sp.kept ∙ n in
      record {
        phrase = Name x ∷ [];
        is = record {
          tree = (sp.tree.0 ++ x ∷ [], none);
          spells = g.and_plain (none_default before sp.tree sp.spells n') x;
          kept = ap (λ z. (sp.tree.0 ++ x ∷ [], keep_all most z)) (sym (kept_none most sp.tree.1 n'))
              ∙ ap (λ z. (z.0 ++ x ∷ [], z.1)) sp.kept ∙ e;
        };
        whole = w;
      }
  next_of before c sp tokens r (default x phrase a y e w) =
      record {
        phrase = Name x ∷ The m.Equals ∷ phrase;
        is = record {
          tree = (sp.tree.0 ++ x ∷ [], push sp.tree.1 a);
          spells = g.and_default sp.spells x y;
          kept = ap (λ z. (sp.tree.0 ++ x ∷ [], z)) (keep_push most sp.tree.1 a) ∙ ap (λ z. with_default z x (keep most a)) sp.kept ∙ e;
        };
        whole = w;
      }

  param_turns : Turns (OfSomeParams most) next_name_at (param_turn most inside)
  param_turns before c tokens o r sp eo e =
      after_mark (λ xs v. OfSomeParams most (before ++ xs) v) m.Comma tokens o.1 r (next_name_is tokens o eo)
      (next_of before c sp o.1 r (parameter_read c o.1 r e))

  parameter_shorter : (c : Parameters) (tokens : List Sign) (r : Parameters × List Sign) → Parameter c tokens r → length r.1 ≤ length tokens
  parameter_shorter c tokens r (plain x n e w) = shorter (Name x ∷ []) r.1 tokens w
  parameter_shorter c tokens r (default x phrase a y e w) = shorter (Name x ∷ The m.Equals ∷ phrase) r.1 tokens w

  pub params_shrinks : Shrinks next_name_at (param_turn most inside)
  params_shrinks = record {
    operators = λ tokens o e. rw (next_name_is tokens o e) (omega arith);
    turns = λ c o tokens r e. parameter_shorter c tokens r (parameter_read c tokens r e);
  }

  some_params_sound : Sound (OfSomeParams most) (λ tokens. param_onto most inside no_params tokens >>= λ a. more_params most inside a.0 a.1)
  some_params_sound =
      level_sound (OfSomeParams most) next_name_at (param_turn most inside) param_turns (OfSomeParams most)
      (param_onto most inside no_params) (λ a. a)
      (λ tokens r e. first_of tokens r (parameter_read no_params tokens r e)) (λ xs v p. p)

  params_or_comma : Sound (OfParams most) (λ tokens. (param_onto most inside no_params tokens >>= λ a. more_params most inside a.0
      a.1) >>= if_mark m.Comma)
  params_or_comma =
      if_mark_sound (OfSomeParams most) (OfParams most) (λ tokens. param_onto most inside no_params tokens >>= λ a. more_params most inside
      a.0 a.1) some_params_sound m.Comma
      (λ xs v p. record { tree = p.tree; spells = g.some_params p.spells; kept = p.kept })
      (λ xs v p. record { tree = p.tree; spells = g.params_and_comma p.spells; kept = p.kept })

  pub params_sound : Sound (OfParams most) (params most inside)
  unfolding params
  params_sound tokens r e =
      elim (if_ok (begins_name tokens) (param_onto most inside no_params tokens >>= rest_of_params most inside)
      (Some (no_params, tokens)) r e) [
        | inl p ↦ params_or_comma tokens r (bind_bind (param_onto most inside no_params tokens) (λ a. more_params most inside a.0 a.1)
            (if_mark m.Comma) ∙ p.1)
        | inr p ↦ takes_none (OfParams most) no_params tokens r (record {
          tree = ([], none);
          spells = g.no_params;
          kept = ap (λ z. ([], z)) (keep_none most);
        }) p.1
      ]

  -- ---- lambdas

  body_sound : (before : List Sign) (c : Parameters) → OfParams most before c → is_distinct c.0 ≡ true
      → Sound (λ xs v. OfLevel most Expr (The m.Lambda ∷ before ++ (The m.Colon ∷ xs)) v)
      (λ rest. inside.tree Expr rest >>= giving (made_lambda most c.0 c.1))
  body_sound before c sp d =
      giving_sound (OfLevel most Expr) (λ xs v. OfLevel most Expr (The m.Lambda ∷ before ++ (The m.Colon ∷ xs)) v) (inside.tree Expr)
      (s.trees Expr) (made_lambda most c.0 c.1)
      (λ xs v p. record {
        tree = t.lambda sp.tree.0 sp.tree.1 p.tree;
        spells = g.lambda sp.spells (distinct_is sp.tree.0 (ap (λ z. is_distinct z.0) sp.kept ∙ d)) p.spells;
        kept = keep_lambda most sp.tree.0 sp.tree.1 p.tree ∙ ap (λ z. made_lambda most z.0 z.1 (keep most p.tree)) sp.kept
            ∙ ap (made_lambda most c.0 c.1) p.kept;
      })

  -- what follows parameters with different names
  abbrev after_params : Parameters × List Sign → Option (Kept × List Sign)
  after_params c = mark_at m.Colon c.1 >>= λ rest. inside.tree Expr rest >>= giving (made_lambda most c.0.0 c.0.1)

  pub lambda_sound : (rest : List Sign) (r : Kept × List Sign) → lambda most inside rest ≡ Some r
      → Takes (λ xs v. OfLevel most Expr (The m.Lambda ∷ xs) v) rest r
  unfolding lambda lambda_body
  lambda_sound rest r e =
      let a = bind_ok (params most inside rest) (λ c. distinct_params c >>= after_params) r e in
      let x = params_sound rest a.0 a.1 in
      let b = bind_ok (distinct_params a.0) after_params r a.2 in
      elim (if_ok (is_distinct a.0.0.0) (Some a.0) None b.0 b.1) [
        | inl p ↦
            let c = bind_ok (mark_at m.Colon b.0.1) (λ rest. inside.tree Expr rest >>= giving (made_lambda most b.0.0.0 b.0.0.1)) r b.2 in
            let same = some_is p.1 in
            let colon : a.0.1 ≡ The m.Colon ∷ c.0 = ap (λ z. z.1) same ∙ mark_is m.Colon b.0.1 c.0 c.1 in
            let body : (inside.tree Expr c.0 >>= giving (made_lambda most a.0.0.0 a.0.0.1)) ≡ Some r =
            ap (λ z. inside.tree Expr c.0 >>= giving (made_lambda most z.0.0 z.0.1)) same ∙ c.2 in
            joined_with (OfParams most) (λ xs v. OfLevel most Expr (The m.Lambda ∷ xs) v) rest a.0 r x
            (after_mark (λ xs v. OfLevel most Expr (The m.Lambda ∷ x.phrase ++ xs) v) m.Colon a.0.1 c.0 r colon
            (body_sound x.phrase a.0.0 x.is p.0 c.0 r body))
        | inr p ↦ cc
      ]
