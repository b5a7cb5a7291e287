-- What is read from negations up to lists of expressions is spelled so.
use Rattle.std.proofs.Common.{◌≡◌, ℕ, zero, suc, ◌<◌, List, ◌∷◌, ◌++◌, Option, Some, refl, ap, ◌∙◌, subst}
use Rattle.std.proofs.Common.{arith, inl, inr}
use Rattle.std.proofs.lemmas.List.{append-nil}
use Rattle.py_ast.specs.Tree as t
use Rattle.py_ast.specs.Tree.{Tree, none, more}
use Rattle.py_grammar.specs.Grammar as g
use Rattle.py_grammar.specs.Grammar.{Level, Atom, Primary, Power, Factor, Term, Sum, Comparison, Not, And, Or, Expr, Exprs, Spells, push}
use Rattle.py_grammar.specs.Kept.{value, Kept, keep, made, made_choice, made_tuple, alone, KeptAll, push_kept}
use Rattle.py_grammar.specs.Kept.{no_trees}
use Rattle.py_grammar.specs.Reading.{◌>>=◌, giving, if_mark, mark_at, begins, next_at, ands, ors}
use Rattle.py_grammar.specs.Reading.{Inside, comparison, negated, conjunctions, disjunctions, condition}
use Rattle.py_grammar.specs.Reading.{lambda, expr, items_turn, items, row, end_of_exprs, exprs, pair_onto}
use Rattle.py_grammar.specs.Reading.{pair_turn, pairs, pair_row, start, nested}
use Rattle.py_grammar.specs.declared.mark.Mark.TheVariants as m
use Rattle.py_grammar.specs.declared.sign.Sign.{Sign}
use Rattle.py_grammar.specs.declared.sign.Sign.TheVariants.{Mark as The}
use Rattle.py_grammar.proofs.Steps.{bind_ok, on_ok, if_ok, Shrinks}
use Rattle.py_grammar.proofs.Marks.{mark_is, next_is}
use Rattle.py_grammar.proofs.Kept.{keep_made, keep_choice, keep_none, keep_one, keep_push}
use Rattle.py_grammar.proofs.Takes.{Takes, Sound, Anything, weaker, takes_none, sound_shorter, after_mark, joined_with}
use Rattle.py_grammar.proofs.Takes.{giving_sound, if_mark_sound, Turns, level_sound}
use Rattle.py_grammar.proofs.Phrases.{OfLevel, OfItems, OfRow, OfPairs, OfPairRow, SoundInside, alone_spelled}
use Rattle.py_grammar.proofs.Phrases.{tuple_spelled}
use Rattle.py_grammar.proofs.Sound.{atom_sound, primary_sound, power_sound, factor_sound, term_sound, sum_sound, comparison_sound}
use Rattle.py_grammar.proofs.Sound.{grouped_sound}
use Rattle.py_grammar.proofs.SoundParams.{lambda_sound}
pub use Rattle.py_grammar.proofs.SoundParams.{params_sound, params_shrinks}

module _ (most : ℕ) (some : 0 < most) (inside : Inside) (s : SoundInside most inside) where
  -- ---- negations, conjunctions, disjunctions

  not_sound : Sound (λ xs v. OfLevel most Not (The m.Not ∷ xs) v) (λ rest. inside.tree Not rest >>= giving (made most t.not value))
  not_sound =
      giving_sound (OfLevel most Not) (λ xs v. OfLevel most Not (The m.Not ∷ xs) v) (inside.tree Not) (s.trees Not) (made most t.not value)
      (λ xs v p. record {
        tree = t.not p.tree;
        spells = g.negation p.spells;
        kept = keep_made most t.not value p.tree refl refl
            ∙ ap (made most t.not value) p.kept;
      })

  pub negated_sound : Sound (OfLevel most Not) (negated most inside)
  unfolding negated
  negated_sound tokens r e =
      elim (on_ok (mark_at m.Not tokens) (comparison most inside tokens) (λ rest. inside.tree Not rest >>= giving (made most t.not value))
      (Some r) e) [
        | inl p ↦
            let x = comparison_sound most some inside s tokens r p.1 in
            record {
              phrase = x.phrase;
              is = record { tree = x.is.tree; spells = g.a_comparison x.is.spells; kept = x.is.kept };
              whole = x.whole;
            }
        | inr p ↦ after_mark (OfLevel most Not) m.Not tokens p.0 r (mark_is m.Not tokens p.0 p.1) (not_sound p.0 r p.2)
      ]

  pub conjunctions_sound : Sound (OfLevel most And) (conjunctions most inside)
  conjunctions_sound = grouped_sound most some inside s ands (negated most inside) negated_sound

  pub disjunctions_sound : Sound (OfLevel most Or) (disjunctions most inside)
  disjunctions_sound = grouped_sound most some inside s ors (conjunctions most inside) conjunctions_sound

  -- ---- conditional expressions

  other_sound : (before : List Sign) (a : Kept) → OfLevel most Or before a → (ys : List Sign) (test : Kept) → OfLevel most Or ys test
      → Sound (λ xs v. OfLevel most Expr (before ++ (The m.If ∷ ys ++ (The m.Else ∷ xs))) v)
      (λ rest. inside.tree Expr rest >>= giving (made_choice most a test))
  other_sound before a sp ys test st =
      giving_sound (OfLevel most Expr) (λ xs v. OfLevel most Expr (before ++ (The m.If ∷ ys ++ (The m.Else ∷ xs))) v) (inside.tree Expr)
      (s.trees Expr) (made_choice most a test)
      (λ xs v p. record {
        tree = t.choice sp.tree st.tree p.tree;
        spells = g.choice sp.spells st.spells p.spells;
        kept =
            keep_choice most sp.tree st.tree p.tree ∙ ap (λ z. made_choice most z (keep most st.tree) (keep most p.tree)) sp.kept
            ∙ ap (λ z. made_choice most a z (keep most p.tree)) st.kept ∙ ap (made_choice most a test) p.kept;
      })

  -- what follows the test of a conditional expression
  abbrev after_test : Kept → Kept × List Sign → Option (Kept × List Sign)
  after_test a test = mark_at m.Else test.1 >>= λ after. inside.tree Expr after >>= giving (made_choice most a test.0)

  condition_sound : (before : List Sign) (a : Kept × List Sign) (r : Kept × List Sign) → OfLevel most Or before a.0
      → condition most inside a ≡ Some r
      → Takes (λ xs v. OfLevel most Expr (before ++ xs) v) a.1 r
  unfolding condition
  condition_sound before a r sp e =
      elim (on_ok (mark_at m.If a.1) (Some a) (λ rest. disjunctions most inside rest >>= after_test a.0) (Some r) e) [
        | inl p ↦ takes_none (λ xs v. OfLevel most Expr (before ++ xs) v) a.0 a.1 r
            (record { tree = sp.tree; spells = rw append-nil (g.an_or sp.spells); kept = sp.kept }) p.1
        | inr p ↦
            let b = bind_ok (disjunctions most inside p.0) (after_test a.0) r p.2 in
            let x = disjunctions_sound p.0 b.0 b.1 in
            let c = bind_ok (mark_at m.Else b.0.1) (λ after. inside.tree Expr after >>= giving (made_choice most a.0 b.0.0)) r b.2 in
            after_mark (λ xs v. OfLevel most Expr (before ++ xs) v) m.If a.1 p.0 r (mark_is m.If a.1 p.0 p.1)
            (joined_with (OfLevel most Or) (λ xs v. OfLevel most Expr (before ++ The m.If ∷ xs) v) p.0 b.0 r x
            (after_mark (λ xs v. OfLevel most Expr (before ++ (The m.If ∷ x.phrase ++ xs)) v) m.Else b.0.1 c.0 r
            (mark_is m.Else b.0.1 c.0 c.1)
            (other_sound before a.0 sp x.phrase b.0.0 x.is c.0 r c.2)))
      ]

  -- ---- expressions

  pub expr_sound : Sound (OfLevel most Expr) (expr most inside)
  unfolding expr
  expr_sound tokens r e =
      elim (on_ok (mark_at m.Lambda tokens) (disjunctions most inside tokens >>= condition most inside) (lambda most inside) (Some r) e) [
        | inl p ↦
            let a = bind_ok (disjunctions most inside tokens) (condition most inside) r p.1 in
            let x = disjunctions_sound tokens a.0 a.1 in
            joined_with (OfLevel most Or) (OfLevel most Expr) tokens a.0 r x (condition_sound x.phrase a.0 r x.is a.2)
        | inr p ↦ after_mark (OfLevel most Expr) m.Lambda tokens p.0 r (mark_is m.Lambda tokens p.0 p.1) (lambda_sound most some inside s p.0 r p.2)
      ]

  -- ---- lists

  item_sound : (before : List Sign) (c : KeptAll) → OfItems most before c
      → Sound (λ xs v. OfItems most (before ++ The m.Comma ∷ xs) v) (λ rest. expr most inside rest >>= giving (push_kept c))
  item_sound before c sp =
      giving_sound (OfLevel most Expr) (λ xs v. OfItems most (before ++ The m.Comma ∷ xs) v) (expr most inside) expr_sound (push_kept c)
      (λ xs v p. record {
        tree = push sp.tree p.tree;
        spells = g.and_item sp.spells p.spells;
        kept = keep_push most sp.tree p.tree ∙ ap (λ z. push_kept z (keep most p.tree)) sp.kept ∙ ap (push_kept c) p.kept;
      })

  items_turns : Turns (OfItems most) next_at (items_turn most inside)
  unfolding items_turn
  items_turns before c tokens o r sp eo e =
      after_mark (λ xs v. OfItems most (before ++ xs) v) m.Comma tokens o.1 r (next_is tokens o eo) (item_sound before c sp o.1 r e)

  pub items_shrinks : Shrinks next_at (items_turn most inside)
  unfolding items_turn
  items_shrinks = record {
    operators = λ tokens o e. rw (next_is tokens o e) (omega arith);
    turns = λ c o tokens r e. sound_shorter Anything (λ rest. expr most inside rest >>= giving (push_kept c))
        (giving_sound (OfLevel most Expr) Anything (expr most inside) expr_sound (push_kept c) (λ xs v p. tt)) tokens r e;
  }

  pub items_sound : Sound (OfItems most) (items most inside)
  unfolding items
  items_sound =
      level_sound (OfItems most) next_at (items_turn most inside) items_turns (OfLevel most Expr) (expr most inside)
      (push_kept no_trees) expr_sound
      (λ xs v p. record {
        tree = more p.tree none;
        spells = g.one_item p.spells;
        kept = keep_one most p.tree
            ∙ ap (push_kept no_trees) p.kept;
      })

  items_or_comma : Sound (OfRow most) (λ tokens. items most inside tokens >>= if_mark m.Comma)
  items_or_comma =
      if_mark_sound (OfItems most) (OfRow most) (items most inside) items_sound m.Comma
      (λ xs v p. record { tree = p.tree; spells = g.some_items p.spells; kept = p.kept })
      (λ xs v p. record { tree = p.tree; spells = g.items_and_comma p.spells; kept = p.kept })

  pub row_sound : Sound (OfRow most) (row most inside)
  unfolding row
  row_sound tokens r e =
      elim (if_ok (begins tokens) (items most inside tokens >>= if_mark m.Comma) (Some (no_trees, tokens)) r e) [
        | inl p ↦ items_or_comma tokens r p.1
        | inr p ↦ takes_none (OfRow most) no_trees tokens r (record { tree = none; spells = g.no_items; kept = keep_none most }) p.1
      ]

  -- the end of a list of expressions
  pub end_sound : (before : List Sign) (c : KeptAll × List Sign) (r : Kept × List Sign) → OfItems most before c.0
      → end_of_exprs most c ≡ Some r
      → Takes (λ xs v. OfLevel most Exprs (before ++ xs) v) c.1 r
  end_sound before c r sp e =
      elim (on_ok (mark_at m.Comma c.1) (Some (alone most c.0, c.1)) (λ after. Some (made_tuple most c.0, after)) (Some r) e) [
        | inl p ↦ takes_none (λ xs v. OfLevel most Exprs (before ++ xs) v) (alone most c.0) c.1 r
            (rw append-nil (alone_spelled most before c.0 sp)) p.1
        | inr p ↦
            after_mark (λ xs v. OfLevel most Exprs (before ++ xs) v) m.Comma c.1 p.0 r (mark_is m.Comma c.1 p.0 p.1)
            (takes_none (λ xs v. OfLevel most Exprs (before ++ The m.Comma ∷ xs) v) (made_tuple most c.0) p.0 r
            (tuple_spelled most before c.0 sp) p.2)
      ]

  pub exprs_sound : Sound (OfLevel most Exprs) (exprs most inside)
  unfolding exprs
  exprs_sound tokens r e =
      let a = bind_ok (items most inside tokens) (end_of_exprs most) r e in
      let x = items_sound tokens a.0 a.1 in
      joined_with (OfItems most) (OfLevel most Exprs) tokens a.0 r x (end_sound x.phrase a.0 r x.is a.2)

  -- ---- keys and values

  -- a key and its value
  record Pair (before : KeptAll) (xs : List Sign) (v : KeptAll) : Type 0 where
    first : List Sign
    second : List Sign
    key : Tree
    item : Tree
    is_key : Spells Expr first key
    is_item : Spells Expr second item
    phrase : first ++ The m.Colon ∷ second ≡ xs
    kept : push_kept (push_kept before (keep most key)) (keep most item) ≡ v

  -- what follows a key
  abbrev after_key : KeptAll → Kept × List Sign → Option (KeptAll × List Sign)
  after_key c k = mark_at m.Colon k.1 >>= λ rest. expr most inside rest >>= giving (push_kept (push_kept c k.0))

  pair_sound : (c : KeptAll) → Sound (Pair c) (pair_onto most inside c)
  unfolding pair_onto
  pair_sound c tokens r e =
      let a = bind_ok (expr most inside tokens) (after_key c) r e in
      let x = expr_sound tokens a.0 a.1 in
      let b = bind_ok (mark_at m.Colon a.0.1) (λ rest. expr most inside rest >>= giving (push_kept (push_kept c a.0.0))) r a.2 in
      joined_with (OfLevel most Expr) (Pair c) tokens a.0 r x
      (after_mark (λ xs v. Pair c (x.phrase ++ xs) v) m.Colon a.0.1 b.0 r (mark_is m.Colon a.0.1 b.0 b.1)
      (giving_sound (OfLevel most Expr) (λ xs v. Pair c (x.phrase ++ The m.Colon ∷ xs) v) (expr most inside) expr_sound
      (push_kept (push_kept c a.0.0))
      (λ ys v p. record {
        first = x.phrase;
        second = ys;
        key = x.is.tree;
        item = p.tree;
        is_key = x.is.spells;
        is_item = p.spells;
        phrase = refl;
        kept = ap (λ z. push_kept (push_kept c z) (keep most p.tree)) x.is.kept ∙ ap (push_kept (push_kept c a.0.0)) p.kept;
      }) b.0 r b.2))

  first_pair : (xs : List Sign) (v : KeptAll) → Pair no_trees xs v → OfPairs most xs v
  first_pair xs v p =
      record {
        tree = more p.key (more p.item none);
        spells = subst (λ z. g.Pairs z (more p.key (more p.item none))) p.phrase (g.one_pair p.is_key p.is_item);
        kept = keep_push most (more p.key none) p.item ∙ ap (λ z. push_kept z (keep most p.item)) (keep_one most p.key) ∙ p.kept;
      }

  next_pair : (before : List Sign) (c : KeptAll) → OfPairs most before c → (xs : List Sign) (v : KeptAll) → Pair c xs v
      → OfPairs most (before ++ The m.Comma ∷ xs) v
  next_pair before c sp xs v p =
      record {
        tree = push (push sp.tree p.key) p.item;
        spells = subst (λ z. g.Pairs (before ++ The m.Comma ∷ z) (push (push sp.tree p.key) p.item)) p.phrase
            (g.and_pair sp.spells p.is_key p.is_item);
        kept =
            keep_push most (push sp.tree p.key) p.item ∙ ap (λ z. push_kept z (keep most p.item)) (keep_push most sp.tree p.key)
            ∙ ap (λ z. push_kept (push_kept z (keep most p.key)) (keep most p.item)) sp.kept ∙ p.kept;
      }

  pair_turns : Turns (OfPairs most) next_at (pair_turn most inside)
  pair_turns before c tokens o r sp eo e =
      after_mark (λ xs v. OfPairs most (before ++ xs) v) m.Comma tokens o.1 r (next_is tokens o eo)
      (weaker (Pair c) (λ xs v. OfPairs most (before ++ The m.Comma ∷ xs) v) o.1 r (λ xs p. next_pair before c sp xs r.0 p)
      (pair_sound c o.1 r e))

  pub pairs_shrinks : Shrinks next_at (pair_turn most inside)
  pairs_shrinks = record {
    operators = λ tokens o e. rw (next_is tokens o e) (omega arith);
    turns = λ c o tokens r e. sound_shorter (Pair c) (pair_onto most inside c) (pair_sound c) tokens r e;
  }

  pub pairs_sound : Sound (OfPairs most) (pairs most inside)
  unfolding pairs
  pairs_sound =
      level_sound (OfPairs most) next_at (pair_turn most inside) pair_turns (Pair no_trees) (pair_onto most inside no_trees) (λ a. a)
      (pair_sound no_trees) first_pair

  pairs_or_comma : Sound (OfPairRow most) (λ tokens. pairs most inside tokens >>= if_mark m.Comma)
  pairs_or_comma =
      if_mark_sound (OfPairs most) (OfPairRow most) (pairs most inside) pairs_sound m.Comma
      (λ xs v p. record { tree = p.tree; spells = g.some_pairs p.spells; kept = p.kept })
      (λ xs v p. record { tree = p.tree; spells = g.pairs_and_comma p.spells; kept = p.kept })

  pub pair_row_sound : Sound (OfPairRow most) (pair_row most inside)
  unfolding pair_row
  pair_row_sound tokens r e =
      elim (if_ok (begins tokens) (pairs most inside tokens >>= if_mark m.Comma) (Some (no_trees, tokens)) r e) [
        | inl p ↦ pairs_or_comma tokens r p.1
        | inr p ↦ takes_none (OfPairRow most) no_trees tokens r (record { tree = none; spells = g.no_pairs; kept = keep_none most }) p.1
      ]

  -- ---- all levels

  pub start_sound : (l : Level) → Sound (OfLevel most l) (start most l inside)
  start_sound Atom = atom_sound most some inside s
  start_sound Primary = primary_sound most some inside s
  start_sound Power = power_sound most some inside s
  start_sound Factor = factor_sound most some inside s
  start_sound Term = term_sound most some inside s
  start_sound Sum = sum_sound most some inside s
  start_sound Comparison = comparison_sound most some inside s
  start_sound Not = negated_sound
  start_sound And = conjunctions_sound
  start_sound Or = disjunctions_sound
  start_sound Expr = expr_sound
  start_sound Exprs = exprs_sound

pub nested_sound : (most : ℕ) → 0 < most → (n : ℕ) → SoundInside most (nested most n)
unfolding nested
nested_sound most some zero = record { trees = λ l tokens r e. cc; rows = λ tokens r e. cc; pair_rows = λ tokens r e. cc }
nested_sound most some (suc n) =
    let s = nested_sound most some n in
    record {
      trees = start_sound most some (nested most n) s;
      rows = row_sound most some (nested most n) s;
      pair_rows = pair_row_sound most some (nested most n) s;
    }
