-- The loops of reading, over what is nested to a depth: where they stop, and one turn.
use Rattle.std.proofs.Common.{◌≡◌, ℕ, ◌<◌, Bool, true, false, if◌then◌else◌, Option, List, [], ◌∷◌, ◌++◌, Some, None, refl, sym, ap, ◌∙◌, append_assoc}
use Rattle.py_ast.specs.Tree as t
use Rattle.py_ast.specs.Tree.{Tree, Trees, none, more}
use Rattle.py_ast.specs.declared.expr.CompareOp.{CompareOp}
use Rattle.py_grammar.specs.Grammar as g
use Rattle.py_grammar.specs.Grammar.{Literals, Expr, push, Compares}
use Rattle.py_grammar.specs.Kept.{value, Kept, keep, leaf, made_of_two, made_choice, made_lambda, made_tuple, alone, KeptAll, keep_all, push_kept, no_trees, compared}
use Rattle.py_grammar.specs.Reading.{Reader, ◌>>=◌, on, giving, up_to, mark_at, marked, begins, next_at, next_name_at, Group, terms, sums}
use Rattle.py_grammar.specs.Reading.{ands, ors, Join, join_of, joined, compare_at, Suffix, suffix_of, Inside, suffix, more_primary}
use Rattle.py_grammar.specs.Reading.{more_literals, literals_leaf, atom, disjunctions, condition, is_distinct, lambda_body, grouped_turn, more_grouped, factor, term, sum, Chained, one_operand, with_operand, chain_turn}
use Rattle.py_grammar.specs.Reading.{more_chain, chain, comparison, negated, conjunctions, Parameters, param_onto, param_turn, more_params}
use Rattle.py_grammar.specs.Reading.{expr, items_turn, more_items, items, end_of_exprs, exprs, pair_onto, pair_turn, more_pairs, nested}
use Rattle.py_grammar.specs.declared.mark.Mark.{Mark}
use Rattle.py_grammar.specs.declared.mark.Mark.TheVariants as m
use Rattle.py_grammar.specs.declared.sign.Sign.{Sign}
use Rattle.py_grammar.specs.declared.sign.Sign.TheVariants.{Name, Text, Mark as The}
use Rattle.py_grammar.proofs.Steps.{loop_stops, loop_goes}
use Rattle.py_grammar.proofs.Marks.{mark_here, marked_here, next_here, next_not, compare_here}
use Rattle.py_grammar.proofs.Kept.{keep_leaf, keep_one, keep_push}
use Rattle.py_grammar.proofs.Takes.{Sound}
use Rattle.py_grammar.proofs.Phrases.{operand_level, OfLevel, SoundInside, keep_joined}
use Rattle.py_grammar.proofs.Sound.{suffix_shrinks, grouped_shrinks, chain_shrinks, factor_sound, term_sound}
use Rattle.py_grammar.proofs.SoundLists.{nested_sound, negated_sound, conjunctions_sound, params_shrinks, items_shrinks, pairs_shrinks}
use Rattle.py_grammar.proofs.Follow.{follow, limit, if_ends, suffix_ends, join_ends, compare_ends, comma_ends, next_ends}

-- what stands before a closing mark, in one piece with what follows
pub closing : (xs rest : List Sign) (k : Mark) → (xs ++ The k ∷ []) ++ rest ≡ xs ++ The k ∷ rest
closing xs rest k = append_assoc xs (The k ∷ []) rest

-- what is read up to a mark
pub closed_read : {V W : Type 0} (p : Reader V) (k : Mark) (f : V → W) (xs rest : List Sign) (v : V)
    → p (xs ++ The k ∷ rest) ≡ Some (v, The k ∷ rest)
    → (p ((xs ++ The k ∷ []) ++ rest) >>= up_to k f) ≡ Some (f v, rest)
closed_read p k f xs rest v e =
    ap (λ z. p z >>= up_to k f) (closing xs rest k) ∙ ap (λ z. z >>= up_to k f) e
    ∙ ap (λ z. z >>= λ after. Some (f v, after)) (mark_here k rest)

pub literals_read : {xs : List Sign} {x : List ℕ} → Literals xs x → (rest : List Sign) → (most : ℕ) (inside : Inside)
    → atom most inside (xs ++ rest) ≡ Some (literals_leaf (more_literals x rest))
unfolding atom
literals_read g.a_literal rest most inside = refl
literals_read (g.and_literal {xs} {x} l y) rest most inside = ap (atom most inside) (append_assoc xs (Text y ∷ []) rest)
    ∙ literals_read l (Text y ∷ rest) most inside

module _ (most : ℕ) (some : 0 < most) where
  -- what is nested to a depth
  abbrev at : ℕ → Inside
  at n = nested most n

  sound : (n : ℕ) → SoundInside most (at n)
  sound n = nested_sound most some n

  pub leaf_read : (a : Tree) (rest : List Sign) → t.depth a ≡ 1 → ◌≡◌ {A = Option (Kept × List Sign)} (Some (leaf a, rest))
      (Some (keep most a, rest))
  leaf_read a rest e = ap (λ z. Some (z, rest)) (sym (keep_leaf most a some e))

  pub no_condition : (inside : Inside) (v : Kept) (rest : List Sign) → 9 < follow rest → condition most inside (v, rest) ≡ Some (v, rest)
  unfolding condition
  no_condition inside v rest h =
      ap (λ o. on o (Some (v, rest)) (λ rest.
      disjunctions most inside rest >>= λ test. mark_at m.Else test.1 >>= λ after. inside.tree Expr after >>= giving
      (made_choice most v test.0))) (if_ends rest h)

  abbrev if_distinct : Bool → Parameters × List Sign → Option (Parameters × List Sign)
  if_distinct b c = if b then Some c else None

  abbrev after_names : Inside → Parameters × List Sign → Option (Kept × List Sign)
  after_names inside c = mark_at m.Colon c.1 >>= λ rest. inside.tree Expr rest >>= giving (made_lambda most c.0.0 c.0.1)

  pub lambda_goes : (inside : Inside) (names : List (List ℕ)) (v : KeptAll) (rest : List Sign) → is_distinct names ≡ true
      → lambda_body most inside ((names, v), The m.Colon ∷ rest) ≡ (inside.tree Expr rest >>= giving (made_lambda most names v))
  unfolding lambda_body
  lambda_goes inside names v rest d = ap (λ b. if_distinct b ((names, v), The m.Colon ∷ rest) >>= after_names inside) d

  -- ---- levels that group to the left

  module _ (inside : Inside) (s : SoundInside most inside) (j : Group) (operand : Reader Kept)
      (h : Sound (OfLevel most (operand_level j)) operand) where
    pub grouped_ends : (v : Kept) (rest : List Sign) → limit j < follow rest → more_grouped most j operand v rest ≡ Some (v, rest)
    grouped_ends v rest e = loop_stops (marked (join_of j)) (grouped_turn most operand)
        (grouped_shrinks most some inside s j operand h) v rest (join_ends j rest e)

    pub grouped_goes : (k : Mark) (o : Join) → join_of j k ≡ Some o → (l r : Tree) (tokens rest : List Sign)
        → operand tokens ≡ Some (keep most r, rest)
        → more_grouped most j operand (keep most l) (The k ∷ tokens) ≡ more_grouped most j operand (keep most (joined o l r)) rest
    unfolding grouped_turn
    grouped_goes k o eo l r tokens rest e =
        loop_goes (marked (join_of j)) (grouped_turn most operand) (grouped_shrinks most some inside s j operand h) (keep most l)
        (The k ∷ tokens) (o, tokens) (marked_here (join_of j) k o tokens eo)
        ∙ ap (λ z. (z >>= giving (made_of_two most (joined o) value (keep most l))) >>= λ r. more_grouped most j operand r.0 r.1) e
        ∙ ap (λ z. more_grouped most j operand z rest) (sym (keep_joined most o l r))

  module _ (n : ℕ) where
    pub primary_ends : (v : Kept) (rest : List Sign) → 1 < follow rest → more_primary most (at n) v rest ≡ Some (v, rest)
    primary_ends v rest h = loop_stops (marked suffix_of) (suffix most (at n)) (suffix_shrinks most some (at n) (sound n)) v rest
        (suffix_ends rest h)

    pub primary_goes : (v : Kept) (k : Mark) (x : Suffix) (rest : List Sign) → suffix_of k ≡ Some x
        → more_primary most (at n) v (The k ∷ rest) ≡ (suffix most (at n) v x rest >>= λ r. more_primary most (at n) r.0 r.1)
    primary_goes v k x rest e =
        loop_goes (marked suffix_of) (suffix most (at n)) (suffix_shrinks most some (at n) (sound n)) v (The k ∷ rest) (x, rest)
        (marked_here suffix_of k x rest e)

    pub term_ends : (v : Kept) (rest : List Sign) → 3 < follow rest → more_grouped most terms (factor most (at n)) v rest ≡ Some (v, rest)
    term_ends = grouped_ends (at n) (sound n) terms (factor most (at n)) (factor_sound most some (at n) (sound n))

    pub sum_ends : (v : Kept) (rest : List Sign) → 4 < follow rest → more_grouped most sums (term most (at n)) v rest ≡ Some (v, rest)
    sum_ends = grouped_ends (at n) (sound n) sums (term most (at n)) (term_sound most some (at n) (sound n))

    pub and_ends : (v : Kept) (rest : List Sign) → 7 < follow rest → more_grouped most ands (negated most (at n)) v rest ≡ Some (v, rest)
    and_ends = grouped_ends (at n) (sound n) ands (negated most (at n)) (negated_sound most some (at n) (sound n))

    pub or_ends : (v : Kept) (rest : List Sign) → 8 < follow rest → more_grouped most ors (conjunctions most (at n)) v rest ≡ Some (v, rest)
    or_ends = grouped_ends (at n) (sound n) ors (conjunctions most (at n)) (conjunctions_sound most some (at n) (sound n))

    -- ---- comparisons

    pub chain_ends : (v : Chained) (rest : List Sign) → 5 < follow rest → more_chain most (at n) v rest ≡ Some (v, rest)
    chain_ends v rest h = loop_stops compare_at (chain_turn most (at n)) (chain_shrinks most some (at n) (sound n)) v rest
        (compare_ends rest h)

    pub chain_first : (a : Tree) (tokens rest : List Sign) → sum most (at n) tokens ≡ Some (keep most a, rest)
        → chain most (at n) tokens ≡ more_chain most (at n) ([], keep_all most (more a none)) rest
    unfolding chain
    chain_first a tokens rest e =
        ap (λ z. z >>= λ a. more_chain most (at n) (one_operand a.0) a.1) e
        ∙ ap (λ z. more_chain most (at n) ([], z) rest) (sym (keep_one most a))

    pub chain_goes : {os : List Sign} {o : CompareOp} → Compares os o → (ops : List CompareOp) (ts : Trees) (a : Tree)
        (tokens rest : List Sign) → mark_at m.Not tokens ≡ None
        → sum most (at n) tokens ≡ Some (keep most a, rest)
        → more_chain most (at n) (ops, keep_all most ts) (os ++ tokens) ≡ more_chain most (at n)
        (ops ++ o ∷ [], keep_all most (push ts a)) rest
    unfolding chain_turn
    chain_goes {os} {o} c ops ts a tokens rest free e =
        loop_goes compare_at (chain_turn most (at n)) (chain_shrinks most some (at n) (sound n)) (ops, keep_all most ts) (os ++ tokens)
        (o, tokens)
        (compare_here c tokens free)
        ∙ ap (λ z. (z >>= giving (with_operand (ops, keep_all most ts) o)) >>= λ r. more_chain most (at n) r.0 r.1) e
        ∙ ap (λ z. more_chain most (at n) (ops ++ o ∷ [], z) rest) (sym (keep_push most ts a))

    pub chain_is : (ops : List CompareOp) (ts : Trees) (a : Tree) (tokens rest : List Sign)
        → keep most a ≡ compared most (ops, keep_all most ts) → 5 < follow rest
        → chain most (at n) tokens ≡ more_chain most (at n) (ops, keep_all most ts) rest
        → comparison most (at n) tokens ≡ Some (keep most a, rest)
    unfolding comparison
    chain_is ops ts a tokens rest k h e =
        ap (λ z. z >>= giving (compared most)) (e ∙ chain_ends (ops, keep_all most ts) rest h) ∙ ap (λ z. Some (z, rest)) (sym k)

    -- ---- lists

    pub items_end : (v : KeptAll) (rest : List Sign) → next_at rest ≡ None → more_items most (at n) v rest ≡ Some (v, rest)
    items_end v rest e = loop_stops next_at (items_turn most (at n)) (items_shrinks most some (at n) (sound n)) v rest e

    pub items_first : (a : Tree) (tokens rest : List Sign) → expr most (at n) tokens ≡ Some (keep most a, rest)
        → items most (at n) tokens ≡ more_items most (at n) (keep_all most (more a none)) rest
    unfolding items
    items_first a tokens rest e =
        ap (λ z. z >>= λ a. more_items most (at n) (push_kept no_trees a.0) a.1) e
        ∙ ap (λ z. more_items most (at n) z rest) (sym (keep_one most a))

    pub items_go : (ts : Trees) (a : Tree) (tokens rest : List Sign) → begins tokens ≡ true
        → expr most (at n) tokens ≡ Some (keep most a, rest)
        → more_items most (at n) (keep_all most ts) (The m.Comma ∷ tokens) ≡ more_items most (at n) (keep_all most (push ts a)) rest
    unfolding items_turn
    items_go ts a tokens rest b e =
        loop_goes next_at (items_turn most (at n)) (items_shrinks most some (at n) (sound n)) (keep_all most ts) (The m.Comma ∷ tokens)
        (tt, tokens)
        (next_here tokens b)
        ∙ ap (λ z. (z >>= giving (push_kept (keep_all most ts))) >>= λ r. more_items most (at n) r.0 r.1) e
        ∙ ap (λ z. more_items most (at n) z rest) (sym (keep_push most ts a))

    -- expressions, and no comma after them
    pub exprs_alone : (ts : Trees) (a : Tree) (tokens rest : List Sign) → keep most a ≡ alone most (keep_all most ts) → 10 < follow rest
        → items most (at n) tokens ≡ more_items most (at n) (keep_all most ts) rest → exprs most (at n) tokens ≡ Some (keep most a, rest)
    unfolding exprs
    exprs_alone ts a tokens rest k h e =
        ap (λ z. z >>= end_of_exprs most) (e ∙ items_end (keep_all most ts) rest (next_ends rest h))
        ∙ ap (λ o. on o (Some (alone most (keep_all most ts), rest)) (λ after. Some (made_tuple most (keep_all most ts), after)))
        (comma_ends rest h)
        ∙ ap (λ z. Some (z, rest)) (sym k)

    -- expressions, and a comma after them
    pub exprs_comma : (ts : Trees) (a : Tree) (xs rest : List Sign) → keep most a ≡ made_tuple most (keep_all most ts) → begins rest ≡ false
        → items most (at n) (xs ++ The m.Comma ∷ rest) ≡ more_items most (at n) (keep_all most ts) (The m.Comma ∷ rest)
        → exprs most (at n) ((xs ++ The m.Comma ∷ []) ++ rest) ≡ Some (keep most a, rest)
    unfolding exprs
    exprs_comma ts a xs rest k h e =
        ap (λ z. items most (at n) z >>= end_of_exprs most) (closing xs rest m.Comma)
        ∙ ap (λ z. z >>= end_of_exprs most) (e ∙ items_end (keep_all most ts) (The m.Comma ∷ rest) (next_not rest h))
        ∙ ap (λ z. Some (z, rest)) (sym k)

    -- ---- keys and values

    pub pairs_end : (v : KeptAll) (rest : List Sign) → next_at rest ≡ None → more_pairs most (at n) v rest ≡ Some (v, rest)
    pairs_end v rest e = loop_stops next_at (pair_turn most (at n)) (pairs_shrinks most some (at n) (sound n)) v rest e

    pub pair_read : (v : KeptAll) (k x : Tree) (xs ys rest : List Sign)
        → expr most (at n) (xs ++ The m.Colon ∷ (ys ++ rest)) ≡ Some (keep most k, The m.Colon ∷ (ys ++ rest))
        → expr most (at n) (ys ++ rest) ≡ Some (keep most x, rest)
        → pair_onto most (at n) v ((xs ++ The m.Colon ∷ ys) ++ rest) ≡ Some (push_kept (push_kept v (keep most k)) (keep most x), rest)
    unfolding pair_onto
    pair_read v k x xs ys rest e f =
        ap (pair_onto most (at n) v) (append_assoc xs (The m.Colon ∷ ys) rest)
        ∙ ap (λ z. z >>= λ k. mark_at m.Colon k.1 >>= λ rest. expr most (at n) rest >>= giving (push_kept (push_kept v k.0))) e
        ∙ ap (λ z. z >>= giving (push_kept (push_kept v (keep most k)))) f

    pub pairs_go : (ts : Trees) (k x : Tree) (tokens rest : List Sign) → begins tokens ≡ true
        → pair_onto most (at n) (keep_all most ts) tokens ≡ Some (
          push_kept (push_kept (keep_all most ts) (keep most k))
              (keep most x),
          rest,
        )
        → more_pairs most (at n) (keep_all most ts) (The m.Comma ∷ tokens) ≡ more_pairs most (at n)
        (keep_all most (push (push ts k) x)) rest
    pairs_go ts k x tokens rest b e =
        loop_goes next_at (pair_turn most (at n)) (pairs_shrinks most some (at n) (sound n)) (keep_all most ts) (The m.Comma ∷ tokens)
        (tt, tokens)
        (next_here tokens b)
        ∙ ap (λ z. z >>= λ r. more_pairs most (at n) r.0 r.1) e
        ∙ ap (λ z. more_pairs most (at n) z rest) (sym (keep_push most (push ts k) x
        ∙ ap (λ z. push_kept z (keep most x)) (keep_push most ts k)))

    -- ---- parameters

    pub params_end : (v : Parameters) (rest : List Sign) → next_name_at rest ≡ None → more_params most (at n) v rest ≡ Some (v, rest)
    params_end v rest e = loop_stops next_name_at (param_turn most (at n)) (params_shrinks most some (at n) (sound n)) v rest e

    pub params_go : (v w : Parameters) (x : List ℕ) (tokens rest : List Sign) → param_onto most (at n) v (Name x ∷ tokens) ≡ Some (w, rest)
        → more_params most (at n) v (The m.Comma ∷ Name x ∷ tokens) ≡ more_params most (at n) w rest
    params_go v w x tokens rest e =
        loop_goes next_name_at (param_turn most (at n)) (params_shrinks most some (at n) (sound n)) v (The m.Comma ∷ Name x ∷ tokens)
        (tt, Name x ∷ tokens) refl
        ∙ ap (λ z. z >>= λ r. more_params most (at n) r.0 r.1) e
