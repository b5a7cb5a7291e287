-- What is spelled is read. The key lemma: the reader of a level reads a phrase of it whole, and then goes on as that level does.
use Rattle.std.proofs.Common.{◌≡◌, ℕ, zero, suc, ◌≤◌, ◌<◌, true, false, if◌then◌else◌, List, [], ◌∷◌, ◌++◌, length, Some}
use Rattle.std.proofs.Common.{None, refl, sym, ap, ◌∙◌, arith, length-append, append_assoc}
use Rattle.py_ast.specs.Tree as t
use Rattle.py_ast.specs.Tree.{Tree, Trees, none, more}
use Rattle.py_ast.specs.declared.expr.CompareOp.{CompareOp}
use Rattle.py_grammar.specs.Grammar as g
use Rattle.py_grammar.specs.Grammar.{Level, Primary, Factor, Term, Sum, Not, And, Or, Expr, Spells}
use Rattle.py_grammar.specs.Grammar.{Chain, Items, Row, Pairs, PairRow, SomeParams, Params}
use Rattle.py_grammar.specs.Kept.{place, value, Kept, keep, leaf, made, made_of_two, made_choice, made_list, made_dict, made_call}
use Rattle.py_grammar.specs.Kept.{made_lambda, keep_all, push_kept, no_trees}
use Rattle.py_grammar.specs.Reading.{Reader, ◌>>=◌, on, giving, up_to, if_mark, mark_at, begins, begins_name, sign_op, terms, sums, ands}
use Rattle.py_grammar.specs.Reading.{ors, arithmetic, conjunction, disjunction, attributed, subscripted, called, Inside}
use Rattle.py_grammar.specs.Reading.{literals_leaf, marked_atom, atom, suffix, more_primary, primary, power_of, power, factor, more_grouped}
use Rattle.py_grammar.specs.Reading.{grouped_over, term, sum, more_chain, chain, comparison, negated, conjunctions, disjunctions, condition}
use Rattle.py_grammar.specs.Reading.{no_params, with_default, plain_param, param_onto, more_params, rest_of_params, params}
use Rattle.py_grammar.specs.Reading.{lambda_body, lambda, expr, more_items, items, row, exprs, more_pairs, pairs, pair_row}
use Rattle.py_grammar.specs.Reading.{start, nested}
use Rattle.py_grammar.specs.declared.mark.Mark.TheVariants as m
use Rattle.py_grammar.specs.declared.sign.Sign.{Sign}
use Rattle.py_grammar.specs.declared.sign.Sign.TheVariants.{Name, Mark as The}
use Rattle.py_grammar.proofs.Steps.{bind_bind}
use Rattle.py_grammar.proofs.Marks.{marked_here, sign_here, next_not, next_name_not}
use Rattle.py_grammar.proofs.Kept.{keep_made, keep_two, keep_choice, keep_list, keep_dict, keep_call, keep_lambda, keep_none}
use Rattle.py_grammar.proofs.Kept.{keep_one, keep_push, none_kept, keep_alone, keep_several, keep_tuple, keep_compare}
use Rattle.py_grammar.proofs.Distinct.{distinct_from}
use Rattle.py_grammar.proofs.Phrases.{SoundInside}
use Rattle.py_grammar.proofs.Sound.{factor_sound, term_sound}
use Rattle.py_grammar.proofs.SoundLists.{nested_sound, negated_sound, conjunctions_sound}
use Rattle.py_grammar.proofs.Follow.{follow, below, stars_end, comma_ends, begins_ends, next_ends, next_name_ends, literals_end}
use Rattle.py_grammar.proofs.Follow.{scale_here, add_here, scale_follows, add_follows, compare_follows, no_sign, no_not, no_lambda}
use Rattle.py_grammar.proofs.Follow.{no_close, begins_here, phrase_ranks, phrase_begins, items_rank, pairs_rank, params_begin}
use Rattle.py_grammar.proofs.Goes.{closing, closed_read, grouped_goes, primary_ends, primary_goes, term_ends, sum_ends, and_ends, or_ends}
use Rattle.py_grammar.proofs.Goes.{chain_first, chain_goes, chain_is, items_end, items_first, items_go, exprs_alone, exprs_comma, pairs_end}
use Rattle.py_grammar.proofs.Goes.{pair_read, pairs_go, params_end, params_go, literals_read, leaf_read, no_condition, lambda_goes}

-- how a level goes on after a phrase of which that is kept
abbrev pub goes_on : ℕ → Level → Inside → Kept → Reader Kept
goes_on most Primary inside = more_primary most inside
goes_on most Term inside = more_grouped most terms (factor most inside)
goes_on most Sum inside = more_grouped most sums (term most inside)
goes_on most And inside = more_grouped most ands (negated most inside)
goes_on most Or inside = more_grouped most ors (conjunctions most inside)
goes_on most _ inside = λ v rest. Some (v, rest)

module _ (most : ℕ) (some : 0 < most) where
  -- what is nested to a depth
  abbrev at : ℕ → Inside
  at n = nested most n

  sound : (n : ℕ) → SoundInside most (at n)
  sound n = nested_sound most some n

  mutual
    unfolding marked_atom atom suffix primary power factor grouped_over negated condition param_onto params lambda_body lambda expr row
        pairs pair_row nested

    pub complete : {l : Level} {xs : List Sign} {a : Tree} → Spells l xs a → (n : ℕ) (rest : List Sign) → length xs ≤ n
        → below l < follow rest
        → start most l (at n) (xs ++ rest) ≡ goes_on most l (at n) (keep most a) rest
    complete (g.a_name {x}) n rest small ends = leaf_read most some (t.name x) rest refl
    complete (g.a_number {n = i}) n rest small ends = leaf_read most some (t.number i) rest refl
    complete (g.a_text {xs} {x} l) n rest small ends =
        literals_read l rest most (at n) ∙ ap (λ z. Some (literals_leaf z)) (literals_end x rest ends) ∙ leaf_read most some (t.text x) rest refl
    complete g.a_none n rest small ends = leaf_read most some t.nil rest refl
    complete g.a_true n rest small ends = leaf_read most some (t.truth true) rest refl
    complete g.a_false n rest small ends = leaf_read most some (t.truth false) rest refl
    complete g.nothing_in_parens n rest small ends = leaf_read most some (t.tuple none) rest refl
    complete (g.in_parens {xs} s) zero rest small ends = absurd (omega arith)
    complete (g.in_parens {xs} s) (suc n) rest small ends =
        ap (λ z. atom most (at (suc n)) (The m.Open ∷ z)) (closing xs rest m.Close)
        ∙ ap (λ o. on o (exprs most (at n) (xs ++ The m.Close ∷ rest) >>= up_to m.Close (λ a. a))
        (λ after. Some (leaf (t.tuple none), after)))
        (no_close (xs ++ The m.Close ∷ rest) (phrase_ranks s (The m.Close ∷ rest)))
        ∙ ap (λ z. z >>= up_to m.Close (λ a. a)) (complete s n (The m.Close ∷ rest) (omega (arith, length-append xs (The m.Close ∷ [])))
        (omega arith))
    complete (g.a_list {xs} s) zero rest small ends = absurd (omega arith)
    complete (g.a_list {xs} {ts} s) (suc n) rest small ends =
        closed_read (row most (at n)) m.CloseSquare (made_list most) xs rest (keep_all most ts)
        (row_complete s n (The m.CloseSquare ∷ rest) (omega (arith, length-append xs (The m.CloseSquare ∷ []))) (omega arith))
        ∙ ap (λ z. Some (z, rest)) (sym (keep_list most ts))
    complete (g.a_dict {xs} s) zero rest small ends = absurd (omega arith)
    complete (g.a_dict {xs} {ts} s) (suc n) rest small ends =
        closed_read (pair_row most (at n)) m.CloseCurly (made_dict most) xs rest (keep_all most ts)
        (pair_row_complete s n (The m.CloseCurly ∷ rest) (omega (arith, length-append xs (The m.CloseCurly ∷ []))) (omega arith))
        ∙ ap (λ z. Some (z, rest)) (sym (keep_dict most ts))
    complete (g.an_atom s) n rest small ends = ap (λ z. z >>= λ a. more_primary most (at n) a.0 a.1) (complete s n rest small ends)
    complete (g.attribute {xs} {a} {x} s) n rest small ends =
        ap (primary most (at n)) (append_assoc xs (The m.Dot ∷ Name x ∷ []) rest)
        ∙ complete s n (The m.Dot ∷ Name x ∷ rest) (omega (arith, length-append xs (The m.Dot ∷ Name x ∷ []))) (omega arith)
        ∙ primary_goes most some n (keep most a) m.Dot attributed (Name x ∷ rest) refl
        ∙ ap (λ z. more_primary most (at n) z rest) (sym (keep_made most (λ b. t.attr b x) place a refl refl))
    complete (g.subscript {xs} {ys} s r) zero rest small ends = absurd
        (omega (arith, length-append xs (The m.OpenSquare ∷ ys ++ The m.CloseSquare ∷ [])))
    complete (g.subscript {xs} {ys} {a} {i} s r) (suc n) rest small ends =
        let size = length-append xs (The m.OpenSquare ∷ ys ++ The m.CloseSquare ∷ []) in
        let inner = length-append ys (The m.CloseSquare ∷ []) in
        ap (primary most (at (suc n))) (append_assoc xs (The m.OpenSquare ∷ ys ++ The m.CloseSquare ∷ []) rest)
        ∙ complete s (suc n) (The m.OpenSquare ∷ (ys ++ The m.CloseSquare ∷ []) ++ rest) (omega arith) (omega arith)
        ∙ primary_goes most some (suc n) (keep most a) m.OpenSquare subscripted ((ys ++ The m.CloseSquare ∷ []) ++ rest) refl
        ∙ ap (λ z. z >>= λ r. more_primary most (at (suc n)) r.0 r.1)
        (closed_read (exprs most (at n)) m.CloseSquare (made_of_two most t.item place (keep most a)) ys rest (keep most i)
        (complete r n (The m.CloseSquare ∷ rest) (omega arith) (omega arith)))
        ∙ ap (λ z. more_primary most (at (suc n)) z rest) (sym (keep_two most t.item place a i refl refl))
    complete (g.call {xs} {ys} s r) zero rest small ends = absurd (omega (arith, length-append xs (The m.Open ∷ ys ++ The m.Close ∷ [])))
    complete (g.call {xs} {ys} {f} {ts} s r) (suc n) rest small ends =
        let size = length-append xs (The m.Open ∷ ys ++ The m.Close ∷ []) in
        let inner = length-append ys (The m.Close ∷ []) in
        ap (primary most (at (suc n))) (append_assoc xs (The m.Open ∷ ys ++ The m.Close ∷ []) rest)
        ∙ complete s (suc n) (The m.Open ∷ (ys ++ The m.Close ∷ []) ++ rest) (omega arith) (omega arith)
        ∙ primary_goes most some (suc n) (keep most f) m.Open called ((ys ++ The m.Close ∷ []) ++ rest) refl
        ∙ ap (λ z. z >>= λ r. more_primary most (at (suc n)) r.0 r.1)
        (closed_read (row most (at n)) m.Close (made_call most (keep most f)) ys rest (keep_all most ts)
        (row_complete r n (The m.Close ∷ rest) (omega arith) (omega arith)))
        ∙ ap (λ z. more_primary most (at (suc n)) z rest) (sym (keep_call most f ts))
    complete (g.a_primary {xs} {a} s) n rest small ends =
        ap (λ z. z >>= λ a. on (mark_at m.Stars a.1) (Some a) (λ rest. (at n).tree Factor rest >>= giving
        (made_of_two most power_of value a.0)))
        (complete s n rest small (omega arith) ∙ primary_ends most some n (keep most a) rest (omega arith))
        ∙ ap (λ o. on o (Some (keep most a, rest)) (λ rest. (at n).tree Factor rest >>= giving
        (made_of_two most power_of value (keep most a)))) (stars_end rest ends)
    complete (g.power {xs} {ys} s r) zero rest small ends = absurd (omega (arith, length-append xs (The m.Stars ∷ ys)))
    complete (g.power {xs} {ys} {a} {e} s r) (suc n) rest small ends =
        let size = length-append xs (The m.Stars ∷ ys) in
        ap (power most (at (suc n))) (append_assoc xs (The m.Stars ∷ ys) rest)
        ∙ ap (λ z. z >>= λ a. on (mark_at m.Stars a.1) (Some a) (λ rest. factor most (at n) rest >>= giving
        (made_of_two most power_of value a.0)))
        (complete s (suc n) (The m.Stars ∷ ys ++ rest) (omega arith) (omega arith)
        ∙ primary_ends most some (suc n) (keep most a) (The m.Stars ∷ ys ++ rest) (omega arith))
        ∙ ap (λ z. z >>= giving (made_of_two most power_of value (keep most a))) (complete r n rest (omega arith) ends)
        ∙ ap (λ z. Some (z, rest)) (sym (keep_two most power_of value a e refl refl))
    complete (g.a_power {xs} s) n rest small ends =
        ap (λ o. on o (power most (at n) (xs ++ rest)) (λ o. (at n).tree Factor o.1 >>= giving (made most (t.sign o.0) value)))
        (no_sign (xs ++ rest) (phrase_ranks s rest))
        ∙ complete s n rest small ends
    complete (g.signed o s) zero rest small ends = absurd (omega arith)
    complete (g.signed {k} {o} {xs} {a} h s) (suc n) rest small ends =
        ap (λ z. on z (power most (at (suc n)) (The k ∷ xs ++ rest)) (λ o. factor most (at n) o.1 >>= giving
        (made most (t.sign o.0) value)))
        (marked_here sign_op k o (xs ++ rest) (sign_here k o h))
        ∙ ap (λ z. z >>= giving (made most (t.sign o) value)) (complete s n rest (omega arith) ends)
        ∙ ap (λ z. Some (z, rest)) (sym (keep_made most (t.sign o) value a refl refl))
    complete (g.a_factor s) n rest small ends = ap (λ z. z >>= λ a. more_grouped most terms (factor most (at n)) a.0 a.1)
        (complete s n rest small ends)
    complete (g.scale {k} {o} {xs} {ys} {l} {r} x h y) n rest small ends =
        let size = length-append xs (The k ∷ ys) in
        let kind = scale_follows h in
        ap (term most (at n)) (append_assoc xs (The k ∷ ys) rest)
        ∙ complete x n (The k ∷ ys ++ rest) (omega arith) (omega arith)
        ∙ grouped_goes most some (at n) (sound n) terms (factor most (at n)) (factor_sound most some (at n) (sound n))
        k (arithmetic o) (scale_here h) l r (ys ++ rest) rest (complete y n rest (omega arith) ends)
    complete (g.a_term {a = a} s) n rest small ends =
        ap (λ z. z >>= λ a. more_grouped most sums (term most (at n)) a.0 a.1)
        (complete s n rest small (omega arith) ∙ term_ends most some n (keep most a) rest ends)
    complete (g.add {k} {o} {xs} {ys} {l} {r} x h y) n rest small ends =
        let size = length-append xs (The k ∷ ys) in
        let kind = add_follows h in
        ap (sum most (at n)) (append_assoc xs (The k ∷ ys) rest)
        ∙ complete x n (The k ∷ ys ++ rest) (omega arith) (omega arith)
        ∙ grouped_goes most some (at n) (sound n) sums (term most (at n)) (term_sound most some (at n) (sound n))
        k (arithmetic o) (add_here h) l r (ys ++ rest) rest (complete y n rest (omega arith) (omega arith)
        ∙ term_ends most some n (keep most r) rest ends)
    complete (g.a_sum {xs} {a} s) n rest small ends =
        chain_is most some n [] (more a none) a (xs ++ rest) rest (keep_alone most a) ends
        (chain_first most some n a (xs ++ rest) rest (complete s n rest small (omega arith)
        ∙ sum_ends most some n (keep most a) rest (omega arith)))
    complete (g.compare {xs} {o} {os} {ts} c) n rest small ends =
        chain_is most some n (o ∷ os) ts (t.compare (o ∷ os) ts) (xs ++ rest) rest (keep_compare most o os ts) ends
        (chain_complete c n rest small (omega arith))
    complete (g.a_comparison {xs} s) n rest small ends =
        ap (λ o. on o (comparison most (at n) (xs ++ rest)) (λ rest. (at n).tree Not rest >>= giving (made most t.not value)))
        (no_not (xs ++ rest) (phrase_ranks s rest))
        ∙ complete s n rest small ends
    complete (g.negation s) zero rest small ends = absurd (omega arith)
    complete (g.negation {xs} {a} s) (suc n) rest small ends =
        ap (λ z. z >>= giving (made most t.not value)) (complete s n rest (omega arith) ends)
        ∙ ap (λ z. Some (z, rest)) (sym (keep_made most t.not value a refl refl))
    complete (g.a_not s) n rest small ends = ap (λ z. z >>= λ a. more_grouped most ands (negated most (at n)) a.0 a.1)
        (complete s n rest small ends)
    complete (g.both {xs} {ys} {l} {r} x y) n rest small ends =
        let size = length-append xs (The m.And ∷ ys) in
        ap (conjunctions most (at n)) (append_assoc xs (The m.And ∷ ys) rest)
        ∙ complete x n (The m.And ∷ ys ++ rest) (omega arith) (omega arith)
        ∙ grouped_goes most some (at n) (sound n) ands (negated most (at n)) (negated_sound most some (at n) (sound n))
        m.And conjunction refl l r (ys ++ rest) rest (complete y n rest (omega arith) ends)
    complete (g.an_and {a = a} s) n rest small ends =
        ap (λ z. z >>= λ a. more_grouped most ors (conjunctions most (at n)) a.0 a.1)
        (complete s n rest small (omega arith) ∙ and_ends most some n (keep most a) rest ends)
    complete (g.either {xs} {ys} {l} {r} x y) n rest small ends =
        let size = length-append xs (The m.Or ∷ ys) in
        ap (disjunctions most (at n)) (append_assoc xs (The m.Or ∷ ys) rest)
        ∙ complete x n (The m.Or ∷ ys ++ rest) (omega arith) (omega arith)
        ∙ grouped_goes most some (at n) (sound n) ors (conjunctions most (at n)) (conjunctions_sound most some (at n) (sound n))
        m.Or disjunction refl l r (ys ++ rest) rest (complete y n rest (omega arith) (omega arith)
        ∙ and_ends most some n (keep most r) rest ends)
    complete (g.an_or {xs} {a} s) n rest small ends =
        ap (λ o. on o (disjunctions most (at n) (xs ++ rest) >>= condition most (at n)) (lambda most (at n)))
        (no_lambda (xs ++ rest) (phrase_ranks s rest))
        ∙ ap (λ z. z >>= condition most (at n)) (complete s n rest small (omega arith)
        ∙ or_ends most some n (keep most a) rest (omega arith))
        ∙ no_condition most some (at n) (keep most a) rest ends
    complete (g.choice {xs} {ys} {zs} s u r) zero rest small ends = absurd
        (omega (arith, length-append xs (The m.If ∷ ys ++ (The m.Else ∷ zs))))
    complete (g.choice {xs} {ys} {zs} {a} {test} {other} s u r) (suc n) rest small ends =
        let size = length-append xs (The m.If ∷ ys ++ (The m.Else ∷ zs)) in
        let inner = length-append ys (The m.Else ∷ zs) in
        let tokens = xs ++ The m.If ∷ ((ys ++ (The m.Else ∷ zs)) ++ rest) in
        ap (expr most (at (suc n))) (append_assoc xs (The m.If ∷ ys ++ (The m.Else ∷ zs)) rest)
        ∙ ap (λ o. on o (disjunctions most (at (suc n)) tokens >>= condition most (at (suc n))) (lambda most (at (suc n))))
        (no_lambda tokens (phrase_ranks s _))
        ∙ ap (λ z. z >>= condition most (at (suc n)))
        (complete s (suc n) (The m.If ∷ ((ys ++ (The m.Else ∷ zs)) ++ rest)) (omega arith) (omega arith)
        ∙ or_ends most some (suc n) (keep most a) (The m.If ∷ ((ys ++ (The m.Else ∷ zs)) ++ rest)) (omega arith))
        ∙ ap (λ z. disjunctions most (at (suc n)) z >>= λ test. mark_at m.Else test.1 >>= λ after. expr most (at n) after >>= giving
        (made_choice most (keep most a) test.0))
        (append_assoc ys (The m.Else ∷ zs) rest)
        ∙ ap (λ z. z >>= λ test. mark_at m.Else test.1 >>= λ after. expr most (at n) after >>= giving
        (made_choice most (keep most a) test.0))
        (complete u (suc n) (The m.Else ∷ zs ++ rest) (omega arith) (omega arith)
        ∙ or_ends most some (suc n) (keep most test) (The m.Else ∷ zs ++ rest) (omega arith))
        ∙ ap (λ z. z >>= giving (made_choice most (keep most a) (keep most test))) (complete r n rest (omega arith) ends)
        ∙ ap (λ z. Some (z, rest)) (sym (keep_choice most a test other))
    complete (g.lambda {xs} {ys} p d s) zero rest small ends = absurd (omega arith)
    complete (g.lambda {xs} {ys} {names} {defaults} {a} p d s) (suc n) rest small ends =
        let size = length-append xs (The m.Colon ∷ ys) in
        ap (λ z. params most (at (suc n)) z >>= lambda_body most (at (suc n))) (append_assoc xs (The m.Colon ∷ ys) rest)
        ∙ ap (λ z. z >>= lambda_body most (at (suc n))) (params_complete p (suc n) (The m.Colon ∷ ys ++ rest) (omega arith)
        (omega arith) refl refl)
        ∙ lambda_goes most some (at (suc n)) names (keep_all most defaults) (ys ++ rest) (distinct_from names d)
        ∙ ap (λ z. z >>= giving (made_lambda most names (keep_all most defaults))) (complete s n rest (omega arith) ends)
        ∙ ap (λ z. Some (z, rest)) (sym (keep_lambda most names defaults a))
    complete (g.an_expr {xs} {a} s) n rest small ends =
        exprs_alone most some n (more a none) a (xs ++ rest) rest (keep_alone most a) (omega arith)
        (items_first most some n a (xs ++ rest) rest (complete s n rest small (omega arith)))
    complete (g.several {xs} {a} {b} {ts} s) n rest small ends =
        exprs_alone most some n (more a (more b ts)) (t.tuple (more a (more b ts))) (xs ++ rest) rest (keep_several most a b ts)
        (omega arith) (items_complete s n rest small (omega arith))
    complete (g.some_and_comma {xs} {ts} s) n rest small ends =
        exprs_comma most some n ts (t.tuple ts) xs rest (keep_tuple most ts) (begins_ends rest ends)
        (items_complete s n (The m.Comma ∷ rest) (omega (arith, length-append xs (The m.Comma ∷ []))) (omega arith))

    pub chain_complete : {xs : List Sign} {ops : List CompareOp} {ts : Trees} → Chain xs ops ts → (n : ℕ) (rest : List Sign)
        → length xs ≤ n → 4 < follow rest
        → chain most (at n) (xs ++ rest) ≡ more_chain most (at n) (ops, keep_all most ts) rest
    chain_complete (g.one_operand {xs} {a} s) n rest small ends =
        chain_first most some n a (xs ++ rest) rest (complete s n rest small (omega arith) ∙ sum_ends most some n (keep most a) rest ends)
    chain_complete (g.and_operand {xs} {os} {ys} {ops} {o} {ts} {a} c h s) n rest small ends =
        let size = length-append xs (os ++ ys) in
        let inner = length-append os ys in
        let kind = compare_follows h (ys ++ rest) in
        ap (chain most (at n)) (append_assoc xs (os ++ ys) rest ∙ ap (λ z. xs ++ z) (append_assoc os ys rest))
        ∙ chain_complete c n (os ++ (ys ++ rest)) (omega arith) (omega arith)
        ∙ chain_goes most some n h ops ts a (ys ++ rest) rest (no_not (ys ++ rest) (phrase_ranks s rest))
        (complete s n rest (omega arith) (omega arith) ∙ sum_ends most some n (keep most a) rest ends)

    pub items_complete : {xs : List Sign} {ts : Trees} → Items xs ts → (n : ℕ) (rest : List Sign) → length xs ≤ n → 9 < follow rest
        → items most (at n) (xs ++ rest) ≡ more_items most (at n) (keep_all most ts) rest
    items_complete (g.one_item {xs} {a} s) n rest small ends = items_first most some n a (xs ++ rest) rest (complete s n rest small ends)
    items_complete (g.and_item {xs} {ys} {ts} {a} x y) n rest small ends =
        let size = length-append xs (The m.Comma ∷ ys) in
        ap (items most (at n)) (append_assoc xs (The m.Comma ∷ ys) rest)
        ∙ items_complete x n (The m.Comma ∷ ys ++ rest) (omega arith) (omega arith)
        ∙ items_go most some n ts a (ys ++ rest) rest (phrase_begins y rest) (complete y n rest (omega arith) ends)

    pub row_complete : {xs : List Sign} {ts : Trees} → Row xs ts → (n : ℕ) (rest : List Sign) → length xs ≤ n → 11 < follow rest
        → row most (at n) (xs ++ rest) ≡ Some (keep_all most ts, rest)
    row_complete g.no_items n rest small ends =
        ap (λ b. if b then (items most (at n) rest >>= if_mark m.Comma) else Some (no_trees, rest)) (begins_ends rest ends)
        ∙ ap (λ z. Some (z, rest)) (sym (keep_none most))
    row_complete (g.some_items {xs} {ts} s) n rest small ends =
        ap (λ b. if b then (items most (at n) (xs ++ rest) >>= if_mark m.Comma) else Some (no_trees, xs ++ rest))
        (begins_here (xs ++ rest) (items_rank s rest))
        ∙ ap (λ z. z >>= if_mark m.Comma) (items_complete s n rest small (omega arith)
        ∙ items_end most some n (keep_all most ts) rest (next_ends rest (omega arith)))
        ∙ ap (λ o. on o (Some (keep_all most ts, rest)) (λ after. Some (keep_all most ts, after))) (comma_ends rest (omega arith))
    row_complete (g.items_and_comma {xs} {ts} s) n rest small ends =
        let size = length-append xs (The m.Comma ∷ []) in
        ap (row most (at n)) (closing xs rest m.Comma)
        ∙ ap (λ b. if b then (items most (at n) (xs ++ The m.Comma ∷ rest) >>= if_mark m.Comma) else Some
        (no_trees, xs ++ The m.Comma ∷ rest))
        (begins_here (xs ++ The m.Comma ∷ rest) (items_rank s (The m.Comma ∷ rest)))
        ∙ ap (λ z. z >>= if_mark m.Comma)
        (items_complete s n (The m.Comma ∷ rest) (omega arith) (omega arith)
        ∙ items_end most some n (keep_all most ts) (The m.Comma ∷ rest) (next_not rest (begins_ends rest ends)))

    pub pairs_complete : {xs : List Sign} {ts : Trees} → Pairs xs ts → (n : ℕ) (rest : List Sign) → length xs ≤ n → 9 < follow rest
        → pairs most (at n) (xs ++ rest) ≡ more_pairs most (at n) (keep_all most ts) rest
    pairs_complete (g.one_pair {xs} {ys} {k} {v} x y) n rest small ends =
        let size = length-append xs (The m.Colon ∷ ys) in
        ap (λ z. z >>= λ s. more_pairs most (at n) s.0 s.1)
        (pair_read most some n no_trees k v xs ys rest (complete x n (The m.Colon ∷ (ys ++ rest)) (omega arith) (omega arith))
        (complete y n rest (omega arith) ends))
        ∙ ap (λ z. more_pairs most (at n) z rest) (sym (keep_push most (more k none) v
        ∙ ap (λ z. push_kept z (keep most v)) (keep_one most k)))
    pairs_complete (g.and_pair {xs} {ys} {zs} {ts} {k} {v} p x y) n rest small ends =
        let size = length-append xs (The m.Comma ∷ ys ++ (The m.Colon ∷ zs)) in
        let inner = length-append ys (The m.Colon ∷ zs) in
        ap (pairs most (at n)) (append_assoc xs (The m.Comma ∷ ys ++ (The m.Colon ∷ zs)) rest)
        ∙ pairs_complete p n (The m.Comma ∷ ((ys ++ (The m.Colon ∷ zs)) ++ rest)) (omega arith) (omega arith)
        ∙ pairs_go most some n ts k v ((ys ++ (The m.Colon ∷ zs)) ++ rest) rest
        (ap begins (append_assoc ys (The m.Colon ∷ zs) rest) ∙ phrase_begins x ((The m.Colon ∷ zs) ++ rest))
        (pair_read most some n (keep_all most ts) k v ys zs rest (complete x n (The m.Colon ∷ (zs ++ rest)) (omega arith) (omega arith))
        (complete y n rest (omega arith) ends))

    pub pair_row_complete : {xs : List Sign} {ts : Trees} → PairRow xs ts → (n : ℕ) (rest : List Sign) → length xs ≤ n → 11 < follow rest
        → pair_row most (at n) (xs ++ rest) ≡ Some (keep_all most ts, rest)
    pair_row_complete g.no_pairs n rest small ends =
        ap (λ b. if b then (pairs most (at n) rest >>= if_mark m.Comma) else Some (no_trees, rest)) (begins_ends rest ends)
        ∙ ap (λ z. Some (z, rest)) (sym (keep_none most))
    pair_row_complete (g.some_pairs {xs} {ts} s) n rest small ends =
        ap (λ b. if b then (pairs most (at n) (xs ++ rest) >>= if_mark m.Comma) else Some (no_trees, xs ++ rest))
        (begins_here (xs ++ rest) (pairs_rank s rest))
        ∙ ap (λ z. z >>= if_mark m.Comma) (pairs_complete s n rest small (omega arith)
        ∙ pairs_end most some n (keep_all most ts) rest (next_ends rest (omega arith)))
        ∙ ap (λ o. on o (Some (keep_all most ts, rest)) (λ after. Some (keep_all most ts, after))) (comma_ends rest (omega arith))
    pair_row_complete (g.pairs_and_comma {xs} {ts} s) n rest small ends =
        let size = length-append xs (The m.Comma ∷ []) in
        ap (pair_row most (at n)) (closing xs rest m.Comma)
        ∙ ap (λ b. if b then (pairs most (at n) (xs ++ The m.Comma ∷ rest) >>= if_mark m.Comma) else Some
        (no_trees, xs ++ The m.Comma ∷ rest))
        (begins_here (xs ++ The m.Comma ∷ rest) (pairs_rank s (The m.Comma ∷ rest)))
        ∙ ap (λ z. z >>= if_mark m.Comma)
        (pairs_complete s n (The m.Comma ∷ rest) (omega arith) (omega arith)
        ∙ pairs_end most some n (keep_all most ts) (The m.Comma ∷ rest) (next_not rest (begins_ends rest ends)))

    pub some_params_complete : {xs : List Sign} {names : List (List ℕ)} {ts : Trees} → SomeParams xs names ts → (n : ℕ) (rest : List Sign)
        → length xs ≤ n → 9 < follow rest
        → mark_at m.Equals rest ≡ None
        → (param_onto most (at n) no_params (xs ++ rest) >>= λ a. more_params most (at n) a.0 a.1) ≡ more_params most (at n)
        (names, keep_all most ts) rest
    some_params_complete (g.one_plain {x}) n rest small ends free =
        ap (λ o. on o (plain_param no_params x rest) (λ rest. (at n).tree Expr rest >>= giving
        (with_default no_params x)) >>= λ a. more_params most (at n) a.0 a.1) free
        ∙ ap (λ z. more_params most (at n) (x ∷ [], z) rest) (sym (keep_none most))
    some_params_complete (g.one_default {xs} {x} {a} s) zero rest small ends free = absurd (omega arith)
    some_params_complete (g.one_default {xs} {x} {a} s) (suc n) rest small ends free =
        ap (λ z. (z >>= giving (with_default no_params x)) >>= λ a. more_params most (at (suc n)) a.0 a.1)
        (complete s n rest (omega arith) ends)
        ∙ ap (λ z. more_params most (at (suc n)) (x ∷ [], z) rest) (sym (keep_one most a))
    some_params_complete (g.and_plain {xs} {names} p x) n rest small ends free =
        let size = length-append xs (The m.Comma ∷ Name x ∷ []) in
        ap (λ z. param_onto most (at n) no_params z >>= λ a. more_params most (at n) a.0 a.1)
        (append_assoc xs (The m.Comma ∷ Name x ∷ []) rest)
        ∙ some_params_complete p n (The m.Comma ∷ Name x ∷ rest) (omega arith) (omega arith) refl
        ∙ params_go most some n (names, keep_all most none) (names ++ x ∷ [], keep_all most none) x rest rest
        (ap (λ o. on o (plain_param (names, keep_all most none) x rest)
        (λ rest. (at n).tree Expr rest >>= giving (with_default (names, keep_all most none) x))) free
        ∙ ap (λ b. if b then Some ((names ++ x ∷ [], keep_all most none), rest) else None) (none_kept most))
    some_params_complete (g.and_default {xs} {ys} {names} {ts} {a} p x s) zero rest small ends free =
        absurd (omega (arith, length-append xs (The m.Comma ∷ Name x ∷ The m.Equals ∷ ys)))
    some_params_complete (g.and_default {xs} {ys} {names} {ts} {a} p x s) (suc n) rest small ends free =
        let size = length-append xs (The m.Comma ∷ Name x ∷ The m.Equals ∷ ys) in
        ap (λ z. param_onto most (at (suc n)) no_params z >>= λ a. more_params most (at (suc n)) a.0 a.1)
        (append_assoc xs (The m.Comma ∷ Name x ∷ The m.Equals ∷ ys) rest)
        ∙ some_params_complete p (suc n) (The m.Comma ∷ Name x ∷ The m.Equals ∷ ys ++ rest) (omega arith) (omega arith) refl
        ∙ params_go most some (suc n) (names, keep_all most ts) (with_default (names, keep_all most ts) x (keep most a)) x
        (The m.Equals ∷ ys ++ rest) rest
        (ap (λ z. z >>= giving (with_default (names, keep_all most ts) x)) (complete s n rest (omega arith) ends))
        ∙ ap (λ z. more_params most (at (suc n)) (names ++ x ∷ [], z) rest) (sym (keep_push most ts a))

    pub params_complete : {xs : List Sign} {names : List (List ℕ)} {ts : Trees} → Params xs names ts → (n : ℕ) (rest : List Sign)
        → length xs ≤ n → 10 < follow rest
        → mark_at m.Equals rest ≡ None → begins_name rest ≡ false → params most (at n) (xs ++ rest) ≡ Some ((names, keep_all most ts), rest)
    params_complete g.no_params n rest small ends free nameless =
        ap (λ b. if b then (param_onto most (at n) no_params rest >>= rest_of_params most (at n)) else Some (no_params, rest)) nameless
        ∙ ap (λ z. Some (([], z), rest)) (sym (keep_none most))
    params_complete (g.some_params {xs} {names} {ts} p) n rest small ends free nameless =
        ap (λ b. if b then (param_onto most (at n) no_params (xs ++ rest) >>= rest_of_params most (at n)) else Some
        (no_params, xs ++ rest)) (params_begin p rest)
        ∙ sym (bind_bind (param_onto most (at n) no_params (xs ++ rest)) (λ a. more_params most (at n) a.0 a.1) (if_mark m.Comma))
        ∙ ap (λ z. z >>= if_mark m.Comma) (some_params_complete p n rest small (omega arith) free
        ∙ params_end most some n (names, keep_all most ts) rest (next_name_ends rest ends))
        ∙ ap (λ o. on o (Some ((names, keep_all most ts), rest)) (λ after. Some ((names, keep_all most ts), after))) (comma_ends rest ends)
    params_complete (g.params_and_comma {xs} {names} {ts} p) n rest small ends free nameless =
        let size = length-append xs (The m.Comma ∷ []) in
        ap (params most (at n)) (closing xs rest m.Comma)
        ∙ ap (λ b. if b then (param_onto most (at n) no_params (xs ++ The m.Comma ∷ rest) >>= rest_of_params most (at n)) else Some
        (no_params, xs ++ The m.Comma ∷ rest))
        (params_begin p (The m.Comma ∷ rest))
        ∙ sym (bind_bind (param_onto most (at n) no_params (xs ++ The m.Comma ∷ rest)) (λ a. more_params most (at n) a.0 a.1)
        (if_mark m.Comma))
        ∙ ap (λ z. z >>= if_mark m.Comma)
        (some_params_complete p n (The m.Comma ∷ rest) (omega arith) (omega arith) refl
        ∙ params_end most some n (names, keep_all most ts) (The m.Comma ∷ rest) (next_name_not rest nameless))
