-- The steps of the loop over what waits: a phrase of a rung with what follows it.
use Rattle.std.proofs.Common.{◌≡◌, ℕ, ◌+◌, ◌≤◌, ◌<◌, List, [], ◌∷◌, ◌++◌, length, Option, Some, None, refl, sym, ap, ◌∙◌, arith, length-append}
use Rattle.py_ast.specs.Tree as t
use Rattle.py_ast.specs.declared.expr.BinaryOp.{BinaryOp}
use Rattle.py_ast.specs.declared.expr.CompareOp.{CompareOp}
use Rattle.py_grammar.specs.Grammar as level
use Rattle.py_grammar.specs.Kept as k
use Rattle.py_grammar.specs.Kept.{Kept, made_of_two, made_choice, value, compared}
use Rattle.py_grammar.specs.Reading.{Reader, ◌>>=◌, on, giving, mark_at, marked, power_of, factor, grouped_turn, term, sum, chain_turn, compare_at}
use Rattle.py_grammar.specs.Reading.{Group, terms, sums, ands, ors, Join, join_of, joined, arithmetic, conjunction, disjunction}
use Rattle.py_grammar.specs.Reading.{more_grouped, more_chain, one_operand, with_operand, Chained, negated, conjunctions, disjunctions, condition}
use Rattle.py_grammar.specs.declared.mark.Mark.TheVariants as m
use Rattle.py_grammar.specs.declared.sign.Sign.{Sign}
use Rattle.py_grammar.proofs.Steps.{bind_same, bind_bind, Shrinks, loop_stops, loop_goes}
use Rattle.py_grammar.proofs.Sound.{grouped_shrinks, chain_shrinks, factor_sound, term_sound}
use Rattle.py_grammar.proofs.SoundLists.{negated_sound, conjunctions_sound}
use Rattle.py_line.specs.declared.frame.Rung.{Rung}
use Rattle.py_line.specs.declared.frame.Rung.TheVariants as r
use Rattle.py_line.specs.declared.frame.Frame.{Frame}
use Rattle.py_line.specs.declared.frame.Frame.TheVariants as f
use Rattle.py_line.specs.declared.kept.Kept.{Kept as Held}
use Rattle.py_line.specs.declared.kept.Chained.{Chained as HeldChain}
use Rattle.py_line.specs.Views.{kept_of, chained_of}
use Rattle.py_line.specs.Full.{full}
use Rattle.py_line.specs.Waiting.{Read, rank, next, phrase, rise, waits, gives, turn, wanted, after, before}
use Rattle.py_line.proofs.Insides.{fixed, full_sound}
use Rattle.py_line.proofs.Rungs.{on_at_none, goes_up, waits_more}

pub on_at_some : {A B : Type 0} (o : Option A) (b : B) (f : A → B) (x : A) → o ≡ Some x → on o b f ≡ f x
on_at_some o b f x e = ap (λ o. on o b f) e

module _ (w : Rung) (fs : List Frame) (l : Rung) (a : Read) (small : rank l < rank (wanted w fs)) where
  -- one more waits, and what it makes goes on at the same rung
  pub loops_on : (x : Frame) (tokens : List Sign) → gives x ≡ l → rise (next l) a ≡ (phrase (waits x) tokens >>= turn x >>= rise (next l))
      → after w fs l a ≡ before w (fs ++ x ∷ []) tokens
  loops_on x tokens g e =
      goes_up w fs l a small ∙ ap (λ z. z >>= after w fs (next l)) e
      ∙ bind_bind (phrase (waits x) tokens >>= turn x) (rise (next l)) (after w fs (next l))
      ∙ bind_same (phrase (waits x) tokens >>= turn x) (λ b. rise (next l) b >>= after w fs (next l)) (after w fs (gives x))
      (λ b _. sym (goes_up w fs l b small) ∙ ap (λ l. after w fs l b) (sym g))
      ∙ sym (waits_more w fs x tokens)

  -- one more waits, and what it makes is of the next rung
  pub ends_on : (x : Frame) (tokens : List Sign) → gives x ≡ next l → rise (next l) a ≡ (phrase (waits x) tokens >>= turn x)
      → after w fs l a ≡ before w (fs ++ x ∷ []) tokens
  ends_on x tokens g e =
      goes_up w fs l a small ∙ ap (λ z. z >>= after w fs (next l)) e
      ∙ ap (λ l. phrase (waits x) tokens >>= turn x >>= after w fs l) (sym g)
      ∙ sym (waits_more w fs x tokens)

  -- what follows makes another phrase at the same rung
  pub goes_round : (b : Read) → rise (next l) a ≡ rise (next l) b → after w fs l a ≡ after w fs l b
  goes_round b e = goes_up w fs l a small ∙ ap (λ z. z >>= after w fs (next l)) e ∙ sym (goes_up w fs l b small)

  -- nothing of the next rung follows
  pub stays : rise (next l) a ≡ Some a → after w fs l a ≡ after w fs (next l) a
  stays e = goes_up w fs l a small ∙ ap (λ z. z >>= after w fs (next l)) e

  -- no phrase of the next rung is made
  pub ends_nowhere : rise (next l) a ≡ None → after w fs l a ≡ None
  ends_nowhere e = goes_up w fs l a small ∙ ap (λ z. z >>= after w fs (next l)) e

-- ---- operators that group to the left

grouped_goes : (g : Group) (operand : Reader Kept) → Shrinks (marked (join_of g)) (grouped_turn 60 operand) → (a : Kept) (tokens : List Sign) (j : Join) (rest : List Sign)
    → marked (join_of g) tokens ≡ Some (j, rest)
    → more_grouped 60 g operand a tokens ≡ (operand rest >>= giving (made_of_two 60 (joined j) value a) >>= λ r. more_grouped 60 g operand r.0 r.1)
unfolding grouped_turn
grouped_goes g operand h a tokens j rest e = loop_goes (marked (join_of g)) (grouped_turn 60 operand) h a tokens (j, rest) e

grouped_stops : (g : Group) (operand : Reader Kept) → Shrinks (marked (join_of g)) (grouped_turn 60 operand) → (a : Kept) (tokens : List Sign)
    → marked (join_of g) tokens ≡ None → more_grouped 60 g operand a tokens ≡ Some (a, tokens)
grouped_stops g operand h a tokens e = loop_stops (marked (join_of g)) (grouped_turn 60 operand) h a tokens e

abbrev F : level.Level → Reader Kept
F = (full 60).tree

terms_shrink : Shrinks (marked (join_of terms)) (grouped_turn 60 (factor 60 (full 60)))
terms_shrink = grouped_shrinks 60 (omega arith) (full 60) (full_sound 60 (omega arith)) terms (factor 60 (full 60)) (factor_sound 60 (omega arith) (full 60) (full_sound 60 (omega arith)))

sums_shrink : Shrinks (marked (join_of sums)) (grouped_turn 60 (term 60 (full 60)))
sums_shrink = grouped_shrinks 60 (omega arith) (full 60) (full_sound 60 (omega arith)) sums (term 60 (full 60)) (term_sound 60 (omega arith) (full 60) (full_sound 60 (omega arith)))

ands_shrink : Shrinks (marked (join_of ands)) (grouped_turn 60 (negated 60 (full 60)))
ands_shrink = grouped_shrinks 60 (omega arith) (full 60) (full_sound 60 (omega arith)) ands (negated 60 (full 60)) (negated_sound 60 (omega arith) (full 60) (full_sound 60 (omega arith)))

ors_shrink : Shrinks (marked (join_of ors)) (grouped_turn 60 (conjunctions 60 (full 60)))
ors_shrink = grouped_shrinks 60 (omega arith) (full 60) (full_sound 60 (omega arith)) ors (conjunctions 60 (full 60)) (conjunctions_sound 60 (omega arith) (full 60) (full_sound 60 (omega arith)))

module _ (w : Rung) (fs : List Frame) (a : Held) (tokens : List Sign) where
  pub term_goes : (o : BinaryOp) (rest : List Sign) → 3 < rank (wanted w fs) → marked (join_of terms) tokens ≡ Some (arithmetic o, rest)
      → after w fs r.Factor (kept_of a, tokens) ≡ before w (fs ++ f.Term a o ∷ []) rest
  unfolding phrase
  term_goes o rest small e =
      loops_on w fs r.Factor (kept_of a, tokens) small (f.Term a o) rest refl (grouped_goes terms (factor 60 (full 60)) terms_shrink (kept_of a) tokens (arithmetic o) rest e)

  pub term_ends : 3 < rank (wanted w fs) → marked (join_of terms) tokens ≡ None
      → after w fs r.Factor (kept_of a, tokens) ≡ after w fs r.Term (kept_of a, tokens)
  term_ends small e = stays w fs r.Factor (kept_of a, tokens) small (grouped_stops terms (factor 60 (full 60)) terms_shrink (kept_of a) tokens e)

  pub sum_goes : (o : BinaryOp) (rest : List Sign) → 4 < rank (wanted w fs) → marked (join_of sums) tokens ≡ Some (arithmetic o, rest)
      → after w fs r.Term (kept_of a, tokens) ≡ before w (fs ++ f.Sum a o ∷ []) rest
  unfolding phrase
  sum_goes o rest small e =
      loops_on w fs r.Term (kept_of a, tokens) small (f.Sum a o) rest refl (grouped_goes sums (term 60 (full 60)) sums_shrink (kept_of a) tokens (arithmetic o) rest e)

  pub sum_ends : 4 < rank (wanted w fs) → marked (join_of sums) tokens ≡ None
      → after w fs r.Term (kept_of a, tokens) ≡ after w fs r.Sum (kept_of a, tokens)
  sum_ends small e = stays w fs r.Term (kept_of a, tokens) small (grouped_stops sums (term 60 (full 60)) sums_shrink (kept_of a) tokens e)

  pub and_goes : (rest : List Sign) → 7 < rank (wanted w fs) → marked (join_of ands) tokens ≡ Some (conjunction, rest)
      → after w fs r.Not (kept_of a, tokens) ≡ before w (fs ++ f.And a ∷ []) rest
  unfolding phrase
  and_goes rest small e =
      loops_on w fs r.Not (kept_of a, tokens) small (f.And a) rest refl (grouped_goes ands (negated 60 (full 60)) ands_shrink (kept_of a) tokens conjunction rest e)

  pub and_ends : 7 < rank (wanted w fs) → marked (join_of ands) tokens ≡ None
      → after w fs r.Not (kept_of a, tokens) ≡ after w fs r.And (kept_of a, tokens)
  and_ends small e = stays w fs r.Not (kept_of a, tokens) small (grouped_stops ands (negated 60 (full 60)) ands_shrink (kept_of a) tokens e)

  pub or_goes : (rest : List Sign) → 8 < rank (wanted w fs) → marked (join_of ors) tokens ≡ Some (disjunction, rest)
      → after w fs r.And (kept_of a, tokens) ≡ before w (fs ++ f.Or a ∷ []) rest
  unfolding phrase
  or_goes rest small e =
      loops_on w fs r.And (kept_of a, tokens) small (f.Or a) rest refl (grouped_goes ors (conjunctions 60 (full 60)) ors_shrink (kept_of a) tokens disjunction rest e)

  pub or_ends : 8 < rank (wanted w fs) → marked (join_of ors) tokens ≡ None
      → after w fs r.And (kept_of a, tokens) ≡ after w fs r.Or (kept_of a, tokens)
  or_ends small e = stays w fs r.And (kept_of a, tokens) small (grouped_stops ors (conjunctions 60 (full 60)) ors_shrink (kept_of a) tokens e)

  -- ---- powers, negations and conditions

  pub power_goes : (rest : List Sign) → 1 < rank (wanted w fs) → mark_at m.Stars tokens ≡ Some rest
      → after w fs r.Primary (kept_of a, tokens) ≡ before w (fs ++ f.Power a ∷ []) rest
  power_goes rest small e =
      ends_on w fs r.Primary (kept_of a, tokens) small (f.Power a) rest refl
      (on_at_some (mark_at m.Stars tokens) (Some (kept_of a, tokens)) (λ rest. phrase r.Factor rest >>= giving (made_of_two 60 power_of value (kept_of a))) rest e)

  pub power_ends : 1 < rank (wanted w fs) → mark_at m.Stars tokens ≡ None
      → after w fs r.Primary (kept_of a, tokens) ≡ after w fs r.Power (kept_of a, tokens)
  power_ends small e = stays w fs r.Primary (kept_of a, tokens) small
      (on_at_none (mark_at m.Stars tokens) (Some (kept_of a, tokens)) (λ rest. phrase r.Factor rest >>= giving (made_of_two 60 power_of value (kept_of a))) e)

  pub factor_here : 2 < rank (wanted w fs) → after w fs r.Power (kept_of a, tokens) ≡ after w fs r.Factor (kept_of a, tokens)
  factor_here small = stays w fs r.Power (kept_of a, tokens) small refl

  pub not_here : 6 < rank (wanted w fs) → after w fs r.Comparison (kept_of a, tokens) ≡ after w fs r.Not (kept_of a, tokens)
  not_here small = stays w fs r.Comparison (kept_of a, tokens) small refl

  choices : (rest : List Sign) → mark_at m.If tokens ≡ Some rest → condition 60 (full 60) (kept_of a, tokens) ≡ (phrase r.Or rest >>= turn (f.Test a))
  unfolding condition phrase
  choices rest e =
      on_at_some (mark_at m.If tokens) (Some (kept_of a, tokens)) _ rest e
      ∙ bind_same (disjunctions 60 (full 60) rest) _ _ (λ test _. bind_same (mark_at m.Else test.1) _ _ (λ other _.
      ap (λ z. z >>= giving (made_choice 60 (kept_of a) test.0)) (fixed 60 (omega arith) level.Expr other)))

  pub test_goes : (rest : List Sign) → 9 < rank (wanted w fs) → mark_at m.If tokens ≡ Some rest
      → after w fs r.Or (kept_of a, tokens) ≡ before w (fs ++ f.Test a ∷ []) rest
  test_goes rest small e = ends_on w fs r.Or (kept_of a, tokens) small (f.Test a) rest refl (choices rest e)

  no_choice : mark_at m.If tokens ≡ None → condition 60 (full 60) (kept_of a, tokens) ≡ Some (kept_of a, tokens)
  unfolding condition
  no_choice e = ap (λ o. on o (Some (kept_of a, tokens)) (λ rest. disjunctions 60 (full 60) rest >>= λ test. mark_at m.Else test.1 >>= λ after. (full 60).tree level.Expr after >>= giving (made_choice 60 (kept_of a) test.0))) e

  pub test_ends : 9 < rank (wanted w fs) → mark_at m.If tokens ≡ None
      → after w fs r.Or (kept_of a, tokens) ≡ after w fs r.Expr (kept_of a, tokens)
  test_ends small e = stays w fs r.Or (kept_of a, tokens) small (no_choice e)

  -- ---- comparisons

  chain_shrink : Shrinks compare_at (chain_turn 60 (full 60))
  chain_shrink = chain_shrinks 60 (omega arith) (full 60) (full_sound 60 (omega arith))

  pub chain_more : (c : Chained) (o : CompareOp) (rest : List Sign) → compare_at tokens ≡ Some (o, rest)
      → more_chain 60 (full 60) c tokens ≡ (phrase r.Sum rest >>= λ b. more_chain 60 (full 60) (with_operand c o b.0) b.1)
  unfolding phrase chain_turn
  chain_more c o rest e =
      loop_goes compare_at (chain_turn 60 (full 60)) chain_shrink c tokens (o, rest) e
      ∙ bind_bind (sum 60 (full 60) rest) (giving (with_operand c o)) (λ r. more_chain 60 (full 60) r.0 r.1)

  pub chain_stops : (c : Chained) → compare_at tokens ≡ None → more_chain 60 (full 60) c tokens ≡ Some (c, tokens)
  chain_stops c e = loop_stops compare_at (chain_turn 60 (full 60)) chain_shrink c tokens e

  pub chain_goes : (c : HeldChain) (o : CompareOp) (rest : List Sign) → 5 < rank (wanted w fs) → chained_of c ≡ one_operand (kept_of a) → compare_at tokens ≡ Some (o, rest)
      → after w fs r.Sum (kept_of a, tokens) ≡ before w (fs ++ f.Chain c o ∷ []) rest
  chain_goes c o rest small same e =
      ends_on w fs r.Sum (kept_of a, tokens) small (f.Chain c o) rest refl
      (ap (λ z. z >>= giving (compared 60)) (chain_more (one_operand (kept_of a)) o rest e)
      ∙ bind_bind (phrase r.Sum rest) (λ b. more_chain 60 (full 60) (with_operand (one_operand (kept_of a)) o b.0) b.1) (giving (compared 60))
      ∙ ap (λ z. phrase r.Sum rest >>= λ b. more_chain 60 (full 60) (with_operand z o b.0) b.1 >>= giving (compared 60)) (sym same))

  alone_compared : (v : Kept) → compared 60 (one_operand v) ≡ v
  alone_compared (k.whole a d) = ap (k.whole a) (omega arith)
  alone_compared (k.deep s) = refl

  pub chain_ends : 5 < rank (wanted w fs) → compare_at tokens ≡ None
      → after w fs r.Sum (kept_of a, tokens) ≡ after w fs r.Comparison (kept_of a, tokens)
  chain_ends small e = stays w fs r.Sum (kept_of a, tokens) small
      (ap (λ z. z >>= giving (compared 60)) (chain_stops (one_operand (kept_of a)) e) ∙ ap (λ v. Some (v, tokens)) (alone_compared (kept_of a)))

pub compare_less : (o : CompareOp) (tokens rest : List Sign) → compare_at tokens ≡ Some (o, rest) → length rest < length tokens
compare_less o tokens rest e = (chain_shrinks 60 (omega arith) (full 60) (full_sound 60 (omega arith))).operators tokens (o, rest) e

pub one_longer : (xs ys : List Frame) (x : Frame) → ys ≡ xs ++ x ∷ [] → length ys ≡ length xs + 1
one_longer xs ys x e = ap length e ∙ length-append xs (x ∷ [])
