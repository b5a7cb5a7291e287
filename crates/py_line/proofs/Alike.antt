-- Two ways of reading what is nested that agree on fewer signs: what is read over them of so many signs, up to a disjunction.
use Rattle.std.proofs.Common.{◌≡◌, ℕ, zero, suc, ◌≤◌, ◌<◌, List, ◌∷◌, length, Option, Some, refl, ap, ◌∙◌, arith}
use Rattle.py_ast.specs.Tree as t
use Rattle.py_ast.specs.Tree.{none}
use Rattle.py_grammar.specs.Grammar.{Level, Atom, Primary, Factor, Term, Sum, Not, And, Exprs}
use Rattle.py_grammar.specs.Kept.{place, value, Kept, leaf, made, made_of_two, made_list, made_dict, made_call, compared}
use Rattle.py_grammar.specs.Reading.{Reader, ◌>>=◌, on, giving, up_to, mark_at, name_at, marked, loop_by, loop, sign_op, compare_at}
use Rattle.py_grammar.specs.Reading.{terms, sums, ands, ors, Group, join_of, joined, attributed, subscripted, called, suffix_of}
use Rattle.py_grammar.specs.Reading.{Inside, marked_atom, atom, suffix, primary, power_of, power, factor, grouped_turn, grouped_over, term}
use Rattle.py_grammar.specs.Reading.{sum, one_operand, with_operand, chain_turn, chain, comparison, negated, conjunctions}
use Rattle.py_grammar.specs.Reading.{disjunctions}
use Rattle.py_grammar.specs.declared.mark.Mark.{Mark}
use Rattle.py_grammar.specs.declared.mark.Mark.TheVariants as m
use Rattle.py_grammar.specs.declared.sign.Sign.{Sign}
use Rattle.py_grammar.specs.declared.sign.Sign.TheVariants.{Mark as The}
use Rattle.py_grammar.proofs.Steps.{bind_same, on_same, Shrinks}
use Rattle.py_grammar.proofs.Marks.{mark_less, marked_is, name_is}
use Rattle.py_grammar.proofs.Takes.{sound_shorter}
use Rattle.py_grammar.proofs.Phrases.{OfLevel, SoundInside}
use Rattle.py_grammar.proofs.Sound.{atom_sound, suffix_shrinks, primary_sound, factor_sound, grouped_shrinks, term_sound, sum_sound, chain_shrinks}
use Rattle.py_grammar.proofs.SoundLists.{negated_sound, conjunctions_sound}

-- ---- steps

pub bind_alike : {A B : Type 0} (o p : Option A) (f g : A → Option B) → o ≡ p → ((x : A) → o ≡ Some x → f x ≡ g x) → (o >>= f) ≡ (p >>= g)
bind_alike o p f g e h = bind_same o f g h ∙ ap (λ z. z >>= g) e

pub on_alike : {A B : Type 0} (o : Option A) (b c : B) (f g : A → B) → b ≡ c → ((x : A) → o ≡ Some x → f x ≡ g x) → on o b f ≡ on o c g
on_alike o b c f g e h = on_same o b f g h ∙ ap (λ z. on o z g) e

pub marked_less : {A : Type 0} (f : Mark → Option A) (tokens : List Sign) (o : A × List Sign) → marked f tokens ≡ Some o
    → length o.1 < length tokens
marked_less f tokens o e = rw (marked_is f tokens o e).1 (omega arith)

pub name_less : (tokens : List Sign) (o : List ℕ × List Sign) → name_at tokens ≡ Some o → length o.1 < length tokens
name_less tokens o e = rw (name_is tokens o e) (omega arith)

-- ---- readers

-- a reader leaves no more signs than there were
abbrev pub Shortens : {V : Type 0} → Reader V → Type 0
Shortens {V} p = (tokens : List Sign) (r : V × List Sign) → p tokens ≡ Some r → length r.1 ≤ length tokens

-- the same is read of so many signs
abbrev pub Agree : {V : Type 0} → ℕ → Reader V → Reader V → Type 0
Agree n p q = (tokens : List Sign) → length tokens ≤ n → p tokens ≡ q tokens

-- what is nested is read alike of fewer signs
pub record Alike (n : ℕ) (i j : Inside) : Type 0 where
  pub trees : (l : Level) (tokens : List Sign) → length tokens < n → i.tree l tokens ≡ j.tree l tokens
  pub rows : (tokens : List Sign) → length tokens < n → i.row tokens ≡ j.row tokens
  pub pair_rows : (tokens : List Sign) → length tokens < n → i.pair_row tokens ≡ j.pair_row tokens

-- the turns of two loops agree behind an operator
abbrev pub TurnsAgree : {S A : Type 0} → ℕ → (S → A → Reader S) → (S → A → Reader S) → Type 0
TurnsAgree {S} {A} n t u = (s : S) (a : A) (tokens : List Sign) → length tokens < n → t s a tokens ≡ u s a tokens

module _ {S A : Type 0} (operator : Reader A) (t u : S → A → Reader S) (h : Shrinks operator t) (n : ℕ) (same : TurnsAgree n t u) where
  loop_by_alike : (m : ℕ) (s : S) (tokens : List Sign) → length tokens ≤ n
      → loop_by m operator t s tokens ≡ loop_by m operator u s tokens
  loop_by_alike zero s tokens p = refl
  loop_by_alike (suc m) s tokens p =
      on_same (operator tokens) _ _ _ (λ o e.
      let less = h.operators tokens o e in
      bind_alike (t s o.0 o.1) (u s o.0 o.1) _ _ (same s o.0 o.1 (omega arith)) (λ r er.
      let at_most = h.turns s o.0 o.1 r er in
      loop_by_alike m r.0 r.1 (omega arith)))

  pub loop_alike : (s : S) → Agree n (loop operator t s) (loop operator u s)
  unfolding loop
  loop_alike s tokens p = loop_by_alike (length tokens) s tokens p

  -- something first, and then a loop
  pub level_alike : {M : Type 0} (first : M → S) (p q : Reader M) → Shortens p → Agree n p q
      → Agree n (λ tokens. p tokens >>= λ a. loop operator t (first a.0) a.1) (λ tokens. q tokens >>= λ a. loop operator u (first a.0) a.1)
  level_alike first p q short agree tokens small =
      bind_alike (p tokens) (q tokens) _ _ (agree tokens small) (λ a e.
      let at_most = short tokens a e in
      loop_alike (first a.0) a.1 (omega arith))

-- the number is the most levels of a tree that are kept
module _ (most : ℕ) (some : 0 < most) (i j : Inside) (s : SoundInside most i) (n : ℕ) (h : Alike n i j) where
  -- ---- atoms and suffixes

  pub marked_atom_alike : (k : Mark) (rest : List Sign) → length rest < n → marked_atom most i k rest ≡ marked_atom most j k rest
  unfolding marked_atom
  marked_atom_alike m.Open rest p =
      ap (λ z. on (mark_at m.Close rest) (z >>= up_to m.Close (λ a. a)) (λ after. Some (leaf (t.tuple none), after))) (h.trees Exprs rest p)
  marked_atom_alike m.OpenSquare rest p = ap (λ z. z >>= up_to m.CloseSquare (made_list most)) (h.rows rest p)
  marked_atom_alike m.OpenCurly rest p = ap (λ z. z >>= up_to m.CloseCurly (made_dict most)) (h.pair_rows rest p)
  marked_atom_alike _ rest p = refl

  pub atom_alike : Agree n (atom most i) (atom most j)
  unfolding atom
  atom_alike (The k ∷ rest) p = marked_atom_alike k rest (omega arith)
  atom_alike _ p = refl

  pub suffix_alike : TurnsAgree n (suffix most i) (suffix most j)
  unfolding suffix
  suffix_alike a attributed tokens p = refl
  suffix_alike a subscripted tokens p = ap (λ z. z >>= up_to m.CloseSquare (made_of_two most t.item place a)) (h.trees Exprs tokens p)
  suffix_alike a called tokens p = ap (λ z. z >>= up_to m.Close (made_call most a)) (h.rows tokens p)

  pub primary_alike : Agree n (primary most i) (primary most j)
  unfolding primary
  primary_alike =
      level_alike (marked suffix_of) (suffix most i) (suffix most j) (suffix_shrinks most some i s) n suffix_alike (λ a. a)
      (atom most i) (atom most j) (sound_shorter (OfLevel most Atom) (atom most i) (atom_sound most some i s)) atom_alike

  -- ---- powers and signs

  pub power_alike : Agree n (power most i) (power most j)
  unfolding power
  power_alike tokens p =
      bind_alike (primary most i tokens) (primary most j tokens) _ _ (primary_alike tokens p) (λ a e.
      let at_most = sound_shorter (OfLevel most Primary) (primary most i) (primary_sound most some i s) tokens a e in
      on_same (mark_at m.Stars a.1) _ _ _ (λ rest er.
      let less = mark_less m.Stars a.1 rest er in
      ap (λ z. z >>= giving (made_of_two most power_of value a.0)) (h.trees Factor rest (omega arith))))

  pub factor_alike : Agree n (factor most i) (factor most j)
  unfolding factor
  factor_alike tokens p =
      on_alike (marked sign_op tokens) _ _ _ _ (power_alike tokens p) (λ o e.
      let less = marked_less sign_op tokens o e in
      ap (λ z. z >>= giving (made most (t.sign o.0) value)) (h.trees Factor o.1 (omega arith)))

  -- ---- levels that group to the left

  pub grouped_alike : (g : Group) (operand other : Reader Kept) → Shrinks (marked (join_of g)) (grouped_turn most operand) → Shortens operand
      → Agree n operand other
      → Agree n (grouped_over most g operand) (grouped_over most g other)
  unfolding grouped_over grouped_turn
  grouped_alike g operand other shrinks short agree =
      level_alike (marked (join_of g)) (grouped_turn most operand) (grouped_turn most other) shrinks n
      (λ a o tokens p. ap (λ z. z >>= giving (made_of_two most (joined o) value a)) (agree tokens (omega arith)))
      (λ a. a) operand other short agree

  pub term_alike : Agree n (term most i) (term most j)
  term_alike =
      grouped_alike terms (factor most i) (factor most j) (grouped_shrinks most some i s terms (factor most i) (factor_sound most some i s))
      (sound_shorter (OfLevel most Factor) (factor most i) (factor_sound most some i s)) factor_alike

  pub sum_alike : Agree n (sum most i) (sum most j)
  sum_alike =
      grouped_alike sums (term most i) (term most j) (grouped_shrinks most some i s sums (term most i) (term_sound most some i s))
      (sound_shorter (OfLevel most Term) (term most i) (term_sound most some i s)) term_alike

  -- ---- comparisons

  pub chain_turn_alike : TurnsAgree n (chain_turn most i) (chain_turn most j)
  unfolding chain_turn
  chain_turn_alike c o tokens p = ap (λ z. z >>= giving (with_operand c o)) (sum_alike tokens (omega arith))

  pub chain_alike : Agree n (chain most i) (chain most j)
  unfolding chain
  chain_alike =
      level_alike compare_at (chain_turn most i) (chain_turn most j) (chain_shrinks most some i s) n chain_turn_alike one_operand
      (sum most i) (sum most j) (sound_shorter (OfLevel most Sum) (sum most i) (sum_sound most some i s)) sum_alike

  pub comparison_alike : Agree n (comparison most i) (comparison most j)
  unfolding comparison
  comparison_alike tokens p = ap (λ z. z >>= giving (compared most)) (chain_alike tokens p)

  -- ---- negations, conjunctions, disjunctions

  pub negated_alike : Agree n (negated most i) (negated most j)
  unfolding negated
  negated_alike tokens p =
      on_alike (mark_at m.Not tokens) _ _ _ _ (comparison_alike tokens p) (λ rest e.
      let less = mark_less m.Not tokens rest e in
      ap (λ z. z >>= giving (made most t.not value)) (h.trees Not rest (omega arith)))

  pub conjunctions_alike : Agree n (conjunctions most i) (conjunctions most j)
  conjunctions_alike =
      grouped_alike ands (negated most i) (negated most j) (grouped_shrinks most some i s ands (negated most i) (negated_sound most some i s))
      (sound_shorter (OfLevel most Not) (negated most i) (negated_sound most some i s)) negated_alike

  pub disjunctions_alike : Agree n (disjunctions most i) (disjunctions most j)
  disjunctions_alike =
      grouped_alike ors (conjunctions most i) (conjunctions most j)
      (grouped_shrinks most some i s ors (conjunctions most i) (conjunctions_sound most some i s))
      (sound_shorter (OfLevel most And) (conjunctions most i) (conjunctions_sound most some i s)) conjunctions_alike
