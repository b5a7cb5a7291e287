-- What is read up to a comparison is spelled so.
use Rattle.std.proofs.Common.{◌≡◌, ℕ, ◌≤◌, ◌<◌, true, false, List, [], ◌∷◌, ◌++◌, length, Some, refl, sym, ap, ◌∙◌, subst, arith}
use Rattle.std.proofs.Common.{length-append, append_assoc, inl, inr}
use Rattle.std.proofs.lemmas.List.{append-nil}
use Rattle.py_ast.specs.Tree as t
use Rattle.py_ast.specs.Tree.{Tree, none, more}
use Rattle.py_ast.specs.declared.expr.SignOp.{SignOp}
use Rattle.py_ast.specs.declared.expr.CompareOp.{CompareOp}
use Rattle.py_grammar.specs.Grammar as g
use Rattle.py_grammar.specs.Grammar.{Atom, Primary, Power, Factor, Term, Sum, Comparison, Exprs, Spells}
use Rattle.py_grammar.specs.Grammar.{Literals, push}
use Rattle.py_grammar.specs.Kept.{place, value, Kept, keep, leaf, made, made_of_two, made_list, made_dict, made_call, keep_all, compared}
use Rattle.py_grammar.specs.Reading.{Reader, ◌>>=◌, on, giving, up_to, mark_at, name_at, marked, sign_op, compare_at, Group, terms, sums}
use Rattle.py_grammar.specs.Reading.{Join, join_of, joined, Suffix, attributed, subscripted, called, suffix_of, Inside, more_literals}
use Rattle.py_grammar.specs.Reading.{literals_leaf, marked_atom, atom, attribute_of, suffix, primary, power_of, power, factor, grouped_turn}
use Rattle.py_grammar.specs.Reading.{grouped_over, term, sum, Chained, one_operand, with_operand, chain_turn, chain, comparison}
use Rattle.py_grammar.specs.declared.mark.Mark.{Mark}
use Rattle.py_grammar.specs.declared.mark.Mark.TheVariants as m
use Rattle.py_grammar.specs.declared.sign.Sign.{Sign}
use Rattle.py_grammar.specs.declared.sign.Sign.TheVariants.{Name, Number, Text, Mark as The}
use Rattle.py_grammar.proofs.Steps.{some_is, bind_ok, on_ok, Shrinks}
use Rattle.py_grammar.proofs.Marks.{mark_is, name_is, marked_is, sign_is, compare_is}
use Rattle.py_grammar.proofs.Kept.{keep_leaf, keep_made, keep_two, keep_list, keep_dict, keep_call, keep_one, keep_push}
use Rattle.py_grammar.proofs.Takes.{Takes, Sound, Anything, sound_shorter, after_mark, joined_with, giving_sound, up_to_sound, Turns}
use Rattle.py_grammar.proofs.Takes.{level_sound}
use Rattle.py_grammar.proofs.Phrases.{level_of, operand_level, one_operand_of, join_spells, OfLevel, OfRow, OfPairRow, OfChain, SoundInside}
use Rattle.py_grammar.proofs.Phrases.{keep_joined, compared_spelled}

-- text literals after a text
literals_taken : (before : List Sign) (x : List ℕ) → Literals before x → (tokens : List Sign)
    → Takes (λ xs v. Literals (before ++ xs) v) tokens (more_literals x tokens)
literals_taken before x l (Text y ∷ rest) =
    let t = literals_taken (before ++ Text y ∷ []) (x ++ y) (g.and_literal l y) rest in
    record {
      phrase = Text y ∷ t.phrase;
      is = subst (λ z. Literals z (more_literals (x ++ y) rest).0)
          (append_assoc before (Text y ∷ []) t.phrase) t.is;
      whole = ap (λ z. Text y ∷ z) t.whole;
    }
literals_taken before x l _ = record { phrase = []; is = rw append-nil l; whole = refl }

module _ (most : ℕ) (some : 0 < most) (inside : Inside) (s : SoundInside most inside) where
  -- ---- atoms

  leaf_taken : (x : Sign) (a : Tree) (rest : List Sign) (r : Kept × List Sign) → Spells Atom (x ∷ []) a → keep most a ≡ leaf a
      → Some (leaf a, rest) ≡ Some r
      → Takes (OfLevel most Atom) (x ∷ rest) r
  leaf_taken x a rest r sp k e =
      subst (Takes (OfLevel most Atom) (x ∷ rest)) (some_is e) (record {
        phrase = x ∷ [];
        is = record { tree = a; spells = sp; kept = k };
        whole = refl;
      })

  in_parens_sound : Sound (λ xs v. OfLevel most Atom (The m.Open ∷ xs) v) (λ rest. inside.tree Exprs rest >>= up_to m.Close (λ a. a))
  in_parens_sound =
      up_to_sound (OfLevel most Exprs) (λ xs v. OfLevel most Atom (The m.Open ∷ xs) v) (inside.tree Exprs) (s.trees Exprs) (λ a. a) m.Close
      (λ xs v p. record { tree = p.tree; spells = g.in_parens p.spells; kept = p.kept })

  parens_sound : (rest : List Sign) (r : Kept × List Sign)
      → on (mark_at m.Close rest) (inside.tree Exprs rest >>= up_to m.Close (λ a. a)) (λ after. Some (leaf (t.tuple none), after)) ≡ Some r
      → Takes (OfLevel most Atom) (The m.Open ∷ rest) r
  parens_sound rest r e =
      elim (on_ok (mark_at m.Close rest) (inside.tree Exprs rest >>= up_to m.Close (λ a. a)) (λ after. Some (leaf (t.tuple none), after))
      (Some r) e) [
        | inl p ↦ after_mark (OfLevel most Atom) m.Open (The m.Open ∷ rest) rest r refl (in_parens_sound rest r p.1)
        | inr p ↦ subst (Takes (OfLevel most Atom) (The m.Open ∷ rest)) (some_is p.2) (record {
          phrase = The m.Open ∷ The m.Close ∷ [];
          is = record { tree = t.tuple none; spells = g.nothing_in_parens; kept = keep_leaf most (t.tuple none) some refl };
          whole = ap (λ z. The m.Open ∷ z) (mark_is m.Close rest p.0 p.1);
        })
      ]

  list_sound : Sound (λ xs v. OfLevel most Atom (The m.OpenSquare ∷ xs) v)
      (λ rest. inside.row rest >>= up_to m.CloseSquare (made_list most))
  list_sound =
      up_to_sound (OfRow most) (λ xs v. OfLevel most Atom (The m.OpenSquare ∷ xs) v) inside.row s.rows (made_list most) m.CloseSquare
      (λ xs v p. record { tree = t.list p.tree; spells = g.a_list p.spells; kept = keep_list most p.tree ∙ ap (made_list most) p.kept })

  dict_sound : Sound (λ xs v. OfLevel most Atom (The m.OpenCurly ∷ xs) v)
      (λ rest. inside.pair_row rest >>= up_to m.CloseCurly (made_dict most))
  dict_sound =
      up_to_sound (OfPairRow most) (λ xs v. OfLevel most Atom (The m.OpenCurly ∷ xs) v) inside.pair_row s.pair_rows
      (made_dict most) m.CloseCurly
      (λ xs v p. record { tree = t.dict p.tree; spells = g.a_dict p.spells; kept = keep_dict most p.tree ∙ ap (made_dict most) p.kept })

  marked_atom_sound : (k : Mark) (rest : List Sign) (r : Kept × List Sign) → marked_atom most inside k rest ≡ Some r
      → Takes (OfLevel most Atom) (The k ∷ rest) r
  unfolding marked_atom
  marked_atom_sound m.None rest r e = leaf_taken (The m.None) t.nil rest r g.a_none (keep_leaf most t.nil some refl) e
  marked_atom_sound m.True rest r e = leaf_taken (The m.True) (t.truth true) rest r g.a_true (keep_leaf most (t.truth true) some refl) e
  marked_atom_sound m.False rest r e = leaf_taken (The m.False) (t.truth false) rest r g.a_false
      (keep_leaf most (t.truth false) some refl) e
  marked_atom_sound m.Open rest r e = parens_sound rest r e
  marked_atom_sound m.OpenSquare rest r e = after_mark (OfLevel most Atom) m.OpenSquare (The m.OpenSquare ∷ rest) rest r refl
      (list_sound rest r e)
  marked_atom_sound m.OpenCurly rest r e = after_mark (OfLevel most Atom) m.OpenCurly (The m.OpenCurly ∷ rest) rest r refl
      (dict_sound rest r e)
  marked_atom_sound _ rest r e = cc

  text_sound : (x : List ℕ) (rest : List Sign) (r : Kept × List Sign) → Some (literals_leaf (more_literals x rest)) ≡ Some r
      → Takes (OfLevel most Atom) (Text x ∷ rest) r
  text_sound x rest r e =
      let l = literals_taken (Text x ∷ []) x g.a_literal rest in
      let y = (more_literals x rest).0 in
      subst (Takes (OfLevel most Atom) (Text x ∷ rest)) (some_is e) (record {
        phrase = Text x ∷ l.phrase;
        is = record { tree = t.text y; spells = g.a_text l.is; kept = keep_leaf most (t.text y) some refl };
        whole = ap (λ z. Text x ∷ z) l.whole;
      })

  pub atom_sound : Sound (OfLevel most Atom) (atom most inside)
  unfolding atom
  atom_sound (Name x ∷ rest) r e = leaf_taken (Name x) (t.name x) rest r g.a_name (keep_leaf most (t.name x) some refl) e
  atom_sound (Number n ∷ rest) r e = leaf_taken (Number n) (t.number n) rest r g.a_number (keep_leaf most (t.number n) some refl) e
  atom_sound (Text x ∷ rest) r e = text_sound x rest r e
  atom_sound (The k ∷ rest) r e = marked_atom_sound k rest r e
  atom_sound _ r e = cc

  -- ---- suffixes

  name_sound : Sound (λ xs v. xs ≡ Name v ∷ []) name_at
  name_sound tokens r e = record { phrase = Name r.0 ∷ []; is = refl; whole = name_is tokens r e }

  attribute_sound : (before : List Sign) (a : Kept) → OfLevel most Primary before a
      → Sound (λ xs v. OfLevel most Primary (before ++ The m.Dot ∷ xs) v) (λ rest. name_at rest >>= giving (attribute_of most a))
  attribute_sound before a sp =
      giving_sound (λ xs v. xs ≡ Name v ∷ []) (λ xs v. OfLevel most Primary (before ++ The m.Dot ∷ xs) v) name_at name_sound
      (attribute_of most a)
      (λ xs x p. record {
        tree = t.attr sp.tree x;
        spells = subst (λ z. Spells Primary (before ++ The m.Dot ∷ z) (t.attr sp.tree x)) (sym p) (g.attribute sp.spells);
        kept = keep_made most (λ b. t.attr b x) place sp.tree refl refl ∙ ap (λ z. attribute_of most z x) sp.kept;
      })

  subscript_sound : (before : List Sign) (a : Kept) → OfLevel most Primary before a
      → Sound (λ xs v. OfLevel most Primary (before ++ The m.OpenSquare ∷ xs) v)
      (λ rest. inside.tree Exprs rest >>= up_to m.CloseSquare (made_of_two most t.item place a))
  subscript_sound before a sp =
      up_to_sound (OfLevel most Exprs) (λ xs v. OfLevel most Primary (before ++ The m.OpenSquare ∷ xs) v) (inside.tree Exprs)
      (s.trees Exprs) (made_of_two most t.item place a) m.CloseSquare
      (λ xs v p. record {
        tree = t.item sp.tree p.tree;
        spells = g.subscript sp.spells p.spells;
        kept = keep_two most t.item place sp.tree p.tree refl refl ∙ ap (λ z. made_of_two most t.item place z (keep most p.tree)) sp.kept
            ∙ ap (made_of_two most t.item place a) p.kept;
      })

  call_sound : (before : List Sign) (a : Kept) → OfLevel most Primary before a
      → Sound (λ xs v. OfLevel most Primary (before ++ The m.Open ∷ xs) v) (λ rest. inside.row rest >>= up_to m.Close (made_call most a))
  call_sound before a sp =
      up_to_sound (OfRow most) (λ xs v. OfLevel most Primary (before ++ The m.Open ∷ xs) v) inside.row s.rows (made_call most a) m.Close
      (λ xs v p. record {
        tree = t.call sp.tree p.tree;
        spells = g.call sp.spells p.spells;
        kept = keep_call most sp.tree p.tree ∙ ap (λ z. made_call most z (keep_all most p.tree)) sp.kept ∙ ap (made_call most a) p.kept;
      })

  suffix_by : (k : Mark) (x : Suffix) → suffix_of k ≡ Some x → (before : List Sign) (a : Kept) (tokens rest : List Sign)
      (r : Kept × List Sign) → tokens ≡ The k ∷ rest
      → OfLevel most Primary before a → suffix most inside a x rest ≡ Some r
      → Takes (λ xs v. OfLevel most Primary (before ++ xs) v) tokens r
  unfolding suffix
  suffix_by m.Dot attributed ex before a tokens rest r et sp e =
      after_mark (λ xs v. OfLevel most Primary (before ++ xs) v) m.Dot tokens rest r et (attribute_sound before a sp rest r e)
  suffix_by m.OpenSquare subscripted ex before a tokens rest r et sp e =
      after_mark (λ xs v. OfLevel most Primary (before ++ xs) v) m.OpenSquare tokens rest r et (subscript_sound before a sp rest r e)
  suffix_by m.Open called ex before a tokens rest r et sp e =
      after_mark (λ xs v. OfLevel most Primary (before ++ xs) v) m.Open tokens rest r et (call_sound before a sp rest r e)
  suffix_by _ _ ex before a tokens rest r et sp e = cc

  suffix_turns : Turns (OfLevel most Primary) (marked suffix_of) (suffix most inside)
  suffix_turns before a tokens o r sp eo e = let k = marked_is suffix_of tokens o eo in suffix_by k.0 o.0 k.2 before a tokens o.1 r k.1 sp e

  pub primary_sound : Sound (OfLevel most Primary) (primary most inside)
  unfolding primary
  primary_sound =
      level_sound (OfLevel most Primary) (marked suffix_of) (suffix most inside) suffix_turns (OfLevel most Atom) (atom most inside)
      (λ a. a) atom_sound
      (λ xs v p. record { tree = p.tree; spells = g.an_atom p.spells; kept = p.kept })

  suffix_shorter : (a : Kept) (x : Suffix) (tokens : List Sign) (r : Kept × List Sign) → suffix most inside a x tokens ≡ Some r
      → length r.1 ≤ length tokens
  unfolding suffix
  suffix_shorter a attributed tokens r e =
      sound_shorter Anything (λ rest. name_at rest >>= giving (attribute_of most a))
      (giving_sound (λ xs v. xs ≡ Name v ∷ []) Anything name_at name_sound (attribute_of most a) (λ xs v p. tt)) tokens r e
  suffix_shorter a subscripted tokens r e =
      sound_shorter Anything (λ rest. inside.tree Exprs rest >>= up_to m.CloseSquare (made_of_two most t.item place a))
      (up_to_sound (OfLevel most Exprs) Anything (inside.tree Exprs) (s.trees Exprs) (made_of_two most t.item place a) m.CloseSquare
      (λ xs v p. tt)) tokens r e
  suffix_shorter a called tokens r e =
      sound_shorter Anything (λ rest. inside.row rest >>= up_to m.Close (made_call most a))
      (up_to_sound (OfRow most) Anything inside.row s.rows (made_call most a) m.Close (λ xs v p. tt)) tokens r e

  pub suffix_shrinks : Shrinks (marked suffix_of) (suffix most inside)
  suffix_shrinks = record {
    operators = λ tokens o e. rw (marked_is suffix_of tokens o e).1 (omega arith);
    turns = suffix_shorter;
  }

  -- ---- powers and signs

  exponent_sound : (before : List Sign) (a : Kept) → OfLevel most Primary before a
      → Sound (λ xs v. OfLevel most Power (before ++ The m.Stars ∷ xs) v)
      (λ rest. inside.tree Factor rest >>= giving (made_of_two most power_of value a))
  exponent_sound before a sp =
      giving_sound (OfLevel most Factor) (λ xs v. OfLevel most Power (before ++ The m.Stars ∷ xs) v) (inside.tree Factor) (s.trees Factor)
      (made_of_two most power_of value a)
      (λ xs v p. record {
        tree = power_of sp.tree p.tree;
        spells = g.power sp.spells p.spells;
        kept = keep_two most power_of value sp.tree p.tree refl refl ∙ ap
            (λ z. made_of_two most power_of value z (keep most p.tree)) sp.kept ∙ ap (made_of_two most power_of value a) p.kept;
      })

  pub power_sound : Sound (OfLevel most Power) (power most inside)
  unfolding power
  power_sound tokens r e =
      let after = λ (a : Kept × List Sign). on (mark_at m.Stars a.1) (Some a)
      (λ rest. inside.tree Factor rest >>= giving (made_of_two most power_of value a.0)) in
      let a = bind_ok (primary most inside tokens) after r e in
      let x = primary_sound tokens a.0 a.1 in
      elim (on_ok (mark_at m.Stars a.0.1) (Some a.0) (λ rest. inside.tree Factor rest >>= giving (made_of_two most power_of value a.0.0))
      (Some r) a.2) [
        | inl p ↦ subst (Takes (OfLevel most Power) tokens) (some_is p.1)
            (record {
              phrase = x.phrase;
              is = record { tree = x.is.tree; spells = g.a_primary x.is.spells; kept = x.is.kept };
              whole = x.whole;
            })
        | inr p ↦
            joined_with (OfLevel most Primary) (OfLevel most Power) tokens a.0 r x
            (after_mark (λ xs v. OfLevel most Power (x.phrase ++ xs) v) m.Stars a.0.1 p.0 r (mark_is m.Stars a.0.1 p.0 p.1)
            (exponent_sound x.phrase a.0.0 x.is p.0 r p.2))
      ]

  signed_sound : (k : Mark) (o : SignOp) → sign_op k ≡ Some o
      → Sound (λ xs v. OfLevel most Factor (The k ∷ xs) v) (λ rest. inside.tree Factor rest >>= giving (made most (t.sign o) value))
  signed_sound k o e =
      giving_sound (OfLevel most Factor) (λ xs v. OfLevel most Factor (The k ∷ xs) v) (inside.tree Factor) (s.trees Factor)
      (made most (t.sign o) value)
      (λ xs v p. record {
        tree = t.sign o p.tree;
        spells = g.signed (sign_is k o e) p.spells;
        kept = keep_made most (t.sign o) value p.tree refl refl ∙ ap (made most (t.sign o) value) p.kept;
      })

  pub factor_sound : Sound (OfLevel most Factor) (factor most inside)
  unfolding factor
  factor_sound tokens r e =
      elim (on_ok (marked sign_op tokens) (power most inside tokens) (λ o. inside.tree Factor o.1 >>= giving
      (made most (t.sign o.0) value)) (Some r) e) [
        | inl p ↦ let x = power_sound tokens r p.1 in record {
          phrase = x.phrase;
          is = record { tree = x.is.tree; spells = g.a_power x.is.spells; kept = x.is.kept };
          whole = x.whole;
        }
        | inr p ↦
            let k = marked_is sign_op tokens p.0 p.1 in
            after_mark (OfLevel most Factor) k.0 tokens p.0.1 r k.1 (signed_sound k.0 p.0.0 k.2 p.0.1 r p.2)
      ]

  -- ---- levels that group to the left

  module _ (j : Group) (operand : Reader Kept) (h : Sound (OfLevel most (operand_level j)) operand) where
    right_sound : (before : List Sign) (a : Kept) → OfLevel most (level_of j) before a → (k : Mark) (o : Join) → join_of j k ≡ Some o
        → Sound (λ xs v. OfLevel most (level_of j) (before ++ The k ∷ xs) v)
        (λ rest. operand rest >>= giving (made_of_two most (joined o) value a))
    right_sound before a sp k o e =
        giving_sound (OfLevel most (operand_level j)) (λ xs v. OfLevel most (level_of j) (before ++ The k ∷ xs) v) operand h
        (made_of_two most (joined o) value a)
        (λ xs v p. record {
          tree = joined o sp.tree p.tree;
          spells = join_spells j k o e before xs sp.tree p.tree sp.spells p.spells;
          kept = keep_joined most o sp.tree p.tree ∙ ap (λ z. made_of_two most (joined o) value z (keep most p.tree)) sp.kept
              ∙ ap (made_of_two most (joined o) value a) p.kept;
        })

    grouped_turns : Turns (OfLevel most (level_of j)) (marked (join_of j)) (grouped_turn most operand)
    unfolding grouped_turn
    grouped_turns before a tokens o r sp eo e =
        let k = marked_is (join_of j) tokens o eo in
        after_mark (λ xs v. OfLevel most (level_of j) (before ++ xs) v) k.0 tokens o.1 r k.1 (right_sound before a sp k.0 o.0 k.2 o.1 r e)

    pub grouped_sound : Sound (OfLevel most (level_of j)) (grouped_over most j operand)
    unfolding grouped_over
    grouped_sound =
        level_sound (OfLevel most (level_of j)) (marked (join_of j)) (grouped_turn most operand) grouped_turns
        (OfLevel most (operand_level j)) operand (λ a. a) h
        (λ xs v p. record { tree = p.tree; spells = one_operand_of j xs p.tree p.spells; kept = p.kept })

    pub grouped_shrinks : Shrinks (marked (join_of j)) (grouped_turn most operand)
    unfolding grouped_turn
    grouped_shrinks = record {
      operators = λ tokens o e. rw (marked_is (join_of j) tokens o e).1 (omega arith);
      turns = λ a o tokens r e. sound_shorter Anything (λ rest. operand rest >>= giving (made_of_two most (joined o) value a))
          (giving_sound (OfLevel most (operand_level j)) Anything operand h (made_of_two most (joined o) value a) (λ xs v p. tt)) tokens r
          e;
    }

  pub term_sound : Sound (OfLevel most Term) (term most inside)
  term_sound = grouped_sound terms (factor most inside) factor_sound

  pub sum_sound : Sound (OfLevel most Sum) (sum most inside)
  sum_sound = grouped_sound sums (term most inside) term_sound

  -- ---- comparisons

  operand_sound : (before : List Sign) (c : Chained) → OfChain most before c → (signs : List Sign) (o : CompareOp) → g.Compares signs o
      → Sound (λ xs v. OfChain most (before ++ (signs ++ xs)) v) (λ rest. sum most inside rest >>= giving (with_operand c o))
  operand_sound before c sp signs o co =
      giving_sound (OfLevel most Sum) (λ xs v. OfChain most (before ++ (signs ++ xs)) v) (sum most inside) sum_sound (with_operand c o)
      (λ xs v p. record {
        tree = (sp.tree.0 ++ o ∷ [], push sp.tree.1 p.tree);
        spells = g.and_operand sp.spells co p.spells;
        kept = ap (λ z. (sp.tree.0 ++ o ∷ [], z)) (keep_push most sp.tree.1 p.tree) ∙ ap (λ z. with_operand z o (keep most p.tree)) sp.kept
            ∙ ap (with_operand c o) p.kept;
      })

  chain_turns : Turns (OfChain most) compare_at (chain_turn most inside)
  unfolding chain_turn
  chain_turns before c tokens o r sp eo e =
      let x = compare_is tokens o eo in
      let y = operand_sound before c sp x.signs o.0 x.compares o.1 r e in
      record {
        phrase = x.signs ++ y.phrase;
        is = y.is;
        whole = x.whole ∙ ap (λ z. x.signs ++ z) y.whole
            ∙ sym (append_assoc x.signs y.phrase r.1);
      }

  pub chain_sound : Sound (OfChain most) (chain most inside)
  unfolding chain
  chain_sound =
      level_sound (OfChain most) compare_at (chain_turn most inside) chain_turns (OfLevel most Sum) (sum most inside) one_operand sum_sound
      (λ xs v p. record {
        tree = ([], more p.tree none);
        spells = g.one_operand p.spells;
        kept = ap (λ z. ([], z)) (keep_one most p.tree)
            ∙ ap one_operand p.kept;
      })

  pub chain_shrinks : Shrinks compare_at (chain_turn most inside)
  unfolding chain_turn
  chain_shrinks = record {
    operators = λ tokens o e. let x = compare_is tokens o e in let some = x.some in rw x.whole (omega (arith, length-append x.signs o.1));
    turns = λ c o tokens r e. sound_shorter Anything (λ rest. sum most inside rest >>= giving (with_operand c o))
        (giving_sound (OfLevel most Sum) Anything (sum most inside) sum_sound (with_operand c o) (λ xs v p. tt)) tokens r e;
  }

  pub comparison_sound : Sound (OfLevel most Comparison) (comparison most inside)
  unfolding comparison
  comparison_sound = giving_sound (OfChain most) (OfLevel most Comparison) (chain most inside) chain_sound (compared most)
      (compared_spelled most)
