-- The steps of the loop over what waits: brackets, and what follows a phrase in them.
use Rattle.std.proofs.Common.{◌≡◌, ℕ, ◌+◌, ◌≤◌, ◌<◌, Bool, true, false, if◌then◌else◌, List, [], ◌∷◌, ◌++◌, Option, Some, None, refl, sym, ap, ◌∙◌, arith}
use Rattle.py_ast.specs.Tree as t
use Rattle.py_grammar.specs.Grammar as level
use Rattle.py_grammar.specs.Kept.{Kept, KeptAll, leaf, made_of_two, made_list, made_dict, made_call, place, push_kept, no_trees}
use Rattle.py_grammar.specs.Reading.{◌>>=◌, on, giving, mark_at, if_mark, up_to, marked, begins, next_at, name_at, Suffix, attributed, subscripted, called, suffix_of, suffix}
use Rattle.py_grammar.specs.Reading.{attribute_of, more_primary, marked_atom, expr, items_turn, more_items, items, row, end_of_exprs, exprs, pair_onto, pair_turn, more_pairs, pairs, pair_row}
use Rattle.py_grammar.specs.declared.mark.Mark.{Mark}
use Rattle.py_grammar.specs.declared.mark.Mark.TheVariants as m
use Rattle.py_grammar.specs.declared.sign.Sign.{Sign}
use Rattle.py_grammar.proofs.Steps.{bind_same, bind_bind, Shrinks, loop_stops, loop_goes}
use Rattle.py_grammar.proofs.Sound.{suffix_shrinks}
use Rattle.py_grammar.proofs.SoundLists.{items_shrinks, pairs_shrinks}
use Rattle.py_line.specs.declared.frame.Rung.{Rung}
use Rattle.py_line.specs.declared.frame.Rung.TheVariants as r
use Rattle.py_line.specs.declared.frame.Brackets.{Brackets}
use Rattle.py_line.specs.declared.frame.Brackets.TheVariants as b
use Rattle.py_line.specs.declared.frame.Frame.{Frame}
use Rattle.py_line.specs.declared.frame.Frame.TheVariants as f
use Rattle.py_line.specs.declared.kept.Kept.{Kept as Held}
use Rattle.py_line.specs.declared.kept.KeptAll.{KeptAll as HeldAll}
use Rattle.py_line.specs.Views.{kept_of, all_of}
use Rattle.py_line.specs.Full.{full}
use Rattle.py_line.specs.Waiting.{Read, rank, phrase, rise, waits, gives, turn, listed, closed, closed_pairs, pairs_ended, past_comma, wanted, after, before}
use Rattle.py_line.proofs.Insides.{fixed, fixed_row, fixed_pair_row, full_sound}
use Rattle.py_line.proofs.Rungs.{on_at_none, goes_up, waits_more}
use Rattle.py_line.proofs.Going.{on_at_some, stays}

pub if_true : {A : Type 0} (c : Bool) (x y : A) → c ≡ true → (if c then x else y) ≡ x
if_true true x y e = refl
if_true false x y e = cc

pub if_false : {A : Type 0} (c : Bool) (x y : A) → c ≡ false → (if c then x else y) ≡ y
if_false false x y e = refl
if_false true x y e = cc

pub if_past : {S : Type 0} (o : Option (List Sign)) (s : S) (tokens : List Sign)
    → on {B = Option (S × List Sign)} o (Some (s, tokens)) (λ after. Some (s, after)) ≡ Some (s, on o tokens (λ rest. rest))
if_past (Some rest) s tokens = refl
if_past None s tokens = refl

-- ---- expressions in brackets

items_shrink : Shrinks next_at (items_turn 60 (full 60))
items_shrink = items_shrinks 60 (omega arith) (full 60) (full_sound 60 (omega arith))

items_more : (s : KeptAll) (tokens rest : List Sign) → next_at tokens ≡ Some (tt, rest)
    → more_items 60 (full 60) s tokens ≡ (phrase r.Expr rest >>= λ a. more_items 60 (full 60) (push_kept s a.0) a.1)
unfolding phrase items_turn
items_more s tokens rest e =
    loop_goes next_at (items_turn 60 (full 60)) items_shrink s tokens (tt, rest) e
    ∙ bind_bind (expr 60 (full 60) rest) (giving (push_kept s)) (λ r. more_items 60 (full 60) r.0 r.1)

items_stop : (s : KeptAll) (tokens : List Sign) → next_at tokens ≡ None → more_items 60 (full 60) s tokens ≡ Some (s, tokens)
items_stop s tokens e = loop_stops next_at (items_turn 60 (full 60)) items_shrink s tokens e

-- expressions from the first one on
bracketed : (d : Brackets) (s : HeldAll) (tokens : List Sign) → all_of s ≡ no_trees
    → (items 60 (full 60) tokens >>= closed d) ≡ (phrase r.Expr tokens >>= turn (f.Item d s))
unfolding phrase items
bracketed d s tokens e =
    bind_bind (expr 60 (full 60) tokens) (λ a. more_items 60 (full 60) (push_kept no_trees a.0) a.1) (closed d)
    ∙ ap (λ z. expr 60 (full 60) tokens >>= λ a. more_items 60 (full 60) (push_kept z a.0) a.1 >>= closed d) (sym e)

row_closed : (d : Brackets) (tokens : List Sign) (g : KeptAll × List Sign → Option Read) → begins tokens ≡ true
    → ((full 60).row tokens >>= g) ≡ (items 60 (full 60) tokens >>= λ s. if_mark m.Comma s >>= g)
unfolding row
row_closed d tokens g e =
    ap (λ z. z >>= g) (fixed_row 60 (omega arith) tokens
    ∙ if_true (begins tokens) (items 60 (full 60) tokens >>= if_mark m.Comma) (Some (no_trees, tokens)) e)
    ∙ bind_bind (items 60 (full 60) tokens) (if_mark m.Comma) g

row_empty : (tokens : List Sign) → begins tokens ≡ false → (full 60).row tokens ≡ Some (no_trees, tokens)
unfolding row
row_empty tokens e =
    fixed_row 60 (omega arith) tokens ∙ if_false (begins tokens) (items 60 (full 60) tokens >>= if_mark m.Comma) (Some (no_trees, tokens)) e

exprs_closed : (tokens : List Sign) (g : Read → Option Read)
    → ((full 60).tree level.Exprs tokens >>= g) ≡ (items 60 (full 60) tokens >>= λ s. end_of_exprs 60 s >>= g)
unfolding exprs
exprs_closed tokens g =
    ap (λ z. z >>= g) (fixed 60 (omega arith) level.Exprs tokens)
    ∙ bind_bind (items 60 (full 60) tokens) (end_of_exprs 60) g

-- ---- keys and values

pairs_shrink : Shrinks next_at (pair_turn 60 (full 60))
pairs_shrink = pairs_shrinks 60 (omega arith) (full 60) (full_sound 60 (omega arith))

-- a pair after others, and what follows it
pair_read : (s : HeldAll) (u : KeptAll) (tokens : List Sign) → all_of s ≡ u
    → (pair_onto 60 (full 60) u tokens >>= closed_pairs) ≡ (phrase r.Expr tokens >>= turn (f.Key s))
unfolding phrase pair_onto
pair_read s u tokens e =
    bind_bind (expr 60 (full 60) tokens) _ closed_pairs
    ∙ bind_same (expr 60 (full 60) tokens) _ _ (λ k _.
    bind_bind (mark_at m.Colon k.1) (λ rest. expr 60 (full 60) rest >>= giving (push_kept (push_kept u k.0))) closed_pairs
    ∙ ap (λ z. mark_at m.Colon k.1 >>= λ rest. expr 60 (full 60) rest >>= giving (push_kept (push_kept z k.0)) >>= closed_pairs) (sym e))

pairs_closed : (u : KeptAll) (tokens : List Sign)
    → ((pair_onto 60 (full 60) u tokens >>= λ s. more_pairs 60 (full 60) s.0 s.1) >>= if_mark m.Comma >>= up_to m.CloseCurly (made_dict 60))
    ≡ (pair_onto 60 (full 60) u tokens >>= closed_pairs)
pairs_closed u tokens =
    ap (λ z. z >>= up_to m.CloseCurly (made_dict 60)) (bind_bind (pair_onto 60 (full 60) u tokens) (λ s. more_pairs 60 (full 60) s.0 s.1) (if_mark m.Comma))
    ∙ bind_bind (pair_onto 60 (full 60) u tokens) (λ s. more_pairs 60 (full 60) s.0 s.1 >>= if_mark m.Comma) (up_to m.CloseCurly (made_dict 60))

pairs_more : (s : HeldAll) (u : KeptAll) (tokens rest : List Sign) → all_of s ≡ u → next_at tokens ≡ Some (tt, rest)
    → closed_pairs (u, tokens) ≡ (phrase r.Expr rest >>= turn (f.Key s))
pairs_more s u tokens rest e n =
    ap (λ z. z >>= if_mark m.Comma >>= up_to m.CloseCurly (made_dict 60)) (loop_goes next_at (pair_turn 60 (full 60)) pairs_shrink u tokens (tt, rest) n)
    ∙ pairs_closed u rest ∙ pair_read s u rest e

pub pairs_stop : (u : KeptAll) (tokens : List Sign) → next_at tokens ≡ None
    → closed_pairs (u, tokens) ≡ (if_mark m.Comma (u, tokens) >>= up_to m.CloseCurly (made_dict 60))
pairs_stop u tokens n =
    ap (λ z. z >>= if_mark m.Comma >>= up_to m.CloseCurly (made_dict 60)) (loop_stops next_at (pair_turn 60 (full 60)) pairs_shrink u tokens n)

-- ---- where brackets open

pub round_opens : (s : HeldAll) (tokens : List Sign) → all_of s ≡ no_trees → mark_at m.Close tokens ≡ None
    → marked_atom 60 (full 60) m.Open tokens ≡ (phrase r.Expr tokens >>= turn (f.Item b.Round s))
unfolding marked_atom
round_opens s tokens e c =
    on_at_none (mark_at m.Close tokens) _ (λ after. Some (leaf (t.tuple t.none), after)) c
    ∙ exprs_closed tokens (up_to m.Close (λ a. a)) ∙ bracketed b.Round s tokens e

pub round_empty : (tokens rest : List Sign) → mark_at m.Close tokens ≡ Some rest
    → marked_atom 60 (full 60) m.Open tokens ≡ Some (leaf (t.tuple t.none), rest)
unfolding marked_atom
round_empty tokens rest c = on_at_some (mark_at m.Close tokens) _ (λ after. Some (leaf (t.tuple t.none), after)) rest c

pub square_opens : (s : HeldAll) (tokens : List Sign) → all_of s ≡ no_trees → begins tokens ≡ true
    → marked_atom 60 (full 60) m.OpenSquare tokens ≡ (phrase r.Expr tokens >>= turn (f.Item b.Square s))
unfolding marked_atom
square_opens s tokens e c = row_closed b.Square tokens (up_to m.CloseSquare (made_list 60)) c ∙ bracketed b.Square s tokens e

pub square_empty : (tokens : List Sign) → begins tokens ≡ false
    → marked_atom 60 (full 60) m.OpenSquare tokens ≡ up_to m.CloseSquare (made_list 60) (no_trees, tokens)
unfolding marked_atom
square_empty tokens c = ap (λ z. z >>= up_to m.CloseSquare (made_list 60)) (row_empty tokens c)

pub curly_opens : (s : HeldAll) (tokens : List Sign) → all_of s ≡ no_trees → begins tokens ≡ true
    → marked_atom 60 (full 60) m.OpenCurly tokens ≡ (phrase r.Expr tokens >>= turn (f.Key s))
unfolding marked_atom pair_row pairs
curly_opens s tokens e c =
    ap (λ z. z >>= up_to m.CloseCurly (made_dict 60)) (fixed_pair_row 60 (omega arith) tokens
    ∙ if_true (begins tokens) (pairs 60 (full 60) tokens >>= if_mark m.Comma) (Some (no_trees, tokens)) c)
    ∙ pairs_closed no_trees tokens ∙ pair_read s no_trees tokens e

pub curly_empty : (tokens : List Sign) → begins tokens ≡ false
    → marked_atom 60 (full 60) m.OpenCurly tokens ≡ up_to m.CloseCurly (made_dict 60) (no_trees, tokens)
unfolding marked_atom pair_row
curly_empty tokens c =
    ap (λ z. z >>= up_to m.CloseCurly (made_dict 60)) (fixed_pair_row 60 (omega arith) tokens
    ∙ if_false (begins tokens) (pairs 60 (full 60) tokens >>= if_mark m.Comma) (Some (no_trees, tokens)) c)

-- ---- suffixes

suffixes_shrink : Shrinks (marked suffix_of) (suffix 60 (full 60))
suffixes_shrink = suffix_shrinks 60 (omega arith) (full 60) (full_sound 60 (omega arith))

module _ (w : Rung) (fs : List Frame) (a : Held) (tokens : List Sign) (small : 0 < rank (wanted w fs)) where
  suffixed : (o : Suffix) (rest : List Sign) → marked suffix_of tokens ≡ Some (o, rest)
      → more_primary 60 (full 60) (kept_of a) tokens ≡ (suffix 60 (full 60) (kept_of a) o rest >>= rise r.Primary)
  suffixed o rest e = loop_goes (marked suffix_of) (suffix 60 (full 60)) suffixes_shrink (kept_of a) tokens (o, rest) e

  pub suffix_ends : marked suffix_of tokens ≡ None → after w fs r.Atom (kept_of a, tokens) ≡ after w fs r.Primary (kept_of a, tokens)
  suffix_ends e = stays w fs r.Atom (kept_of a, tokens) small (loop_stops (marked suffix_of) (suffix 60 (full 60)) suffixes_shrink (kept_of a) tokens e)

  pub suffix_goes : (o : Suffix) (rest : List Sign) → marked suffix_of tokens ≡ Some (o, rest)
      → after w fs r.Atom (kept_of a, tokens) ≡ (suffix 60 (full 60) (kept_of a) o rest >>= after w fs r.Atom)
  suffix_goes o rest e =
      goes_up w fs r.Atom (kept_of a, tokens) small ∙ ap (λ z. z >>= after w fs r.Primary) (suffixed o rest e)
      ∙ bind_bind (suffix 60 (full 60) (kept_of a) o rest) (rise r.Primary) (after w fs r.Primary)
      ∙ bind_same (suffix 60 (full 60) (kept_of a) o rest) (λ b. rise r.Primary b >>= after w fs r.Primary) (after w fs r.Atom)
      (λ b _. sym (goes_up w fs r.Atom b small))

-- what a suffix makes of a value
module _ (w : Rung) (fs : List Frame) (rest : List Sign) where
  pub attribute_goes : (v : Kept) (x : List ℕ) (more : List Sign) → name_at rest ≡ Some (x, more)
      → (suffix 60 (full 60) v attributed rest >>= after w fs r.Atom) ≡ after w fs r.Atom (attribute_of 60 v x, more)
  unfolding suffix
  attribute_goes v x more n = ap (λ z. z >>= giving (attribute_of 60 v) >>= after w fs r.Atom) n

  pub attribute_fails : (v : Kept) → name_at rest ≡ None → (suffix 60 (full 60) v attributed rest >>= after w fs r.Atom) ≡ None
  unfolding suffix
  attribute_fails v n = ap (λ z. z >>= giving (attribute_of 60 v) >>= after w fs r.Atom) n

  pub index_goes : (a : Held) (s : HeldAll) → all_of s ≡ no_trees
      → (suffix 60 (full 60) (kept_of a) subscripted rest >>= after w fs r.Atom) ≡ before w (fs ++ f.Item (b.Index a) s ∷ []) rest
  unfolding suffix
  index_goes a s same =
      ap (λ z. z >>= after w fs r.Atom)
      (exprs_closed rest (up_to m.CloseSquare (made_of_two 60 t.item place (kept_of a))) ∙ bracketed (b.Index a) s rest same)
      ∙ sym (waits_more w fs (f.Item (b.Index a) s) rest)

  pub call_goes : (a : Held) (s : HeldAll) → all_of s ≡ no_trees → begins rest ≡ true
      → (suffix 60 (full 60) (kept_of a) called rest >>= after w fs r.Atom) ≡ before w (fs ++ f.Item (b.Call a) s ∷ []) rest
  unfolding suffix
  call_goes a s same c =
      ap (λ z. z >>= after w fs r.Atom) (row_closed (b.Call a) rest (up_to m.Close (made_call 60 (kept_of a))) c ∙ bracketed (b.Call a) s rest same)
      ∙ sym (waits_more w fs (f.Item (b.Call a) s) rest)

  pub call_closes : (v : Kept) (more : List Sign) → begins rest ≡ false → mark_at m.Close rest ≡ Some more
      → (suffix 60 (full 60) v called rest >>= after w fs r.Atom) ≡ after w fs r.Atom (made_call 60 v no_trees, more)
  unfolding suffix
  call_closes v more c n =
      ap (λ z. z >>= up_to m.Close (made_call 60 v) >>= after w fs r.Atom) (row_empty rest c)
      ∙ ap (λ z. z >>= (λ after. Some (made_call 60 v no_trees, after)) >>= after w fs r.Atom) n

  pub call_fails : (v : Kept) → begins rest ≡ false → mark_at m.Close rest ≡ None → (suffix 60 (full 60) v called rest >>= after w fs r.Atom) ≡ None
  unfolding suffix
  call_fails v c n =
      ap (λ z. z >>= up_to m.Close (made_call 60 v) >>= after w fs r.Atom) (row_empty rest c)
      ∙ ap (λ z. z >>= (λ after. Some (made_call 60 v no_trees, after)) >>= after w fs r.Atom) n

-- ---- where one that waits gets its phrase

module _ (w : Rung) (fs : List Frame) where
  -- another waits in its place
  pub turns_to : (x y : Frame) (a : Read) (tokens : List Sign) → gives y ≡ gives x
      → turn x a ≡ (phrase (waits y) tokens >>= turn y) → (turn x a >>= after w fs (gives x)) ≡ before w (fs ++ y ∷ []) tokens
  turns_to x y a tokens g e =
      ap (λ z. z >>= after w fs (gives x)) e ∙ ap (λ l. phrase (waits y) tokens >>= turn y >>= after w fs l) (sym g)
      ∙ sym (waits_more w fs y tokens)

  module _ (tokens : List Sign) (s : HeldAll) where
    pub list_goes : (d : Brackets) (rest : List Sign) → next_at tokens ≡ Some (tt, rest)
        → (listed d (all_of s, tokens) >>= after w fs r.Atom) ≡ before w (fs ++ f.Item d s ∷ []) rest
    list_goes d rest e =
        ap (λ z. z >>= after w fs r.Atom)
        (ap (λ z. z >>= closed d) (items_more (all_of s) tokens rest e)
        ∙ bind_bind (phrase r.Expr rest) (λ b. more_items 60 (full 60) (push_kept (all_of s) b.0) b.1) (closed d))
        ∙ sym (waits_more w fs (f.Item d s) rest)

    pub list_ends : (d : Brackets) → next_at tokens ≡ None
        → (listed d (all_of s, tokens) >>= after w fs r.Atom) ≡ (closed d (all_of s, tokens) >>= after w fs r.Atom)
    list_ends d e = ap (λ z. z >>= closed d >>= after w fs r.Atom) (items_stop (all_of s) tokens e)

    pub pairs_go : (rest : List Sign) → next_at tokens ≡ Some (tt, rest)
        → (closed_pairs (all_of s, tokens) >>= after w fs r.Atom) ≡ before w (fs ++ f.Key s ∷ []) rest
    pairs_go rest e =
        ap (λ z. z >>= after w fs r.Atom) (pairs_more s (all_of s) tokens rest refl e) ∙ sym (waits_more w fs (f.Key s) rest)

    pub pairs_end : next_at tokens ≡ None
        → (closed_pairs (all_of s, tokens) >>= after w fs r.Atom) ≡ (pairs_ended (all_of s, tokens) >>= after w fs r.Atom)
    pairs_end e = ap (λ z. z >>= after w fs r.Atom) (pairs_stop (all_of s) tokens e)

  module _ (a : Held) (tokens : List Sign) (s : HeldAll) where
    pub key_goes : (rest : List Sign) → mark_at m.Colon tokens ≡ Some rest
        → (turn (f.Key s) (kept_of a, tokens) >>= after w fs r.Atom) ≡ before w (fs ++ f.Value s a ∷ []) rest
    key_goes rest e =
        turns_to (f.Key s) (f.Value s a) (kept_of a, tokens) rest refl
        (ap (λ z. z >>= λ rest. phrase r.Expr rest >>= giving (push_kept (push_kept (all_of s) (kept_of a))) >>= closed_pairs) e
        ∙ bind_bind (phrase r.Expr rest) (giving (push_kept (push_kept (all_of s) (kept_of a)))) closed_pairs)

    pub key_fails : mark_at m.Colon tokens ≡ None → (turn (f.Key s) (kept_of a, tokens) >>= after w fs r.Atom) ≡ None
    key_fails e =
        ap (λ z. z >>= (λ rest. phrase r.Expr rest >>= giving (push_kept (push_kept (all_of s) (kept_of a))) >>= closed_pairs) >>= after w fs r.Atom) e

-- ---- closing brackets

if_comma : (s : KeptAll) (tokens : List Sign) → if_mark m.Comma (s, tokens) ≡ Some (s, past_comma tokens)
if_comma s tokens = if_past (mark_at m.Comma tokens) s tokens

pub closes : (k : Mark) (f : KeptAll → Kept) (s : KeptAll) (tokens rest : List Sign) → mark_at k (past_comma tokens) ≡ Some rest
    → (if_mark m.Comma (s, tokens) >>= up_to k f) ≡ Some (f s, rest)
closes k f s tokens rest e = ap (λ z. z >>= up_to k f) (if_comma s tokens) ∙ ap (λ z. z >>= λ after. Some (f s, after)) e

pub closes_not : (k : Mark) (f : KeptAll → Kept) (s : KeptAll) (tokens : List Sign) → mark_at k (past_comma tokens) ≡ None
    → (if_mark m.Comma (s, tokens) >>= up_to k f) ≡ None
closes_not k f s tokens e = ap (λ z. z >>= up_to k f) (if_comma s tokens) ∙ ap (λ z. z >>= λ after. Some (f s, after)) e

-- ---- what is read on after brackets

module _ (w : Rung) (fs : List Frame) (tokens : List Sign) where
  pub round_after : (s : HeldAll) → all_of s ≡ no_trees → mark_at m.Close tokens ≡ None
      → (marked_atom 60 (full 60) m.Open tokens >>= after w fs r.Atom) ≡ before w (fs ++ f.Item b.Round s ∷ []) tokens
  round_after s e c = ap (λ z. z >>= after w fs r.Atom) (round_opens s tokens e c) ∙ sym (waits_more w fs (f.Item b.Round s) tokens)

  pub round_empty_after : (rest : List Sign) → mark_at m.Close tokens ≡ Some rest
      → (marked_atom 60 (full 60) m.Open tokens >>= after w fs r.Atom) ≡ after w fs r.Atom (leaf (t.tuple t.none), rest)
  round_empty_after rest c = ap (λ z. z >>= after w fs r.Atom) (round_empty tokens rest c)

  pub square_after : (s : HeldAll) → all_of s ≡ no_trees → begins tokens ≡ true
      → (marked_atom 60 (full 60) m.OpenSquare tokens >>= after w fs r.Atom) ≡ before w (fs ++ f.Item b.Square s ∷ []) tokens
  square_after s e c = ap (λ z. z >>= after w fs r.Atom) (square_opens s tokens e c) ∙ sym (waits_more w fs (f.Item b.Square s) tokens)

  pub square_empty_after : (rest : List Sign) → begins tokens ≡ false → mark_at m.CloseSquare tokens ≡ Some rest
      → (marked_atom 60 (full 60) m.OpenSquare tokens >>= after w fs r.Atom) ≡ after w fs r.Atom (made_list 60 no_trees, rest)
  square_empty_after rest c e = ap (λ z. z >>= after w fs r.Atom) (square_empty tokens c ∙ ap (λ z. z >>= λ after. Some (made_list 60 no_trees, after)) e)

  pub square_fails : begins tokens ≡ false → mark_at m.CloseSquare tokens ≡ None
      → (marked_atom 60 (full 60) m.OpenSquare tokens >>= after w fs r.Atom) ≡ None
  square_fails c e = ap (λ z. z >>= after w fs r.Atom) (square_empty tokens c ∙ ap (λ z. z >>= λ after. Some (made_list 60 no_trees, after)) e)

  pub curly_after : (s : HeldAll) → all_of s ≡ no_trees → begins tokens ≡ true
      → (marked_atom 60 (full 60) m.OpenCurly tokens >>= after w fs r.Atom) ≡ before w (fs ++ f.Key s ∷ []) tokens
  curly_after s e c = ap (λ z. z >>= after w fs r.Atom) (curly_opens s tokens e c) ∙ sym (waits_more w fs (f.Key s) tokens)

  pub curly_empty_after : (rest : List Sign) → begins tokens ≡ false → mark_at m.CloseCurly tokens ≡ Some rest
      → (marked_atom 60 (full 60) m.OpenCurly tokens >>= after w fs r.Atom) ≡ after w fs r.Atom (made_dict 60 no_trees, rest)
  curly_empty_after rest c e = ap (λ z. z >>= after w fs r.Atom) (curly_empty tokens c ∙ ap (λ z. z >>= λ after. Some (made_dict 60 no_trees, after)) e)

  pub curly_fails : begins tokens ≡ false → mark_at m.CloseCurly tokens ≡ None
      → (marked_atom 60 (full 60) m.OpenCurly tokens >>= after w fs r.Atom) ≡ None
  curly_fails c e = ap (λ z. z >>= after w fs r.Atom) (curly_empty tokens c ∙ ap (λ z. z >>= λ after. Some (made_dict 60 no_trees, after)) e)
