-- Simple statements, one or several, are read where they are spelled, and only there.
use Rattle.std.proofs.Common.{◌≡◌, ℕ, ◌≤◌, ◌<◌, true, false, if◌then◌else◌, List, [], ◌∷◌, ◌++◌, length, Option, Some, None, option_map}
use Rattle.std.proofs.Common.{refl, sym, ap, ◌∙◌, arith, length-append, append_assoc, inl, inr}
use Rattle.std.proofs.lemmas.List.{append-nil}
use Rattle.py_ast.specs.Tree.{Trees}
use Rattle.py_ast.specs.Statement as stmt
use Rattle.py_ast.specs.Statement.{Statement}
use Rattle.py_grammar.specs.Grammar.{Expr, Exprs}
use Rattle.py_grammar.specs.Line as l
use Rattle.py_grammar.specs.Line.{Lefts, Simple, SomeSimples, Simples}
use Rattle.py_grammar.specs.Kept.{kept}
use Rattle.py_grammar.specs.Reading.{Reader, ◌>>=◌, on, giving, mark_at, marked, mark_begins, begins, if_mark, expr, exprs, nested, Inside}
use Rattle.py_grammar.specs.LineReading.{Word, word_of, is_empty, next_simple_at, with_simple, keep_simple, keep_simples, unmarked, worded}
use Rattle.py_grammar.specs.LineReading.{simple, simples_turn, more_simples, simples}
use Rattle.py_grammar.specs.declared.mark.Mark.{Mark}
use Rattle.py_grammar.specs.declared.mark.Mark.TheVariants as m
use Rattle.py_grammar.specs.declared.sign.Sign.{Sign}
use Rattle.py_grammar.specs.declared.sign.Sign.TheVariants.{Name, Number, Text, Mark as The, Other}
use Rattle.py_grammar.proofs.Steps.{some_is, bind_ok, bind_bind, on_ok, if_ok, Shrinks, loop_goes, loop_stops}
use Rattle.py_grammar.proofs.Marks.{mark_is, marked_is}
use Rattle.py_grammar.proofs.Targets.{place_spelled, targets_placed}
use Rattle.py_grammar.proofs.KeptLines.{map_tree, simples_kept, no_simples_kept}
use Rattle.py_grammar.proofs.Takes.{Spelled, Takes, Sound, Anything, sound_shorter, after_mark, giving_sound, if_mark_sound, Turns}
use Rattle.py_grammar.proofs.Takes.{level_sound}
use Rattle.py_grammar.proofs.Follow.{phrase_begins}
use Rattle.py_grammar.proofs.Exact.{expr_read, exprs_read}
use Rattle.py_grammar.proofs.LineParts.{OfSimple, OfSimples}
use Rattle.py_grammar.proofs.TargetReading.{targets_read}
use Rattle.py_grammar.proofs.AssignReading.{EndsHere, ends_at_end, ends_at_semicolon, unmarked_sound, expression_read, assignment_read}
use Rattle.py_grammar.proofs.AssignReading.{augmented_read}
use Rattle.py_grammar.proofs.WordReading.{mark_of, word_is, worded_sound, kept_at_zero, nothing_read, value_read, named_read, asserted_read}
use Rattle.py_grammar.proofs.WordReading.{message_read}

-- ---- what stands first in a statement

no_word : (k : Mark) → mark_begins k ≡ true → word_of k ≡ None
no_word m.Pass e = cc
no_word m.Break e = cc
no_word m.Continue e = cc
no_word m.Return e = cc
no_word m.Raise e = cc
no_word m.Global e = cc
no_word m.Nonlocal e = cc
no_word m.Del e = cc
no_word m.Assert e = cc
no_word _ e = refl

-- no mark that stands for something begins an expression
pub begins_not : {A : Type 0} (f : Mark → Option A) → ((k : Mark) → mark_begins k ≡ true → f k ≡ None) → (tokens : List Sign)
    → begins tokens ≡ true → marked f tokens ≡ None
begins_not f h [] e = cc
begins_not f h (Name x ∷ rest) e = refl
begins_not f h (Number n ∷ rest) e = refl
begins_not f h (Text x ∷ rest) e = refl
begins_not f h (The k ∷ rest) e = ap (λ z. z >>= λ o. Some (o, rest)) (h k e)
begins_not f h (Other ∷ rest) e = cc

pub begins_at_front : (xs ys rest : List Sign) → begins (xs ++ (ys ++ rest)) ≡ true → begins ((xs ++ ys) ++ rest) ≡ true
begins_at_front xs ys rest e = ap begins (append_assoc xs ys rest) ∙ e

pub lefts_begin : {xs : List Sign} {ts : Trees} → Lefts xs ts → (rest : List Sign) → begins (xs ++ rest) ≡ true
lefts_begin (l.one_left {xs} x) rest = let p = targets_placed x in
    begins_at_front xs (The m.Equals ∷ []) rest (phrase_begins p.spells (The m.Equals ∷ rest))
lefts_begin (l.and_left {xs} {ys} h x) rest =
    begins_at_front xs (ys ++ The m.Equals ∷ []) rest (lefts_begin h ((ys ++ The m.Equals ∷ []) ++ rest))

-- what is not empty with anything behind it
begins_some : (tokens : List Sign) → begins tokens ≡ true → is_empty tokens ≡ false
begins_some [] e = cc
begins_some (x ∷ rest) e = refl

pub simple_some : {xs : List Sign} {x : Statement} → Simple xs x → (rest : List Sign) → is_empty (xs ++ rest) ≡ false
simple_some (l.expression {xs} s) rest = begins_some (xs ++ rest) (phrase_begins s rest)
simple_some (l.assignment {xs} {ys} h s) rest = begins_some ((xs ++ ys) ++ rest) (begins_at_front xs ys rest (lefts_begin h (ys ++ rest)))
simple_some (l.augmented {xs} {ys} {k} x y s) rest =
    begins_some ((xs ++ The k ∷ ys) ++ rest) (begins_at_front xs (The k ∷ ys) rest (phrase_begins (place_spelled x) (The k ∷ ys ++ rest)))
simple_some l.pass rest = refl
simple_some l.break rest = refl
simple_some l.continue rest = refl
simple_some l.return rest = refl
simple_some (l.return_value s) rest = refl
simple_some l.raise rest = refl
simple_some (l.raise_value s) rest = refl
simple_some (l.global s) rest = refl
simple_some (l.nonlocal s) rest = refl
simple_some (l.delete x) rest = refl
simple_some (l.assert s) rest = refl
simple_some (l.assert_message s r) rest = refl

-- a semicolon with something behind it
next_simple_is : (tokens : List Sign) (o : Unit {0} × List Sign) → next_simple_at tokens ≡ Some o → tokens ≡ The m.Semicolon ∷ o.1
next_simple_is tokens o e =
    let b = bind_ok (mark_at m.Semicolon tokens) (λ rest. if is_empty rest then None else Some (tt, rest)) o e in
    elim (if_ok (is_empty b.0) None (Some (tt, b.0)) o b.2) [
      | inl p ↦ cc
      | inr p ↦ mark_is m.Semicolon tokens b.0 b.1 ∙ ap (λ o. The m.Semicolon ∷ o.1) (some_is p.1)
    ]

module _ (most : ℕ) where
  abbrev OfSomeSimples : List Sign → Option (List Statement) → Type 0
  OfSomeSimples = Spelled SomeSimples (keep_simples most)

  one_kept : (x : Statement) → keep_simples most (x ∷ []) ≡ with_simple (Some []) (keep_simple most x)
  one_kept x = sym (simples_kept most [] x) ∙ ap (λ z. with_simple z (keep_simple most x)) (sym (no_simples_kept most))

  one_of : (xs : List Sign) (v : Option Statement) → OfSimple most xs v → OfSomeSimples xs (with_simple (Some []) v)
  one_of xs v s = record { tree = s.tree ∷ []; spells = l.one_simple s.spells; kept = one_kept s.tree ∙ ap (with_simple (Some [])) s.kept }

  more_of : (before xs : List Sign) (v : Option (List Statement)) (w : Option Statement) → OfSomeSimples before v → OfSimple most xs w
      → OfSomeSimples (before ++ The m.Semicolon ∷ xs) (with_simple v w)
  more_of before xs v w s y = record {
    tree = s.tree ++ y.tree ∷ [];
    spells = l.and_simple s.spells y.spells;
    kept = sym (simples_kept most s.tree y.tree) ∙ ap (λ z. with_simple z (keep_simple most y.tree)) s.kept ∙ ap (with_simple v) y.kept;
  }

module _ (most : ℕ) (some : 0 < most) (n : ℕ) where
  abbrev inside : Inside
  inside = nested most n

  -- ---- what is read is spelled

  after_word : (tokens : List Sign) (w : Word × List Sign) (r : Option Statement × List Sign) → marked word_of tokens ≡ Some w
      → worded most inside w.0 w.1 ≡ Some r → Takes (OfSimple most) tokens r
  after_word tokens w r ew e =
      let k = marked_is word_of tokens w ew in
      after_mark (OfSimple most) (mark_of w.0) tokens w.1 r (k.1 ∙ ap (λ k. The k ∷ w.1) (word_is k.0 w.0 k.2))
      (worded_sound most some n w.0 w.1 r e)

  pub simple_sound : Sound (OfSimple most) (simple most inside)
  unfolding simple
  simple_sound tokens r e =
      elim (on_ok (marked word_of tokens) (unmarked most inside tokens) (λ w. worded most inside w.0 w.1) (Some r) e) [
        | inl p ↦ unmarked_sound most some n tokens r p.1
        | inr p ↦ after_word tokens p.0 r p.1 p.2
      ]

  simples_turns : Turns (OfSomeSimples most) next_simple_at (simples_turn most inside)
  unfolding simples_turn
  simples_turns before v tokens o r s eo e =
      after_mark (λ xs w. OfSomeSimples most (before ++ xs) w) m.Semicolon tokens o.1 r (next_simple_is tokens o eo)
      (giving_sound (OfSimple most) (λ xs w. OfSomeSimples most (before ++ The m.Semicolon ∷ xs) w) (simple most inside) simple_sound
      (with_simple v)
      (λ xs w y. more_of most before xs v w s y) o.1 r e)

  pub simples_shrink : Shrinks next_simple_at (simples_turn most inside)
  unfolding simples_turn
  simples_shrink = record {
    operators = λ tokens o e. rw (next_simple_is tokens o e) (omega arith);
    turns = λ v o tokens r e.
        sound_shorter Anything (λ tokens. simple most inside tokens >>= giving (with_simple v))
        (giving_sound (OfSimple most) Anything (simple most inside) simple_sound (with_simple v) (λ xs w y. tt)) tokens r e;
  }

  -- the statements, without what may follow them
  abbrev first_simples : Reader (Option (List Statement))
  first_simples tokens = simple most inside tokens >>= λ x. more_simples most inside (with_simple (Some []) x.0) x.1

  first_simples_sound : Sound (OfSomeSimples most) first_simples
  first_simples_sound =
      level_sound (OfSomeSimples most) next_simple_at (simples_turn most inside) simples_turns (OfSimple most) (simple most inside)
      (with_simple (Some []))
      simple_sound (one_of most)

  simples_as : (tokens : List Sign) → simples most inside tokens ≡ (first_simples tokens >>= if_mark m.Semicolon)
  unfolding simples
  simples_as tokens =
      sym (bind_bind (simple most inside tokens) (λ x. more_simples most inside (with_simple (Some []) x.0) x.1) (if_mark m.Semicolon))

  pub simples_sound : Sound (OfSimples most) (simples most inside)
  simples_sound tokens r e =
      if_mark_sound (OfSomeSimples most) (OfSimples most) first_simples first_simples_sound m.Semicolon
      (λ xs v s. record { tree = s.tree; spells = l.some_simples s.spells; kept = s.kept })
      (λ xs v s. record { tree = s.tree; spells = l.simples_and_semicolon s.spells; kept = s.kept })
      tokens r (sym (simples_as tokens) ∙ e)

  -- ---- what is spelled is read

  -- a statement that begins with an expression
  unmarked_front : (tokens : List Sign) (r : Option (Option Statement × List Sign)) → begins tokens ≡ true
      → unmarked most inside tokens ≡ r → simple most inside tokens ≡ r
  unfolding simple
  unmarked_front tokens r b e =
      ap (λ z. on z (unmarked most inside tokens) (λ w. worded most inside w.0 w.1)) (begins_not word_of no_word tokens b) ∙ e

  pub simple_read : {xs : List Sign} {x : Statement} → Simple xs x → (rest : List Sign) → length xs ≤ n → EndsHere rest
      → simple most inside (xs ++ rest) ≡ Some (keep_simple most x, rest)
  unfolding simple worded
  simple_read (l.expression {xs} {a} s) rest small h =
      unmarked_front (xs ++ rest) (Some (keep_simple most (stmt.expression a), rest)) (phrase_begins s rest)
      (expression_read most some n s rest small h)
  simple_read (l.assignment {xs} {ys} {ts} {a} x s) rest small h =
      unmarked_front ((xs ++ ys) ++ rest) (Some (keep_simple most (stmt.assign ts a), rest))
      (begins_at_front xs ys rest (lefts_begin x (ys ++ rest))) (assignment_read most some n x s rest small h)
  simple_read (l.augmented {xs} {ys} {k} {o} {p} {a} x y s) rest small h =
      unmarked_front ((xs ++ The k ∷ ys) ++ rest) (Some (keep_simple most (stmt.augment p o a), rest))
      (begins_at_front xs (The k ∷ ys) rest (phrase_begins (place_spelled x) (The k ∷ ys ++ rest)))
      (augmented_read most some n x y s rest small h)
  simple_read l.pass rest small h = ap (λ z. Some (z, rest)) (kept_at_zero most stmt.pass refl)
  simple_read l.break rest small h = ap (λ z. Some (z, rest)) (kept_at_zero most stmt.break refl)
  simple_read l.continue rest small h = ap (λ z. Some (z, rest)) (kept_at_zero most stmt.continue refl)
  simple_read l.return rest small h = nothing_read most some n (exprs most inside) stmt.return rest refl h.begins_none
  simple_read (l.return_value {xs} {a} s) rest small h =
      value_read most some n Exprs (exprs most inside) stmt.return xs rest a refl s (exprs_read most some n s rest (omega arith) h.follows)
  simple_read l.raise rest small h = nothing_read most some n (expr most inside) stmt.raise rest refl h.begins_none
  simple_read (l.raise_value {xs} {a} s) rest small h =
      let ends = h.follows in
      value_read most some n Expr (expr most inside) stmt.raise xs rest a refl s (expr_read most some n s rest (omega arith) (omega arith))
  simple_read (l.global {xs} {names = found} s) rest small h = named_read most some n stmt.global xs found rest refl s h.no_comma
  simple_read (l.nonlocal {xs} {names = found} s) rest small h = named_read most some n stmt.nonlocal xs found rest refl s h.no_comma
  simple_read (l.delete {xs} {a} x) rest small h =
      let ends = h.follows in
      ap (λ z. z >>= giving (λ a. option_map stmt.delete (kept a)))
      (targets_read most some n x rest (omega arith) (omega arith) h.begins_none h.no_comma)
      ∙ ap (λ z. Some (z, rest)) (map_tree most stmt.delete a)
  simple_read (l.assert s) rest small h = asserted_read most some n s rest (omega arith) h
  simple_read (l.assert_message s r) rest small h = message_read most some n s r rest (omega arith) h

  some_simples_read : {xs : List Sign} {ss : List Statement} → SomeSimples xs ss → (rest : List Sign) → length xs ≤ n → EndsHere rest
      → first_simples (xs ++ rest) ≡ more_simples most inside (keep_simples most ss) rest
  unfolding simples_turn
  some_simples_read (l.one_simple {xs} {x} s) rest small h =
      ap (λ z. z >>= λ x. more_simples most inside (with_simple (Some []) x.0) x.1) (simple_read s rest small h)
      ∙ ap (λ z. more_simples most inside z rest) (sym (one_kept most x))
  some_simples_read (l.and_simple {xs} {ys} {x} {before = ss} ps s) rest small h =
      let e = length-append xs (The m.Semicolon ∷ ys) in
      ap first_simples (append_assoc xs (The m.Semicolon ∷ ys) rest)
      ∙ some_simples_read ps (The m.Semicolon ∷ ys ++ rest) (omega arith) (ends_at_semicolon (ys ++ rest))
      ∙ loop_goes next_simple_at (simples_turn most inside) simples_shrink (keep_simples most ss) (The m.Semicolon ∷ ys ++ rest)
      (tt, ys ++ rest)
      (ap (λ b. if b then None else Some (tt, ys ++ rest)) (simple_some s rest))
      ∙ ap (λ z. (z >>= giving (with_simple (keep_simples most ss))) >>= λ r. more_simples most inside r.0 r.1)
      (simple_read s rest (omega arith) h)
      ∙ ap (λ z. more_simples most inside z rest) (simples_kept most ss x)

  -- the statements of a whole line, or of what follows a header
  pub simples_read : {xs : List Sign} {ss : List Statement} → Simples xs ss → length xs ≤ n
      → simples most inside xs ≡ Some (keep_simples most ss, [])
  simples_read (l.some_simples {xs} {statements = ss} p) small =
      ap (simples most inside) (sym (append-nil xs))
      ∙ simples_as (xs ++ [])
      ∙ ap (λ z. z >>= if_mark m.Semicolon)
      (some_simples_read p [] small ends_at_end
      ∙ loop_stops next_simple_at (simples_turn most inside) simples_shrink (keep_simples most ss) [] refl)
  simples_read (l.simples_and_semicolon {xs} {statements = ss} p) small =
      let e = length-append xs (The m.Semicolon ∷ []) in
      simples_as (xs ++ The m.Semicolon ∷ [])
      ∙ ap (λ z. z >>= if_mark m.Semicolon)
      (some_simples_read p (The m.Semicolon ∷ []) (omega arith) (ends_at_semicolon [])
      ∙ loop_stops next_simple_at (simples_turn most inside) simples_shrink (keep_simples most ss) (The m.Semicolon ∷ []) refl)
