-- Statements that begin with a word are read where they are spelled, and only there.
use Rattle.std.proofs.Common.{◌≡◌, ℕ, ◌≤◌, ◌<◌, false, if◌then◌else◌, List, [], ◌∷◌, ◌++◌, length, Option, Some, None, option_map, refl}
use Rattle.std.proofs.Common.{sym, ap, ◌∙◌, subst, arith, length-append, append_assoc, inl, inr}
use Rattle.std.proofs.lemmas.List.{append-nil}
use Rattle.py_ast.specs.Tree.{Tree, depth}
use Rattle.py_ast.specs.Statement as stmt
use Rattle.py_ast.specs.Statement.{Statement}
use Rattle.py_grammar.specs.Grammar.{Level, Expr, Exprs, Spells}
use Rattle.py_grammar.specs.Line as l
use Rattle.py_grammar.specs.Line.{Names, Simple, simple_depth}
use Rattle.py_grammar.specs.Kept.{Kept, keep, kept}
use Rattle.py_grammar.specs.Reading.{Reader, ◌>>=◌, on, giving, mark_at, name_at, begins, expr, exprs, nested, Inside}
use Rattle.py_grammar.specs.LineReading.{Word, pass, break, continue, return, raise, global, nonlocal, delete, assert, word_of, maybe}
use Rattle.py_grammar.specs.LineReading.{comma_at, name_turn, more_names, names, asserted, asserted_with, keep_simple, targets, worded}
use Rattle.py_grammar.specs.declared.mark.Mark.{Mark}
use Rattle.py_grammar.specs.declared.mark.Mark.TheVariants as m
use Rattle.py_grammar.specs.declared.sign.Sign.{Sign}
use Rattle.py_grammar.specs.declared.sign.Sign.TheVariants.{Name, Mark as The}
use Rattle.py_grammar.proofs.Steps.{some_is, bind_ok, on_ok, if_ok, Shrinks, loop_goes, loop_stops}
use Rattle.py_grammar.proofs.Marks.{mark_is, name_is}
use Rattle.py_grammar.proofs.KeptLines.{up_to_depth, below_is, map_tree, both_trees}
use Rattle.py_grammar.proofs.Takes.{Takes, Sound, takes_none, after_mark, joined_with, giving_sound, Turns, level_sound}
use Rattle.py_grammar.proofs.Phrases.{OfLevel}
use Rattle.py_grammar.proofs.Follow.{phrase_begins}
use Rattle.py_grammar.proofs.Exact.{expr_read}
use Rattle.py_grammar.proofs.LineParts.{OfTargets, OfSimple, expr_nested, exprs_nested}
use Rattle.py_grammar.proofs.TargetReading.{targets_sound}
use Rattle.py_grammar.proofs.AssignReading.{EndsHere}

-- ---- words

abbrev pub mark_of : Word → Mark
mark_of pass = m.Pass
mark_of break = m.Break
mark_of continue = m.Continue
mark_of return = m.Return
mark_of raise = m.Raise
mark_of global = m.Global
mark_of nonlocal = m.Nonlocal
mark_of delete = m.Del
mark_of assert = m.Assert

pub word_is : (k : Mark) (w : Word) → word_of k ≡ Some w → k ≡ mark_of w
word_is m.Pass w e = ap mark_of (some_is e)
word_is m.Break w e = ap mark_of (some_is e)
word_is m.Continue w e = ap mark_of (some_is e)
word_is m.Return w e = ap mark_of (some_is e)
word_is m.Raise w e = ap mark_of (some_is e)
word_is m.Global w e = ap mark_of (some_is e)
word_is m.Nonlocal w e = ap mark_of (some_is e)
word_is m.Del w e = ap mark_of (some_is e)
word_is m.Assert w e = ap mark_of (some_is e)
word_is _ w e = cc

-- ---- names

pub comma_is : (tokens : List Sign) (o : Unit {0} × List Sign) → comma_at tokens ≡ Some o → tokens ≡ The m.Comma ∷ o.1
comma_is tokens o e =
    let b = bind_ok (mark_at m.Comma tokens) (λ rest. Some (tt, rest)) o e in
    mark_is m.Comma tokens b.0 b.1 ∙ ap (λ o. The m.Comma ∷ o.1) (some_is b.2)

name_less : (names : List (List ℕ)) (tokens : List Sign) (r : List (List ℕ) × List Sign) → name_turn names tt tokens ≡ Some r
    → length r.1 ≤ length tokens
name_less names tokens r e =
    let x = bind_ok (name_at tokens) (giving (λ x. names ++ x ∷ [])) r e in
    let i = name_is tokens x.0 x.1 in
    let f : x.0.1 ≡ r.1 = ap (λ z. z.1) (some_is x.2) in
    rw (i, f) (omega arith)

pub names_shrink : Shrinks comma_at name_turn
names_shrink =
    record { operators = λ tokens o e. rw (comma_is tokens o e) (omega arith); turns = λ names o tokens r e. name_less names tokens r e }

abbrev IsName : List Sign → List ℕ → Type 0
IsName xs x = xs ≡ Name x ∷ []

name_sound : Sound IsName name_at
name_sound tokens r e = record { phrase = Name r.0 ∷ []; is = refl; whole = name_is tokens r e }

names_turns : Turns Names comma_at name_turn
names_turns before names tokens o r s eo e =
    after_mark (λ xs v. Names (before ++ xs) v) m.Comma tokens o.1 r (comma_is tokens o eo)
    (giving_sound IsName (λ xs v. Names (before ++ The m.Comma ∷ xs) v) name_at name_sound (λ x. names ++ x ∷ [])
    (λ xs x y. subst (λ z. Names (before ++ The m.Comma ∷ z) (names ++ x ∷ [])) (sym y) (l.and_name s x)) o.1 r e)

pub names_sound : Sound Names names
unfolding names
names_sound =
    level_sound Names comma_at name_turn names_turns IsName name_at (λ x. x ∷ []) name_sound
    (λ xs x y. subst (λ z. Names z (x ∷ [])) (sym y) l.one_name)

names_to : {xs : List Sign} {found : List (List ℕ)} → Names xs found → (rest : List Sign) → names (xs ++ rest) ≡ more_names found rest
unfolding names
names_to l.one_name rest = refl
names_to (l.and_name {xs} {names = found} s x) rest =
    ap names (append_assoc xs (The m.Comma ∷ Name x ∷ []) rest)
    ∙ names_to s (The m.Comma ∷ Name x ∷ rest)
    ∙ loop_goes comma_at name_turn names_shrink found (The m.Comma ∷ Name x ∷ rest) (tt, Name x ∷ rest) refl

pub names_read : {xs : List Sign} {found : List (List ℕ)} → Names xs found → (rest : List Sign) → mark_at m.Comma rest ≡ None
    → names (xs ++ rest) ≡ Some (found, rest)
names_read {found = found} s rest e =
    names_to s rest ∙ loop_stops comma_at name_turn names_shrink found rest (ap (λ z. z >>= λ rest. Some (tt, rest)) e)

-- ---- words and what follows them

-- what a word and the signs after it spell
abbrev pub AfterWord : ℕ → Word → List Sign → Option Statement → Type 0
AfterWord most w xs v = OfSimple most (The (mark_of w) ∷ xs) v

module _ (most : ℕ) where
  pub kept_at_zero : (x : Statement) → simple_depth x ≡ 0 → Some x ≡ keep_simple most x
  kept_at_zero x d = sym (below_is most (simple_depth x) x (omega arith))

  -- a word alone
  alone_sound : (w : Word) (x : Statement) (tokens : List Sign) (r : Option Statement × List Sign) → simple_depth x ≡ 0
      → Simple (The (mark_of w) ∷ []) x → Some (Some x, tokens) ≡ Some r
      → Takes (AfterWord most w) tokens r
  alone_sound w x tokens r d s e =
      takes_none (AfterWord most w) (Some x) tokens r (record { tree = x; spells = s; kept = sym (kept_at_zero x d) }) e

  maybe_sound : (w : Word) (level : Level) (reader : Reader Kept) (f : Option Tree → Statement) → Sound (OfLevel most level) reader
      → simple_depth (f None) ≡ 0 → ((a : Tree) → simple_depth (f (Some a)) ≡ depth a) → Simple (The (mark_of w) ∷ []) (f None)
      → ((xs : List Sign) (a : Tree) → Spells level xs a → Simple (The (mark_of w) ∷ xs) (f (Some a)))
      → Sound (AfterWord most w) (maybe reader f)
  maybe_sound w level reader f sound d ds s ss tokens r e =
      elim (if_ok (begins tokens) (reader tokens >>= giving (λ a. option_map (λ a. f (Some a)) (kept a)))
      (Some (Some (f None), tokens)) r e) [
        | inl p ↦
            giving_sound (OfLevel most level) (AfterWord most w) reader sound (λ a. option_map (λ a. f (Some a)) (kept a))
            (λ xs v y. record {
              tree = f (Some y.tree);
              spells = ss xs y.tree y.spells;
              kept =
                  ap (λ d. up_to_depth most d (f (Some y.tree))) (ds y.tree) ∙ sym (map_tree most (λ a. f (Some a)) y.tree)
                  ∙ ap (λ z. option_map (λ a. f (Some a)) (kept z)) y.kept;
            }) tokens r p.1
        | inr p ↦ alone_sound w (f None) tokens r d s p.1
      ]

  names_after : (w : Word) (f : List (List ℕ) → Statement) → ((names : List (List ℕ)) → simple_depth (f names) ≡ 0)
      → ((xs : List Sign) (names : List (List ℕ)) → Names xs names → Simple (The (mark_of w) ∷ xs) (f names))
      → Sound (AfterWord most w) (λ tokens. names tokens >>= giving (λ names. Some (f names)))
  names_after w f d lift =
      giving_sound Names (AfterWord most w) names names_sound (λ names. Some (f names))
      (λ xs found y. record { tree = f found; spells = lift xs found y; kept = sym (kept_at_zero (f found) (d found)) })

  deleted : (xs : List Sign) (v : Kept) → OfTargets most xs v → AfterWord most delete xs (option_map stmt.delete (kept v))
  deleted xs v y =
      record {
        tree = stmt.delete y.tree;
        spells = l.delete y.spells;
        kept =
            sym (map_tree most stmt.delete y.tree) ∙ ap (λ z. option_map stmt.delete (kept z)) y.kept;
      }

  assert_kept : (a : Tree) → asserted (keep most a) ≡ keep_simple most (stmt.assert a None)
  assert_kept a = map_tree most (λ a. stmt.assert a None) a ∙ ap (λ d. up_to_depth most d (stmt.assert a None)) (omega arith)

  asserted_of : (xs : List Sign) (v : Kept) → OfLevel most Expr xs v → AfterWord most assert xs (asserted v)
  asserted_of xs v y =
      record { tree = stmt.assert y.tree None; spells = l.assert y.spells; kept = sym (assert_kept y.tree) ∙ ap asserted y.kept }

  message_of : (before xs : List Sign) (v w : Kept) → OfLevel most Expr before v → OfLevel most Expr xs w
      → AfterWord most assert (before ++ (The m.Comma ∷ xs)) (asserted_with v w)
  message_of before xs v w s y = record {
    tree = stmt.assert s.tree (Some y.tree);
    spells = l.assert_message s.spells y.spells;
    kept =
        sym (both_trees most (λ a message. stmt.assert a (Some message)) s.tree y.tree)
        ∙ ap (λ z. asserted_with z (keep most y.tree)) s.kept ∙ ap (asserted_with v) y.kept;
  }

module _ (most : ℕ) (some : 0 < most) (n : ℕ) where
  abbrev inside : Inside
  inside = nested most n

  -- ---- what is read is spelled

  abbrev message_after : Kept × List Sign → Option (Option Statement × List Sign)
  message_after a = on (mark_at m.Comma a.1) (Some (asserted a.0, a.1)) (λ rest. expr most inside rest >>= giving (asserted_with a.0))

  message_sound : (before : List Sign) (a : Kept × List Sign) (r : Option Statement × List Sign) → OfLevel most Expr before a.0
      → message_after a ≡ Some r
      → Takes (λ xs v. AfterWord most assert (before ++ xs) v) a.1 r
  message_sound before a r s e =
      elim (on_ok (mark_at m.Comma a.1) (Some (asserted a.0, a.1)) (λ rest. expr most inside rest >>= giving (asserted_with a.0))
      (Some r) e) [
        | inl p ↦
            takes_none (λ xs v. AfterWord most assert (before ++ xs) v) (asserted a.0) a.1 r
            (rw append-nil (asserted_of most before a.0 s)) p.1
        | inr p ↦
            after_mark (λ xs v. AfterWord most assert (before ++ xs) v) m.Comma a.1 p.0 r (mark_is m.Comma a.1 p.0 p.1)
            (giving_sound (OfLevel most Expr) (λ xs v. AfterWord most assert (before ++ The m.Comma ∷ xs) v) (expr most inside)
            (expr_nested most some n) (asserted_with a.0)
            (λ xs w y. message_of most before xs a.0 w s y) p.0 r p.2)
      ]

  assert_sound : Sound (AfterWord most assert) (λ tokens. expr most inside tokens >>= message_after)
  assert_sound tokens r e =
      let a = bind_ok (expr most inside tokens) message_after r e in
      let x = expr_nested most some n tokens a.0 a.1 in
      joined_with (OfLevel most Expr) (AfterWord most assert) tokens a.0 r x (message_sound x.phrase a.0 r x.is a.2)

  pub worded_sound : (w : Word) → Sound (AfterWord most w) (worded most inside w)
  unfolding worded
  worded_sound pass tokens r e = alone_sound most pass stmt.pass tokens r refl l.pass e
  worded_sound break tokens r e = alone_sound most break stmt.break tokens r refl l.break e
  worded_sound continue tokens r e = alone_sound most continue stmt.continue tokens r refl l.continue e
  worded_sound return tokens r e =
      maybe_sound most return Exprs (exprs most inside) stmt.return (exprs_nested most some n) refl (λ a. refl) l.return
      (λ xs a s. l.return_value s) tokens r e
  worded_sound raise tokens r e =
      maybe_sound most raise Expr (expr most inside) stmt.raise (expr_nested most some n) refl (λ a. refl) l.raise
      (λ xs a s. l.raise_value s) tokens r e
  worded_sound global tokens r e = names_after most global stmt.global (λ names. refl) (λ xs names s. l.global s) tokens r e
  worded_sound nonlocal tokens r e = names_after most nonlocal stmt.nonlocal (λ names. refl) (λ xs names s. l.nonlocal s) tokens r e
  worded_sound delete tokens r e =
      giving_sound (OfTargets most) (AfterWord most delete) (targets most inside) (targets_sound most some n)
      (λ a. option_map stmt.delete (kept a)) (deleted most) tokens r e
  worded_sound assert tokens r e = assert_sound tokens r e

  -- ---- what is spelled is read

  -- nothing after a word
  pub nothing_read : (reader : Reader Kept) (f : Option Tree → Statement) (rest : List Sign) → simple_depth (f None) ≡ 0
      → begins rest ≡ false
      → maybe reader f rest ≡ Some (keep_simple most (f None), rest)
  nothing_read reader f rest d e =
      ap (λ b. if b then (reader rest >>= giving (λ a. option_map (λ a. f (Some a)) (kept a))) else Some (Some (f None), rest)) e
      ∙ ap (λ z. Some (z, rest)) (kept_at_zero most (f None) d)

  pub value_read : (level : Level) (reader : Reader Kept) (f : Option Tree → Statement) (xs rest : List Sign) (a : Tree)
      → simple_depth (f (Some a)) ≡ depth a
      → Spells level xs a → reader (xs ++ rest) ≡ Some (keep most a, rest)
      → maybe reader f (xs ++ rest) ≡ Some (keep_simple most (f (Some a)), rest)
  value_read level reader f xs rest a d s e =
      ap (λ b. if b then (reader (xs ++ rest) >>= giving (λ a. option_map (λ a. f (Some a)) (kept a))) else Some
      (Some (f None), xs ++ rest)) (phrase_begins s rest)
      ∙ ap (λ z. z >>= giving (λ a. option_map (λ a. f (Some a)) (kept a))) e
      ∙ ap (λ z. Some (z, rest)) (map_tree most (λ a. f (Some a)) a ∙ ap (λ d. up_to_depth most d (f (Some a))) (sym d))

  pub named_read : (f : List (List ℕ) → Statement) (xs : List Sign) (found : List (List ℕ)) (rest : List Sign) → simple_depth (f found) ≡ 0
      → Names xs found → mark_at m.Comma rest ≡ None
      → (names (xs ++ rest) >>= giving (λ names. Some (f names))) ≡ Some (keep_simple most (f found), rest)
  named_read f xs found rest d s e =
      ap (λ z. z >>= giving (λ names. Some (f names))) (names_read s rest e) ∙ ap (λ z. Some (z, rest)) (kept_at_zero most (f found) d)

  pub asserted_read : {xs : List Sign} {a : Tree} → Spells Expr xs a → (rest : List Sign) → length xs ≤ n → EndsHere rest
      → worded most inside assert (xs ++ rest) ≡ Some (keep_simple most (stmt.assert a None), rest)
  unfolding worded
  asserted_read {xs} {a} s rest small h =
      let ends = h.follows in
      ap (λ z. z >>= message_after) (expr_read most some n s rest small (omega arith))
      ∙ ap (λ z. on z (Some (asserted (keep most a), rest)) (λ rest. expr most inside rest >>= giving (asserted_with (keep most a))))
      h.no_comma
      ∙ ap (λ z. Some (z, rest)) (assert_kept most a)

  pub message_read : {xs ys : List Sign} {a message : Tree} → Spells Expr xs a → Spells Expr ys message → (rest : List Sign)
      → length (xs ++ (The m.Comma ∷ ys)) ≤ n → EndsHere rest
      → worded most inside assert ((xs ++ (The m.Comma ∷ ys)) ++ rest) ≡ Some (keep_simple most (stmt.assert a (Some message)), rest)
  unfolding worded
  message_read {xs} {ys} {a} {message} s r rest small h =
      let ends = h.follows in
      let e = length-append xs (The m.Comma ∷ ys) in
      ap (λ z. expr most inside z >>= message_after) (append_assoc xs (The m.Comma ∷ ys) rest)
      ∙ ap (λ z. z >>= message_after) (expr_read most some n s (The m.Comma ∷ ys ++ rest) (omega arith) (omega arith))
      ∙ ap (λ z. z >>= giving (asserted_with (keep most a))) (expr_read most some n r rest (omega arith) (omega arith))
      ∙ ap (λ z. Some (z, rest)) (both_trees most (λ a message. stmt.assert a (Some message)) a message)
