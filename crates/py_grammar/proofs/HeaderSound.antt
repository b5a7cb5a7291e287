-- What is read as a header is spelled so.
use Rattle.std.proofs.Common.{◌≡◌, ℕ, ◌<◌, true, if◌then◌else◌, List, [], ◌∷◌, ◌++◌, Option, Some, None, refl, sym, ap, ◌∙◌}
use Rattle.std.proofs.Common.{subst, arith, inl, inr}
use Rattle.std.proofs.lemmas.List.{append-nil}
use Rattle.py_ast.specs.Tree.{Tree, depth}
use Rattle.py_grammar.specs.Grammar.{Expr, Exprs, Spells}
use Rattle.py_grammar.specs.Line as l
use Rattle.py_grammar.specs.Line.{Header, Heads, header_depth}
use Rattle.py_grammar.specs.Kept.{Kept, keep}
use Rattle.py_grammar.specs.Reading.{◌>>=◌, on, giving, mark_at, name_at, begins, up_to, is_distinct, distinct_params, Parameters}
use Rattle.py_grammar.specs.Reading.{params, expr, exprs, nested, Inside}
use Rattle.py_grammar.specs.LineReading.{Head, an_if, an_elif, an_else, a_while, a_for, a_try, a_finally, an_except, a_def, a_class}
use Rattle.py_grammar.specs.LineReading.{head_of, tested, looped, caught, defined, with_base, keep_header, targets, except_of, define_of}
use Rattle.py_grammar.specs.LineReading.{base_of, class_of, header}
use Rattle.py_grammar.specs.declared.mark.Mark.{Mark}
use Rattle.py_grammar.specs.declared.mark.Mark.TheVariants as m
use Rattle.py_grammar.specs.declared.sign.Sign.{Sign}
use Rattle.py_grammar.specs.declared.sign.Sign.TheVariants.{Name, Mark as The}
use Rattle.py_grammar.proofs.Steps.{some_is, bind_ok, on_ok, if_ok}
use Rattle.py_grammar.proofs.Marks.{mark_is, name_is}
use Rattle.py_grammar.proofs.Distinct.{distinct_is}
use Rattle.py_grammar.proofs.KeptLines.{up_to_depth, below_is, map_tree, map_trees, both_trees}
use Rattle.py_grammar.proofs.Takes.{Takes, Sound, takes_none, after_mark, joined_with, giving_sound, up_to_sound}
use Rattle.py_grammar.proofs.Phrases.{OfLevel, OfParams}
use Rattle.py_grammar.proofs.LineParts.{OfTargets, OfHeader, expr_nested, exprs_nested, params_nested}
use Rattle.py_grammar.proofs.TargetReading.{targets_sound}

-- ---- the words of headers

abbrev pub head_mark : Head → Mark
head_mark an_if = m.If
head_mark an_elif = m.Elif
head_mark an_else = m.Else
head_mark a_while = m.While
head_mark a_for = m.For
head_mark a_try = m.Try
head_mark a_finally = m.Finally
head_mark an_except = m.Except
head_mark a_def = m.Def
head_mark a_class = m.Class

pub head_is : (k : Mark) (h : Head) → head_of k ≡ Some h → k ≡ head_mark h
head_is m.If h e = ap head_mark (some_is e)
head_is m.Elif h e = ap head_mark (some_is e)
head_is m.Else h e = ap head_mark (some_is e)
head_is m.While h e = ap head_mark (some_is e)
head_is m.For h e = ap head_mark (some_is e)
head_is m.Try h e = ap head_mark (some_is e)
head_is m.Finally h e = ap head_mark (some_is e)
head_is m.Except h e = ap head_mark (some_is e)
head_is m.Def h e = ap head_mark (some_is e)
head_is m.Class h e = ap head_mark (some_is e)
head_is _ h e = cc

-- what the word of a header and the signs after it spell
abbrev pub AfterHead : ℕ → Head → List Sign → Option Header → Type 0
AfterHead most k xs v = OfHeader most (The (head_mark k) ∷ xs) v

module _ (most : ℕ) where
  pub bare_kept : (h : Header) → header_depth h ≡ 0 → Some h ≡ keep_header most h
  bare_kept h d = sym (below_is most (header_depth h) h (omega arith))

  -- a header without expressions
  bare_of : (k : Head) (xs : List Sign) (h : Header) → header_depth h ≡ 0 → Heads (The (head_mark k) ∷ xs) h → AfterHead most k xs (Some h)
  bare_of k xs h d s = record { tree = h; spells = s; kept = sym (bare_kept h d) }

  -- a header with one expression
  tested_of : (k : Head) (f : Tree → Header) (xs : List Sign) (v : Kept) → ((a : Tree) → header_depth (f a) ≡ depth a)
      → ((a : Tree) → Spells Expr xs a → Heads (The (head_mark k) ∷ xs) (f a)) → OfLevel most Expr xs v → AfterHead most k xs (tested f v)
  tested_of k f xs v d lift s = record {
    tree = f s.tree;
    spells = lift s.tree s.spells;
    kept = ap (λ d. up_to_depth most d (f s.tree)) (d s.tree) ∙ sym (map_tree most f s.tree) ∙ ap (tested f) s.kept;
  }

  looped_of : (before xs : List Sign) (v w : Kept) → OfTargets most before v → OfLevel most Exprs xs w
      → AfterHead most a_for (before ++ (The m.In ∷ xs)) (looped v w)
  looped_of before xs v w s y = record {
    tree = l.for s.tree y.tree;
    spells = l.a_for s.spells y.spells;
    kept = sym (both_trees most l.for s.tree y.tree) ∙ ap (λ z. looped z (keep most y.tree)) s.kept ∙ ap (looped v) y.kept;
  }

  caught_of : (xs : List Sign) (v : Kept) → OfLevel most Expr xs v → AfterHead most an_except xs (caught v None)
  caught_of xs v s = record {
    tree = l.except (Some s.tree) None;
    spells = l.an_except_of s.spells;
    kept = sym (map_tree most (λ a. l.except (Some a) None) s.tree) ∙ ap (λ z. caught z None) s.kept;
  }

  caught_as_of : (before : List Sign) (v : Kept) (x : List ℕ) → OfLevel most Expr before v
      → AfterHead most an_except (before ++ (The m.As ∷ Name x ∷ [])) (caught v (Some x))
  caught_as_of before v x s = record {
    tree = l.except (Some s.tree) (Some x);
    spells = l.an_except_as s.spells;
    kept = sym (map_tree most (λ a. l.except (Some a) (Some x)) s.tree) ∙ ap (λ z. caught z (Some x)) s.kept;
  }

  defined_of : (x : List ℕ) (xs : List Sign) (v : Parameters) → OfParams most xs v → is_distinct v.0 ≡ true
      → AfterHead most a_def (Name x ∷ The m.Open ∷ xs ++ The m.Close ∷ []) (defined x v)
  defined_of x xs v s d = record {
    tree = l.define x s.tree.0 s.tree.1;
    spells = l.a_def s.spells (distinct_is s.tree.0 (ap (λ z. is_distinct z.0) s.kept ∙ d));
    kept = sym (map_trees most (l.define x s.tree.0) s.tree.1) ∙ ap (defined x) s.kept;
  }

  based_of : (x : List ℕ) (xs : List Sign) (v : Kept) → OfLevel most Expr xs v
      → AfterHead most a_class (Name x ∷ The m.Open ∷ xs ++ The m.Close ∷ []) (with_base x v)
  based_of x xs v s = record {
    tree = l.class x (Some s.tree);
    spells = l.a_class_of s.spells;
    kept = sym (map_tree most (λ a. l.class x (Some a)) s.tree) ∙ ap (with_base x) s.kept;
  }

-- a name before a phrase
after_name : {V : Type 0} (P : List Sign → V → Type 0) (x : List ℕ) (tokens rest : List Sign) (r : V × List Sign) → tokens ≡ Name x ∷ rest
    → Takes (λ xs v. P (Name x ∷ xs) v) rest r → Takes P tokens r
after_name P x tokens rest r e t = record { phrase = Name x ∷ t.phrase; is = t.is; whole = e ∙ ap (λ z. Name x ∷ z) t.whole }

module _ (most : ℕ) (some : 0 < most) (n : ℕ) where
  abbrev inside : Inside
  inside = nested most n

  -- ---- what is read is spelled

  bare_sound : (k : Head) (h : Header) (tokens : List Sign) (r : Option Header × List Sign) → header_depth h ≡ 0
      → Heads (The (head_mark k) ∷ []) h → Some (Some h, tokens) ≡ Some r
      → Takes (AfterHead most k) tokens r
  bare_sound k h tokens r d s e = takes_none (AfterHead most k) (Some h) tokens r (bare_of most k [] h d s) e

  tested_sound : (k : Head) (f : Tree → Header) → ((a : Tree) → header_depth (f a) ≡ depth a)
      → ((xs : List Sign) (a : Tree) → Spells Expr xs a → Heads (The (head_mark k) ∷ xs) (f a))
      → Sound (AfterHead most k) (λ tokens. expr most inside tokens >>= giving (tested f))
  tested_sound k f d lift =
      giving_sound (OfLevel most Expr) (AfterHead most k) (expr most inside) (expr_nested most some n) (tested f)
      (λ xs v s. tested_of most k f xs v d (lift xs) s)

  abbrev pub after_targets : Kept × List Sign → Option (Option Header × List Sign)
  after_targets a = mark_at m.In a.1 >>= λ rest. exprs most inside rest >>= giving (looped a.0)

  for_sound : Sound (AfterHead most a_for) (λ tokens. targets most inside tokens >>= after_targets)
  for_sound tokens r e =
      let a = bind_ok (targets most inside tokens) after_targets r e in
      let x = targets_sound most some n tokens a.0 a.1 in
      let b = bind_ok (mark_at m.In a.0.1) (λ rest. exprs most inside rest >>= giving (looped a.0.0)) r a.2 in
      joined_with (OfTargets most) (AfterHead most a_for) tokens a.0 r x
      (after_mark (λ xs v. AfterHead most a_for (x.phrase ++ xs) v) m.In a.0.1 b.0 r (mark_is m.In a.0.1 b.0 b.1)
      (giving_sound (OfLevel most Exprs) (λ xs v. AfterHead most a_for (x.phrase ++ The m.In ∷ xs) v) (exprs most inside)
      (exprs_nested most some n) (looped a.0.0)
      (λ xs w y. looped_of most x.phrase xs a.0.0 w x.is y) b.0 r b.2))

  abbrev pub after_class : Kept × List Sign → Option (Option Header × List Sign)
  after_class a = on (mark_at m.As a.1) (Some (caught a.0 None, a.1)) (λ rest. name_at rest >>= giving (λ x. caught a.0 (Some x)))

  class_name_sound : (before : List Sign) (a : Kept × List Sign) (r : Option Header × List Sign) → OfLevel most Expr before a.0
      → after_class a ≡ Some r
      → Takes (λ xs v. AfterHead most an_except (before ++ xs) v) a.1 r
  class_name_sound before a r s e =
      elim
      (on_ok (mark_at m.As a.1) (Some (caught a.0 None, a.1)) (λ rest. name_at rest >>= giving (λ x. caught a.0 (Some x))) (Some r) e) [
        | inl p ↦
            takes_none (λ xs v. AfterHead most an_except (before ++ xs) v) (caught a.0 None) a.1 r
            (rw append-nil (caught_of most before a.0 s)) p.1
        | inr p ↦
            let y = bind_ok (name_at p.0) (giving (λ x. caught a.0 (Some x))) r p.2 in
            after_mark (λ xs v. AfterHead most an_except (before ++ xs) v) m.As a.1 p.0 r (mark_is m.As a.1 p.0 p.1)
            (after_name (λ xs v. AfterHead most an_except (before ++ The m.As ∷ xs) v) y.0.0 p.0 y.0.1 r (name_is p.0 y.0 y.1)
            (takes_none (λ xs v. AfterHead most an_except (before ++ The m.As ∷ Name y.0.0 ∷ xs) v) (caught a.0 (Some y.0.0)) y.0.1 r
            (caught_as_of most before a.0 y.0.0 s) y.2))
      ]

  except_sound : Sound (AfterHead most an_except)
      (λ tokens. if begins tokens then except_of most inside tokens else Some (Some (l.except None None), tokens))
  unfolding except_of
  except_sound tokens r e =
      elim (if_ok (begins tokens) (except_of most inside tokens) (Some (Some (l.except None None), tokens)) r e) [
        | inl p ↦
            let a = bind_ok (expr most inside tokens) after_class r p.1 in
            let x = expr_nested most some n tokens a.0 a.1 in
            joined_with (OfLevel most Expr) (AfterHead most an_except) tokens a.0 r x (class_name_sound x.phrase a.0 r x.is a.2)
        | inr p ↦ bare_sound an_except (l.except None None) tokens r refl l.an_except p.1
      ]

  -- parameters with different names
  abbrev OfDistinct : List Sign → Parameters → Type 0
  OfDistinct xs v = OfParams most xs v × (is_distinct v.0 ≡ true)

  distinct_sound : Sound OfDistinct (λ tokens. params most inside tokens >>= distinct_params)
  distinct_sound tokens r e =
      let a = bind_ok (params most inside tokens) distinct_params r e in
      let x = params_nested most some n tokens a.0 a.1 in
      elim (if_ok (is_distinct a.0.0.0) (Some a.0) None r a.2) [
        | inl p ↦ subst (Takes OfDistinct tokens) (some_is p.1) (record { phrase = x.phrase; is = (x.is, p.0); whole = x.whole })
        | inr p ↦ cc
      ]

  define_sound : Sound (AfterHead most a_def) (define_of most inside)
  unfolding define_of
  define_sound tokens r e =
      let x = bind_ok (name_at tokens)
      (λ x. mark_at m.Open x.1 >>= λ rest. params most inside rest >>= distinct_params >>= up_to m.Close (defined x.0)) r e in
      let b = bind_ok (mark_at m.Open x.0.1)
      (λ rest. params most inside rest >>= distinct_params >>= up_to m.Close (defined x.0.0)) r x.2 in
      after_name (AfterHead most a_def) x.0.0 tokens x.0.1 r (name_is tokens x.0 x.1)
      (after_mark (λ xs v. AfterHead most a_def (Name x.0.0 ∷ xs) v) m.Open x.0.1 b.0 r (mark_is m.Open x.0.1 b.0 b.1)
      (up_to_sound OfDistinct (λ xs v. AfterHead most a_def (Name x.0.0 ∷ The m.Open ∷ xs) v)
      (λ tokens. params most inside tokens >>= distinct_params) distinct_sound (defined x.0.0)
      m.Close (λ xs v s. defined_of most x.0.0 xs v s.0 s.1) b.0 r b.2))

  abbrev AfterOpen : List ℕ → List Sign → Option Header → Type 0
  AfterOpen x xs v = AfterHead most a_class (Name x ∷ The m.Open ∷ xs) v

  base_sound : (x : List ℕ) → Sound (AfterOpen x) (base_of most inside x)
  unfolding base_of
  base_sound x tokens r e =
      elim (on_ok (mark_at m.Close tokens) (expr most inside tokens >>= up_to m.Close (with_base x))
      (λ after. Some (Some (l.class x None), after)) (Some r) e) [
        | inl p ↦
            up_to_sound (OfLevel most Expr) (AfterOpen x) (expr most inside) (expr_nested most some n) (with_base x) m.Close
            (λ xs v s. based_of most x xs v s) tokens r p.1
        | inr p ↦
            after_mark (AfterOpen x) m.Close tokens p.0 r (mark_is m.Close tokens p.0 p.1)
            (takes_none (λ xs v. AfterOpen x (The m.Close ∷ xs) v) (Some (l.class x None)) p.0 r
            (bare_of most a_class (Name x ∷ The m.Open ∷ The m.Close ∷ []) (l.class x None) refl l.a_class_of_none) p.2)
      ]

  class_sound : Sound (AfterHead most a_class) (class_of most inside)
  unfolding class_of
  class_sound tokens r e =
      let x = bind_ok (name_at tokens) (λ x. on (mark_at m.Open x.1) (Some (Some (l.class x.0 None), x.1)) (base_of most inside x.0)) r e in
      after_name (AfterHead most a_class) x.0.0 tokens x.0.1 r (name_is tokens x.0 x.1)
      (elim (on_ok (mark_at m.Open x.0.1) (Some (Some (l.class x.0.0 None), x.0.1)) (base_of most inside x.0.0) (Some r) x.2) [
        | inl p ↦
            takes_none (λ xs v. AfterHead most a_class (Name x.0.0 ∷ xs) v) (Some (l.class x.0.0 None)) x.0.1 r
            (bare_of most a_class (Name x.0.0 ∷ []) (l.class x.0.0 None) refl l.a_class) p.1
        | inr p ↦
            after_mark (λ xs v. AfterHead most a_class (Name x.0.0 ∷ xs) v) m.Open x.0.1 p.0 r (mark_is m.Open x.0.1 p.0 p.1)
            (base_sound x.0.0 p.0 r p.2)
      ])

  pub header_sound : (k : Head) → Sound (AfterHead most k) (header most inside k)
  unfolding header
  header_sound an_if tokens r e = tested_sound an_if l.if (λ a. refl) (λ xs a s. l.an_if s) tokens r e
  header_sound an_elif tokens r e = tested_sound an_elif l.elif (λ a. refl) (λ xs a s. l.an_elif s) tokens r e
  header_sound an_else tokens r e = bare_sound an_else l.else tokens r refl l.an_else e
  header_sound a_while tokens r e = tested_sound a_while l.while (λ a. refl) (λ xs a s. l.a_while s) tokens r e
  header_sound a_for tokens r e = for_sound tokens r e
  header_sound a_try tokens r e = bare_sound a_try l.try tokens r refl l.a_try e
  header_sound a_finally tokens r e = bare_sound a_finally l.finally tokens r refl l.a_finally e
  header_sound an_except tokens r e = except_sound tokens r e
  header_sound a_def tokens r e = define_sound tokens r e
  header_sound a_class tokens r e = class_sound tokens r e
