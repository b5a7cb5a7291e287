-- Headers are read where they are spelled.
use Rattle.std.proofs.Common.{◌≡◌, ℕ, ◌≤◌, ◌<◌, if◌then◌else◌, List, [], ◌∷◌, ◌++◌, length, Some, None, refl, sym, ap, ◌∙◌}
use Rattle.std.proofs.Common.{arith, length-append, append_assoc}
use Rattle.py_ast.specs.Tree.{Tree, Trees, depth}
use Rattle.py_ast.specs.Lawful.{AreDistinct}
use Rattle.py_grammar.specs.Grammar.{Expr, Exprs, Spells, Params}
use Rattle.py_grammar.specs.Line as l
use Rattle.py_grammar.specs.Line.{Targets, Header, Heads, header_depth}
use Rattle.py_grammar.specs.Kept.{keep}
use Rattle.py_grammar.specs.Reading.{◌>>=◌, on, giving, marked, up_to, distinct_params}
use Rattle.py_grammar.specs.Reading.{params, expr, nested, Inside}
use Rattle.py_grammar.specs.LineReading.{Head, an_if, an_elif, an_else, a_while, a_for, a_try, a_finally, an_except, a_def, a_class}
use Rattle.py_grammar.specs.LineReading.{head_of, tested, looped, defined, with_base, keep_header, targets, except_of, define_of}
use Rattle.py_grammar.specs.LineReading.{base_of, class_of, header}
use Rattle.py_grammar.specs.declared.mark.Mark.TheVariants as m
use Rattle.py_grammar.specs.declared.sign.Sign.{Sign}
use Rattle.py_grammar.specs.declared.sign.Sign.TheVariants.{Name, Mark as The}
use Rattle.py_grammar.proofs.Distinct.{distinct_from}
use Rattle.py_grammar.proofs.KeptLines.{up_to_depth, map_tree, map_trees, both_trees}
use Rattle.py_grammar.proofs.Phrases.{keep_params}
use Rattle.py_grammar.proofs.Follow.{no_close, phrase_begins, phrase_ranks}
use Rattle.py_grammar.proofs.Exact.{expr_read, exprs_read, params_read}
use Rattle.py_grammar.proofs.TargetReading.{targets_read}
use Rattle.py_grammar.proofs.HeaderSound.{bare_kept, after_targets, after_class}

module _ (most : ℕ) (some : 0 < most) (n : ℕ) where
  abbrev inside : Inside
  inside = nested most n

  -- ---- what is spelled is read

  -- a header that is read up to its colon
  pub record HeadHere (tokens : List Sign) (h : Header) (rest : List Sign) : Type 0 where
    pub head : Head
    pub after : List Sign
    pub front : marked head_of tokens ≡ Some (head, after)
    pub read : header most inside head after ≡ Some (keep_header most h, rest)

  tested_read : (f : Tree → Header) (xs rest : List Sign) (a : Tree) → header_depth (f a) ≡ depth a → Spells Expr xs a → length xs ≤ n
      → (expr most inside (xs ++ The m.Colon ∷ rest) >>= giving (tested f)) ≡ Some (keep_header most (f a), The m.Colon ∷ rest)
  tested_read f xs rest a d s small =
      ap (λ z. z >>= giving (tested f)) (expr_read most some n s (The m.Colon ∷ rest) small (omega arith))
      ∙ ap (λ z. Some (z, The m.Colon ∷ rest)) (map_tree most f a ∙ ap (λ d. up_to_depth most d (f a)) (sym d))

  for_read : (xs ys rest : List Sign) (target a : Tree) → Targets xs target → Spells Exprs ys a → length (xs ++ (The m.In ∷ ys)) ≤ n
      → header most inside a_for ((xs ++ (The m.In ∷ ys)) ++ The m.Colon ∷ rest) ≡ Some
      (keep_header most (l.for target a), The m.Colon ∷ rest)
  unfolding header
  for_read xs ys rest target a x s small =
      let e = length-append xs (The m.In ∷ ys) in
      ap (λ z. targets most inside z >>= after_targets most some n) (append_assoc xs (The m.In ∷ ys) (The m.Colon ∷ rest))
      ∙ ap (λ z. z >>= after_targets most some n)
      (targets_read most some n x (The m.In ∷ ys ++ The m.Colon ∷ rest) (omega arith) (omega arith) refl refl)
      ∙ ap (λ z. z >>= giving (looped (keep most target))) (exprs_read most some n s (The m.Colon ∷ rest) (omega arith) (omega arith))
      ∙ ap (λ z. Some (z, The m.Colon ∷ rest)) (both_trees most l.for target a)

  caught_read : (xs rest : List Sign) (a : Tree) → Spells Expr xs a → length xs ≤ n
      → header most inside an_except (xs ++ The m.Colon ∷ rest) ≡ Some (keep_header most (l.except (Some a) None), The m.Colon ∷ rest)
  unfolding header except_of
  caught_read xs rest a s small =
      ap (λ b. if b then except_of most inside (xs ++ The m.Colon ∷ rest) else Some (Some (l.except None None), xs ++ The m.Colon ∷ rest))
      (phrase_begins s (The m.Colon ∷ rest))
      ∙ ap (λ z. z >>= after_class most some n) (expr_read most some n s (The m.Colon ∷ rest) small (omega arith))
      ∙ ap (λ z. Some (z, The m.Colon ∷ rest)) (map_tree most (λ a. l.except (Some a) None) a)

  caught_as_read : (xs rest : List Sign) (a : Tree) (x : List ℕ) → Spells Expr xs a → length (xs ++ (The m.As ∷ Name x ∷ [])) ≤ n
      → header most inside an_except ((xs ++ (The m.As ∷ Name x ∷ [])) ++ The m.Colon ∷ rest) ≡ Some
      (keep_header most (l.except (Some a) (Some x)), The m.Colon ∷ rest)
  unfolding header except_of
  caught_as_read xs rest a x s small =
      let e = length-append xs (The m.As ∷ Name x ∷ []) in
      ap (header most inside an_except) (append_assoc xs (The m.As ∷ Name x ∷ []) (The m.Colon ∷ rest))
      ∙ ap (λ b. if b then except_of most inside (xs ++ The m.As ∷ Name x ∷ The m.Colon ∷ rest) else Some
      (Some (l.except None None), xs ++ The m.As ∷ Name x ∷ The m.Colon ∷ rest))
      (phrase_begins s (The m.As ∷ Name x ∷ The m.Colon ∷ rest))
      ∙ ap (λ z. z >>= after_class most some n)
      (expr_read most some n s (The m.As ∷ Name x ∷ The m.Colon ∷ rest) (omega arith) (omega arith))
      ∙ ap (λ z. Some (z, The m.Colon ∷ rest)) (map_tree most (λ a. l.except (Some a) (Some x)) a)

  define_read : (x : List ℕ) (xs rest : List Sign) (names : List (List ℕ)) (defaults : Trees) → Params xs names defaults
      → AreDistinct names → length xs ≤ n
      → header most inside a_def (Name x ∷ The m.Open ∷ (xs ++ The m.Close ∷ []) ++ rest) ≡ Some
      (keep_header most (l.define x names defaults), rest)
  unfolding header define_of
  define_read x xs rest names defaults s d small =
      ap (λ z. params most inside z >>= distinct_params >>= up_to m.Close (defined x)) (append_assoc xs (The m.Close ∷ []) rest)
      ∙ ap (λ z. z >>= distinct_params >>= up_to m.Close (defined x))
      (params_read most some n s (The m.Close ∷ rest) small (omega arith) refl refl)
      ∙ ap (λ b. (if b then Some (keep_params most (names, defaults), The m.Close ∷ rest) else None) >>= up_to m.Close (defined x))
      (distinct_from names d)
      ∙ ap (λ z. Some (z, rest)) (map_trees most (l.define x names) defaults)

  class_read : (x : List ℕ) (xs rest : List Sign) (a : Tree) → Spells Expr xs a → length xs ≤ n
      → header most inside a_class (Name x ∷ The m.Open ∷ (xs ++ The m.Close ∷ []) ++ rest) ≡ Some
      (keep_header most (l.class x (Some a)), rest)
  unfolding header class_of base_of
  class_read x xs rest a s small =
      ap (base_of most inside x) (append_assoc xs (The m.Close ∷ []) rest)
      ∙ ap (λ z. on z (expr most inside (xs ++ The m.Close ∷ rest) >>= up_to m.Close (with_base x))
      (λ after. Some (Some (l.class x None), after)))
      (no_close (xs ++ The m.Close ∷ rest) (phrase_ranks s (The m.Close ∷ rest)))
      ∙ ap (λ z. z >>= up_to m.Close (with_base x)) (expr_read most some n s (The m.Close ∷ rest) small (omega arith))
      ∙ ap (λ z. Some (z, rest)) (map_tree most (λ a. l.class x (Some a)) a)

  pub header_read : {xs : List Sign} {h : Header} → Heads xs h → (rest : List Sign) → length xs ≤ n
      → HeadHere (xs ++ The m.Colon ∷ rest) h (The m.Colon ∷ rest)
  unfolding header class_of base_of
  header_read (l.an_if {xs} {a} s) rest small =
      record { head = an_if; after = xs ++ The m.Colon ∷ rest; front = refl; read = tested_read l.if xs rest a refl s (omega arith) }
  header_read (l.an_elif {xs} {a} s) rest small =
      record { head = an_elif; after = xs ++ The m.Colon ∷ rest; front = refl; read = tested_read l.elif xs rest a refl s (omega arith) }
  header_read l.an_else rest small =
      record {
        head = an_else;
        after = The m.Colon ∷ rest;
        front = refl;
        read =
            ap (λ z. Some (z, The m.Colon ∷ rest)) (bare_kept most l.else refl);
      }
  header_read (l.a_while {xs} {a} s) rest small =
      record { head = a_while; after = xs ++ The m.Colon ∷ rest; front = refl; read = tested_read l.while xs rest a refl s (omega arith) }
  header_read (l.a_for {xs} {ys} {target} {a} x s) rest small =
      record {
        head = a_for;
        after = (xs ++ (The m.In ∷ ys)) ++ The m.Colon ∷ rest;
        front = refl;
        read =
            for_read xs ys rest target a x s (omega arith);
      }
  header_read l.a_try rest small =
      record {
        head = a_try;
        after = The m.Colon ∷ rest;
        front = refl;
        read =
            ap (λ z. Some (z, The m.Colon ∷ rest)) (bare_kept most l.try refl);
      }
  header_read l.a_finally rest small =
      record {
        head = a_finally;
        after = The m.Colon ∷ rest;
        front = refl;
        read =
            ap (λ z. Some (z, The m.Colon ∷ rest)) (bare_kept most l.finally refl);
      }
  header_read l.an_except rest small =
      record {
        head = an_except;
        after = The m.Colon ∷ rest;
        front = refl;
        read =
            ap (λ z. Some (z, The m.Colon ∷ rest)) (bare_kept most (l.except None None) refl);
      }
  header_read (l.an_except_of {xs} {a} s) rest small =
      record { head = an_except; after = xs ++ The m.Colon ∷ rest; front = refl; read = caught_read xs rest a s (omega arith) }
  header_read (l.an_except_as {xs} {a} {x} s) rest small =
      record {
        head = an_except;
        after = (xs ++ (The m.As ∷ Name x ∷ [])) ++ The m.Colon ∷ rest;
        front = refl;
        read =
            caught_as_read xs rest a x s (omega arith);
      }
  header_read (l.a_def {x} {xs} {names} {defaults} s d) rest small =
      let e = length-append xs (The m.Close ∷ []) in
      record {
        head = a_def;
        after = Name x ∷ The m.Open ∷ (xs ++ The m.Close ∷ []) ++ The m.Colon ∷ rest;
        front = refl;
        read =
            define_read x xs (The m.Colon ∷ rest) names defaults s d (omega arith);
      }
  header_read (l.a_class {x}) rest small =
      record {
        head = a_class;
        after = Name x ∷ The m.Colon ∷ rest;
        front = refl;
        read =
            ap (λ z. Some (z, The m.Colon ∷ rest)) (bare_kept most (l.class x None) refl);
      }
  header_read (l.a_class_of_none {x}) rest small =
      record {
        head = a_class;
        after = Name x ∷ The m.Open ∷ The m.Close ∷ The m.Colon ∷ rest;
        front = refl;
        read =
            ap (λ z. Some (z, The m.Colon ∷ rest)) (bare_kept most (l.class x None) refl);
      }
  header_read (l.a_class_of {x} {xs} {a} s) rest small =
      let e = length-append xs (The m.Close ∷ []) in
      record {
        head = a_class;
        after = Name x ∷ The m.Open ∷ (xs ++ The m.Close ∷ []) ++ The m.Colon ∷ rest;
        front = refl;
        read =
            class_read x xs (The m.Colon ∷ rest) a s (omega arith);
      }
