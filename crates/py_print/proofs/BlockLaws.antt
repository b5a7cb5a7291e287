-- The printed lines of a lawful block stand as the block.
use Rattle.std.proofs.Common.{◌≡◌, ℕ, ◌+◌, true, List, [], ◌∷◌, ◌++◌, map, Option, Some, None, refl, sym, ap, ◌∙◌, subst, append_assoc}
use Rattle.std.proofs.lemmas.List.{map-append}
use Rattle.py_ast.specs.Tree.{Tree}
use Rattle.py_ast.specs.Statement as s
use Rattle.py_ast.specs.Statement.{Statement, Block, empty, then, Branches, no_branches, branch, Handlers, no_handlers, handler}
use Rattle.py_ast.specs.Lawful.{Place, inner, loop_body, def_body, class_body, IsSome, HasHandler, IsTry, IsStatement, IsBlock, AreBranches, AreHandlers}
use Rattle.py_grammar.specs.Line as l
use Rattle.py_grammar.specs.Blocks as blocks
use Rattle.py_grammar.specs.Blocks.{Placed, head, is_allowed, Stands, Suite, Compound, Elifs, Else, Handled, Excepts, ElseFinally, Finally}
use Rattle.py_print.specs.Printed.{PrintedLine, placed, if_there, lines_of, statement, tests, catches}

-- the lines of the grammar
abbrev of_all : List PrintedLine → List Placed
of_all xs = map placed xs

of_append : (xs ys : List PrintedLine) → of_all (xs ++ ys) ≡ of_all xs ++ of_all ys
of_append xs ys = map-append placed xs ys

of_three : (xs ys zs : List PrintedLine) → of_all ((xs ++ ys) ++ zs) ≡ of_all xs ++ of_all (ys ++ zs)
of_three xs ys zs = ap of_all (append_assoc xs ys zs) ∙ of_append xs (ys ++ zs)

-- ---- headers with their blocks

suite : (p : Place) (body : Block) (lines : List Placed) → IsSome body → Stands p lines body → Suite p [] lines body
suite p empty lines h k = absurd h
suite p (then x b) lines h k = blocks.below k

else_stands : (p : Place) (b : Block) (lines : List PrintedLine) → Stands (inner p) (of_all lines) b → Else p (of_all (if_there p.deep l.else b lines)) b
else_stands p empty lines k = blocks.no_else
else_stands p (then x b) lines k = blocks.an_else (blocks.below k)

finally_stands : (p : Place) (b : Block) (lines : List PrintedLine) → Stands (inner p) (of_all lines) b → Finally p (of_all (if_there p.deep l.finally b lines)) b
finally_stands p empty lines k = blocks.no_finally
finally_stands p (then x b) lines k = blocks.a_finally (blocks.below k)

else_finally_stands : (p : Place) (b finally : Block) (lines more : List PrintedLine) → Stands (inner p) (of_all lines) b → Finally p (of_all more) finally
    → ElseFinally p (of_all (if_there p.deep l.else b lines ++ more)) b finally
else_finally_stands p empty finally lines more k f = blocks.without_else f
else_finally_stands p (then x b) finally lines more k f =
    subst (λ z. ElseFinally p (head p l.else [] ∷ z) (then x b) finally) (sym (of_append lines more)) (blocks.with_else (blocks.below k) f)

an_if_stands : (p : Place) (test : Tree) (bs : Branches) (body otherwise : Block) (lines more last : List PrintedLine) → Suite (inner p) [] (of_all lines) body
    → Elifs p (of_all (more ++ last)) bs otherwise → Compound p (head p (l.if test) [] ∷ of_all ((lines ++ more) ++ last)) (s.choose (branch test body bs) otherwise)
an_if_stands p test bs body otherwise lines more last k e =
    subst (λ z. Compound p (head p (l.if test) [] ∷ z) (s.choose (branch test body bs) otherwise)) (sym (of_three lines more last)) (blocks.an_if k e)

an_elif_stands : (p : Place) (test : Tree) (bs : Branches) (body otherwise : Block) (lines more last : List PrintedLine) → Suite (inner p) [] (of_all lines) body
    → Elifs p (of_all (more ++ last)) bs otherwise → Elifs p (head p (l.elif test) [] ∷ of_all ((lines ++ more) ++ last)) (branch test body bs) otherwise
an_elif_stands p test bs body otherwise lines more last k e =
    subst (λ z. Elifs p (head p (l.elif test) [] ∷ z) (branch test body bs) otherwise) (sym (of_three lines more last)) (blocks.an_elif k e)

a_while_stands : (p : Place) (test : Tree) (body otherwise : Block) (lines more : List PrintedLine) → Suite (loop_body p) [] (of_all lines) body
    → Else p (of_all more) otherwise → Compound p (head p (l.while test) [] ∷ of_all (lines ++ more)) (s.while test body otherwise)
a_while_stands p test body otherwise lines more k e =
    subst (λ z. Compound p (head p (l.while test) [] ∷ z) (s.while test body otherwise)) (sym (of_append lines more)) (blocks.a_while k e)

a_for_stands : (p : Place) (target a : Tree) (body otherwise : Block) (lines more : List PrintedLine) → Suite (loop_body p) [] (of_all lines) body
    → Else p (of_all more) otherwise → Compound p (head p (l.for target a) [] ∷ of_all (lines ++ more)) (s.for target a body otherwise)
a_for_stands p target a body otherwise lines more k e =
    subst (λ z. Compound p (head p (l.for target a) [] ∷ z) (s.for target a body otherwise)) (sym (of_append lines more)) (blocks.a_for k e)

a_try_stands : (p : Place) (body otherwise finally : Block) (hs : Handlers) (lines more : List PrintedLine) → Suite (inner p) [] (of_all lines) body
    → Handled p (of_all more) hs otherwise finally → Compound p (head p l.try [] ∷ of_all (lines ++ more)) (s.try body hs otherwise finally)
a_try_stands p body otherwise finally hs lines more k e =
    subst (λ z. Compound p (head p l.try [] ∷ z) (s.try body hs otherwise finally)) (sym (of_append lines more)) (blocks.a_try k e)

a_last_stands : (p : Place) (class : Option Tree) (x : Option (List ℕ)) (body otherwise finally : Block) (lines last : List PrintedLine)
    → Suite (inner p) [] (of_all lines) body → ElseFinally p (of_all last) otherwise finally
    → Excepts p (head p (l.except class x) [] ∷ of_all ((lines ++ []) ++ last)) (handler class x body no_handlers) otherwise finally
a_last_stands p class x body otherwise finally lines last k e =
    subst (λ z. Excepts p (head p (l.except class x) [] ∷ z) (handler class x body no_handlers) otherwise finally) (sym (of_three lines [] last)) (blocks.a_last k e)

an_earlier_stands : (p : Place) (class : Tree) (x : Option (List ℕ)) (body otherwise finally : Block) (hs : Handlers) (lines more last : List PrintedLine)
    → Suite (inner p) [] (of_all lines) body → Excepts p (of_all (more ++ last)) hs otherwise finally
    → Excepts p (head p (l.except (Some class) x) [] ∷ of_all ((lines ++ more) ++ last)) (handler (Some class) x body hs) otherwise finally
an_earlier_stands p class x body otherwise finally hs lines more last k e =
    subst (λ z. Excepts p (head p (l.except (Some class) x) [] ∷ z) (handler (Some class) x body hs) otherwise finally) (sym (of_three lines more last)) (blocks.an_earlier k e)

-- what follows the block of `try`, by whether there is an `except`
handled : (p : Place) (hs : Handlers) (otherwise finally : Block) (lines last : List PrintedLine) → IsTry hs otherwise finally
    → Stands (inner p) (of_all last) finally
    → ElseFinally p (of_all (if_there p.deep l.else otherwise lines ++ if_there p.deep l.finally finally last)) otherwise finally
    → (HasHandler hs → ElseFinally p (of_all (if_there p.deep l.else otherwise lines ++ if_there p.deep l.finally finally last)) otherwise finally
    → Excepts p (of_all (catches p.deep hs ++ (if_there p.deep l.else otherwise lines ++ if_there p.deep l.finally finally last))) hs otherwise finally)
    → Handled p (of_all (catches p.deep hs ++ (if_there p.deep l.else otherwise lines ++ if_there p.deep l.finally finally last))) hs otherwise finally
handled p no_handlers empty empty lines last h k e f = absurd h
handled p no_handlers empty (then x xs) lines last h k e f = blocks.by_finally (blocks.below k)
handled p no_handlers (then x xs) finally lines last h k e f = absurd h
handled p (handler class x body hs) otherwise finally lines last h k e f = blocks.by_except (f tt e)

-- ---- statements

-- a simple statement before the others of its block
simple_stands : (p : Place) (x : Statement) (b : Block) (lines : List PrintedLine) → is_allowed p x ≡ true → Stands p (of_all lines) b
    → Stands p (blocks.of p (x ∷ []) ∷ of_all lines) (then x b)
simple_stands p x b lines h k = blocks.simples (h, tt) k

compound_stands : (p : Place) (x : Statement) (b : Block) (lines more : List PrintedLine) → Compound p (of_all lines) x → Stands p (of_all more) b
    → Stands p (of_all (lines ++ more)) (then x b)
compound_stands p x b lines more c k = subst (λ z. Stands p z (then x b)) (sym (of_append lines more)) (blocks.compound c k)

mutual
  pub block_stands : (p : Place) (b : Block) → IsBlock p b → Stands p (of_all (lines_of p.deep b)) b
  block_stands p empty h = blocks.nothing
  block_stands p (then x b) h = then_stands p x b h.1 (block_stands p b h.2)

  then_stands : (p : Place) (x : Statement) (b : Block) → IsStatement p x → Stands p (of_all (lines_of p.deep b)) b
      → Stands p (of_all (statement p.deep x ++ lines_of p.deep b)) (then x b)
  then_stands p (s.choose no_branches otherwise) b h k = absurd h
  then_stands p (s.choose (branch test body bs) otherwise) b h k =
      compound_stands p (s.choose (branch test body bs) otherwise) b (statement p.deep (s.choose (branch test body bs) otherwise)) (lines_of p.deep b)
      (an_if_stands p test bs body otherwise (lines_of (p.deep + 1) body) (tests l.elif p.deep bs) (if_there p.deep l.else otherwise (lines_of (p.deep + 1) otherwise))
      (suite (inner p) body (of_all (lines_of (p.deep + 1) body)) h.1 (block_stands (inner p) body h.2))
      (elifs_stand p bs otherwise h.3 (else_stands p otherwise (lines_of (p.deep + 1) otherwise) (block_stands (inner p) otherwise h.4)))) k
  then_stands p (s.while test body otherwise) b h k =
      compound_stands p (s.while test body otherwise) b (statement p.deep (s.while test body otherwise)) (lines_of p.deep b)
      (a_while_stands p test body otherwise (lines_of (p.deep + 1) body) (if_there p.deep l.else otherwise (lines_of (p.deep + 1) otherwise))
      (suite (loop_body p) body (of_all (lines_of (p.deep + 1) body)) h.1 (block_stands (loop_body p) body h.2))
      (else_stands p otherwise (lines_of (p.deep + 1) otherwise) (block_stands (inner p) otherwise h.3))) k
  then_stands p (s.for target a body otherwise) b h k =
      compound_stands p (s.for target a body otherwise) b (statement p.deep (s.for target a body otherwise)) (lines_of p.deep b)
      (a_for_stands p target a body otherwise (lines_of (p.deep + 1) body) (if_there p.deep l.else otherwise (lines_of (p.deep + 1) otherwise))
      (suite (loop_body p) body (of_all (lines_of (p.deep + 1) body)) h.3 (block_stands (loop_body p) body h.4))
      (else_stands p otherwise (lines_of (p.deep + 1) otherwise) (block_stands (inner p) otherwise h.5))) k
  then_stands p (s.try body hs otherwise finally) b h k =
      let last = if_there p.deep l.finally finally (lines_of (p.deep + 1) finally) in
      let second = if_there p.deep l.else otherwise (lines_of (p.deep + 1) otherwise) in
      let final = block_stands (inner p) finally h.5 in
      compound_stands p (s.try body hs otherwise finally) b (statement p.deep (s.try body hs otherwise finally)) (lines_of p.deep b)
      (a_try_stands p body otherwise finally hs (lines_of (p.deep + 1) body) (catches p.deep hs ++ (second ++ last))
      (suite (inner p) body (of_all (lines_of (p.deep + 1) body)) h.1 (block_stands (inner p) body h.2))
      (handled p hs otherwise finally (lines_of (p.deep + 1) otherwise) (lines_of (p.deep + 1) finally) h.0 final
      (else_finally_stands p otherwise finally (lines_of (p.deep + 1) otherwise) last (block_stands (inner p) otherwise h.4) (finally_stands p finally (lines_of (p.deep + 1) finally) final))
      (excepts_stand p hs otherwise finally (second ++ last) h.3))) k
  then_stands p (s.define x names defaults body) b h k =
      compound_stands p (s.define x names defaults body) b (statement p.deep (s.define x names defaults body)) (lines_of p.deep b)
      (blocks.a_def (suite (def_body p) body (of_all (lines_of (p.deep + 1) body)) h.2 (block_stands (def_body p) body h.3))) k
  then_stands p (s.class x base body) b h k =
      compound_stands p (s.class x base body) b (statement p.deep (s.class x base body)) (lines_of p.deep b)
      (blocks.a_class (suite (class_body p) body (of_all (lines_of (p.deep + 1) body)) h.1 (block_stands (class_body p) body h.2))) k
  then_stands p (s.expression a) b h k = simple_stands p (s.expression a) b (lines_of p.deep b) refl k
  then_stands p (s.assign ts a) b h k = simple_stands p (s.assign ts a) b (lines_of p.deep b) refl k
  then_stands p (s.augment place o a) b h k = simple_stands p (s.augment place o a) b (lines_of p.deep b) refl k
  then_stands p s.pass b h k = simple_stands p s.pass b (lines_of p.deep b) refl k
  then_stands p s.break b h k = simple_stands p s.break b (lines_of p.deep b) h k
  then_stands p s.continue b h k = simple_stands p s.continue b (lines_of p.deep b) h k
  then_stands p (s.return a) b h k = simple_stands p (s.return a) b (lines_of p.deep b) h.0 k
  then_stands p (s.raise a) b h k = simple_stands p (s.raise a) b (lines_of p.deep b) refl k
  then_stands p (s.global xs) b h k = simple_stands p (s.global xs) b (lines_of p.deep b) refl k
  then_stands p (s.nonlocal xs) b h k = simple_stands p (s.nonlocal xs) b (lines_of p.deep b) refl k
  then_stands p (s.delete target) b h k = simple_stands p (s.delete target) b (lines_of p.deep b) refl k
  then_stands p (s.assert a message) b h k = simple_stands p (s.assert a message) b (lines_of p.deep b) refl k

  elifs_stand : (p : Place) (bs : Branches) (otherwise : Block) → AreBranches p bs
      → Else p (of_all (if_there p.deep l.else otherwise (lines_of (p.deep + 1) otherwise))) otherwise
      → Elifs p (of_all (tests l.elif p.deep bs ++ if_there p.deep l.else otherwise (lines_of (p.deep + 1) otherwise))) bs otherwise
  elifs_stand p no_branches otherwise h e = blocks.no_elif e
  elifs_stand p (branch test body bs) otherwise h e =
      an_elif_stands p test bs body otherwise (lines_of (p.deep + 1) body) (tests l.elif p.deep bs) (if_there p.deep l.else otherwise (lines_of (p.deep + 1) otherwise))
      (suite (inner p) body (of_all (lines_of (p.deep + 1) body)) h.1 (block_stands (inner p) body h.2)) (elifs_stand p bs otherwise h.3 e)

  excepts_stand : (p : Place) (hs : Handlers) (otherwise finally : Block) (last : List PrintedLine) → AreHandlers p hs → HasHandler hs
      → ElseFinally p (of_all last) otherwise finally → Excepts p (of_all (catches p.deep hs ++ last)) hs otherwise finally
  excepts_stand p no_handlers otherwise finally last h some e = absurd some
  excepts_stand p (handler class x body no_handlers) otherwise finally last h some e =
      a_last_stands p class x body otherwise finally (lines_of (p.deep + 1) body) last
      (suite (inner p) body (of_all (lines_of (p.deep + 1) body)) h.1 (block_stands (inner p) body h.2)) e
  excepts_stand p (handler (Some class) x body (handler c y d hs)) otherwise finally last h some e =
      an_earlier_stands p class x body otherwise finally (handler c y d hs) (lines_of (p.deep + 1) body) (catches p.deep (handler c y d hs)) last
      (suite (inner p) body (of_all (lines_of (p.deep + 1) body)) h.1 (block_stands (inner p) body h.2))
      (excepts_stand p (handler c y d hs) otherwise finally last h.3 tt e)
  excepts_stand p (handler None (Some x) body (handler c y d hs)) otherwise finally last h some e = absurd h.0
  excepts_stand p (handler None None body (handler c y d hs)) otherwise finally last h some e = absurd h.0
