-- Which blocks of statements lines spell, each line at its depth: a header without statements after its colon is followed by
-- deeper lines, which are its block, and no other line is.
--
--   `elif` follows an `if` or `elif` block at the same depth; `else` an `if`, `elif`, `while`, `for` or `except` block; `except` a `try` or
--   `except` block; `finally` a `try` block, an `except` block, or the `else` block after an `except` block. A `try` has an `except` or a `finally`,
--   and an `except` without a class is the last. The innermost `def` or `class` round a `return` is a `def`, and `break` and `continue` stand inside
--   a loop of the same function and class body, which its `else` block is not.
use Rattle.std.specs.Prelude.{◌≡◌, ℕ, ◌+◌, Bool, true, List, [], ◌∷◌, ◌++◌, Option, Some}
use Rattle.py_ast.specs.Tree.{Tree, Trees}
use Rattle.py_ast.specs.Statement as s
use Rattle.py_ast.specs.Statement.{Statement, Block, empty, then, Branches, no_branches, branch, Handlers, no_handlers, handler}
use Rattle.py_ast.specs.Lawful.{Place, inner, loop_body, def_body, class_body, top}
use Rattle.py_grammar.specs.Line as l
use Rattle.py_grammar.specs.Line.{Line, Header}

-- a line at a depth
pub record Placed : Type 0 where
  pub deep : ℕ
  pub line : Line

-- a line at the depth of a place, of statements, or of a header and the statements after its colon
abbrev pub of : Place → List Statement → Placed
of p statements = record { deep = p.deep; line = l.simples statements }

abbrev pub head : Place → Header → List Statement → Placed
head p h statements = record { deep = p.deep; line = l.header h statements }

-- whether a simple statement may stand at a place
abbrev pub is_allowed : Place → Statement → Bool
is_allowed p (s.return x) = p.in_def
is_allowed p s.break = p.in_loop
is_allowed p s.continue = p.in_loop
is_allowed p _ = true

abbrev pub AreAllowed : Place → List Statement → Type 0
AreAllowed p [] = Unit {0}
AreAllowed p (x ∷ xs) = (is_allowed p x ≡ true) × AreAllowed p xs

abbrev pub put : List Statement → Block → Block
put [] b = b
put (x ∷ xs) b = then x (put xs b)

mutual
  -- none or more statements
  pub data Stands : Place → List Placed → Block → Type 0 where
    nothing : {p : Place} → Stands p [] empty
    simples : {p : Place} {x : Statement} {xs : List Statement} {lines : List Placed} {b : Block} → AreAllowed p (x ∷ xs) → Stands p lines b
        → Stands p (of p (x ∷ xs) ∷ lines) (then x (put xs b))
    compound : {p : Place} {x : Statement} {lines more : List Placed} {b : Block} → Compound p lines x → Stands p more b → Stands p (lines ++ more) (then x b)

  -- the block of a header with the statements after its colon, and the lines that follow the header
  pub data Suite : Place → List Statement → List Placed → Block → Type 0 where
    beside : {p : Place} {x : Statement} {xs : List Statement} → AreAllowed p (x ∷ xs) → Suite p (x ∷ xs) [] (then x (put xs empty))
    below : {p : Place} {lines : List Placed} {x : Statement} {b : Block} → Stands p lines (then x b) → Suite p [] lines (then x b)

  pub data Compound : Place → List Placed → Statement → Type 0 where
    an_if : {p : Place} {test : Tree} {xs : List Statement} {lines more : List Placed} {body otherwise : Block} {branches : Branches} → Suite (inner p) xs lines body
        → Elifs p more branches otherwise → Compound p (head p (l.if test) xs ∷ lines ++ more) (s.choose (branch test body branches) otherwise)
    a_while : {p : Place} {test : Tree} {xs : List Statement} {lines more : List Placed} {body otherwise : Block} → Suite (loop_body p) xs lines body
        → Else p more otherwise → Compound p (head p (l.while test) xs ∷ lines ++ more) (s.while test body otherwise)
    a_for : {p : Place} {target a : Tree} {xs : List Statement} {lines more : List Placed} {body otherwise : Block} → Suite (loop_body p) xs lines body
        → Else p more otherwise → Compound p (head p (l.for target a) xs ∷ lines ++ more) (s.for target a body otherwise)
    a_try : {p : Place} {xs : List Statement} {lines more : List Placed} {body otherwise finally : Block} {handlers : Handlers} → Suite (inner p) xs lines body
        → Handled p more handlers otherwise finally → Compound p (head p l.try xs ∷ lines ++ more) (s.try body handlers otherwise finally)
    a_def : {p : Place} {x : List ℕ} {names : List (List ℕ)} {defaults : Trees} {xs : List Statement} {lines : List Placed} {body : Block}
        → Suite (def_body p) xs lines body → Compound p (head p (l.define x names defaults) xs ∷ lines) (s.define x names defaults body)
    a_class : {p : Place} {x : List ℕ} {base : Option Tree} {xs : List Statement} {lines : List Placed} {body : Block} → Suite (class_body p) xs lines body
        → Compound p (head p (l.class x base) xs ∷ lines) (s.class x base body)

  -- what may follow the block of `if` or `elif`
  pub data Elifs : Place → List Placed → Branches → Block → Type 0 where
    no_elif : {p : Place} {lines : List Placed} {otherwise : Block} → Else p lines otherwise → Elifs p lines no_branches otherwise
    an_elif : {p : Place} {test : Tree} {xs : List Statement} {lines more : List Placed} {body otherwise : Block} {branches : Branches} → Suite (inner p) xs lines body
        → Elifs p more branches otherwise → Elifs p (head p (l.elif test) xs ∷ lines ++ more) (branch test body branches) otherwise

  -- what may follow the block of a loop, or of the last test
  pub data Else : Place → List Placed → Block → Type 0 where
    no_else : {p : Place} → Else p [] empty
    an_else : {p : Place} {xs : List Statement} {lines : List Placed} {body : Block} → Suite (inner p) xs lines body → Else p (head p l.else xs ∷ lines) body

  -- what follows the block of `try`
  pub data Handled : Place → List Placed → Handlers → Block → Block → Type 0 where
    by_finally : {p : Place} {xs : List Statement} {lines : List Placed} {body : Block} → Suite (inner p) xs lines body
        → Handled p (head p l.finally xs ∷ lines) no_handlers empty body
    by_except : {p : Place} {lines : List Placed} {handlers : Handlers} {otherwise finally : Block} → Excepts p lines handlers otherwise finally
        → Handled p lines handlers otherwise finally

  -- an `except` with what follows its block
  pub data Excepts : Place → List Placed → Handlers → Block → Block → Type 0 where
    a_last : {p : Place} {class : Option Tree} {x : Option (List ℕ)} {xs : List Statement} {lines more : List Placed} {body otherwise finally : Block}
        → Suite (inner p) xs lines body → ElseFinally p more otherwise finally
        → Excepts p (head p (l.except class x) xs ∷ lines ++ more) (handler class x body no_handlers) otherwise finally
    an_earlier : {p : Place} {class : Tree} {x : Option (List ℕ)} {xs : List Statement} {lines more : List Placed} {body otherwise finally : Block} {handlers : Handlers}
        → Suite (inner p) xs lines body → Excepts p more handlers otherwise finally
        → Excepts p (head p (l.except (Some class) x) xs ∷ lines ++ more) (handler (Some class) x body handlers) otherwise finally

  -- what may follow the block of the last `except`
  pub data ElseFinally : Place → List Placed → Block → Block → Type 0 where
    without_else : {p : Place} {lines : List Placed} {finally : Block} → Finally p lines finally → ElseFinally p lines empty finally
    with_else : {p : Place} {xs : List Statement} {lines more : List Placed} {body finally : Block} → Suite (inner p) xs lines body → Finally p more finally
        → ElseFinally p (head p l.else xs ∷ lines ++ more) body finally

  pub data Finally : Place → List Placed → Block → Type 0 where
    no_finally : {p : Place} → Finally p [] empty
    a_finally : {p : Place} {xs : List Statement} {lines : List Placed} {body : Block} → Suite (inner p) xs lines body → Finally p (head p l.finally xs ∷ lines) body

-- ---- cells

-- lines that begin a cell
abbrev pub Begins : List Placed → Type 0
Begins lines = (more : List Placed) × (b : Block) × Stands top (lines ++ more) b
