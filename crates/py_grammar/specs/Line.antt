-- What the signs of a logical line spell: one case for each form of a production.
--
--   line    = simples | header ":" [simples]
--   simples = simple {";" simple} [";"]
--   header  = "if" expr | "elif" expr | "else" | "while" expr
--           | "for" targets "in" exprs | "try" | "finally"
--           | "except" [expr ["as" NAME]]
--           | "def" NAME "(" [params] ")" | "class" NAME ["(" [expr] ")"]
--   simple  = exprs | targets "=" {targets "="} exprs | place augop exprs
--           | "pass" | "break" | "continue" | "return" [exprs] | "raise" [expr]
--           | ("global" | "nonlocal") NAME {"," NAME} | "del" targets
--           | "assert" expr ["," expr]
--   targets = target {"," target} [","]
--   target  = place | "(" targets ")" | "[" targets "]"
--   place   = NAME | primary "." NAME | primary "[" exprs "]"
use Rattle.std.specs.Prelude.{ℕ, max, List, [], ◌∷◌, ◌++◌, Option, Some, None}
use Rattle.py_ast.specs.Tree as t
use Rattle.py_ast.specs.Tree.{Tree, Trees, none, more, depth, deepest}
use Rattle.py_ast.specs.Statement as s
use Rattle.py_ast.specs.Statement.{Statement}
use Rattle.py_ast.specs.Lawful.{AreDistinct}
use Rattle.py_ast.specs.declared.expr.BinaryOp.{BinaryOp}
use Rattle.py_ast.specs.declared.expr.BinaryOp.TheVariants as b
use Rattle.py_grammar.specs.Grammar.{Spells, Primary, Expr, Exprs, Params, push}
use Rattle.py_grammar.specs.declared.mark.Mark.{Mark}
use Rattle.py_grammar.specs.declared.mark.Mark.TheVariants as m
use Rattle.py_grammar.specs.declared.sign.Sign.{Sign}
use Rattle.py_grammar.specs.declared.sign.Sign.TheVariants.{Name, Mark as The}

-- ---- targets

pub data Place : List Sign → Tree → Type 0 where
  a_name : {x : List ℕ} → Place (Name x ∷ []) (t.name x)
  attribute : {xs : List Sign} {a : Tree} {x : List ℕ} → Spells Primary xs a → Place (xs ++ The m.Dot ∷ Name x ∷ []) (t.attr a x)
  subscript : {xs ys : List Sign} {a i : Tree} → Spells Primary xs a → Spells Exprs ys i
      → Place (xs ++ (The m.OpenSquare ∷ ys ++ The m.CloseSquare ∷ [])) (t.item a i)

-- Targets in square brackets are the tuple of them, also where there is only one.
mutual
  pub data Target : List Sign → Tree → Type 0 where
    a_place : {xs : List Sign} {a : Tree} → Place xs a → Target xs a
    in_parens : {xs : List Sign} {a : Tree} → Targets xs a → Target (The m.Open ∷ xs ++ The m.Close ∷ []) a
    in_squares : {xs : List Sign} {ts : Trees} → TargetRow xs ts → Target (The m.OpenSquare ∷ xs ++ The m.CloseSquare ∷ []) (t.tuple ts)

  -- target {"," target}
  pub data Members : List Sign → Trees → Type 0 where
    one_member : {xs : List Sign} {a : Tree} → Target xs a → Members xs (more a none)
    and_member : {xs ys : List Sign} {ts : Trees} {a : Tree} → Members xs ts → Target ys a → Members (xs ++ The m.Comma ∷ ys) (push ts a)

  -- target {"," target} [","]
  pub data TargetRow : List Sign → Trees → Type 0 where
    some_members : {xs : List Sign} {ts : Trees} → Members xs ts → TargetRow xs ts
    members_and_comma : {xs : List Sign} {ts : Trees} → Members xs ts → TargetRow (xs ++ The m.Comma ∷ []) ts

  pub data Targets : List Sign → Tree → Type 0 where
    a_target : {xs : List Sign} {a : Tree} → Target xs a → Targets xs a
    several : {xs : List Sign} {a b : Tree} {ts : Trees} → Members xs (more a (more b ts)) → Targets xs (t.tuple (more a (more b ts)))
    some_and_comma : {xs : List Sign} {ts : Trees} → Members xs ts → Targets (xs ++ The m.Comma ∷ []) (t.tuple ts)

-- ---- simple statements

-- targets "=" {targets "="}
pub data Lefts : List Sign → Trees → Type 0 where
  one_left : {xs : List Sign} {a : Tree} → Targets xs a → Lefts (xs ++ The m.Equals ∷ []) (more a none)
  and_left : {xs ys : List Sign} {ts : Trees} {a : Tree} → Lefts xs ts → Targets ys a → Lefts (xs ++ (ys ++ The m.Equals ∷ [])) (push ts a)

pub data Augments : Mark → BinaryOp → Type 0 where
  add : Augments m.PlusEquals b.Add
  subtract : Augments m.MinusEquals b.Sub
  multiply : Augments m.StarEquals b.Mul
  divide : Augments m.SlashesEquals b.FloorDiv
  modulo : Augments m.PercentEquals b.Mod
  power : Augments m.StarsEquals b.Pow

-- NAME {"," NAME}
pub data Names : List Sign → List (List ℕ) → Type 0 where
  one_name : {x : List ℕ} → Names (Name x ∷ []) (x ∷ [])
  and_name : {xs : List Sign} {names : List (List ℕ)} → Names xs names → (x : List ℕ) → Names (xs ++ The m.Comma ∷ Name x ∷ []) (names ++ x ∷ [])

pub data Simple : List Sign → Statement → Type 0 where
  expression : {xs : List Sign} {a : Tree} → Spells Exprs xs a → Simple xs (s.expression a)
  assignment : {xs ys : List Sign} {ts : Trees} {a : Tree} → Lefts xs ts → Spells Exprs ys a → Simple (xs ++ ys) (s.assign ts a)
  augmented : {xs ys : List Sign} {k : Mark} {o : BinaryOp} {p a : Tree} → Place xs p → Augments k o → Spells Exprs ys a
      → Simple (xs ++ The k ∷ ys) (s.augment p o a)
  pass : Simple (The m.Pass ∷ []) s.pass
  break : Simple (The m.Break ∷ []) s.break
  continue : Simple (The m.Continue ∷ []) s.continue
  return : Simple (The m.Return ∷ []) (s.return None)
  return_value : {xs : List Sign} {a : Tree} → Spells Exprs xs a → Simple (The m.Return ∷ xs) (s.return (Some a))
  raise : Simple (The m.Raise ∷ []) (s.raise None)
  raise_value : {xs : List Sign} {a : Tree} → Spells Expr xs a → Simple (The m.Raise ∷ xs) (s.raise (Some a))
  global : {xs : List Sign} {names : List (List ℕ)} → Names xs names → Simple (The m.Global ∷ xs) (s.global names)
  nonlocal : {xs : List Sign} {names : List (List ℕ)} → Names xs names → Simple (The m.Nonlocal ∷ xs) (s.nonlocal names)
  delete : {xs : List Sign} {a : Tree} → Targets xs a → Simple (The m.Del ∷ xs) (s.delete a)
  assert : {xs : List Sign} {a : Tree} → Spells Expr xs a → Simple (The m.Assert ∷ xs) (s.assert a None)
  assert_message : {xs ys : List Sign} {a message : Tree} → Spells Expr xs a → Spells Expr ys message
      → Simple (The m.Assert ∷ xs ++ (The m.Comma ∷ ys)) (s.assert a (Some message))

-- simple {";" simple}
pub data SomeSimples : List Sign → List Statement → Type 0 where
  one_simple : {xs : List Sign} {x : Statement} → Simple xs x → SomeSimples xs (x ∷ [])
  and_simple : {xs ys : List Sign} {x : Statement} {before : List Statement} → SomeSimples xs before → Simple ys x
      → SomeSimples (xs ++ The m.Semicolon ∷ ys) (before ++ x ∷ [])

pub data Simples : List Sign → List Statement → Type 0 where
  some_simples : {xs : List Sign} {statements : List Statement} → SomeSimples xs statements → Simples xs statements
  simples_and_semicolon : {xs : List Sign} {statements : List Statement} → SomeSimples xs statements → Simples (xs ++ The m.Semicolon ∷ []) statements

-- ---- headers and lines

pub data Header : Type 0 where
  if : Tree → Header
  elif : Tree → Header
  else : Header
  while : Tree → Header
  for : Tree → Tree → Header
  try : Header
  finally : Header
  -- the class and the name after `as`, where they are there
  except : Option Tree → Option (List ℕ) → Header
  -- the name, the parameters, and the defaults of the last of them
  define : List ℕ → List (List ℕ) → Trees → Header
  class : List ℕ → Option Tree → Header

pub data Heads : List Sign → Header → Type 0 where
  an_if : {xs : List Sign} {a : Tree} → Spells Expr xs a → Heads (The m.If ∷ xs) (if a)
  an_elif : {xs : List Sign} {a : Tree} → Spells Expr xs a → Heads (The m.Elif ∷ xs) (elif a)
  an_else : Heads (The m.Else ∷ []) else
  a_while : {xs : List Sign} {a : Tree} → Spells Expr xs a → Heads (The m.While ∷ xs) (while a)
  a_for : {xs ys : List Sign} {target a : Tree} → Targets xs target → Spells Exprs ys a → Heads (The m.For ∷ xs ++ (The m.In ∷ ys)) (for target a)
  a_try : Heads (The m.Try ∷ []) try
  a_finally : Heads (The m.Finally ∷ []) finally
  an_except : Heads (The m.Except ∷ []) (except None None)
  an_except_of : {xs : List Sign} {a : Tree} → Spells Expr xs a → Heads (The m.Except ∷ xs) (except (Some a) None)
  an_except_as : {xs : List Sign} {a : Tree} {x : List ℕ} → Spells Expr xs a → Heads (The m.Except ∷ xs ++ (The m.As ∷ Name x ∷ [])) (except (Some a) (Some x))
  a_def : {x : List ℕ} {xs : List Sign} {names : List (List ℕ)} {defaults : Trees} → Params xs names defaults → AreDistinct names
      → Heads (The m.Def ∷ Name x ∷ The m.Open ∷ xs ++ The m.Close ∷ []) (define x names defaults)
  a_class : {x : List ℕ} → Heads (The m.Class ∷ Name x ∷ []) (class x None)
  a_class_of_none : {x : List ℕ} → Heads (The m.Class ∷ Name x ∷ The m.Open ∷ The m.Close ∷ []) (class x None)
  a_class_of : {x : List ℕ} {xs : List Sign} {a : Tree} → Spells Expr xs a → Heads (The m.Class ∷ Name x ∷ The m.Open ∷ xs ++ The m.Close ∷ []) (class x (Some a))

pub data Line : Type 0 where
  simples : List Statement → Line
  -- a header, and the statements after its colon
  header : Header → List Statement → Line

pub data SpellsLine : List Sign → Line → Type 0 where
  of_simples : {xs : List Sign} {statements : List Statement} → Simples xs statements → SpellsLine xs (simples statements)
  of_header : {xs : List Sign} {h : Header} → Heads xs h → SpellsLine (xs ++ The m.Colon ∷ []) (header h [])
  of_header_with : {xs ys : List Sign} {h : Header} {statements : List Statement} → Heads xs h → Simples ys statements
      → SpellsLine (xs ++ The m.Colon ∷ ys) (header h statements)

-- ---- how deep the deepest expression of a line is, 0 where it has none

abbrev pub depth_of_maybe : Option Tree → ℕ
depth_of_maybe None = 0
depth_of_maybe (Some a) = depth a

-- of a simple statement
abbrev pub simple_depth : Statement → ℕ
simple_depth (s.expression a) = depth a
simple_depth (s.assign ts a) = max (deepest ts) (depth a)
simple_depth (s.augment p o a) = max (depth p) (depth a)
simple_depth (s.return a) = depth_of_maybe a
simple_depth (s.raise a) = depth_of_maybe a
simple_depth (s.delete a) = depth a
simple_depth (s.assert a message) = max (depth a) (depth_of_maybe message)
simple_depth _ = 0

abbrev pub simples_depth : List Statement → ℕ
simples_depth [] = 0
simples_depth (x ∷ xs) = max (simple_depth x) (simples_depth xs)

abbrev pub header_depth : Header → ℕ
header_depth (if a) = depth a
header_depth (elif a) = depth a
header_depth (while a) = depth a
header_depth (for target a) = max (depth target) (depth a)
header_depth (except a x) = depth_of_maybe a
header_depth (define x names defaults) = deepest defaults
header_depth (class x a) = depth_of_maybe a
header_depth _ = 0

abbrev pub line_depth : Line → ℕ
line_depth (simples xs) = simples_depth xs
line_depth (header h xs) = max (header_depth h) (simples_depth xs)
