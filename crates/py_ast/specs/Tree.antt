-- The plain trees of expressions: one constructor for each form of the grammar, without the numbers of the nodes.
-- Parentheses leave nothing in a tree.
use Rattle.std.specs.Prelude.{ℕ, ◌+◌, max, ℤ, Bool, List}
use Rattle.py_ast.specs.declared.expr.BinaryOp.{BinaryOp}
use Rattle.py_ast.specs.declared.expr.SignOp.{SignOp}
use Rattle.py_ast.specs.declared.expr.CompareOp.{CompareOp}

mutual
  pub data Tree : Type 0 where
    name : List ℕ → Tree
    number : ℤ → Tree
    text : List ℕ → Tree
    nil : Tree
    truth : Bool → Tree
    tuple : Trees → Tree
    list : Trees → Tree
    -- keys and values in turn
    dict : Trees → Tree
    -- the parameters, the defaults of the last of them, and the value
    lambda : List (List ℕ) → Trees → Tree → Tree
    -- the value, the test, and the value where the test fails
    choice : Tree → Tree → Tree → Tree
    and : Tree → Tree → Tree
    or : Tree → Tree → Tree
    not : Tree → Tree
    -- the operators, and the operands between which they stand
    compare : List CompareOp → Trees → Tree
    binary : Tree → BinaryOp → Tree → Tree
    sign : SignOp → Tree → Tree
    attr : Tree → List ℕ → Tree
    item : Tree → Tree → Tree
    call : Tree → Trees → Tree

  pub data Trees : Type 0 where
    none : Trees
    more : Tree → Trees → Trees

-- 1 for a name, a literal or an empty display, and otherwise one more than the deepest part
abbrev mutual
  pub depth : Tree → ℕ
  depth (name t) = 1
  depth (number n) = 1
  depth (text t) = 1
  depth nil = 1
  depth (truth b) = 1
  depth (tuple ts) = 1 + deepest ts
  depth (list ts) = 1 + deepest ts
  depth (dict ts) = 1 + deepest ts
  depth (lambda names defaults body) = 1 + max (deepest defaults) (depth body)
  depth (choice a test b) = 1 + max (depth a) (max (depth test) (depth b))
  depth (and a b) = 1 + max (depth a) (depth b)
  depth (or a b) = 1 + max (depth a) (depth b)
  depth (not a) = 1 + depth a
  depth (compare ops ts) = 1 + deepest ts
  depth (binary a o b) = 1 + max (depth a) (depth b)
  depth (sign o a) = 1 + depth a
  depth (attr a t) = 1 + depth a
  depth (item a i) = 1 + max (depth a) (depth i)
  depth (call f ts) = 1 + max (depth f) (deepest ts)

  -- the depth of the deepest, or 0
  pub deepest : Trees → ℕ
  deepest none = 0
  deepest (more t ts) = max (depth t) (deepest ts)
