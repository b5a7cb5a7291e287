-- The cells that the grammar, the rules of blocks and the limits allow, with their nodes numbered. Faults of scopes are left
-- out, and what a name or a literal is spelled with.
use Rattle.std.specs.Prelude.{◌≡◌, ◌≤◌, ◌<◌, ℕ, suc, ◌+◌, pos, ◌≤ℤ◌, Bool, true, false, length, List, [], ◌∷◌, Option, Some, None}
use Rattle.std.specs.List.{Contains}
use Rattle.py_ast.specs.Tree as tree
use Rattle.py_ast.specs.Tree.{Tree, Trees, none, more, depth}
use Rattle.py_ast.specs.Statement as t
use Rattle.py_ast.specs.Statement.{Statement, Block, empty, then, Branches, no_branches, branch, Handlers, no_handlers, handler, view_cell}
use Rattle.py_ast.specs.Nodes.{IsNumbered}
use Rattle.py_ast.specs.declared.cell.Cell.{Cell}

-- ---- expressions

abbrev pub count : Trees → ℕ
count none = 0
count (more x xs) = suc (count xs)

-- each key has its value
abbrev pub AreInPairs : Trees → Type 0
AreInPairs none = Unit {0}
AreInPairs (more key none) = ⊥
AreInPairs (more key (more value rest)) = AreInPairs rest

abbrev pub AreDistinct : List (List ℕ) → Type 0
AreDistinct [] = Unit {0}
AreDistinct (name ∷ names) = (Contains names name → ⊥) × AreDistinct names

-- parameters have different names, and none without a default follows one with a default
abbrev pub AreParams : List (List ℕ) → Trees → Type 0
AreParams names defaults = AreDistinct names × (count defaults ≤ length names)

abbrev mutual
  pub IsForm : Tree → Type 0
  IsForm (tree.name x) = Unit {0}
  IsForm (tree.number n) = pos 0 ≤ℤ n
  IsForm (tree.text x) = Unit {0}
  IsForm tree.nil = Unit {0}
  IsForm (tree.truth b) = Unit {0}
  IsForm (tree.tuple xs) = AreForms xs
  IsForm (tree.list xs) = AreForms xs
  IsForm (tree.dict xs) = AreForms xs × AreInPairs xs
  IsForm (tree.lambda names defaults body) = AreParams names defaults × AreForms defaults × IsForm body
  IsForm (tree.choice a test b) = IsForm a × IsForm test × IsForm b
  IsForm (tree.and a b) = IsForm a × IsForm b
  IsForm (tree.or a b) = IsForm a × IsForm b
  IsForm (tree.not a) = IsForm a
  -- an operator stands between each two operands, and there is one at least
  IsForm (tree.compare ops xs) = AreForms xs × (0 < length ops) × (count xs ≡ length ops + 1)
  IsForm (tree.binary a o b) = IsForm a × IsForm b
  IsForm (tree.sign o a) = IsForm a
  IsForm (tree.attr a x) = IsForm a
  IsForm (tree.item a i) = IsForm a × IsForm i
  IsForm (tree.call f xs) = IsForm f × AreForms xs

  pub AreForms : Trees → Type 0
  AreForms none = Unit {0}
  AreForms (more x xs) = IsForm x × AreForms xs

-- a name, an attribute or an item
abbrev pub IsPlace : Tree → Type 0
IsPlace (tree.name x) = Unit {0}
IsPlace (tree.attr a x) = Unit {0}
IsPlace (tree.item a i) = Unit {0}
IsPlace _ = ⊥

-- a place, or a tuple of one or more targets
abbrev mutual
  pub IsTarget : Tree → Type 0
  IsTarget (tree.tuple none) = ⊥
  IsTarget (tree.tuple (more x xs)) = IsTarget x × AreTargets xs
  IsTarget (tree.name x) = Unit {0}
  IsTarget (tree.attr a x) = Unit {0}
  IsTarget (tree.item a i) = Unit {0}
  IsTarget _ = ⊥

  pub AreTargets : Trees → Type 0
  AreTargets none = Unit {0}
  AreTargets (more x xs) = IsTarget x × AreTargets xs

-- an expression that a line has as a whole
abbrev pub IsWhole : Tree → Type 0
IsWhole x = IsForm x × (depth x ≤ 60)

abbrev pub AreWhole : Trees → Type 0
AreWhole none = Unit {0}
AreWhole (more x xs) = IsWhole x × AreWhole xs

abbrev pub IsWholeOrNone : Option Tree → Type 0
IsWholeOrNone None = Unit {0}
IsWholeOrNone (Some x) = IsWhole x

-- ---- statements

-- where a block stands: its depth, whether the innermost `def` or `class` round it is a `def`, and whether it is inside a loop
-- of the same function and class body
pub record Place : Type 0 where
  pub deep : ℕ
  pub in_def : Bool
  pub in_loop : Bool

-- the place of a block of a statement that stands here, which is a loop's body, a function's, or a class's, or none of these
abbrev pub inner : Place → Place
inner p = record { deep = p.deep + 1; in_def = p.in_def; in_loop = p.in_loop }

abbrev pub loop_body : Place → Place
loop_body p = record { deep = p.deep + 1; in_def = p.in_def; in_loop = true }

abbrev pub def_body : Place → Place
def_body p = record { deep = p.deep + 1; in_def = true; in_loop = false }

abbrev pub class_body : Place → Place
class_body p = record { deep = p.deep + 1; in_def = false; in_loop = false }

abbrev pub IsSome : Block → Type 0
IsSome empty = ⊥
IsSome (then x xs) = Unit {0}

abbrev pub HasHandler : Handlers → Type 0
HasHandler no_handlers = ⊥
HasHandler (handler c x b hs) = Unit {0}

-- a block after `else` follows an `except` block, and there is an `except` or a `finally`
abbrev pub IsTry : Handlers → Block → Block → Type 0
IsTry no_handlers empty finally = IsSome finally
IsTry no_handlers (then x xs) finally = ⊥
IsTry (handler c x b hs) otherwise finally = Unit {0}

-- a name stands after a class, and a clause without a class is the last
abbrev pub IsClause : Option Tree → Option (List ℕ) → Handlers → Type 0
IsClause (Some c) x later = IsWhole c
IsClause None (Some x) later = ⊥
IsClause None None no_handlers = Unit {0}
IsClause None None (handler c x b hs) = ⊥

abbrev mutual
  pub IsStatement : Place → Statement → Type 0
  IsStatement p (t.expression x) = IsWhole x
  IsStatement p (t.assign none x) = ⊥
  IsStatement p (t.assign (more target targets) x) = IsTarget target × AreTargets targets × AreWhole (more target targets) × IsWhole x
  IsStatement p (t.augment place o x) = IsPlace place × IsWhole place × IsWhole x
  IsStatement p t.pass = Unit {0}
  IsStatement p t.break = p.in_loop ≡ true
  IsStatement p t.continue = p.in_loop ≡ true
  IsStatement p (t.return x) = (p.in_def ≡ true) × IsWholeOrNone x
  IsStatement p (t.raise x) = IsWholeOrNone x
  IsStatement p (t.global names) = 0 < length names
  IsStatement p (t.nonlocal names) = 0 < length names
  IsStatement p (t.delete target) = IsTarget target × IsWhole target
  IsStatement p (t.assert test x) = IsWhole test × IsWholeOrNone x
  IsStatement p (t.choose no_branches otherwise) = ⊥
  IsStatement p (t.choose (branch test body bs) otherwise) =
      IsWhole test × IsSome body × IsBlock (inner p) body × AreBranches p bs × IsBlock (inner p) otherwise
  IsStatement p (t.while test body otherwise) = IsWhole test × IsSome body × IsBlock (loop_body p) body × IsBlock (inner p) otherwise
  IsStatement p (t.for target x body otherwise) =
      IsTarget target × IsWhole target × IsWhole x × IsSome body × IsBlock (loop_body p) body × IsBlock (inner p) otherwise
  IsStatement p (t.try body hs otherwise finally) =
      IsTry hs otherwise finally × IsSome body × IsBlock (inner p) body × AreHandlers p hs × IsBlock (inner p) otherwise × IsBlock (inner p) finally
  IsStatement p (t.define name names defaults body) = AreParams names defaults × AreWhole defaults × IsSome body × IsBlock (def_body p) body
  IsStatement p (t.class name base body) = IsWholeOrNone base × IsSome body × IsBlock (class_body p) body

  -- each line of a block stands at the block's depth
  pub IsBlock : Place → Block → Type 0
  IsBlock p empty = Unit {0}
  IsBlock p (then x xs) = (p.deep ≤ 60) × IsStatement p x × IsBlock p xs

  pub AreBranches : Place → Branches → Type 0
  AreBranches p no_branches = Unit {0}
  AreBranches p (branch test body bs) = IsWhole test × IsSome body × IsBlock (inner p) body × AreBranches p bs

  pub AreHandlers : Place → Handlers → Type 0
  AreHandlers p no_handlers = Unit {0}
  AreHandlers p (handler c x body hs) = IsClause c x hs × IsSome body × IsBlock (inner p) body × AreHandlers p hs

-- ---- cells

abbrev pub top : Place
top = record { deep = 0; in_def = false; in_loop = false }

pub record IsLawful (c : Cell) : Type 0 where
  pub allowed : IsBlock top (view_cell c)
  pub numbered : IsNumbered c
