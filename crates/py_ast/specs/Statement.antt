-- The plain trees of statements and blocks, without the numbers of the nodes, and those that a `Stmt` and a `Cell` stand for.
use Rattle.std.specs.Prelude.{ℕ, List, [], ◌∷◌, Option, option_map}
use Rattle.py_ast.specs.Tree.{Tree, Trees}
use Rattle.py_ast.specs.View.{view, views}
use Rattle.py_ast.specs.declared.expr.BinaryOp.{BinaryOp}
use Rattle.py_ast.specs.declared.stmt.Stmt.{Stmt}
use Rattle.py_ast.specs.declared.stmt.Stmt.TheOpen as s
use Rattle.py_ast.specs.declared.stmt.Stmt.TheOpen.{Stmt-F, Branch-F, Handler-F}
use Rattle.py_ast.specs.declared.stmt.Stmt.TheFolds.{fold-Stmt}
use Rattle.py_ast.specs.declared.cell.Cell.{Cell}
use Rattle.std.specs.Prelude.{map}

mutual
  pub data Statement : Type 0 where
    expression : Tree → Statement
    -- the targets, each before its `=`, and the value
    assign : Trees → Tree → Statement
    augment : Tree → BinaryOp → Tree → Statement
    pass : Statement
    break : Statement
    continue : Statement
    return : Option Tree → Statement
    raise : Option Tree → Statement
    global : List (List ℕ) → Statement
    nonlocal : List (List ℕ) → Statement
    delete : Tree → Statement
    assert : Tree → Option Tree → Statement
    -- the tests, each with its block, and the block after `else`, without statements where there is none
    choose : Branches → Block → Statement
    while : Tree → Block → Block → Statement
    for : Tree → Tree → Block → Block → Statement
    -- the blocks after `try`, after each `except`, after `else` and after `finally`
    try : Block → Handlers → Block → Block → Statement
    -- the name, the parameters, the defaults of the last of them, and the body
    define : List ℕ → List (List ℕ) → Trees → Block → Statement
    class : List ℕ → Option Tree → Block → Statement

  pub data Block : Type 0 where
    empty : Block
    then : Statement → Block → Block

  pub data Branches : Type 0 where
    no_branches : Branches
    branch : Tree → Block → Branches → Branches

  pub data Handlers : Type 0 where
    no_handlers : Handlers
    -- the class and the name after `as`, where they are there
    handler : Option Tree → Option (List ℕ) → Block → Handlers → Handlers

-- ---- what a `Stmt` stands for

abbrev BranchParts : Type 0
BranchParts = Tree × Block

abbrev HandlerParts : Type 0
HandlerParts = Option Tree × Option (List ℕ) × Block

abbrev pub block_of : List Statement → Block
block_of [] = empty
block_of (x ∷ xs) = then x (block_of xs)

abbrev pub branches_of : List BranchParts → Branches
branches_of [] = no_branches
branches_of (b ∷ bs) = branch b.0 b.1 (branches_of bs)

abbrev pub handlers_of : List HandlerParts → Handlers
handlers_of [] = no_handlers
handlers_of (h ∷ hs) = handler h.0 h.1 h.2 (handlers_of hs)

abbrev pub view_stmt_step : Stmt-F Statement BranchParts HandlerParts → Statement
view_stmt_step (s.Expr i x) = expression (view x)
view_stmt_step (s.Assign i targets x) = assign (views targets) (view x)
view_stmt_step (s.Augment i place o x) = augment (view place) o (view x)
view_stmt_step (s.Pass i) = pass
view_stmt_step (s.Break i) = break
view_stmt_step (s.Continue i) = continue
view_stmt_step (s.Return i x) = return (option_map view x)
view_stmt_step (s.Raise i x) = raise (option_map view x)
view_stmt_step (s.Global i names) = global names
view_stmt_step (s.Nonlocal i names) = nonlocal names
view_stmt_step (s.Del i target) = delete (view target)
view_stmt_step (s.Assert i test x) = assert (view test) (option_map view x)
view_stmt_step (s.If i branches otherwise) = choose (branches_of branches) (block_of otherwise)
view_stmt_step (s.While i test body otherwise) = while (view test) (block_of body) (block_of otherwise)
view_stmt_step (s.For i target x body otherwise) = for (view target) (view x) (block_of body) (block_of otherwise)
view_stmt_step (s.Try i body handlers otherwise finally) = try (block_of body) (handlers_of handlers) (block_of otherwise) (block_of finally)
view_stmt_step (s.Def i name params defaults body) = define name params (views defaults) (block_of body)
view_stmt_step (s.Class i name base body) = class name (option_map view base) (block_of body)

abbrev pub view_branch_step : Branch-F Statement BranchParts HandlerParts → BranchParts
view_branch_step b = (view b.test, block_of b.body)

abbrev pub view_handler_step : Handler-F Statement BranchParts HandlerParts → HandlerParts
view_handler_step h = (option_map view h.class, h.name, block_of h.body)

abbrev pub view_stmt : Stmt → Statement
view_stmt = fold-Stmt Statement BranchParts HandlerParts view_stmt_step view_branch_step view_handler_step

-- the block that statements stand for
abbrev pub view_block : List Stmt → Block
view_block xs = block_of (map view_stmt xs)

abbrev pub view_cell : Cell → Block
view_cell c = view_block c.statements
