-- What branches and `except` clauses stand for, and what stands in their lines.
use Rattle.std.specs.Prelude.{ℕ, Bool, true, false, List, [], ◌∷◌, Option, Some, None}
use Rattle.py_ast.specs.Tree.{Tree}
use Rattle.py_ast.specs.Statement.{Statement, Block, view_stmt_step, view_branch_step, view_handler_step}
use Rattle.py_ast.specs.declared.stmt.Branch.{Branch}
use Rattle.py_ast.specs.declared.stmt.Handler.{Handler}
use Rattle.py_ast.specs.declared.stmt.Stmt.TheFolds.{fold-Branch, fold-Handler}
use Rattle.py_grammar.specs.declared.mark.Mark.{Mark}
use Rattle.py_grammar.specs.declared.mark.Mark.TheVariants as m
use Rattle.py_print.specs.Pieces.{Piece, space, mark}
use Rattle.py_print.specs.Expressions.{printed}

abbrev pub view_branch : Branch → Tree × Block
view_branch = fold-Branch Statement (Tree × Block) (Option Tree × Option (List ℕ) × Block) view_stmt_step view_branch_step view_handler_step

abbrev pub view_handler : Handler → Option Tree × Option (List ℕ) × Block
view_handler = fold-Handler Statement (Tree × Block) (Option Tree × Option (List ℕ) × Block) view_stmt_step view_branch_step view_handler_step

-- a keyword and an expression
abbrev pub word_and : Mark → Tree → List Piece
word_and k a = mark k ∷ space ∷ printed a

-- what stands behind the test of an `assert`
abbrev pub message_of : Option Tree → List Piece
message_of None = []
message_of (Some a) = mark m.Comma ∷ space ∷ printed a

-- the first test of an `if` has its keyword, and those behind it `elif`
abbrev pub test_word : Bool → Mark
test_word true = m.If
test_word false = m.Elif
