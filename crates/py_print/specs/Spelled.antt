-- What printed lines are to spell.
use Rattle.std.specs.Prelude.{◌≡◌, ◌<◌, ◌^◌, ℕ, pos, negsuc, List, [], ◌∷◌, Some}
use Rattle.std.specs.List.{AllByRecursion}
use Rattle.py_ast.specs.Statement.{Block}
use Rattle.py_lexer.specs.Form.{kind_of}
use Rattle.py_lexer.specs.declared.token.TokenKind.TheVariants.{Word}
use Rattle.py_grammar.specs.Line.{SpellsLine}
use Rattle.py_grammar.specs.declared.sign.Sign.{Sign}
use Rattle.py_grammar.specs.declared.sign.Sign.TheVariants.{Name, Number, Text, Mark as The, Other}
use Rattle.py_signs.specs.Signs.{sign_of}
use Rattle.py_print.specs.Pieces.{signs_in}
use Rattle.py_print.specs.Printed.{Row, PrintedLine, pieces, line, lines_of}

-- the signs of what stands on a line spell the line of the grammar
abbrev pub IsSpelled : Row → Type 0
IsSpelled r = SpellsLine (signs_in (pieces r)) (line r)

abbrev pub AreSpelled : List PrintedLine → Type 0
AreSpelled xs = AllByRecursion (λ x. IsSpelled x.row) xs

-- ---- what a text can hold

-- a name that is a token, and equal to its NFKC form (UAX 15)
pub record IsOwnName (x : List ℕ) : Type 0 where
  pub token : kind_of x ≡ Some Word
  pub own : sign_of Word x ≡ Name x

-- each name of a line is such a name
abbrev pub HasOwnName : Sign → Type 0
HasOwnName (Name x) = IsOwnName x
HasOwnName _ = Unit {0}

-- all names of a cell's statements, as they stand on its printed lines
abbrev pub HasOwnNames : Block → Type 0
HasOwnNames b = AllByRecursion (λ x. AllByRecursion HasOwnName (signs_in (pieces x.row))) (lines_of 0 b)

-- a name as it is written, or a number below 2 ^ 127
abbrev pub IsWritten : Sign → Type 0
IsWritten (Name x) = IsOwnName x
IsWritten (Number (pos n)) = n < 2 ^ 127
IsWritten (Number (negsuc n)) = ⊥
IsWritten (Text x) = Unit {0}
IsWritten (The k) = Unit {0}
IsWritten Other = ⊥

-- all names and numbers of a cell's statements, as they stand on its printed lines
abbrev pub AreWritten : Block → Type 0
AreWritten b = AllByRecursion (λ x. AllByRecursion IsWritten (signs_in (pieces x.row))) (lines_of 0 b)
