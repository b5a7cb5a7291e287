-- What stands round the parts of a list as it is printed.
use Rattle.std.specs.Prelude.{ℕ, zero, suc, ◌-◌, nat_lt, if◌then◌else◌, List, [], ◌∷◌, ◌++◌, Option, Some}
use Rattle.py_ast.specs.declared.expr.CompareOp.{CompareOp}
use Rattle.py_grammar.specs.declared.mark.Mark.{Mark}
use Rattle.py_grammar.specs.declared.mark.Mark.TheVariants as m
use Rattle.py_print.specs.Pieces.{Piece, space, mark}
use Rattle.py_print.specs.Expressions.{comparison}

-- what stands behind a key or value, by what stands before it
abbrev pub behind_part : Option Mark → Option Mark
behind_part (Some m.Colon) = Some m.Comma
behind_part _ = Some m.Colon

-- what stands before an operand, by its place
abbrev pub before_operand : ℕ → List CompareOp → List Piece
before_operand zero ops = []
before_operand (suc i) [] = []
before_operand (suc zero) (o ∷ ops) = space ∷ comparison o ++ space ∷ []
before_operand (suc (suc i)) (o ∷ ops) = before_operand (suc i) ops

-- the default at a place, if there is one
abbrev pub default_at : ℕ → List (List Piece) → List Piece
default_at i [] = []
default_at zero (p ∷ ps) = mark m.Equals ∷ p
default_at (suc i) (p ∷ ps) = default_at i ps

-- the default of the parameter at a place, if it has one, where so many parameters have none
abbrev pub default_of : ℕ → ℕ → List (List Piece) → List Piece
default_of plain i ps = if nat_lt i plain then [] else default_at (i - plain) ps

-- a space where there are names
abbrev pub space_before : List (List ℕ) → List Piece
space_before [] = []
space_before (x ∷ xs) = space ∷ []
