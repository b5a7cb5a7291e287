-- How expressions are printed. A part is in parentheses exactly where its level in the grammar is looser than its place asks.
use Rattle.std.specs.Prelude.{ℕ, ◌-◌, List, [], ◌∷◌, ◌++◌, length, Bool, true, false, nat_le, if◌then◌else◌}
use Rattle.py_ast.specs.Tree as t
use Rattle.py_ast.specs.Tree.{Tree, Trees, none, more}
use Rattle.py_ast.specs.declared.expr.BinaryOp.{BinaryOp}
use Rattle.py_ast.specs.declared.expr.BinaryOp.TheVariants as b
use Rattle.py_ast.specs.declared.expr.SignOp.{SignOp}
use Rattle.py_ast.specs.declared.expr.SignOp.TheVariants as p
use Rattle.py_ast.specs.declared.expr.CompareOp.{CompareOp}
use Rattle.py_ast.specs.declared.expr.CompareOp.TheVariants as c
use Rattle.py_grammar.specs.Grammar as g
use Rattle.py_grammar.specs.Grammar.{Level, Atom, Primary, Power, Factor, Term, Sum, Comparison, Not, And, Or, Expr, Exprs}
use Rattle.py_grammar.specs.declared.mark.Mark.{Mark}
use Rattle.py_grammar.specs.declared.mark.Mark.TheVariants as m
use Rattle.py_grammar.specs.declared.sign.Sign.TheVariants.{Number, Text}
use Rattle.py_print.specs.Pieces.{Piece, sign, space, mark, name, in_parens, in_squares, in_curly, between, after_space, commas, one_comma, pairs, params}

-- ---- levels

-- how loose a level is
abbrev pub rank : Level → ℕ
rank Atom = 0
rank Primary = 1
rank Power = 2
rank Factor = 3
rank Term = 4
rank Sum = 5
rank Comparison = 6
rank Not = 7
rank And = 8
rank Or = 9
rank Expr = 10
rank Exprs = 11

abbrev pub operation_level : BinaryOp → Level
operation_level b.Add = Sum
operation_level b.Sub = Sum
operation_level b.Mul = Term
operation_level b.FloorDiv = Term
operation_level b.Mod = Term
operation_level b.Pow = Power

-- the level of a form as it is printed; a tuple is always in parentheses
abbrev pub level_of : Tree → Level
level_of (t.name x) = Atom
level_of (t.number n) = Atom
level_of (t.text x) = Atom
level_of t.nil = Atom
level_of (t.truth v) = Atom
level_of (t.tuple ts) = Atom
level_of (t.list ts) = Atom
level_of (t.dict ts) = Atom
level_of (t.lambda names defaults a) = Expr
level_of (t.choice a test other) = Expr
level_of (t.and l r) = And
level_of (t.or l r) = Or
level_of (t.not a) = Not
level_of (t.compare ops ts) = Comparison
level_of (t.binary l o r) = operation_level o
level_of (t.sign o a) = Factor
level_of (t.attr a x) = Primary
level_of (t.item a i) = Primary
level_of (t.call f ts) = Primary

-- what is printed of a form, at a place that asks for a level
abbrev pub at : Level → Tree → List Piece → List Piece
at place a ps = if nat_le (rank (level_of a)) (rank place) then ps else in_parens ps

-- what the operands of an operator are asked for
abbrev pub left_place : BinaryOp → Level
left_place b.Pow = Primary
left_place b.Add = Sum
left_place b.Sub = Sum
left_place b.Mul = Term
left_place b.FloorDiv = Term
left_place b.Mod = Term

abbrev pub right_place : BinaryOp → Level
right_place b.Pow = Factor
right_place b.Add = Term
right_place b.Sub = Term
right_place b.Mul = Factor
right_place b.FloorDiv = Factor
right_place b.Mod = Factor

abbrev pub is_number : Tree → Bool
is_number (t.number n) = true
is_number _ = false

-- a number directly before `.` is in parentheses too
abbrev pub before_dot : Tree → List Piece → List Piece
before_dot a ps = if is_number a then in_parens ps else at Primary a ps

-- ---- operators

abbrev pub operator : BinaryOp → Mark
operator b.Add = m.Plus
operator b.Sub = m.Minus
operator b.Mul = m.Star
operator b.FloorDiv = m.Slashes
operator b.Mod = m.Percent
operator b.Pow = m.Stars

abbrev pub sign_mark : SignOp → Mark
sign_mark p.Plus = m.Plus
sign_mark p.Minus = m.Minus

abbrev pub comparison : CompareOp → List Piece
comparison c.Less = mark m.Less ∷ []
comparison c.Greater = mark m.Greater ∷ []
comparison c.Equal = mark m.Same ∷ []
comparison c.AtLeast = mark m.AtLeast ∷ []
comparison c.AtMost = mark m.AtMost ∷ []
comparison c.NotEqual = mark m.Differs ∷ []
comparison c.In = mark m.In ∷ []
comparison c.NotIn = mark m.Not ∷ space ∷ mark m.In ∷ []
comparison c.Is = mark m.Is ∷ []
comparison c.IsNot = mark m.Is ∷ space ∷ mark m.Not ∷ []

-- operands with the operators before them
abbrev pub compared_on : List CompareOp → List (List Piece) → List Piece
compared_on [] ps = []
compared_on (o ∷ ops) [] = []
compared_on (o ∷ ops) (p ∷ ps) = space ∷ comparison o ++ (space ∷ p ++ compared_on ops ps)

abbrev pub compared : List CompareOp → List (List Piece) → List Piece
compared ops [] = []
compared ops (p ∷ ps) = p ++ compared_on ops ps

abbrev pub truth_mark : Bool → Mark
truth_mark true = m.True
truth_mark false = m.False

-- ---- forms

-- the names, and the printed defaults of the last of them
abbrev pub params_of : List (List ℕ) → List (List Piece) → List Piece
params_of names defaults = commas (params (length names - length defaults) names defaults)

abbrev mutual
  pub printed : Tree → List Piece
  printed (t.name x) = name x ∷ []
  printed (t.number n) = sign (Number n) ∷ []
  printed (t.text x) = sign (Text x) ∷ []
  printed t.nil = mark m.None ∷ []
  printed (t.truth v) = mark (truth_mark v) ∷ []
  printed (t.tuple ts) = in_parens (commas (members ts) ++ one_comma (members ts))
  printed (t.list ts) = in_squares (commas (members ts))
  printed (t.dict ts) = in_curly (pairs (members ts))
  printed (t.lambda names defaults a) = mark m.Lambda ∷ after_space (params_of names (members defaults)) ++ (mark m.Colon ∷ space ∷ printed a)
  printed (t.choice a test other) = between m.If (at Or a (printed a)) (between m.Else (at Or test (printed test)) (printed other))
  printed (t.and l r) = between m.And (at And l (printed l)) (at Not r (printed r))
  printed (t.or l r) = between m.Or (at Or l (printed l)) (at And r (printed r))
  printed (t.not a) = mark m.Not ∷ space ∷ at Not a (printed a)
  printed (t.compare ops ts) = compared ops (operands ts)
  printed (t.binary l o r) = between (operator o) (at (left_place o) l (printed l)) (at (right_place o) r (printed r))
  printed (t.sign o a) = mark (sign_mark o) ∷ at Factor a (printed a)
  printed (t.attr a x) = before_dot a (printed a) ++ (mark m.Dot ∷ name x ∷ [])
  printed (t.item a i) = at Primary a (printed a) ++ in_squares (printed i)
  printed (t.call f ts) = at Primary f (printed f) ++ in_parens (commas (members ts))

  -- each at a place that asks for an expression, which every form is
  pub members : Trees → List (List Piece)
  members none = []
  members (more a ts) = printed a ∷ members ts

  -- each at a place of an operand of a comparison
  pub operands : Trees → List (List Piece)
  operands none = []
  operands (more a ts) = at Sum a (printed a) ∷ operands ts

-- an expression at a place that asks for a level
abbrev pub expr_at : Level → Tree → List Piece
expr_at place a = at place a (printed a)
