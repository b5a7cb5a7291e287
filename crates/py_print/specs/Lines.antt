-- How simple statements and headers are printed.
use Rattle.std.specs.Prelude.{ℕ, List, [], ◌∷◌, ◌++◌, map, Option, Some, None}
use Rattle.py_ast.specs.Tree.{Tree}
use Rattle.py_ast.specs.Statement as s
use Rattle.py_ast.specs.Statement.{Statement}
use Rattle.py_ast.specs.declared.expr.BinaryOp.{BinaryOp}
use Rattle.py_ast.specs.declared.expr.BinaryOp.TheVariants as b
use Rattle.py_grammar.specs.Line as l
use Rattle.py_grammar.specs.Line.{Header}
use Rattle.py_grammar.specs.declared.mark.Mark.{Mark}
use Rattle.py_grammar.specs.declared.mark.Mark.TheVariants as m
use Rattle.py_print.specs.Pieces.{Piece, space, mark, name, in_parens, between, commas}
use Rattle.py_print.specs.Expressions.{printed, members, params_of}

-- the targets of an assignment, each before its `=`
abbrev pub lefts : List (List Piece) → List Piece
lefts [] = []
lefts (p ∷ ps) = between m.Equals p (lefts ps)

abbrev pub augmented : BinaryOp → Mark
augmented b.Add = m.PlusEquals
augmented b.Sub = m.MinusEquals
augmented b.Mul = m.StarEquals
augmented b.FloorDiv = m.SlashesEquals
augmented b.Mod = m.PercentEquals
augmented b.Pow = m.StarsEquals

-- a keyword, and maybe an expression behind it
abbrev pub with_maybe : Mark → Option Tree → List Piece
with_maybe k None = mark k ∷ []
with_maybe k (Some a) = mark k ∷ space ∷ printed a

abbrev pub name_alone : List ℕ → List Piece
name_alone x = name x ∷ []

abbrev pub names : List (List ℕ) → List Piece
names xs = commas (map name_alone xs)

-- nothing for a statement that is not simple
abbrev pub simple : Statement → List Piece
simple (s.expression a) = printed a
simple (s.assign ts a) = lefts (members ts) ++ printed a
simple (s.augment place o a) = between (augmented o) (printed place) (printed a)
simple s.pass = mark m.Pass ∷ []
simple s.break = mark m.Break ∷ []
simple s.continue = mark m.Continue ∷ []
simple (s.return a) = with_maybe m.Return a
simple (s.raise a) = with_maybe m.Raise a
simple (s.global xs) = mark m.Global ∷ space ∷ names xs
simple (s.nonlocal xs) = mark m.Nonlocal ∷ space ∷ names xs
simple (s.delete target) = mark m.Del ∷ space ∷ printed target
simple (s.assert a None) = mark m.Assert ∷ space ∷ printed a
simple (s.assert a (Some message)) = mark m.Assert ∷ space ∷ printed a ++ (mark m.Comma ∷ space ∷ printed message)
simple _ = []

-- what stands behind the class of an `except`
abbrev pub as_name : Option (List ℕ) → List Piece
as_name None = []
as_name (Some x) = space ∷ mark m.As ∷ space ∷ name x ∷ []

-- without the colon
abbrev pub header : Header → List Piece
header (l.if a) = mark m.If ∷ space ∷ printed a
header (l.elif a) = mark m.Elif ∷ space ∷ printed a
header l.else = mark m.Else ∷ []
header (l.while a) = mark m.While ∷ space ∷ printed a
header (l.for target a) = mark m.For ∷ space ∷ between m.In (printed target) (printed a)
header l.try = mark m.Try ∷ []
header l.finally = mark m.Finally ∷ []
header (l.except None x) = mark m.Except ∷ []
header (l.except (Some a) x) = mark m.Except ∷ space ∷ printed a ++ as_name x
header (l.define x xs defaults) = mark m.Def ∷ space ∷ name x ∷ in_parens (params_of xs (members defaults))
header (l.class x None) = mark m.Class ∷ space ∷ name x ∷ []
header (l.class x (Some a)) = mark m.Class ∷ space ∷ name x ∷ in_parens (printed a)
