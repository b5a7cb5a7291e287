-- Signs of a few expressions, and their trees.
use Rattle.std.specs.Prelude.{ℕ, pos, List, [], ◌∷◌}
use Rattle.py_ast.specs.Tree as t
use Rattle.py_ast.specs.Tree.{Tree, Trees, none, more}
use Rattle.py_ast.specs.declared.expr.BinaryOp.TheVariants as b
use Rattle.py_ast.specs.declared.expr.CompareOp.TheVariants as c
use Rattle.py_ast.specs.declared.expr.SignOp.TheVariants as p
use Rattle.py_grammar.specs.declared.mark.Mark.TheVariants as m
use Rattle.py_grammar.specs.declared.sign.Sign.{Sign}
use Rattle.py_grammar.specs.declared.sign.Sign.TheVariants.{Name, Number, Mark as The}

abbrev pub number : ℕ → Sign
number n = Number (pos n)

abbrev pub value : ℕ → Tree
value n = t.number (pos n)

-- the names x, y and z
abbrev pub x : List ℕ
x = 120 ∷ []

abbrev pub y : List ℕ
y = 121 ∷ []

abbrev pub z : List ℕ
z = 122 ∷ []

abbrev pub both : Tree → Tree → Trees
both a b = more a (more b none)

-- ---- operators

-- 1 + 2 * 3
abbrev pub sum_and_product : List Sign
sum_and_product = number 1 ∷ The m.Plus ∷ number 2 ∷ The m.Star ∷ number 3 ∷ []

-- 1 + (2 * 3)
abbrev pub sum_of_product : Tree
sum_of_product = t.binary (value 1) b.Add (t.binary (value 2) b.Mul (value 3))

-- 3 - 2 - 1
abbrev pub differences : List Sign
differences = number 3 ∷ The m.Minus ∷ number 2 ∷ The m.Minus ∷ number 1 ∷ []

-- (3 - 2) - 1
abbrev pub left_first : Tree
left_first = t.binary (t.binary (value 3) b.Sub (value 2)) b.Sub (value 1)

-- 3 - (2 - 1)
abbrev pub right_first : Tree
right_first = t.binary (value 3) b.Sub (t.binary (value 2) b.Sub (value 1))

-- 2 ** 3 ** 2
abbrev pub powers : List Sign
powers = number 2 ∷ The m.Stars ∷ number 3 ∷ The m.Stars ∷ number 2 ∷ []

-- 2 ** (3 ** 2)
abbrev pub power_of_power : Tree
power_of_power = t.binary (value 2) b.Pow (t.binary (value 3) b.Pow (value 2))

-- -2 ** 2
abbrev pub sign_and_power : List Sign
sign_and_power = The m.Minus ∷ number 2 ∷ The m.Stars ∷ number 2 ∷ []

-- -(2 ** 2)
abbrev pub sign_of_power : Tree
sign_of_power = t.sign p.Minus (t.binary (value 2) b.Pow (value 2))

-- 2 ** -1
abbrev pub power_and_sign : List Sign
power_and_sign = number 2 ∷ The m.Stars ∷ The m.Minus ∷ number 1 ∷ []

-- 2 ** (-1)
abbrev pub power_of_sign : Tree
power_of_sign = t.binary (value 2) b.Pow (t.sign p.Minus (value 1))

-- not x in y
abbrev pub not_and_in : List Sign
not_and_in = The m.Not ∷ Name x ∷ The m.In ∷ Name y ∷ []

-- not (x in y)
abbrev pub negated_test : Tree
negated_test = t.not (t.compare (c.In ∷ []) (both (t.name x) (t.name y)))

-- x < y not in z
abbrev pub comparisons : List Sign
comparisons = Name x ∷ The m.Less ∷ Name y ∷ The m.Not ∷ The m.In ∷ Name z ∷ []

-- one comparison with two operators
abbrev pub one_comparison : Tree
one_comparison = t.compare (c.Less ∷ c.NotIn ∷ []) (more (t.name x) (both (t.name y) (t.name z)))

-- (x < y) not in z
abbrev pub nested_comparison : Tree
nested_comparison = t.compare (c.NotIn ∷ []) (both (t.compare (c.Less ∷ []) (both (t.name x) (t.name y))) (t.name z))

-- ---- displays, conditional expressions and lambdas

-- x if y else z if x else y
abbrev pub choices : List Sign
choices = Name x ∷ The m.If ∷ Name y ∷ The m.Else ∷ Name z ∷ The m.If ∷ Name x ∷ The m.Else ∷ Name y ∷ []

-- x if y else (z if x else y)
abbrev pub right_choice : Tree
right_choice = t.choice (t.name x) (t.name y) (t.choice (t.name z) (t.name x) (t.name y))

-- lambda x, y=1: x + y
abbrev pub lambda_of_two : List Sign
lambda_of_two = The m.Lambda ∷ Name x ∷ The m.Comma ∷ Name y ∷ The m.Equals ∷ number 1 ∷ The m.Colon ∷ Name x ∷ The m.Plus ∷ Name y ∷ []

abbrev pub lambda_tree : Tree
lambda_tree = t.lambda (x ∷ y ∷ []) (more (value 1) none) (t.binary (t.name x) b.Add (t.name y))

-- lambda x, x: x
abbrev pub lambda_of_same : List Sign
lambda_of_same = The m.Lambda ∷ Name x ∷ The m.Comma ∷ Name x ∷ The m.Colon ∷ Name x ∷ []
