-- What the signs of an expression spell: one case for each form of a production. A form of a tighter level is one of each
-- looser level. Parentheses leave nothing in the tree.
--
--   exprs   = expr {"," expr} [","]
--   expr    = or ["if" or "else" expr] | "lambda" [params] ":" expr
--   or      = and {"or" and}          and  = not {"and" not}
--   not     = "not" not | cmp         cmp  = sum {cmpop sum}
--   sum     = term {("+"|"-") term}   term = factor {("*"|"//"|"%") factor}
--   factor  = ("+"|"-") factor | power
--   power   = primary ["**" factor]
--   primary = atom {"." NAME | "[" exprs "]" | "(" [expr {"," expr} [","]] ")"}
--   atom    = NAME | NUMBER | TEXT {TEXT} | "None" | "True" | "False"
--           | "(" [exprs] ")" | "[" [expr {"," expr} [","]] "]" | "{" [pair {"," pair} [","]] "}"
--   pair    = expr ":" expr
--   cmpop   = "<" | ">" | "==" | ">=" | "<=" | "!=" | ["not"] "in" | "is" ["not"]
--   params  = NAME ["=" expr] {"," NAME ["=" expr]} [","]
use Rattle.std.specs.Prelude.{ℕ, ℤ, List, [], ◌∷◌, ◌++◌, true, false}
use Rattle.py_ast.specs.Tree as t
use Rattle.py_ast.specs.Tree.{Tree, Trees, none, more}
use Rattle.py_ast.specs.Lawful.{AreDistinct}
use Rattle.py_ast.specs.declared.expr.BinaryOp.{BinaryOp}
use Rattle.py_ast.specs.declared.expr.BinaryOp.TheVariants as b
use Rattle.py_ast.specs.declared.expr.SignOp.{SignOp}
use Rattle.py_ast.specs.declared.expr.SignOp.TheVariants as p
use Rattle.py_ast.specs.declared.expr.CompareOp.{CompareOp}
use Rattle.py_ast.specs.declared.expr.CompareOp.TheVariants as c
use Rattle.py_grammar.specs.declared.mark.Mark.{Mark}
use Rattle.py_grammar.specs.declared.mark.Mark.TheVariants as m
use Rattle.py_grammar.specs.declared.sign.Sign.{Sign}
use Rattle.py_grammar.specs.declared.sign.Sign.TheVariants.{Name, Number, Text, Mark as The}

pub data Level : Type 0 where
  Atom : Level
  Primary : Level
  Power : Level
  Factor : Level
  Term : Level
  Sum : Level
  Comparison : Level
  Not : Level
  And : Level
  Or : Level
  Expr : Level
  Exprs : Level

-- ---- operators

pub data Signs : Mark → SignOp → Type 0 where
  plus : Signs m.Plus p.Plus
  minus : Signs m.Minus p.Minus

pub data Scales : Mark → BinaryOp → Type 0 where
  times : Scales m.Star b.Mul
  divide : Scales m.Slashes b.FloorDiv
  modulo : Scales m.Percent b.Mod

pub data Adds : Mark → BinaryOp → Type 0 where
  plus : Adds m.Plus b.Add
  minus : Adds m.Minus b.Sub

pub data Compares : List Sign → CompareOp → Type 0 where
  less : Compares (The m.Less ∷ []) c.Less
  greater : Compares (The m.Greater ∷ []) c.Greater
  equal : Compares (The m.Same ∷ []) c.Equal
  at_least : Compares (The m.AtLeast ∷ []) c.AtLeast
  at_most : Compares (The m.AtMost ∷ []) c.AtMost
  not_equal : Compares (The m.Differs ∷ []) c.NotEqual
  within : Compares (The m.In ∷ []) c.In
  not_within : Compares (The m.Not ∷ The m.In ∷ []) c.NotIn
  same : Compares (The m.Is ∷ []) c.Is
  not_same : Compares (The m.Is ∷ The m.Not ∷ []) c.IsNot

-- ---- lists

-- the trees, and one more at the end
abbrev pub push : Trees → Tree → Trees
push none t = more t none
push (more s ss) t = more s (push ss t)

-- one or more text literals, which are one text
pub data Literals : List Sign → List ℕ → Type 0 where
  a_literal : {x : List ℕ} → Literals (Text x ∷ []) x
  and_literal : {xs : List Sign} {x : List ℕ} → Literals xs x → (y : List ℕ) → Literals (xs ++ Text y ∷ []) (x ++ y)

mutual
  pub data Spells : Level → List Sign → Tree → Type 0 where
    a_name : {x : List ℕ} → Spells Atom (Name x ∷ []) (t.name x)
    a_number : {n : ℤ} → Spells Atom (Number n ∷ []) (t.number n)
    a_text : {xs : List Sign} {x : List ℕ} → Literals xs x → Spells Atom xs (t.text x)
    a_none : Spells Atom (The m.None ∷ []) t.nil
    a_true : Spells Atom (The m.True ∷ []) (t.truth true)
    a_false : Spells Atom (The m.False ∷ []) (t.truth false)
    nothing_in_parens : Spells Atom (The m.Open ∷ The m.Close ∷ []) (t.tuple none)
    in_parens : {xs : List Sign} {a : Tree} → Spells Exprs xs a → Spells Atom (The m.Open ∷ xs ++ The m.Close ∷ []) a
    a_list : {xs : List Sign} {ts : Trees} → Row xs ts → Spells Atom (The m.OpenSquare ∷ xs ++ The m.CloseSquare ∷ []) (t.list ts)
    a_dict : {xs : List Sign} {ts : Trees} → PairRow xs ts → Spells Atom (The m.OpenCurly ∷ xs ++ The m.CloseCurly ∷ []) (t.dict ts)
    an_atom : {xs : List Sign} {a : Tree} → Spells Atom xs a → Spells Primary xs a
    attribute : {xs : List Sign} {a : Tree} {x : List ℕ} → Spells Primary xs a → Spells Primary (xs ++ The m.Dot ∷ Name x ∷ []) (t.attr a x)
    subscript : {xs ys : List Sign} {a i : Tree} → Spells Primary xs a → Spells Exprs ys i
        → Spells Primary (xs ++ (The m.OpenSquare ∷ ys ++ The m.CloseSquare ∷ [])) (t.item a i)
    call : {xs ys : List Sign} {f : Tree} {ts : Trees} → Spells Primary xs f → Row ys ts
        → Spells Primary (xs ++ (The m.Open ∷ ys ++ The m.Close ∷ [])) (t.call f ts)
    a_primary : {xs : List Sign} {a : Tree} → Spells Primary xs a → Spells Power xs a
    power : {xs ys : List Sign} {a e : Tree} → Spells Primary xs a → Spells Factor ys e → Spells Power (xs ++ The m.Stars ∷ ys) (t.binary a b.Pow e)
    a_power : {xs : List Sign} {a : Tree} → Spells Power xs a → Spells Factor xs a
    signed : {k : Mark} {o : SignOp} {xs : List Sign} {a : Tree} → Signs k o → Spells Factor xs a → Spells Factor (The k ∷ xs) (t.sign o a)
    a_factor : {xs : List Sign} {a : Tree} → Spells Factor xs a → Spells Term xs a
    scale : {k : Mark} {o : BinaryOp} {xs ys : List Sign} {l r : Tree} → Spells Term xs l → Scales k o → Spells Factor ys r
        → Spells Term (xs ++ The k ∷ ys) (t.binary l o r)
    a_term : {xs : List Sign} {a : Tree} → Spells Term xs a → Spells Sum xs a
    add : {k : Mark} {o : BinaryOp} {xs ys : List Sign} {l r : Tree} → Spells Sum xs l → Adds k o → Spells Term ys r
        → Spells Sum (xs ++ The k ∷ ys) (t.binary l o r)
    a_sum : {xs : List Sign} {a : Tree} → Spells Sum xs a → Spells Comparison xs a
    compare : {xs : List Sign} {o : CompareOp} {os : List CompareOp} {ts : Trees} → Chain xs (o ∷ os) ts
        → Spells Comparison xs (t.compare (o ∷ os) ts)
    a_comparison : {xs : List Sign} {a : Tree} → Spells Comparison xs a → Spells Not xs a
    negation : {xs : List Sign} {a : Tree} → Spells Not xs a → Spells Not (The m.Not ∷ xs) (t.not a)
    a_not : {xs : List Sign} {a : Tree} → Spells Not xs a → Spells And xs a
    both : {xs ys : List Sign} {l r : Tree} → Spells And xs l → Spells Not ys r → Spells And (xs ++ The m.And ∷ ys) (t.and l r)
    an_and : {xs : List Sign} {a : Tree} → Spells And xs a → Spells Or xs a
    either : {xs ys : List Sign} {l r : Tree} → Spells Or xs l → Spells And ys r → Spells Or (xs ++ The m.Or ∷ ys) (t.or l r)
    an_or : {xs : List Sign} {a : Tree} → Spells Or xs a → Spells Expr xs a
    choice : {xs ys zs : List Sign} {a test other : Tree} → Spells Or xs a → Spells Or ys test → Spells Expr zs other
        → Spells Expr (xs ++ (The m.If ∷ ys ++ (The m.Else ∷ zs))) (t.choice a test other)
    lambda : {xs ys : List Sign} {names : List (List ℕ)} {defaults : Trees} {a : Tree} → Params xs names defaults → AreDistinct names → Spells Expr ys a
        → Spells Expr (The m.Lambda ∷ xs ++ (The m.Colon ∷ ys)) (t.lambda names defaults a)
    an_expr : {xs : List Sign} {a : Tree} → Spells Expr xs a → Spells Exprs xs a
    several : {xs : List Sign} {a b : Tree} {ts : Trees} → Items xs (more a (more b ts)) → Spells Exprs xs (t.tuple (more a (more b ts)))
    some_and_comma : {xs : List Sign} {ts : Trees} → Items xs ts → Spells Exprs (xs ++ The m.Comma ∷ []) (t.tuple ts)

  -- sum {cmpop sum}: the operators, and the operands between which they stand
  pub data Chain : List Sign → List CompareOp → Trees → Type 0 where
    one_operand : {xs : List Sign} {a : Tree} → Spells Sum xs a → Chain xs [] (more a none)
    and_operand : {xs os ys : List Sign} {ops : List CompareOp} {o : CompareOp} {ts : Trees} {a : Tree} → Chain xs ops ts → Compares os o → Spells Sum ys a
        → Chain (xs ++ (os ++ ys)) (ops ++ o ∷ []) (push ts a)

  -- expr {"," expr}
  pub data Items : List Sign → Trees → Type 0 where
    one_item : {xs : List Sign} {a : Tree} → Spells Expr xs a → Items xs (more a none)
    and_item : {xs ys : List Sign} {ts : Trees} {a : Tree} → Items xs ts → Spells Expr ys a → Items (xs ++ The m.Comma ∷ ys) (push ts a)

  -- [expr {"," expr} [","]]
  pub data Row : List Sign → Trees → Type 0 where
    no_items : Row [] none
    some_items : {xs : List Sign} {ts : Trees} → Items xs ts → Row xs ts
    items_and_comma : {xs : List Sign} {ts : Trees} → Items xs ts → Row (xs ++ The m.Comma ∷ []) ts

  -- expr ":" expr {"," expr ":" expr}: keys and values in turn
  pub data Pairs : List Sign → Trees → Type 0 where
    one_pair : {xs ys : List Sign} {k v : Tree} → Spells Expr xs k → Spells Expr ys v → Pairs (xs ++ The m.Colon ∷ ys) (more k (more v none))
    and_pair : {xs ys zs : List Sign} {ts : Trees} {k v : Tree} → Pairs xs ts → Spells Expr ys k → Spells Expr zs v
        → Pairs (xs ++ (The m.Comma ∷ ys ++ (The m.Colon ∷ zs))) (push (push ts k) v)

  -- [pair {"," pair} [","]]
  pub data PairRow : List Sign → Trees → Type 0 where
    no_pairs : PairRow [] none
    some_pairs : {xs : List Sign} {ts : Trees} → Pairs xs ts → PairRow xs ts
    pairs_and_comma : {xs : List Sign} {ts : Trees} → Pairs xs ts → PairRow (xs ++ The m.Comma ∷ []) ts

  -- NAME ["=" expr] {"," NAME ["=" expr]}: the names, and the defaults of the last of them. None without a default follows one
  -- with a default.
  pub data SomeParams : List Sign → List (List ℕ) → Trees → Type 0 where
    one_plain : {x : List ℕ} → SomeParams (Name x ∷ []) (x ∷ []) none
    one_default : {xs : List Sign} {x : List ℕ} {a : Tree} → Spells Expr xs a → SomeParams (Name x ∷ The m.Equals ∷ xs) (x ∷ []) (more a none)
    and_plain : {xs : List Sign} {names : List (List ℕ)} → SomeParams xs names none → (x : List ℕ) → SomeParams (xs ++ The m.Comma ∷ Name x ∷ []) (names ++ x ∷ []) none
    and_default : {xs ys : List Sign} {names : List (List ℕ)} {ts : Trees} {a : Tree} → SomeParams xs names ts → (x : List ℕ) → Spells Expr ys a
        → SomeParams (xs ++ (The m.Comma ∷ Name x ∷ The m.Equals ∷ ys)) (names ++ x ∷ []) (push ts a)

  -- [NAME ["=" expr] {"," NAME ["=" expr]} [","]]
  pub data Params : List Sign → List (List ℕ) → Trees → Type 0 where
    no_params : Params [] [] none
    some_params : {xs : List Sign} {names : List (List ℕ)} {ts : Trees} → SomeParams xs names ts → Params xs names ts
    params_and_comma : {xs : List Sign} {names : List (List ℕ)} {ts : Trees} → SomeParams xs names ts → Params (xs ++ The m.Comma ∷ []) names ts
