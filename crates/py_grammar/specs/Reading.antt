-- Reading from left to right: what stands at the front of the signs, and the signs after it. One definition for each level of
-- the grammar, over the readers of what is nested in it.
use Rattle.std.specs.Prelude.{ℕ, zero, suc, Bool, true, false, ◌==◌, ◌&&◌, not, if◌then◌else◌, List, [], ◌∷◌, ◌++◌, length, bytes_eq, Option, Some, None}
use Rattle.std.specs.List.{list_any}
use Rattle.py_ast.specs.Tree as t
use Rattle.py_ast.specs.Tree.{Tree, none}
use Rattle.py_ast.specs.declared.expr.BinaryOp.{BinaryOp}
use Rattle.py_ast.specs.declared.expr.BinaryOp.TheVariants as b
use Rattle.py_ast.specs.declared.expr.SignOp.{SignOp}
use Rattle.py_ast.specs.declared.expr.SignOp.TheVariants as p
use Rattle.py_ast.specs.declared.expr.CompareOp.{CompareOp}
use Rattle.py_ast.specs.declared.expr.CompareOp.TheVariants as c
use Rattle.py_grammar.specs.Grammar.{Level, Atom, Primary, Power, Factor, Term, Sum, Comparison, Not, And, Or, Expr, Exprs}
use Rattle.py_grammar.specs.Kept.{Kept, leaf, made, made_of_two, made_choice, made_tuple, made_list, made_dict, made_call, made_lambda, alone, compared, KeptAll, no_trees, push_kept, is_none_kept, place, value}
use Rattle.py_grammar.specs.declared.mark.Mark.{Mark}
use Rattle.py_grammar.specs.declared.mark.Mark.TheVariants as m
use Rattle.py_grammar.specs.declared.sign.Sign.{Sign}
use Rattle.py_grammar.specs.declared.sign.Sign.TheVariants.{Name, Number, Text, Mark as The}

-- ---- readers

abbrev pub Reader : Type 0 → Type 0
Reader A = List Sign → Option (A × List Sign)

infixl 10 ◌>>=◌
abbrev pub ◌>>=◌ : {A B : Type 0} → Option A → (A → Option B) → Option B
(Some x) >>= f = f x
None >>= f = None

-- one way where something stands there, and another where not
abbrev pub on : {A B : Type 0} → Option A → B → (A → B) → B
on None other f = other
on (Some x) other f = f x

-- what is made of what was read
abbrev pub giving : {A B : Type 0} → (A → B) → A × List Sign → Option (B × List Sign)
giving f r = Some (f r.0, r.1)

-- ---- marks

-- the place of a mark in a list of all
abbrev pub number_of_mark : Mark → ℕ
number_of_mark m.False = 0
number_of_mark m.None = 1
number_of_mark m.True = 2
number_of_mark m.And = 3
number_of_mark m.As = 4
number_of_mark m.Assert = 5
number_of_mark m.Break = 6
number_of_mark m.Class = 7
number_of_mark m.Continue = 8
number_of_mark m.Def = 9
number_of_mark m.Del = 10
number_of_mark m.Elif = 11
number_of_mark m.Else = 12
number_of_mark m.Except = 13
number_of_mark m.Finally = 14
number_of_mark m.For = 15
number_of_mark m.Global = 16
number_of_mark m.If = 17
number_of_mark m.In = 18
number_of_mark m.Is = 19
number_of_mark m.Lambda = 20
number_of_mark m.Nonlocal = 21
number_of_mark m.Not = 22
number_of_mark m.Or = 23
number_of_mark m.Pass = 24
number_of_mark m.Raise = 25
number_of_mark m.Return = 26
number_of_mark m.Try = 27
number_of_mark m.While = 28
number_of_mark m.Plus = 29
number_of_mark m.Minus = 30
number_of_mark m.Star = 31
number_of_mark m.Slashes = 32
number_of_mark m.Percent = 33
number_of_mark m.Stars = 34
number_of_mark m.Less = 35
number_of_mark m.Greater = 36
number_of_mark m.AtMost = 37
number_of_mark m.AtLeast = 38
number_of_mark m.Same = 39
number_of_mark m.Differs = 40
number_of_mark m.Open = 41
number_of_mark m.Close = 42
number_of_mark m.OpenSquare = 43
number_of_mark m.CloseSquare = 44
number_of_mark m.OpenCurly = 45
number_of_mark m.CloseCurly = 46
number_of_mark m.Comma = 47
number_of_mark m.Colon = 48
number_of_mark m.Semicolon = 49
number_of_mark m.Dot = 50
number_of_mark m.Equals = 51
number_of_mark m.PlusEquals = 52
number_of_mark m.MinusEquals = 53
number_of_mark m.StarEquals = 54
number_of_mark m.SlashesEquals = 55
number_of_mark m.PercentEquals = 56
number_of_mark m.StarsEquals = 57

abbrev pub is_same : Mark → Mark → Bool
is_same k l = number_of_mark k == number_of_mark l

-- the signs after a mark, where it stands first
abbrev pub mark_at : Mark → List Sign → Option (List Sign)
mark_at k (The l ∷ rest) = if is_same k l then Some rest else None
mark_at k _ = None

abbrev pub name_at : Reader (List ℕ)
name_at (Name x ∷ rest) = Some (x, rest)
name_at _ = None

-- a mark that stands for something
abbrev pub marked : {A : Type 0} → (Mark → Option A) → Reader A
marked f (The k ∷ rest) = f k >>= λ o. Some (o, rest)
marked f _ = None

-- the marks with which an expression may begin
abbrev pub mark_begins : Mark → Bool
mark_begins m.None = true
mark_begins m.True = true
mark_begins m.False = true
mark_begins m.Open = true
mark_begins m.OpenSquare = true
mark_begins m.OpenCurly = true
mark_begins m.Plus = true
mark_begins m.Minus = true
mark_begins m.Not = true
mark_begins m.Lambda = true
mark_begins _ = false

-- whether an expression may begin here
abbrev pub begins : List Sign → Bool
begins (Name x ∷ rest) = true
begins (Number n ∷ rest) = true
begins (Text x ∷ rest) = true
begins (The k ∷ rest) = mark_begins k
begins _ = false

-- a comma with another expression behind it
abbrev pub next_at : Reader (Unit {0})
next_at tokens = mark_at m.Comma tokens >>= λ rest. if begins rest then Some (tt, rest) else None

abbrev pub begins_name : List Sign → Bool
begins_name (Name x ∷ rest) = true
begins_name _ = false

-- a comma with a name behind it
abbrev pub next_name_at : Reader (Unit {0})
next_name_at tokens = mark_at m.Comma tokens >>= λ rest. if begins_name rest then Some (tt, rest) else None

-- ---- loops

-- while an operator stands first, one turn
abbrev pub loop_by : {S A : Type 0} → ℕ → Reader A → (S → A → Reader S) → S → Reader S
loop_by zero operator turn s tokens = Some (s, tokens)
loop_by (suc n) operator turn s tokens =
    on (operator tokens) (Some (s, tokens)) (λ o. turn s o.0 o.1 >>= λ r. loop_by n operator turn r.0 r.1)

-- no loop has more turns than there are signs
unfoldable pub loop : {S A : Type 0} → Reader A → (S → A → Reader S) → S → Reader S
loop operator turn s tokens = loop_by (length tokens) operator turn s tokens

-- a mark may follow
abbrev pub if_mark : {A : Type 0} → Mark → A × List Sign → Option (A × List Sign)
if_mark k r = on (mark_at k r.1) (Some r) (λ after. Some (r.0, after))

-- a mark follows, and what is read before it is made into something
abbrev pub up_to : {A B : Type 0} → Mark → (A → B) → A × List Sign → Option (B × List Sign)
up_to k f r = mark_at k r.1 >>= λ after. Some (f r.0, after)

-- ---- operators

abbrev pub sign_op : Mark → Option SignOp
sign_op m.Plus = Some p.Plus
sign_op m.Minus = Some p.Minus
sign_op _ = None

-- the levels of operators that group to the left
pub data Group : Type 0 where
  terms : Group
  sums : Group
  ands : Group
  ors : Group

pub data Join : Type 0 where
  arithmetic : BinaryOp → Join
  conjunction : Join
  disjunction : Join

abbrev pub join_of : Group → Mark → Option Join
join_of terms m.Star = Some (arithmetic b.Mul)
join_of terms m.Slashes = Some (arithmetic b.FloorDiv)
join_of terms m.Percent = Some (arithmetic b.Mod)
join_of terms _ = None
join_of sums m.Plus = Some (arithmetic b.Add)
join_of sums m.Minus = Some (arithmetic b.Sub)
join_of sums _ = None
join_of ands m.And = Some conjunction
join_of ands _ = None
join_of ors m.Or = Some disjunction
join_of ors _ = None

abbrev pub joined : Join → Tree → Tree → Tree
joined (arithmetic o) l r = t.binary l o r
joined conjunction l r = t.and l r
joined disjunction l r = t.or l r

abbrev pub compare_of : Mark → Option CompareOp
compare_of m.Less = Some c.Less
compare_of m.Greater = Some c.Greater
compare_of m.Same = Some c.Equal
compare_of m.AtLeast = Some c.AtLeast
compare_of m.AtMost = Some c.AtMost
compare_of m.Differs = Some c.NotEqual
compare_of m.In = Some c.In
compare_of _ = None

-- an operator of a comparison, which may be of two words
abbrev pub compare_at : Reader CompareOp
compare_at (The k ∷ rest) =
    if is_same m.Not k then (mark_at m.In rest >>= λ after. Some (c.NotIn, after)) else
    (if is_same m.Is k then on (mark_at m.Not rest) (Some (c.Is, rest)) (λ after. Some (c.IsNot, after)) else
    (compare_of k >>= λ o. Some (o, rest)))
compare_at _ = None

pub data Suffix : Type 0 where
  attributed : Suffix
  subscripted : Suffix
  called : Suffix

abbrev pub suffix_of : Mark → Option Suffix
suffix_of m.Dot = Some attributed
suffix_of m.OpenSquare = Some subscripted
suffix_of m.Open = Some called
suffix_of _ = None

-- ---- one reader for each level, over the readers of what is nested

pub record Inside : Type 0 where
  pub tree : Level → Reader Kept
  pub row : Reader KeptAll
  pub pair_row : Reader KeptAll

-- the text literals after a text, which are one text with it
abbrev pub more_literals : List ℕ → List Sign → List ℕ × List Sign
more_literals x (Text y ∷ rest) = more_literals (x ++ y) rest
more_literals x tokens = (x, tokens)

abbrev pub literals_leaf : List ℕ × List Sign → Kept × List Sign
literals_leaf r = (leaf (t.text r.0), r.1)

abbrev pub Chained : Type 0
Chained = List CompareOp × KeptAll

abbrev pub one_operand : Kept → Chained
one_operand a = ([], push_kept no_trees a)

abbrev pub with_operand : Chained → CompareOp → Kept → Chained
with_operand s o a = (s.0 ++ o ∷ [], push_kept s.1 a)

-- names, and the defaults of the last of them
abbrev pub Parameters : Type 0
Parameters = List (List ℕ) × KeptAll

abbrev pub no_params : Parameters
no_params = ([], no_trees)

abbrev pub with_default : Parameters → List ℕ → Kept → Parameters
with_default s x a = (s.0 ++ x ∷ [], push_kept s.1 a)

-- a parameter without a default, which follows none with a default
abbrev pub plain_param : Parameters → List ℕ → Reader Parameters
plain_param s x tokens = if is_none_kept s.1 then Some ((s.0 ++ x ∷ [], s.1), tokens) else None

abbrev pub is_distinct : List (List ℕ) → Bool
is_distinct [] = true
is_distinct (x ∷ xs) = not (list_any (bytes_eq x) xs) && is_distinct xs

-- parameters with different names
abbrev pub distinct_params : Parameters × List Sign → Option (Parameters × List Sign)
distinct_params s = if is_distinct s.0.0 then Some s else None

abbrev pub power_of : Tree → Tree → Tree
power_of a e = t.binary a b.Pow e

abbrev pub nothing : {A : Type 0} → Reader A
nothing tokens = None

-- the number is the most levels of a tree that are kept
module _ (most : ℕ) where
  unfoldable pub marked_atom : Inside → Mark → Reader Kept
  marked_atom inside m.None rest = Some (leaf t.nil, rest)
  marked_atom inside m.True rest = Some (leaf (t.truth true), rest)
  marked_atom inside m.False rest = Some (leaf (t.truth false), rest)
  marked_atom inside m.Open rest =
      on (mark_at m.Close rest) (inside.tree Exprs rest >>= up_to m.Close (λ a. a)) (λ after. Some (leaf (t.tuple none), after))
  marked_atom inside m.OpenSquare rest = inside.row rest >>= up_to m.CloseSquare (made_list most)
  marked_atom inside m.OpenCurly rest = inside.pair_row rest >>= up_to m.CloseCurly (made_dict most)
  marked_atom inside _ rest = None

  unfoldable pub atom : Inside → Reader Kept
  atom inside (Name x ∷ rest) = Some (leaf (t.name x), rest)
  atom inside (Number n ∷ rest) = Some (leaf (t.number n), rest)
  atom inside (Text x ∷ rest) = Some (literals_leaf (more_literals x rest))
  atom inside (The k ∷ rest) = marked_atom inside k rest
  atom inside _ = None

  abbrev pub attribute_of : Kept → List ℕ → Kept
  attribute_of a x = made most (λ b. t.attr b x) place a

  unfoldable pub suffix : Inside → Kept → Suffix → Reader Kept
  suffix inside a attributed tokens = name_at tokens >>= giving (attribute_of a)
  suffix inside a subscripted tokens = inside.tree Exprs tokens >>= up_to m.CloseSquare (made_of_two most t.item place a)
  suffix inside a called tokens = inside.row tokens >>= up_to m.Close (made_call most a)

  abbrev pub more_primary : Inside → Kept → Reader Kept
  more_primary inside = loop (marked suffix_of) (suffix inside)

  unfoldable pub primary : Inside → Reader Kept
  primary inside tokens = atom inside tokens >>= λ a. more_primary inside a.0 a.1

  unfoldable pub power : Inside → Reader Kept
  power inside tokens =
      primary inside tokens >>= λ a. on (mark_at m.Stars a.1) (Some a) (λ rest. inside.tree Factor rest >>= giving (made_of_two most power_of value a.0))

  unfoldable pub factor : Inside → Reader Kept
  factor inside tokens = on (marked sign_op tokens) (power inside tokens) (λ o. inside.tree Factor o.1 >>= giving (made most (t.sign o.0) value))

  unfoldable pub grouped_turn : Reader Kept → Kept → Join → Reader Kept
  grouped_turn operand a j tokens = operand tokens >>= giving (made_of_two most (joined j) value a)

  abbrev pub more_grouped : Group → Reader Kept → Kept → Reader Kept
  more_grouped g operand = loop (marked (join_of g)) (grouped_turn operand)

  unfoldable pub grouped_over : Group → Reader Kept → Reader Kept
  grouped_over g operand tokens = operand tokens >>= λ a. more_grouped g operand a.0 a.1

  abbrev pub term : Inside → Reader Kept
  term inside = grouped_over terms (factor inside)

  abbrev pub sum : Inside → Reader Kept
  sum inside = grouped_over sums (term inside)

  unfoldable pub chain_turn : Inside → Chained → CompareOp → Reader Chained
  chain_turn inside s o tokens = sum inside tokens >>= giving (with_operand s o)

  abbrev pub more_chain : Inside → Chained → Reader Chained
  more_chain inside = loop compare_at (chain_turn inside)

  unfoldable pub chain : Inside → Reader Chained
  chain inside tokens = sum inside tokens >>= λ a. more_chain inside (one_operand a.0) a.1

  unfoldable pub comparison : Inside → Reader Kept
  comparison inside tokens = chain inside tokens >>= giving (compared most)

  unfoldable pub negated : Inside → Reader Kept
  negated inside tokens = on (mark_at m.Not tokens) (comparison inside tokens) (λ rest. inside.tree Not rest >>= giving (made most t.not value))

  abbrev pub conjunctions : Inside → Reader Kept
  conjunctions inside = grouped_over ands (negated inside)

  abbrev pub disjunctions : Inside → Reader Kept
  disjunctions inside = grouped_over ors (conjunctions inside)

  -- ---- lists

  unfoldable pub condition : Inside → Kept × List Sign → Option (Kept × List Sign)
  condition inside a =
      on (mark_at m.If a.1) (Some a) (λ rest.
      disjunctions inside rest >>= λ test. mark_at m.Else test.1 >>= λ after. inside.tree Expr after >>= giving (made_choice most a.0 test.0))

  unfoldable pub param_onto : Inside → Parameters → Reader Parameters
  param_onto inside s tokens =
      name_at tokens >>= λ x. on (mark_at m.Equals x.1) (plain_param s x.0 x.1) (λ rest. inside.tree Expr rest >>= giving (with_default s x.0))

  abbrev pub param_turn : Inside → Parameters → Unit {0} → Reader Parameters
  param_turn inside s o = param_onto inside s

  abbrev pub more_params : Inside → Parameters → Reader Parameters
  more_params inside = loop next_name_at (param_turn inside)

  -- the parameters after some, and maybe a comma
  abbrev pub rest_of_params : Inside → Parameters × List Sign → Option (Parameters × List Sign)
  rest_of_params inside s = more_params inside s.0 s.1 >>= if_mark m.Comma

  unfoldable pub params : Inside → Reader Parameters
  params inside tokens =
      if begins_name tokens then (param_onto inside no_params tokens >>= rest_of_params inside) else Some (no_params, tokens)

  -- what follows the parameters of a lambda
  unfoldable pub lambda_body : Inside → Parameters × List Sign → Option (Kept × List Sign)
  lambda_body inside s =
      distinct_params s >>= λ s. mark_at m.Colon s.1 >>= λ rest. inside.tree Expr rest >>= giving (made_lambda most s.0.0 s.0.1)

  unfoldable pub lambda : Inside → Reader Kept
  lambda inside rest = params inside rest >>= lambda_body inside

  unfoldable pub expr : Inside → Reader Kept
  expr inside tokens = on (mark_at m.Lambda tokens) (disjunctions inside tokens >>= condition inside) (lambda inside)

  unfoldable pub items_turn : Inside → KeptAll → Unit {0} → Reader KeptAll
  items_turn inside s o tokens = expr inside tokens >>= giving (push_kept s)

  abbrev pub more_items : Inside → KeptAll → Reader KeptAll
  more_items inside = loop next_at (items_turn inside)

  unfoldable pub items : Inside → Reader KeptAll
  items inside tokens = expr inside tokens >>= λ a. more_items inside (push_kept no_trees a.0) a.1

  unfoldable pub row : Inside → Reader KeptAll
  row inside tokens = if begins tokens then (items inside tokens >>= if_mark m.Comma) else Some (no_trees, tokens)

  -- one member is itself, unless a comma follows it
  abbrev pub end_of_exprs : KeptAll × List Sign → Option (Kept × List Sign)
  end_of_exprs s = on (mark_at m.Comma s.1) (Some (alone most s.0, s.1)) (λ after. Some (made_tuple most s.0, after))

  unfoldable pub exprs : Inside → Reader Kept
  exprs inside tokens = items inside tokens >>= end_of_exprs

  unfoldable pub pair_onto : Inside → KeptAll → Reader KeptAll
  pair_onto inside s tokens =
      expr inside tokens >>= λ k. mark_at m.Colon k.1 >>= λ rest. expr inside rest >>= giving (push_kept (push_kept s k.0))

  abbrev pub pair_turn : Inside → KeptAll → Unit {0} → Reader KeptAll
  pair_turn inside s o = pair_onto inside s

  abbrev pub more_pairs : Inside → KeptAll → Reader KeptAll
  more_pairs inside = loop next_at (pair_turn inside)

  unfoldable pub pairs : Inside → Reader KeptAll
  pairs inside tokens = pair_onto inside no_trees tokens >>= λ s. more_pairs inside s.0 s.1

  unfoldable pub pair_row : Inside → Reader KeptAll
  pair_row inside tokens = if begins tokens then (pairs inside tokens >>= if_mark m.Comma) else Some (no_trees, tokens)

  -- ---- the knot

  abbrev pub start : Level → Inside → Reader Kept
  start Atom = atom
  start Primary = primary
  start Power = power
  start Factor = factor
  start Term = term
  start Sum = sum
  start Comparison = comparison
  start Not = negated
  start And = conjunctions
  start Or = disjunctions
  start Expr = expr
  start Exprs = exprs

  -- what is nested, to a depth
  unfoldable pub nested : ℕ → Inside
  nested zero = record { tree = λ level. nothing; row = nothing; pair_row = nothing }
  nested (suc n) = record { tree = λ level. start level (nested n); row = row (nested n); pair_row = pair_row (nested n) }
