-- What stands after a phrase, and what stands first in one.
use Rattle.std.proofs.Common.{◌≡◌, ℕ, ◌≤◌, ◌<◌, true, false, List, [], ◌∷◌, ◌++◌, Some, None, refl, sym, ap, ◌∙◌, subst, arith}
use Rattle.std.proofs.Common.{append_assoc}
use Rattle.py_ast.specs.Tree.{Tree, Trees}
use Rattle.py_ast.specs.declared.expr.CompareOp.{CompareOp}
use Rattle.py_ast.specs.declared.expr.BinaryOp.{BinaryOp}
use Rattle.py_ast.specs.declared.expr.SignOp.{SignOp}
use Rattle.py_grammar.specs.Grammar as g
use Rattle.py_grammar.specs.Grammar.{Level, Atom, Primary, Power, Factor, Term, Sum, Comparison, Not, And, Or, Expr, Exprs, Spells}
use Rattle.py_grammar.specs.Grammar.{Literals, Chain, Items, Pairs, SomeParams, Signs, Scales, Adds, Compares}
use Rattle.py_grammar.specs.Reading.{mark_at, marked, begins, next_at, begins_name, next_name_at, sign_op, Group, terms, sums, ands, ors}
use Rattle.py_grammar.specs.Reading.{join_of, arithmetic, compare_at, suffix_of, more_literals}
use Rattle.py_grammar.specs.declared.mark.Mark.{Mark}
use Rattle.py_grammar.specs.declared.mark.Mark.TheVariants as m
use Rattle.py_grammar.specs.declared.sign.Sign.{Sign}
use Rattle.py_grammar.specs.declared.sign.Sign.TheVariants.{Name, Number, Text, Mark as The}

-- ---- how loosely a sign goes on with what stands before it

abbrev pub follow_mark : Mark → ℕ
follow_mark m.Dot = 1
follow_mark m.Open = 1
follow_mark m.OpenSquare = 1
follow_mark m.Stars = 2
follow_mark m.Star = 3
follow_mark m.Slashes = 3
follow_mark m.Percent = 3
follow_mark m.Plus = 4
follow_mark m.Minus = 4
follow_mark m.Less = 5
follow_mark m.Greater = 5
follow_mark m.Same = 5
follow_mark m.AtLeast = 5
follow_mark m.AtMost = 5
follow_mark m.Differs = 5
follow_mark m.In = 5
follow_mark m.Is = 5
follow_mark m.Not = 5
follow_mark m.And = 7
follow_mark m.Or = 8
follow_mark m.If = 9
follow_mark m.Comma = 10
follow_mark m.None = 11
follow_mark m.True = 11
follow_mark m.False = 11
follow_mark m.OpenCurly = 11
follow_mark m.Lambda = 11
follow_mark _ = 12

-- 11 for what only begins an expression, and 12 for what neither begins one nor goes on with one
abbrev pub follow : List Sign → ℕ
follow (Text x ∷ rest) = 0
follow (Name x ∷ rest) = 11
follow (Number n ∷ rest) = 11
follow (The k ∷ rest) = follow_mark k
follow _ = 12

-- No sign that goes on with a level up to this one stands after a phrase that is read whole. A level that loops is left off
-- before its own operators.
abbrev pub below : Level → ℕ
below Atom = 0
below Primary = 0
below Power = 2
below Factor = 2
below Term = 2
below Sum = 3
below Comparison = 5
below Not = 5
below And = 5
below Or = 7
below Expr = 9
below Exprs = 11

-- the operators of a level that groups to the left go on so loosely
abbrev pub limit : Group → ℕ
limit terms = 3
limit sums = 4
limit ands = 7
limit ors = 8

pub suffix_ends : (rest : List Sign) → 1 < follow rest → marked suffix_of rest ≡ None
suffix_ends (The m.Dot ∷ rest) h = absurd (omega arith)
suffix_ends (The m.Open ∷ rest) h = absurd (omega arith)
suffix_ends (The m.OpenSquare ∷ rest) h = absurd (omega arith)
suffix_ends _ h = refl

pub stars_end : (rest : List Sign) → 2 < follow rest → mark_at m.Stars rest ≡ None
stars_end (The m.Stars ∷ rest) h = absurd (omega arith)
stars_end _ h = refl

pub join_ends : (j : Group) (rest : List Sign) → limit j < follow rest → marked (join_of j) rest ≡ None
join_ends terms (The m.Star ∷ rest) h = absurd (omega arith)
join_ends terms (The m.Slashes ∷ rest) h = absurd (omega arith)
join_ends terms (The m.Percent ∷ rest) h = absurd (omega arith)
join_ends sums (The m.Plus ∷ rest) h = absurd (omega arith)
join_ends sums (The m.Minus ∷ rest) h = absurd (omega arith)
join_ends ands (The m.And ∷ rest) h = absurd (omega arith)
join_ends ors (The m.Or ∷ rest) h = absurd (omega arith)
join_ends _ _ h = refl

pub compare_ends : (rest : List Sign) → 5 < follow rest → compare_at rest ≡ None
compare_ends (The m.Less ∷ rest) h = absurd (omega arith)
compare_ends (The m.Greater ∷ rest) h = absurd (omega arith)
compare_ends (The m.Same ∷ rest) h = absurd (omega arith)
compare_ends (The m.AtLeast ∷ rest) h = absurd (omega arith)
compare_ends (The m.AtMost ∷ rest) h = absurd (omega arith)
compare_ends (The m.Differs ∷ rest) h = absurd (omega arith)
compare_ends (The m.In ∷ rest) h = absurd (omega arith)
compare_ends (The m.Is ∷ rest) h = absurd (omega arith)
compare_ends (The m.Not ∷ rest) h = absurd (omega arith)
compare_ends _ h = refl

pub if_ends : (rest : List Sign) → 9 < follow rest → mark_at m.If rest ≡ None
if_ends (The m.If ∷ rest) h = absurd (omega arith)
if_ends _ h = refl

pub comma_ends : (rest : List Sign) → 10 < follow rest → mark_at m.Comma rest ≡ None
comma_ends (The m.Comma ∷ rest) h = absurd (omega arith)
comma_ends _ h = refl

pub begins_ends : (rest : List Sign) → 11 < follow rest → begins rest ≡ false
begins_ends (Name x ∷ rest) h = absurd (omega arith)
begins_ends (Number n ∷ rest) h = absurd (omega arith)
begins_ends (Text x ∷ rest) h = absurd (omega arith)
begins_ends (The m.None ∷ rest) h = absurd (omega arith)
begins_ends (The m.True ∷ rest) h = absurd (omega arith)
begins_ends (The m.False ∷ rest) h = absurd (omega arith)
begins_ends (The m.Open ∷ rest) h = absurd (omega arith)
begins_ends (The m.OpenSquare ∷ rest) h = absurd (omega arith)
begins_ends (The m.OpenCurly ∷ rest) h = absurd (omega arith)
begins_ends (The m.Plus ∷ rest) h = absurd (omega arith)
begins_ends (The m.Minus ∷ rest) h = absurd (omega arith)
begins_ends (The m.Not ∷ rest) h = absurd (omega arith)
begins_ends (The m.Lambda ∷ rest) h = absurd (omega arith)
begins_ends _ h = refl

pub next_ends : (rest : List Sign) → 10 < follow rest → next_at rest ≡ None
next_ends (The m.Comma ∷ rest) h = absurd (omega arith)
next_ends _ h = refl

pub next_name_ends : (rest : List Sign) → 10 < follow rest → next_name_at rest ≡ None
next_name_ends (The m.Comma ∷ rest) h = absurd (omega arith)
next_name_ends _ h = refl

pub literals_end : (x : List ℕ) (rest : List Sign) → 0 < follow rest → more_literals x rest ≡ (x, rest)
literals_end x (Text y ∷ rest) h = absurd (omega arith)
literals_end x _ h = refl

-- ---- the operators

pub scale_here : {k : Mark} {o : BinaryOp} → Scales k o → join_of terms k ≡ Some (arithmetic o)
scale_here g.times = refl
scale_here g.divide = refl
scale_here g.modulo = refl

pub add_here : {k : Mark} {o : BinaryOp} → Adds k o → join_of sums k ≡ Some (arithmetic o)
add_here g.plus = refl
add_here g.minus = refl

pub scale_follows : {k : Mark} {o : BinaryOp} → Scales k o → follow_mark k ≡ 3
scale_follows g.times = refl
scale_follows g.divide = refl
scale_follows g.modulo = refl

pub add_follows : {k : Mark} {o : BinaryOp} → Adds k o → follow_mark k ≡ 4
add_follows g.plus = refl
add_follows g.minus = refl

pub compare_follows : {os : List Sign} {o : CompareOp} → Compares os o → (rest : List Sign) → follow (os ++ rest) ≡ 5
compare_follows g.less rest = refl
compare_follows g.greater rest = refl
compare_follows g.equal rest = refl
compare_follows g.at_least rest = refl
compare_follows g.at_most rest = refl
compare_follows g.not_equal rest = refl
compare_follows g.within rest = refl
compare_follows g.not_within rest = refl
compare_follows g.same rest = refl
compare_follows g.not_same rest = refl

-- ---- what stands first in a phrase

abbrev pub rank_mark : Mark → ℕ
rank_mark m.None = 0
rank_mark m.True = 0
rank_mark m.False = 0
rank_mark m.Open = 0
rank_mark m.OpenSquare = 0
rank_mark m.OpenCurly = 0
rank_mark m.Plus = 1
rank_mark m.Minus = 1
rank_mark m.Not = 2
rank_mark m.Lambda = 3
rank_mark _ = 4

-- 0 where an atom may begin, 1 for a sign, 2 for `not`, 3 for `lambda`, and 4 where no expression begins
abbrev pub rank : List Sign → ℕ
rank (Name x ∷ rest) = 0
rank (Number n ∷ rest) = 0
rank (Text x ∷ rest) = 0
rank (The k ∷ rest) = rank_mark k
rank _ = 4

abbrev pub top : Level → ℕ
top Atom = 0
top Primary = 0
top Power = 0
top Factor = 1
top Term = 1
top Sum = 1
top Comparison = 1
top Not = 2
top And = 2
top Or = 2
top Expr = 3
top Exprs = 3

pub no_sign : (tokens : List Sign) → rank tokens ≤ 0 → marked sign_op tokens ≡ None
no_sign (The m.Plus ∷ rest) h = absurd (omega arith)
no_sign (The m.Minus ∷ rest) h = absurd (omega arith)
no_sign _ h = refl

pub no_not : (tokens : List Sign) → rank tokens ≤ 1 → mark_at m.Not tokens ≡ None
no_not (The m.Not ∷ rest) h = absurd (omega arith)
no_not _ h = refl

pub no_lambda : (tokens : List Sign) → rank tokens ≤ 2 → mark_at m.Lambda tokens ≡ None
no_lambda (The m.Lambda ∷ rest) h = absurd (omega arith)
no_lambda _ h = refl

pub no_close : (tokens : List Sign) → rank tokens ≤ 3 → mark_at m.Close tokens ≡ None
no_close (The m.Close ∷ rest) h = absurd (omega arith)
no_close _ h = refl

pub begins_here : (tokens : List Sign) → rank tokens ≤ 3 → begins tokens ≡ true
begins_here (Name x ∷ rest) h = refl
begins_here (Number n ∷ rest) h = refl
begins_here (Text x ∷ rest) h = refl
begins_here (The m.None ∷ rest) h = refl
begins_here (The m.True ∷ rest) h = refl
begins_here (The m.False ∷ rest) h = refl
begins_here (The m.Open ∷ rest) h = refl
begins_here (The m.OpenSquare ∷ rest) h = refl
begins_here (The m.OpenCurly ∷ rest) h = refl
begins_here (The m.Plus ∷ rest) h = refl
begins_here (The m.Minus ∷ rest) h = refl
begins_here (The m.Not ∷ rest) h = refl
begins_here (The m.Lambda ∷ rest) h = refl
begins_here _ h = absurd (omega arith)

at_front : (n : ℕ) (xs ys rest : List Sign) → rank (xs ++ (ys ++ rest)) ≤ n → rank ((xs ++ ys) ++ rest) ≤ n
at_front n xs ys rest h = subst (λ z. rank z ≤ n) (sym (append_assoc xs ys rest)) h

literals_begin : {xs : List Sign} {x : List ℕ} → Literals xs x → (rest : List Sign) → rank (xs ++ rest) ≤ 0
literals_begin g.a_literal rest = omega arith
literals_begin (g.and_literal {xs} l y) rest = at_front 0 xs (Text y ∷ []) rest (literals_begin l (Text y ∷ rest))

pub sign_begins : {k : Mark} {o : SignOp} → Signs k o → rank_mark k ≡ 1
sign_begins g.plus = refl
sign_begins g.minus = refl

mutual
  pub phrase_ranks : {l : Level} {xs : List Sign} {a : Tree} → Spells l xs a → (rest : List Sign) → rank (xs ++ rest) ≤ top l
  phrase_ranks g.a_name rest = omega arith
  phrase_ranks g.a_number rest = omega arith
  phrase_ranks (g.a_text l) rest = literals_begin l rest
  phrase_ranks g.a_none rest = omega arith
  phrase_ranks g.a_true rest = omega arith
  phrase_ranks g.a_false rest = omega arith
  phrase_ranks g.nothing_in_parens rest = omega arith
  phrase_ranks (g.in_parens s) rest = omega arith
  phrase_ranks (g.a_list s) rest = omega arith
  phrase_ranks (g.a_dict s) rest = omega arith
  phrase_ranks (g.an_atom s) rest = phrase_ranks s rest
  phrase_ranks (g.attribute {xs} {x = x} s) rest = at_front 0 xs (The m.Dot ∷ Name x ∷ []) rest (phrase_ranks s _)
  phrase_ranks (g.subscript {xs} {ys} s r) rest = at_front 0 xs (The m.OpenSquare ∷ ys ++ The m.CloseSquare ∷ []) rest (phrase_ranks s _)
  phrase_ranks (g.call {xs} {ys} s r) rest = at_front 0 xs (The m.Open ∷ ys ++ The m.Close ∷ []) rest (phrase_ranks s _)
  phrase_ranks (g.a_primary s) rest = phrase_ranks s rest
  phrase_ranks (g.power {xs} {ys} s r) rest = at_front 0 xs (The m.Stars ∷ ys) rest (phrase_ranks s _)
  phrase_ranks (g.a_power s) rest = let h = phrase_ranks s rest in omega arith
  phrase_ranks (g.signed o s) rest = let e = sign_begins o in omega arith
  phrase_ranks (g.a_factor s) rest = phrase_ranks s rest
  phrase_ranks (g.scale {k} {xs = xs} {ys} s o r) rest = at_front 1 xs (The k ∷ ys) rest (phrase_ranks s _)
  phrase_ranks (g.a_term s) rest = phrase_ranks s rest
  phrase_ranks (g.add {k} {xs = xs} {ys} s o r) rest = at_front 1 xs (The k ∷ ys) rest (phrase_ranks s _)
  phrase_ranks (g.a_sum s) rest = phrase_ranks s rest
  phrase_ranks (g.compare c) rest = chain_ranks c rest
  phrase_ranks (g.a_comparison s) rest = let h = phrase_ranks s rest in omega arith
  phrase_ranks (g.negation s) rest = omega arith
  phrase_ranks (g.a_not s) rest = phrase_ranks s rest
  phrase_ranks (g.both {xs} {ys} s r) rest = at_front 2 xs (The m.And ∷ ys) rest (phrase_ranks s _)
  phrase_ranks (g.an_and s) rest = phrase_ranks s rest
  phrase_ranks (g.either {xs} {ys} s r) rest = at_front 2 xs (The m.Or ∷ ys) rest (phrase_ranks s _)
  phrase_ranks (g.an_or s) rest = let h = phrase_ranks s rest in omega arith
  phrase_ranks (g.choice {xs} {ys} {zs} s u r) rest =
      let h = phrase_ranks s ((The m.If ∷ ys ++ (The m.Else ∷ zs)) ++ rest) in
      at_front 3 xs (The m.If ∷ ys ++ (The m.Else ∷ zs)) rest (omega arith)
  phrase_ranks (g.lambda p d s) rest = omega arith
  phrase_ranks (g.an_expr s) rest = phrase_ranks s rest
  phrase_ranks (g.several s) rest = items_rank s rest
  phrase_ranks (g.some_and_comma {xs} s) rest = at_front 3 xs (The m.Comma ∷ []) rest (items_rank s _)

  pub chain_ranks : {xs : List Sign} {ops : List CompareOp} {ts : Trees} → Chain xs ops ts → (rest : List Sign) → rank (xs ++ rest) ≤ 1
  chain_ranks (g.one_operand s) rest = phrase_ranks s rest
  chain_ranks (g.and_operand {xs} {os} {ys} c o s) rest = at_front 1 xs (os ++ ys) rest (chain_ranks c _)

  pub items_rank : {xs : List Sign} {ts : Trees} → Items xs ts → (rest : List Sign) → rank (xs ++ rest) ≤ 3
  items_rank (g.one_item s) rest = phrase_ranks s rest
  items_rank (g.and_item {xs} {ys} s r) rest = at_front 3 xs (The m.Comma ∷ ys) rest (items_rank s _)

pub pairs_rank : {xs : List Sign} {ts : Trees} → Pairs xs ts → (rest : List Sign) → rank (xs ++ rest) ≤ 3
pairs_rank (g.one_pair {xs} {ys} s r) rest = at_front 3 xs (The m.Colon ∷ ys) rest (phrase_ranks s _)
pairs_rank (g.and_pair {xs} {ys} {zs} p s r) rest = at_front 3 xs (The m.Comma ∷ ys ++ (The m.Colon ∷ zs)) rest (pairs_rank p _)

name_at_front : (xs ys rest : List Sign) → begins_name (xs ++ (ys ++ rest)) ≡ true → begins_name ((xs ++ ys) ++ rest) ≡ true
name_at_front xs ys rest h = ap begins_name (append_assoc xs ys rest) ∙ h

pub params_begin : {xs : List Sign} {names : List (List ℕ)} {ts : Trees} → SomeParams xs names ts → (rest : List Sign)
    → begins_name (xs ++ rest) ≡ true
params_begin g.one_plain rest = refl
params_begin (g.one_default s) rest = refl
params_begin (g.and_plain {xs} p x) rest = name_at_front xs (The m.Comma ∷ Name x ∷ []) rest (params_begin p _)
params_begin (g.and_default {xs} {ys} p x s) rest = name_at_front xs (The m.Comma ∷ Name x ∷ The m.Equals ∷ ys) rest (params_begin p _)

top_most : (l : Level) → top l ≤ 3
top_most Atom = omega arith
top_most _ = omega arith

-- a phrase is what an expression begins with
pub phrase_begins : {l : Level} {xs : List Sign} {a : Tree} → Spells l xs a → (rest : List Sign) → begins (xs ++ rest) ≡ true
phrase_begins {l} {xs} s rest = let h = phrase_ranks s rest in let t = top_most l in begins_here (xs ++ rest) (omega arith)
