-- A form of a tighter level is one of a looser level, and what is printed at a place spells the tree at the level of the place.
use Rattle.std.proofs.Common.{rules, ◌≡◌, ℕ, ◌≤◌, Bool, true, false, nat_le, if◌then◌else◌, List, [], ◌∷◌, ◌++◌, refl, sym, subst, arith}
use Rattle.py_ast.specs.Tree as t
use Rattle.py_ast.specs.Tree.{Tree}
use Rattle.py_ast.specs.declared.expr.BinaryOp.{BinaryOp}
use Rattle.py_ast.specs.declared.expr.BinaryOp.TheVariants as b
use Rattle.py_grammar.specs.Grammar as g
use Rattle.py_grammar.specs.Grammar.{Level, Atom, Primary, Power, Factor, Term, Sum, Comparison, Not, And, Or, Expr, Exprs, Spells}
use Rattle.py_grammar.specs.declared.mark.Mark.TheVariants as m
use Rattle.py_grammar.specs.declared.sign.Sign.{Sign}
use Rattle.py_grammar.specs.declared.sign.Sign.TheVariants.{Mark as The}
use Rattle.py_print.specs.Pieces.{Piece, signs_in, in_parens}
use Rattle.py_print.specs.Expressions.{rank, operation_level, level_of, at, is_number, before_dot}
use Rattle.py_print.proofs.SignsIn.{signs_behind}

abbrev Lifts : Level → Type 0
Lifts l = (n : Level) (xs : List Sign) (a : Tree) → rank n ≤ rank l → Spells n xs a → Spells l xs a

to_atom : Lifts Atom
to_atom Atom xs a h s = s
to_atom _ xs a h s = absurd (omega arith)

to_primary : Lifts Primary
to_primary Primary xs a h s = s
to_primary n xs a h s = g.an_atom (to_atom n xs a (omega arith) s)

to_power : Lifts Power
to_power Power xs a h s = s
to_power n xs a h s = g.a_primary (to_primary n xs a (omega arith) s)

to_factor : Lifts Factor
to_factor Factor xs a h s = s
to_factor n xs a h s = g.a_power (to_power n xs a (omega arith) s)

to_term : Lifts Term
to_term Term xs a h s = s
to_term n xs a h s = g.a_factor (to_factor n xs a (omega arith) s)

to_sum : Lifts Sum
to_sum Sum xs a h s = s
to_sum n xs a h s = g.a_term (to_term n xs a (omega arith) s)

to_comparison : Lifts Comparison
to_comparison Comparison xs a h s = s
to_comparison n xs a h s = g.a_sum (to_sum n xs a (omega arith) s)

to_not : Lifts Not
to_not Not xs a h s = s
to_not n xs a h s = g.a_comparison (to_comparison n xs a (omega arith) s)

to_and : Lifts And
to_and And xs a h s = s
to_and n xs a h s = g.a_not (to_not n xs a (omega arith) s)

to_or : Lifts Or
to_or Or xs a h s = s
to_or n xs a h s = g.an_and (to_and n xs a (omega arith) s)

to_expr : Lifts Expr
to_expr Expr xs a h s = s
to_expr n xs a h s = g.an_or (to_or n xs a (omega arith) s)

to_exprs : Lifts Exprs
to_exprs Exprs xs a h s = s
to_exprs n xs a h s = g.an_expr (to_expr n xs a (omega arith) s)

lifts : (l : Level) → Lifts l
lifts Atom = to_atom
lifts Primary = to_primary
lifts Power = to_power
lifts Factor = to_factor
lifts Term = to_term
lifts Sum = to_sum
lifts Comparison = to_comparison
lifts Not = to_not
lifts And = to_and
lifts Or = to_or
lifts Expr = to_expr
lifts Exprs = to_exprs

operation_small : (o : BinaryOp) → rank (operation_level o) ≤ 10
operation_small b.Add = omega arith
operation_small b.Sub = omega arith
operation_small b.Mul = omega arith
operation_small b.FloorDiv = omega arith
operation_small b.Mod = omega arith
operation_small b.Pow = omega arith

level_small : (a : Tree) → rank (level_of a) ≤ 10
level_small (t.binary l o r) = operation_small o
level_small _ = omega arith

-- what spells a tree at the level of its form is an expression
pub expr_of : (a : Tree) (xs : List Sign) → Spells (level_of a) xs a → Spells Expr xs a
expr_of a xs s = to_expr (level_of a) xs a (level_small a) s

le_true : (n k : ℕ) → nat_le n k ≡ true → n ≤ k
le_true n k e = search (rules, arith)

pub parens_spelled : (a : Tree) (ps : List Piece) → Spells Exprs (signs_in ps) a → Spells Atom (signs_in (in_parens ps)) a
parens_spelled a ps s = subst (λ z. Spells Atom (The m.Open ∷ z) a) (sym (signs_behind m.Close ps)) (g.in_parens s)

form_in_parens : (a : Tree) (ps : List Piece) → Spells (level_of a) (signs_in ps) a → Spells Atom (signs_in (in_parens ps)) a
form_in_parens a ps s = parens_spelled a ps (g.an_expr (expr_of a (signs_in ps) s))

atom_least : (l : Level) → rank Atom ≤ rank l
atom_least l = omega arith

at_if : (l : Level) (v : Bool) (a : Tree) (ps : List Piece) → nat_le (rank (level_of a)) (rank l) ≡ v → Spells (level_of a) (signs_in ps) a
    → Spells l (signs_in (if v then ps else in_parens ps)) a
at_if l true a ps e s = lifts l (level_of a) (signs_in ps) a (le_true (rank (level_of a)) (rank l) e) s
at_if l false a ps e s = lifts l Atom (signs_in (in_parens ps)) a (atom_least l) (form_in_parens a ps s)

-- a form at a place, in parentheses where its level is looser
pub at_spelled : (l : Level) (a : Tree) (ps : List Piece) → Spells (level_of a) (signs_in ps) a → Spells l (signs_in (at l a ps)) a
at_spelled l a ps s = at_if l (nat_le (rank (level_of a)) (rank l)) a ps refl s

dot_if : (v : Bool) (a : Tree) (ps : List Piece) → Spells (level_of a) (signs_in ps) a
    → Spells Primary (signs_in (if v then in_parens ps else at Primary a ps)) a
dot_if true a ps s = g.an_atom (form_in_parens a ps s)
dot_if false a ps s = at_spelled Primary a ps s

pub before_dot_spelled : (a : Tree) (ps : List Piece) → Spells (level_of a) (signs_in ps) a → Spells Primary (signs_in (before_dot a ps)) a
before_dot_spelled a ps s = dot_if (is_number a) a ps s
