-- What is printed of an expression spells it.
use Rattle.std.proofs.Common.{◌≡◌, Bool, true, false, List, [], ◌∷◌, ◌++◌, sym, ap, ◌∙◌, subst}
use Rattle.py_ast.specs.Tree as t
use Rattle.py_ast.specs.Tree.{Tree, Trees, none, more}
use Rattle.py_ast.specs.Lawful.{IsForm, AreForms}
use Rattle.py_ast.specs.declared.expr.BinaryOp.{BinaryOp}
use Rattle.py_ast.specs.declared.expr.BinaryOp.TheVariants as b
use Rattle.py_ast.specs.declared.expr.SignOp.{SignOp}
use Rattle.py_ast.specs.declared.expr.SignOp.TheVariants as p
use Rattle.py_grammar.specs.Grammar as g
use Rattle.py_grammar.specs.Grammar.{Level, Primary, Factor, Sum, Not, And, Or, Expr, Exprs, Spells, Signs}
use Rattle.py_grammar.specs.declared.mark.Mark.TheVariants as m
use Rattle.py_grammar.specs.declared.sign.Sign.TheVariants.{Mark as The}
use Rattle.py_print.specs.Pieces.{Piece, space, signs_in, mark, name, in_squares, in_parens, between, after_space, commas}
use Rattle.py_print.specs.Expressions.{operation_level, level_of, at, left_place, right_place, before_dot, operator, sign_mark, params_of, printed, members, expr_at}
use Rattle.py_print.proofs.SignsIn.{signs_append, signs_between, signs_behind, signs_after_space}
use Rattle.py_print.proofs.Levels.{expr_of, at_spelled, before_dot_spelled}
use Rattle.py_print.proofs.Lists.{Each, EachOperand, row_spelled, tuple_spelled, list_spelled, dict_spelled, compare_spelled, params_spelled}

-- a form is spelled as it is printed
abbrev IsSpelled : Tree → Type 0
IsSpelled a = Spells (level_of a) (signs_in (printed a)) a

at_place : (l : Level) (a : Tree) → IsSpelled a → Spells l (signs_in (at l a (printed a))) a
at_place l a s = at_spelled l a (printed a) s

truth_spelled : (v : Bool) → IsSpelled (t.truth v)
truth_spelled true = g.a_true
truth_spelled false = g.a_false

signs_of : (o : SignOp) → Signs (sign_mark o) o
signs_of p.Plus = g.plus
signs_of p.Minus = g.minus

binary_spelled : (o : BinaryOp) (l r : Tree) (ps qs : List Piece) → Spells (left_place o) (signs_in ps) l → Spells (right_place o) (signs_in qs) r
    → Spells (operation_level o) (signs_in ps ++ The (operator o) ∷ signs_in qs) (t.binary l o r)
binary_spelled b.Add l r ps qs s u = g.add s g.plus u
binary_spelled b.Sub l r ps qs s u = g.add s g.minus u
binary_spelled b.Mul l r ps qs s u = g.scale s g.times u
binary_spelled b.FloorDiv l r ps qs s u = g.scale s g.divide u
binary_spelled b.Mod l r ps qs s u = g.scale s g.modulo u
binary_spelled b.Pow l r ps qs s u = g.power s u

mutual
  pub form_spelled : (a : Tree) → IsForm a → IsSpelled a
  form_spelled (t.name x) h = g.a_name
  form_spelled (t.number n) h = g.a_number
  form_spelled (t.text x) h = g.a_text g.a_literal
  form_spelled t.nil h = g.a_none
  form_spelled (t.truth v) h = truth_spelled v
  form_spelled (t.tuple ts) h = tuple_spelled ts (each_spelled ts h)
  form_spelled (t.list ts) h = list_spelled ts (each_spelled ts h)
  form_spelled (t.dict ts) h = dict_spelled ts (each_spelled ts h.0) h.1
  form_spelled (t.lambda names defaults a) h =
      let ps = params_of names (members defaults) in
      subst (λ z. Spells Expr (The m.Lambda ∷ z) (t.lambda names defaults a))
      (sym (signs_append (after_space ps) (mark m.Colon ∷ space ∷ printed a) ∙ ap (λ z. z ++ The m.Colon ∷ signs_in (printed a)) (signs_after_space ps)))
      (g.lambda (params_spelled names defaults (each_spelled defaults h.1) h.0.1) h.0.0 (expr_of a (signs_in (printed a)) (form_spelled a h.2)))
  form_spelled (t.choice a test other) h =
      let front = at Or a (printed a) in
      let middle = at Or test (printed test) in
      subst (λ z. Spells Expr z (t.choice a test other))
      (sym (signs_between m.If front (between m.Else middle (printed other))
      ∙ ap (λ z. signs_in front ++ The m.If ∷ z) (signs_between m.Else middle (printed other))))
      (g.choice (at_place Or a (form_spelled a h.0)) (at_place Or test (form_spelled test h.1)) (expr_of other (signs_in (printed other)) (form_spelled other h.2)))
  form_spelled (t.and l r) h =
      subst (λ z. Spells And z (t.and l r)) (sym (signs_between m.And (at And l (printed l)) (at Not r (printed r))))
      (g.both (at_place And l (form_spelled l h.0)) (at_place Not r (form_spelled r h.1)))
  form_spelled (t.or l r) h =
      subst (λ z. Spells Or z (t.or l r)) (sym (signs_between m.Or (at Or l (printed l)) (at And r (printed r))))
      (g.either (at_place Or l (form_spelled l h.0)) (at_place And r (form_spelled r h.1)))
  form_spelled (t.not a) h = g.negation (at_place Not a (form_spelled a h))
  form_spelled (t.compare ops ts) h = compare_spelled ops ts (operands_spelled ts h.0) h.1 h.2
  form_spelled (t.binary l o r) h =
      let front = at (left_place o) l (printed l) in
      let back = at (right_place o) r (printed r) in
      subst (λ z. Spells (operation_level o) z (t.binary l o r)) (sym (signs_between (operator o) front back))
      (binary_spelled o l r front back (at_place (left_place o) l (form_spelled l h.0)) (at_place (right_place o) r (form_spelled r h.1)))
  form_spelled (t.sign o a) h = g.signed (signs_of o) (at_place Factor a (form_spelled a h))
  form_spelled (t.attr a x) h =
      subst (λ z. Spells Primary z (t.attr a x)) (sym (signs_append (before_dot a (printed a)) (mark m.Dot ∷ name x ∷ [])))
      (g.attribute (before_dot_spelled a (printed a) (form_spelled a h)))
  form_spelled (t.item a i) h =
      let front = at Primary a (printed a) in
      subst (λ z. Spells Primary z (t.item a i))
      (sym (signs_append front (in_squares (printed i)) ∙ ap (λ z. signs_in front ++ The m.OpenSquare ∷ z) (signs_behind m.CloseSquare (printed i))))
      (g.subscript (at_place Primary a (form_spelled a h.0)) (g.an_expr (expr_of i (signs_in (printed i)) (form_spelled i h.1))))
  form_spelled (t.call f ts) h =
      let front = at Primary f (printed f) in
      let row = commas (members ts) in
      subst (λ z. Spells Primary z (t.call f ts))
      (sym (signs_append front (in_parens row) ∙ ap (λ z. signs_in front ++ The m.Open ∷ z) (signs_behind m.Close row)))
      (g.call (at_place Primary f (form_spelled f h.0)) (row_spelled ts (each_spelled ts h.1)))

  pub each_spelled : (ts : Trees) → AreForms ts → Each ts
  each_spelled none h = tt
  each_spelled (more a ts) h = (expr_of a (signs_in (printed a)) (form_spelled a h.0), each_spelled ts h.1)

  operands_spelled : (ts : Trees) → AreForms ts → EachOperand ts
  operands_spelled none h = tt
  operands_spelled (more a ts) h = (at_place Sum a (form_spelled a h.0), operands_spelled ts h.1)

pub expr_at_spelled : (l : Level) (a : Tree) → IsForm a → Spells l (signs_in (expr_at l a)) a
expr_at_spelled l a h = at_place l a (form_spelled a h)

-- an expression as a whole
pub expr_spelled : (a : Tree) → IsForm a → Spells Expr (signs_in (printed a)) a
expr_spelled a h = expr_of a (signs_in (printed a)) (form_spelled a h)

pub exprs_spelled : (a : Tree) → IsForm a → Spells Exprs (signs_in (printed a)) a
exprs_spelled a h = g.an_expr (expr_spelled a h)
