-- The tree of each form of expression that is made of parts.
use Rattle.std.proofs.Common.{◌≡◌, ℕ, List, [], ◌∷◌, ◌++◌, refl, sym, ap, ◌∙◌}
use Rattle.py_ast.specs.Tree as t
use Rattle.py_ast.specs.Tree.{Tree}
use Rattle.py_grammar.specs.Grammar.{push}
use Rattle.py_ast.specs.View.{view, views, view_step}
use Rattle.py_ast.specs.declared.expr.BinaryOp.{BinaryOp}
use Rattle.py_ast.specs.declared.expr.SignOp.{SignOp}
use Rattle.py_ast.specs.declared.expr.CompareOp.{CompareOp}
use Rattle.py_ast.specs.declared.expr.Expr.{Expr}
use Rattle.py_ast.specs.declared.expr.Expr.TheVariants as v
use Rattle.py_ast.specs.declared.expr.Expr.TheOpen as e
use Rattle.py_ast.specs.declared.expr.Expr.TheFolds.{fold-roll-Expr}

pub view_Tuple : (i : ℕ) (xs : List Expr) → view (v.Tuple i xs) ≡ t.tuple (views xs)
view_Tuple i xs = ap view (sym (v.rolls-Tuple i xs)) ∙ fold-roll-Expr Tree view_step (e.Tuple i xs)

pub view_List : (i : ℕ) (xs : List Expr) → view (v.List i xs) ≡ t.list (views xs)
view_List i xs = ap view (sym (v.rolls-List i xs)) ∙ fold-roll-Expr Tree view_step (e.List i xs)

pub view_Dict : (i : ℕ) (xs : List Expr) → view (v.Dict i xs) ≡ t.dict (views xs)
view_Dict i xs = ap view (sym (v.rolls-Dict i xs)) ∙ fold-roll-Expr Tree view_step (e.Dict i xs)

pub view_Lambda : (i : ℕ) (names : List (List ℕ)) (xs : List Expr) (a : Expr) → view (v.Lambda i names xs a) ≡ t.lambda names (views xs) (view a)
view_Lambda i names xs a = ap view (sym (v.rolls-Lambda i names xs a)) ∙ fold-roll-Expr Tree view_step (e.Lambda i names xs a)

pub view_Choice : (i : ℕ) (a test b : Expr) → view (v.Choice i a test b) ≡ t.choice (view a) (view test) (view b)
view_Choice i a test b = ap view (sym (v.rolls-Choice i a test b)) ∙ fold-roll-Expr Tree view_step (e.Choice i a test b)

pub view_And : (i : ℕ) (a b : Expr) → view (v.And i a b) ≡ t.and (view a) (view b)
view_And i a b = ap view (sym (v.rolls-And i a b)) ∙ fold-roll-Expr Tree view_step (e.And i a b)

pub view_Or : (i : ℕ) (a b : Expr) → view (v.Or i a b) ≡ t.or (view a) (view b)
view_Or i a b = ap view (sym (v.rolls-Or i a b)) ∙ fold-roll-Expr Tree view_step (e.Or i a b)

pub view_Not : (i : ℕ) (a : Expr) → view (v.Not i a) ≡ t.not (view a)
view_Not i a = ap view (sym (v.rolls-Not i a)) ∙ fold-roll-Expr Tree view_step (e.Not i a)

pub view_Compare : (i : ℕ) (os : List CompareOp) (xs : List Expr) → view (v.Compare i os xs) ≡ t.compare os (views xs)
view_Compare i os xs = ap view (sym (v.rolls-Compare i os xs)) ∙ fold-roll-Expr Tree view_step (e.Compare i os xs)

pub view_Binary : (i : ℕ) (a : Expr) (o : BinaryOp) (b : Expr) → view (v.Binary i a o b) ≡ t.binary (view a) o (view b)
view_Binary i a o b = ap view (sym (v.rolls-Binary i a o b)) ∙ fold-roll-Expr Tree view_step (e.Binary i a o b)

pub view_Sign : (i : ℕ) (o : SignOp) (a : Expr) → view (v.Sign i o a) ≡ t.sign o (view a)
view_Sign i o a = ap view (sym (v.rolls-Sign i o a)) ∙ fold-roll-Expr Tree view_step (e.Sign i o a)

pub view_Attr : (i : ℕ) (a : Expr) (x : List ℕ) → view (v.Attr i a x) ≡ t.attr (view a) x
view_Attr i a x = ap view (sym (v.rolls-Attr i a x)) ∙ fold-roll-Expr Tree view_step (e.Attr i a x)

pub view_Item : (i : ℕ) (a b : Expr) → view (v.Item i a b) ≡ t.item (view a) (view b)
view_Item i a b = ap view (sym (v.rolls-Item i a b)) ∙ fold-roll-Expr Tree view_step (e.Item i a b)

pub view_Call : (i : ℕ) (f : Expr) (xs : List Expr) → view (v.Call i f xs) ≡ t.call (view f) (views xs)
view_Call i f xs = ap view (sym (v.rolls-Call i f xs)) ∙ fold-roll-Expr Tree view_step (e.Call i f xs)

pub views_push : (xs : List Expr) (x : Expr) → views (xs ++ x ∷ []) ≡ push (views xs) (view x)
views_push [] x = refl
views_push (y ∷ xs) x = ap (t.more (view y)) (views_push xs x)
