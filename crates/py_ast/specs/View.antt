-- The plain tree that an `Expr` stands for: one layer, with each part already seen as its tree.
use Rattle.std.specs.Prelude.{List, [], ◌∷◌, map}
use Rattle.py_ast.specs.Tree as tree
use Rattle.py_ast.specs.Tree.{Tree, Trees, none, more}
use Rattle.py_ast.specs.declared.expr.Expr.{Expr}
use Rattle.py_ast.specs.declared.expr.Expr.TheOpen as e
use Rattle.py_ast.specs.declared.expr.Expr.TheOpen.{Expr-F}
use Rattle.py_ast.specs.declared.expr.Expr.TheFolds.{fold-Expr}

abbrev pub trees_of : List Tree → Trees
trees_of [] = none
trees_of (t ∷ ts) = more t (trees_of ts)

abbrev pub view_step : Expr-F Tree → Tree
view_step (e.Name i t) = tree.name t
view_step (e.Number i n) = tree.number n
view_step (e.Text i t) = tree.text t
view_step (e.Nil i) = tree.nil
view_step (e.Truth i b) = tree.truth b
view_step (e.Tuple i ts) = tree.tuple (trees_of ts)
view_step (e.List i ts) = tree.list (trees_of ts)
view_step (e.Dict i ts) = tree.dict (trees_of ts)
view_step (e.Lambda i names defaults body) = tree.lambda names (trees_of defaults) body
view_step (e.Choice i a test b) = tree.choice a test b
view_step (e.And i a b) = tree.and a b
view_step (e.Or i a b) = tree.or a b
view_step (e.Not i a) = tree.not a
view_step (e.Compare i ops ts) = tree.compare ops (trees_of ts)
view_step (e.Binary i a o b) = tree.binary a o b
view_step (e.Sign i o a) = tree.sign o a
view_step (e.Attr i a t) = tree.attr a t
view_step (e.Item i a b) = tree.item a b
view_step (e.Call i f ts) = tree.call f (trees_of ts)

abbrev pub view : Expr → Tree
view = fold-Expr Tree view_step

abbrev pub views : List Expr → Trees
views xs = trees_of (map view xs)
