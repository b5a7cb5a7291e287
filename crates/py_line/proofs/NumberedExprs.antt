-- Expressions with the numbers of their nodes: one more level.
use Rattle.std.proofs.Common.{◌≡◌, ℕ, ℤ, ◌+◌, Bool, List, [], ◌++◌, refl, sym, ap, ◌∙◌}
use Rattle.py_ast.specs.Tree as t
use Rattle.py_ast.specs.Tree.{Tree, Trees}
use Rattle.py_ast.specs.View.{view, view_step, views}
use Rattle.py_ast.specs.Nodes.{Node, below, count_from, nodes, nodes_of_all, number, number_in}
use Rattle.py_ast.proofs.Below.{below_And, below_Attr, below_Binary, below_Call, below_Choice, below_Compare, below_Dict, below_Item, below_Lambda, below_List, below_Name, below_Nil, below_Not, below_Number, below_Or, below_Sign, below_Text, below_Truth, below_Tuple}
use Rattle.py_ast.specs.declared.expr.BinaryOp.{BinaryOp}
use Rattle.py_ast.specs.declared.expr.SignOp.{SignOp}
use Rattle.py_ast.specs.declared.expr.CompareOp.{CompareOp}
use Rattle.py_ast.specs.declared.expr.Expr.{Expr, roll-Expr}
use Rattle.py_ast.specs.declared.expr.Expr.TheVariants as v
use Rattle.py_ast.specs.declared.expr.Expr.TheOpen as e
use Rattle.py_ast.specs.declared.expr.Expr.TheOpen.{Expr-F}
use Rattle.py_ast.specs.declared.expr.Expr.TheFolds.{fold-roll-Expr, map-Expr}
use Rattle.py_ast.specs.declared.expr.Expr.TheViews.{out-roll-Expr}
use Rattle.py_line.specs.Numbers.{size, size_of_all}
use Rattle.py_line.specs.Form.{Numbered, NumberedAll, numbers}
use Rattle.py_line.proofs.NumberRuns.{both_counted, node_counted}

level : (n k : ℕ) (u w : Expr-F Expr) (a x : Expr) (ns : List Node) → roll-Expr u ≡ a → roll-Expr w ≡ x
    → view_step (map-Expr Expr Tree view w) ≡ view_step (map-Expr Expr Tree view u) → size (view_step (map-Expr Expr Tree view u)) ≡ 1 + k
    → number_in w ≡ n → below x ≡ ns → numbers ns ≡ count_from (n + 1) k → Numbered n (view a) x
level n k u w a x ns is_old is_new same sized own below_is counted =
    let old : view a ≡ view_step (map-Expr Expr Tree view u) = ap view (sym is_old) ∙ fold-roll-Expr Tree view_step u in
    let new : view x ≡ view_step (map-Expr Expr Tree view w) = ap view (sym is_new) ∙ fold-roll-Expr Tree view_step w in
    let i : number x ≡ n = ap number (sym is_new) ∙ ap number_in (out-roll-Expr w) ∙ own in
    record {
      same = new ∙ same ∙ sym old;
      in_order = node_counted n k (number x) (below x) ns i below_is counted ∙ ap (λ (z : ℕ). count_from n z) (sym (ap size old ∙ sized));
    }

leaf : (n : ℕ) (u w : Expr-F Expr) (a x : Expr) → roll-Expr u ≡ a → roll-Expr w ≡ x
    → view_step (map-Expr Expr Tree view w) ≡ view_step (map-Expr Expr Tree view u) → size (view_step (map-Expr Expr Tree view u)) ≡ 1
    → number_in w ≡ n → below x ≡ [] → Numbered n (view a) x
leaf n u w a x is_old is_new same sized own below_is = level n 0 u w a x [] is_old is_new same sized own below_is refl

pub numbered_Name : (n i : ℕ) (a : Expr) (y s : List ℕ) → a ≡ v.Name i y → s ≡ y → Numbered n (view a) (v.Name n s)
numbered_Name n i a y s is c =
    leaf n (e.Name i y) (e.Name n s) a (v.Name n s) (v.rolls-Name i y ∙ sym is) (v.rolls-Name n s) (ap t.name c) refl refl (below_Name n s)

pub numbered_Text : (n i : ℕ) (a : Expr) (y s : List ℕ) → a ≡ v.Text i y → s ≡ y → Numbered n (view a) (v.Text n s)
numbered_Text n i a y s is c =
    leaf n (e.Text i y) (e.Text n s) a (v.Text n s) (v.rolls-Text i y ∙ sym is) (v.rolls-Text n s) (ap t.text c) refl refl (below_Text n s)

pub numbered_Number : (n i : ℕ) (a : Expr) (m k : ℤ) → a ≡ v.Number i m → k ≡ m → Numbered n (view a) (v.Number n k)
numbered_Number n i a m k is c =
    leaf n (e.Number i m) (e.Number n k) a (v.Number n k) (v.rolls-Number i m ∙ sym is) (v.rolls-Number n k) (ap t.number c) refl refl (below_Number n k)

pub numbered_Nil : (n i : ℕ) (a : Expr) → a ≡ v.Nil i → Numbered n (view a) (v.Nil n)
numbered_Nil n i a is =
    leaf n (e.Nil i) (e.Nil n) a (v.Nil n) (v.rolls-Nil i ∙ sym is) (v.rolls-Nil n) refl refl refl (below_Nil n)

pub numbered_Truth : (n i : ℕ) (a : Expr) (b : Bool) → a ≡ v.Truth i b → Numbered n (view a) (v.Truth n b)
numbered_Truth n i a b is =
    leaf n (e.Truth i b) (e.Truth n b) a (v.Truth n b) (v.rolls-Truth i b ∙ sym is) (v.rolls-Truth n b) refl refl refl (below_Truth n b)

pub numbered_Tuple : (n i : ℕ) (a : Expr) (xs ys : List Expr) → a ≡ v.Tuple i xs → NumberedAll (n + 1) (views xs) ys → Numbered n (view a) (v.Tuple n ys)
numbered_Tuple n i a xs ys is p =
    level n (size_of_all (views xs)) (e.Tuple i xs) (e.Tuple n ys) a (v.Tuple n ys) (nodes_of_all ys) (v.rolls-Tuple i xs ∙ sym is) (v.rolls-Tuple n ys)
    (ap t.tuple p.same) refl refl (below_Tuple n ys) p.in_order

pub numbered_List : (n i : ℕ) (a : Expr) (xs ys : List Expr) → a ≡ v.List i xs → NumberedAll (n + 1) (views xs) ys → Numbered n (view a) (v.List n ys)
numbered_List n i a xs ys is p =
    level n (size_of_all (views xs)) (e.List i xs) (e.List n ys) a (v.List n ys) (nodes_of_all ys) (v.rolls-List i xs ∙ sym is) (v.rolls-List n ys)
    (ap t.list p.same) refl refl (below_List n ys) p.in_order

pub numbered_Dict : (n i : ℕ) (a : Expr) (xs ys : List Expr) → a ≡ v.Dict i xs → NumberedAll (n + 1) (views xs) ys → Numbered n (view a) (v.Dict n ys)
numbered_Dict n i a xs ys is p =
    level n (size_of_all (views xs)) (e.Dict i xs) (e.Dict n ys) a (v.Dict n ys) (nodes_of_all ys) (v.rolls-Dict i xs ∙ sym is) (v.rolls-Dict n ys)
    (ap t.dict p.same) refl refl (below_Dict n ys) p.in_order

pub numbered_Compare : (n i : ℕ) (a : Expr) (os ps : List CompareOp) (xs ys : List Expr) → a ≡ v.Compare i os xs → ps ≡ os → NumberedAll (n + 1) (views xs) ys
    → Numbered n (view a) (v.Compare n ps ys)
numbered_Compare n i a os ps xs ys is o p =
    level n (size_of_all (views xs)) (e.Compare i os xs) (e.Compare n ps ys) a (v.Compare n ps ys) (nodes_of_all ys) (v.rolls-Compare i os xs ∙ sym is) (v.rolls-Compare n ps ys)
    (ap (λ (z : Trees). t.compare ps z) p.same ∙ ap (λ (z : List CompareOp). t.compare z (views xs)) o) refl refl (below_Compare n ps ys) p.in_order

pub numbered_Not : (n i : ℕ) (a b x : Expr) → a ≡ v.Not i b → Numbered (n + 1) (view b) x → Numbered n (view a) (v.Not n x)
numbered_Not n i a b x is p =
    level n (size (view b)) (e.Not i b) (e.Not n x) a (v.Not n x) (nodes x) (v.rolls-Not i b ∙ sym is) (v.rolls-Not n x)
    (ap t.not p.same) refl refl (below_Not n x) p.in_order

pub numbered_Sign : (n i : ℕ) (a : Expr) (o : SignOp) (b x : Expr) → a ≡ v.Sign i o b → Numbered (n + 1) (view b) x → Numbered n (view a) (v.Sign n o x)
numbered_Sign n i a o b x is p =
    level n (size (view b)) (e.Sign i o b) (e.Sign n o x) a (v.Sign n o x) (nodes x) (v.rolls-Sign i o b ∙ sym is) (v.rolls-Sign n o x)
    (ap (t.sign o) p.same) refl refl (below_Sign n o x) p.in_order

pub numbered_Attr : (n i : ℕ) (a b x : Expr) (y s : List ℕ) → a ≡ v.Attr i b y → s ≡ y → Numbered (n + 1) (view b) x → Numbered n (view a) (v.Attr n x s)
numbered_Attr n i a b x y s is c p =
    level n (size (view b)) (e.Attr i b y) (e.Attr n x s) a (v.Attr n x s) (nodes x) (v.rolls-Attr i b y ∙ sym is) (v.rolls-Attr n x s)
    (ap (λ (z : Tree). t.attr z s) p.same ∙ ap (t.attr (view b)) c) refl refl (below_Attr n x s) p.in_order

pub numbered_And : (n i m : ℕ) (a b c x y : Expr) → a ≡ v.And i b c → Numbered (n + 1) (view b) x → m ≡ n + 1 + size (view b) → Numbered m (view c) y
    → Numbered n (view a) (v.And n x y)
numbered_And n i m a b c x y is p h q =
    level n (size (view b) + size (view c)) (e.And i b c) (e.And n x y) a (v.And n x y) (nodes x ++ nodes y) (v.rolls-And i b c ∙ sym is) (v.rolls-And n x y)
    (ap (λ (z : Tree). t.and z (view y)) p.same ∙ ap (t.and (view b)) q.same) refl refl (below_And n x y)
    (both_counted (n + 1) m (size (view b)) (size (view c)) (nodes x) (nodes y) p.in_order h q.in_order)

pub numbered_Or : (n i m : ℕ) (a b c x y : Expr) → a ≡ v.Or i b c → Numbered (n + 1) (view b) x → m ≡ n + 1 + size (view b) → Numbered m (view c) y
    → Numbered n (view a) (v.Or n x y)
numbered_Or n i m a b c x y is p h q =
    level n (size (view b) + size (view c)) (e.Or i b c) (e.Or n x y) a (v.Or n x y) (nodes x ++ nodes y) (v.rolls-Or i b c ∙ sym is) (v.rolls-Or n x y)
    (ap (λ (z : Tree). t.or z (view y)) p.same ∙ ap (t.or (view b)) q.same) refl refl (below_Or n x y)
    (both_counted (n + 1) m (size (view b)) (size (view c)) (nodes x) (nodes y) p.in_order h q.in_order)

pub numbered_Item : (n i m : ℕ) (a b c x y : Expr) → a ≡ v.Item i b c → Numbered (n + 1) (view b) x → m ≡ n + 1 + size (view b) → Numbered m (view c) y
    → Numbered n (view a) (v.Item n x y)
numbered_Item n i m a b c x y is p h q =
    level n (size (view b) + size (view c)) (e.Item i b c) (e.Item n x y) a (v.Item n x y) (nodes x ++ nodes y) (v.rolls-Item i b c ∙ sym is) (v.rolls-Item n x y)
    (ap (λ (z : Tree). t.item z (view y)) p.same ∙ ap (t.item (view b)) q.same) refl refl (below_Item n x y)
    (both_counted (n + 1) m (size (view b)) (size (view c)) (nodes x) (nodes y) p.in_order h q.in_order)

pub numbered_Binary : (n i m : ℕ) (a b c x y : Expr) (o : BinaryOp) → a ≡ v.Binary i b o c → Numbered (n + 1) (view b) x → m ≡ n + 1 + size (view b)
    → Numbered m (view c) y → Numbered n (view a) (v.Binary n x o y)
numbered_Binary n i m a b c x y o is p h q =
    level n (size (view b) + size (view c)) (e.Binary i b o c) (e.Binary n x o y) a (v.Binary n x o y) (nodes x ++ nodes y) (v.rolls-Binary i b o c ∙ sym is)
    (v.rolls-Binary n x o y) (ap (λ (z : Tree). t.binary z o (view y)) p.same ∙ ap (t.binary (view b) o) q.same) refl refl (below_Binary n x o y)
    (both_counted (n + 1) m (size (view b)) (size (view c)) (nodes x) (nodes y) p.in_order h q.in_order)

pub numbered_Choice : (n i m k : ℕ) (a b c d x y z : Expr) → a ≡ v.Choice i b c d → Numbered (n + 1) (view b) x → m ≡ n + 1 + size (view b)
    → Numbered m (view c) y → k ≡ m + size (view c) → Numbered k (view d) z → Numbered n (view a) (v.Choice n x y z)
numbered_Choice n i m k a b c d x y z is p h q g r =
    level n (size (view b) + (size (view c) + size (view d))) (e.Choice i b c d) (e.Choice n x y z) a (v.Choice n x y z) (nodes x ++ (nodes y ++ nodes z))
    (v.rolls-Choice i b c d ∙ sym is) (v.rolls-Choice n x y z)
    (ap (λ (w : Tree). t.choice w (view y) (view z)) p.same ∙ ap (λ (w : Tree). t.choice (view b) w (view z)) q.same ∙ ap (t.choice (view b) (view c)) r.same)
    refl refl (below_Choice n x y z)
    (both_counted (n + 1) m (size (view b)) (size (view c) + size (view d)) (nodes x) (nodes y ++ nodes z) p.in_order h
    (both_counted m k (size (view c)) (size (view d)) (nodes y) (nodes z) q.in_order g r.in_order))

pub numbered_Lambda : (n i m : ℕ) (a b x : Expr) (names copied : List (List ℕ)) (xs ys : List Expr) → a ≡ v.Lambda i names xs b → copied ≡ names
    → NumberedAll (n + 1) (views xs) ys → m ≡ n + 1 + size_of_all (views xs) → Numbered m (view b) x → Numbered n (view a) (v.Lambda n copied ys x)
numbered_Lambda n i m a b x names copied xs ys is c p h q =
    level n (size_of_all (views xs) + size (view b)) (e.Lambda i names xs b) (e.Lambda n copied ys x) a (v.Lambda n copied ys x) (nodes_of_all ys ++ nodes x)
    (v.rolls-Lambda i names xs b ∙ sym is) (v.rolls-Lambda n copied ys x)
    (ap (λ (z : Trees). t.lambda copied z (view x)) p.same ∙ ap (t.lambda copied (views xs)) q.same ∙ ap (λ (z : List (List ℕ)). t.lambda z (views xs) (view b)) c)
    refl refl (below_Lambda n copied ys x)
    (both_counted (n + 1) m (size_of_all (views xs)) (size (view b)) (nodes_of_all ys) (nodes x) p.in_order h q.in_order)

pub numbered_Call : (n i m : ℕ) (a b x : Expr) (xs ys : List Expr) → a ≡ v.Call i b xs → Numbered (n + 1) (view b) x → m ≡ n + 1 + size (view b)
    → NumberedAll m (views xs) ys → Numbered n (view a) (v.Call n x ys)
numbered_Call n i m a b x xs ys is p h q =
    level n (size (view b) + size_of_all (views xs)) (e.Call i b xs) (e.Call n x ys) a (v.Call n x ys) (nodes x ++ nodes_of_all ys)
    (v.rolls-Call i b xs ∙ sym is) (v.rolls-Call n x ys)
    (ap (λ (z : Tree). t.call z (views ys)) p.same ∙ ap (t.call (view b)) q.same) refl refl (below_Call n x ys)
    (both_counted (n + 1) m (size (view b)) (size_of_all (views xs)) (nodes x) (nodes_of_all ys) p.in_order h q.in_order)
