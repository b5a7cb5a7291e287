-- An expression is the one that its tree and the numbers of its nodes make.
use Rattle.std.proofs.Common.{◌≡◌, ℕ, ◌+◌, List, [], ◌∷◌, ◌++◌, map, Option, Some, None, option_map, sym, ap, subst, ◌∙◌}
use Rattle.py_ast.specs.Nodes.{Node, Part, below, below_step, from_parts, nodes, nodes_of_all, nodes_of_maybe, number_in}
use Rattle.py_ast.specs.View.{trees_of, view, views, view_step}
use Rattle.py_ast.specs.Tree.{Tree, Trees}
use Rattle.py_ast.specs.declared.expr.Expr.{Expr, roll-Expr}
use Rattle.py_ast.specs.declared.expr.Expr.TheOpen as e
use Rattle.py_ast.specs.declared.expr.Expr.TheOpen.{Expr-F}
use Rattle.py_ast.specs.declared.expr.Expr.TheFolds.{fold-roll-Expr, ind-Expr, map-Expr, para-roll-Expr}
use Rattle.py_ast.specs.declared.expr.Expr.TheViews.{out-roll-Expr}
use Rattle.py_numbered.specs.Numbered.{expr_from, exprs_from, maybe_from}
use Rattle.py_numbered.proofs.Runs.{Runs, split}

abbrev pub Same : Expr → Type 0
Same x = (n m : ℕ) → Runs n (nodes x) m → expr_from n (view x) ≡ (x, m)

abbrev Known : Type 0
Known = (x : Expr) × Same x

abbrev bare : List Known → List Expr
bare ps = map (λ (p : Known). p.0) ps

abbrev trees : List Known → Trees
trees ps = trees_of (map view (bare ps))

abbrev noted : List Known → List Node
noted ps = from_parts (map (λ (y : Expr). (y, below y)) (bare ps))

abbrev bare_step : Expr-F Known → Expr-F Expr
bare_step y = map-Expr Known Expr (λ (p : Known). p.0) y

parts : (ps : List Known) (n m : ℕ) → Runs n (noted ps) m → exprs_from n (trees ps) ≡ (bare ps, m)
parts [] n m r = ap (λ (k : ℕ). ([], k)) r
parts (p ∷ ps) n m r =
    let two = split n (nodes p.0) (noted ps) m r in
    rw (p.1 n two.between two.first, parts ps two.between m two.second)

-- one layer, with what is known of its parts
level : (y : Expr-F Known) (m : ℕ)
    → Runs (number_in (bare_step y) + 1) (below_step (map-Expr Expr Part (λ (z : Expr). (z, below z)) (bare_step y))) m
    → expr_from (number_in (bare_step y)) (view_step (map-Expr Expr Tree view (bare_step y))) ≡ (roll-Expr (bare_step y), m)
level (e.Name i x) m r = ap (λ k. (roll-Expr (e.Name i x), k)) r
level (e.Number i x) m r = ap (λ k. (roll-Expr (e.Number i x), k)) r
level (e.Text i x) m r = ap (λ k. (roll-Expr (e.Text i x), k)) r
level (e.Nil i) m r = ap (λ k. (roll-Expr (e.Nil i), k)) r
level (e.Truth i x) m r = ap (λ k. (roll-Expr (e.Truth i x), k)) r
level (e.Tuple i ps) m r = rw (parts ps (i + 1) m r)
level (e.List i ps) m r = rw (parts ps (i + 1) m r)
level (e.Dict i ps) m r = rw (parts ps (i + 1) m r)
level (e.Lambda i names ps a) m r =
    let two = split (i + 1) (noted ps) (nodes a.0) m r in
    rw (parts ps (i + 1) two.between two.first, a.1 two.between m two.second)
level (e.Choice i a b c) m r =
    let two = split (i + 1) (nodes a.0) (nodes b.0 ++ nodes c.0) m r in
    let last = split two.between (nodes b.0) (nodes c.0) m two.second in
    rw (a.1 (i + 1) two.between two.first, b.1 two.between last.between last.first, c.1 last.between m last.second)
level (e.And i a b) m r =
    let two = split (i + 1) (nodes a.0) (nodes b.0) m r in
    rw (a.1 (i + 1) two.between two.first, b.1 two.between m two.second)
level (e.Or i a b) m r =
    let two = split (i + 1) (nodes a.0) (nodes b.0) m r in
    rw (a.1 (i + 1) two.between two.first, b.1 two.between m two.second)
level (e.Not i a) m r = rw (a.1 (i + 1) m r)
level (e.Compare i ops ps) m r = rw (parts ps (i + 1) m r)
level (e.Binary i a o b) m r =
    let two = split (i + 1) (nodes a.0) (nodes b.0) m r in
    rw (a.1 (i + 1) two.between two.first, b.1 two.between m two.second)
level (e.Sign i o a) m r = rw (a.1 (i + 1) m r)
level (e.Attr i a x) m r = rw (a.1 (i + 1) m r)
level (e.Item i a b) m r =
    let two = split (i + 1) (nodes a.0) (nodes b.0) m r in
    rw (a.1 (i + 1) two.between two.first, b.1 two.between m two.second)
level (e.Call i f ps) m r =
    let two = split (i + 1) (nodes f.0) (noted ps) m r in
    rw (f.1 (i + 1) two.between two.first, parts ps two.between m two.second)

made : (y : Expr-F Known) → Same (roll-Expr (bare_step y))
made y n m r =
    let x : Expr-F Expr = bare_step y in
    let i : number_in x ≡ n = ap number_in (sym (out-roll-Expr x)) ∙ r.0 in
    let below_runs : Runs (n + 1) (below_step (map-Expr Expr Part (λ (z : Expr). (z, below z)) x)) m =
    subst (λ ns. Runs (n + 1) ns m) (para-roll-Expr (List Node) below_step x) r.1 in
    ap (expr_from n) (fold-roll-Expr Tree view_step x)
    ∙ subst (λ k. expr_from k (view_step (map-Expr Expr Tree view x)) ≡ (roll-Expr x, m)) i
    (level y m (subst (λ k. Runs (k + 1) (below_step (map-Expr Expr Part (λ (z : Expr). (z, below z)) x)) m) (sym i) below_runs))

pub same_expr : (x : Expr) → Same x
same_expr = ind-Expr Same (λ x y e. subst (λ (z : Expr-F Expr). Same (roll-Expr z)) e (made y))

pub same_exprs : (xs : List Expr) (n m : ℕ) → Runs n (nodes_of_all xs) m → exprs_from n (views xs) ≡ (xs, m)
same_exprs [] n m r = ap (λ (k : ℕ). ([], k)) r
same_exprs (x ∷ xs) n m r =
    let two = split n (nodes x) (nodes_of_all xs) m r in
    rw (same_expr x n two.between two.first, same_exprs xs two.between m two.second)

pub same_maybe : (x : Option Expr) (n m : ℕ) → Runs n (nodes_of_maybe x) m → maybe_from n (option_map view x) ≡ (x, m)
same_maybe None n m r = ap (λ (k : ℕ). (None, k)) r
same_maybe (Some x) n m r = rw (same_expr x n m r)
