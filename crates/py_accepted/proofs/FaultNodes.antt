-- Each declaration that has a scope fault is a node of the cell.
use Rattle.std.proofs.Common.{◌≡◌, ◌+◌, ◌≤◌, ℕ, zero, suc, Bool, true, false, List, [], ◌∷◌, ◌++◌, map, length, Option, Some, None, sym, subst, arith}
use Rattle.std.proofs.Math.Nat.{le-min, min-le_left}
use Rattle.std.specs.List.{flat_map, AllByRecursion as Each}
use Rattle.py_ast.specs.Nodes as n
use Rattle.py_ast.specs.Nodes.{IsNumbered, Node, Part, below, below_handler, below_step, below_stmt, count_from, from_parts, nodes, nodes_of_all, nodes_of_block, nodes_of_branch, nodes_of_cell, nodes_of_handler, nodes_of_maybe, nodes_of_stmt, number_of, stmt_number_in}
use Rattle.py_ast.specs.declared.expr.Expr.{Expr, out-Expr, roll-Expr}
use Rattle.py_ast.specs.declared.expr.Expr.TheOpen as e
use Rattle.py_ast.specs.declared.expr.Expr.TheOpen.{Expr-F}
use Rattle.py_ast.specs.declared.expr.Expr.TheFolds.{fold-roll-Expr, ind-Expr, map-Expr, para-roll-Expr}
use Rattle.py_ast.specs.declared.stmt.Stmt.{Stmt, roll-Stmt}
use Rattle.py_ast.specs.declared.stmt.Branch.{Branch, roll-Branch}
use Rattle.py_ast.specs.declared.stmt.Handler.{Handler, roll-Handler}
use Rattle.py_ast.specs.declared.stmt.Stmt.TheOpen as s
use Rattle.py_ast.specs.declared.stmt.Stmt.TheOpen.{Branch-F, Handler-F, Stmt-F}
use Rattle.py_ast.specs.declared.stmt.Stmt.TheFolds.{fold-roll-Branch, fold-roll-Handler, fold-roll-Stmt, ind-Stmt, map-Branch, map-Handler, map-Stmt, para-roll-Branch, para-roll-Handler, para-roll-Stmt}
use Rattle.py_ast.specs.declared.stmt.Stmt.TheViews.{out-roll-Stmt}
use Rattle.py_ast.specs.declared.cell.Cell.{Cell}
use Rattle.py_scope.specs.declared.mark.Mark.{Mark}
use Rattle.py_scope.specs.declared.mark.Mark.TheVariants.{Binds, Declares}
use Rattle.py_scope.specs.declared.mark.Way.TheVariants.{Global, Nonlocal}
use Rattle.py_scope.specs.declared.scope.Kind.{Kind}
use Rattle.py_scope.specs.declared.scope.Kind.TheVariants as kind
use Rattle.py_scope.specs.declared.scope.Scope.{Scope}
use Rattle.py_scope.specs.Chart.{Spot, body_code, cell_code, code_in_expr, code_in_stmt, code_of, faults_at, faults_of_cell, first_fault, spots_of_cell}
use Rattle.py_scope.specs.Faults.{faults_from, faults_of, has_fault, if_fault, least_with, lesser}
use Rattle.py_scope.specs.Marks.{branch_step, handler_step, in_order, marks_of_as, marks_of_block, marks_of_branch, marks_of_handler, marks_of_stmt, marks_of_target, marks_of_targets, stmt_step, target_step}
use Rattle.py_scope.specs.NameLists.{once, with_names}
use Rattle.py_scope.specs.Scopes.{Code}
use Rattle.py_scope.proofs.NodeLaws.{cell_aligned}
use Rattle.py_accepted.proofs.Each.{each_joined, each_left, each_mapped, each_right, each_unmapped}

-- a number of a node, where there are so many
pub record Within (last number : ℕ) : Type 0 where
  pub from_one : 1 ≤ number
  pub up_to : number ≤ last

module _ (last : ℕ) where
  -- the declarations that a mark and the body of a node have are nodes
  abbrev InMark : Mark → Type 0
  InMark (Binds name) = Unit {0}
  InMark (Declares i w names) = Within last i

  abbrev InCode : Option Code → Type 0
  InCode None = Unit {0}
  InCode (Some code) = Each InMark code.marks

  abbrev HasNumber : Node → Type 0
  HasNumber m = Within last (number_of m)

  abbrev HasCode : Node → Type 0
  HasCode m = InCode (code_of m)

  -- ---- expressions: they declare nothing

  in_lambda : (y : Expr-F Expr) → InCode (code_in_expr y)
  in_lambda (e.Lambda i params ds v) = tt
  in_lambda _ = tt

  abbrev Coded : Expr → Type 0
  Coded x = Each HasCode (nodes x)

  abbrev Known : Type 0
  Known = (x : Expr) × Coded x

  abbrev bare_parts : List Known → List Node
  bare_parts ps = from_parts (map (λ (y : Expr). (y, below y)) (map (λ (p : Known). p.0) ps))

  parts : (ps : List Known) → Each HasCode (bare_parts ps)
  parts [] = tt
  parts (p ∷ ps) = each_joined HasCode (nodes p.0) (bare_parts ps) p.1 (parts ps)

  two : (a b : Known) → Each HasCode (nodes a.0 ++ nodes b.0)
  two a b = each_joined HasCode (nodes a.0) (nodes b.0) a.1 b.1

  level : (y : Expr-F Known) → Each HasCode
      (below_step (map-Expr Expr Part (λ (z : Expr). (z, below z)) (map-Expr Known Expr (λ (p : Known). p.0) y)))
  level (e.Name i t) = tt
  level (e.Number i v) = tt
  level (e.Text i t) = tt
  level (e.Nil i) = tt
  level (e.Truth i b) = tt
  level (e.Tuple i ps) = parts ps
  level (e.List i ps) = parts ps
  level (e.Dict i ps) = parts ps
  level (e.Lambda i params ps x) = each_joined HasCode (bare_parts ps) (nodes x.0) (parts ps) x.1
  level (e.Choice i a t b) = each_joined HasCode (nodes a.0) (nodes t.0 ++ nodes b.0) a.1 (two t b)
  level (e.And i a b) = two a b
  level (e.Or i a b) = two a b
  level (e.Not i a) = a.1
  level (e.Compare i ops ps) = parts ps
  level (e.Binary i a o b) = two a b
  level (e.Sign i o a) = a.1
  level (e.Attr i a t) = a.1
  level (e.Item i a b) = two a b
  level (e.Call i f ps) = each_joined HasCode (nodes f.0) (bare_parts ps) f.1 (parts ps)

  coded : (x : Expr) → Coded x
  coded = ind-Expr Coded (λ x y p. subst (λ (z : Expr-F Expr). Coded (roll-Expr z)) p (step y))
    where
      step : (y : Expr-F Known) → Coded (roll-Expr (map-Expr Known Expr (λ (p : Known). p.0) y))
      step y =
          let x : Expr-F Expr = map-Expr Known Expr (λ (p : Known). p.0) y in (
            in_lambda (out-Expr (roll-Expr x)),
            subst (Each HasCode) (sym (para-roll-Expr (List Node) below_step x)) (level y),
          )

  abbrev Bare : Expr → Type 0
  Bare x = Each InMark (marks_of_target x)

  abbrev KnownBare : Type 0
  KnownBare = (x : Expr) × Bare x

  bare_targets : (ps : List KnownBare) → Each InMark (in_order (map marks_of_target (map (λ (p : KnownBare). p.0) ps)))
  bare_targets [] = tt
  bare_targets (p ∷ ps) =
      each_joined InMark (marks_of_target p.0) (in_order (map marks_of_target (map (λ (p : KnownBare). p.0) ps))) p.1 (bare_targets ps)

  target_level : (y : Expr-F KnownBare) → Each InMark
      (target_step (map-Expr Expr (List Mark) marks_of_target (map-Expr KnownBare Expr (λ (p : KnownBare). p.0) y)))
  target_level (e.Name i name) = (tt, tt)
  target_level (e.Tuple i ps) = bare_targets ps
  target_level _ = tt

  bare : (x : Expr) → Bare x
  bare = ind-Expr Bare (λ x y p. subst (λ (z : Expr-F Expr). Bare (roll-Expr z)) p (step y))
    where
      step : (y : Expr-F KnownBare) → Bare (roll-Expr (map-Expr KnownBare Expr (λ (p : KnownBare). p.0) y))
      step y =
          let x : Expr-F Expr = map-Expr KnownBare Expr (λ (p : KnownBare). p.0) y in
          subst (Each InMark) (sym (fold-roll-Expr (List Mark) target_step x)) (target_level y)

  -- ---- nodes with the marks that they make

  record Told (ns : List Node) (ms : List Mark) : Type 0 where
    marks : Each InMark ms
    codes : Each HasCode ns

  abbrev Fine : List Node → List Mark → Type 0
  Fine ns ms = Each HasNumber ns → Told ns ms

  nothing : Fine [] []
  nothing p = record { marks = tt; codes = tt }

  join : (ns ns' : List Node) (ms ms' : List Mark) → Fine ns ms → Fine ns' ms' → Fine (ns ++ ns') (ms ++ ms')
  join ns ns' ms ms' f g p =
      let a = f (each_left HasNumber ns ns' p) in
      let b = g (each_right HasNumber ns ns' p) in
      record { marks = each_joined InMark ms ms' a.marks b.marks; codes = each_joined HasCode ns ns' a.codes b.codes }

  -- the second nodes make no marks
  first : (ns ns' : List Node) (ms : List Mark) → Fine ns ms → Fine ns' [] → Fine (ns ++ ns') ms
  first ns ns' ms f g p =
      let a = f (each_left HasNumber ns ns' p) in
      let b = g (each_right HasNumber ns ns' p) in
      record { marks = a.marks; codes = each_joined HasCode ns ns' a.codes b.codes }

  expr : (x : Expr) → Fine (nodes x) []
  expr x p = record { marks = tt; codes = coded x }

  exprs : (xs : List Expr) → Fine (nodes_of_all xs) []
  exprs [] = nothing
  exprs (x ∷ xs) = join (nodes x) (nodes_of_all xs) [] [] (expr x) (exprs xs)

  maybe : (x : Option Expr) → Fine (nodes_of_maybe x) []
  maybe None = nothing
  maybe (Some x) = expr x

  target : (x : Expr) → Fine (nodes x) (marks_of_target x)
  target x p = record { marks = bare x; codes = coded x }

  targets : (xs : List Expr) → Fine (nodes_of_all xs) (marks_of_targets xs)
  targets [] = nothing
  targets (x ∷ xs) = join (nodes x) (nodes_of_all xs) (marks_of_target x) (marks_of_targets xs) (target x) (targets xs)

  -- ---- statements

  abbrev FineStmt : Stmt → Type 0
  FineStmt x = Fine (nodes_of_stmt x) (marks_of_stmt x)

  abbrev FineBranch : Branch → Type 0
  FineBranch b = Fine (nodes_of_branch b) (marks_of_branch b)

  abbrev FineHandler : Handler → Type 0
  FineHandler h = Fine (nodes_of_handler h) (marks_of_handler h)

  abbrev KnownStmt : Type 0
  KnownStmt = (x : Stmt) × FineStmt x

  abbrev KnownBranch : Type 0
  KnownBranch = (b : Branch) × FineBranch b

  abbrev KnownHandler : Type 0
  KnownHandler = (h : Handler) × FineHandler h

  abbrev all : List KnownStmt → List Stmt
  all ps = map (λ (p : KnownStmt). p.0) ps

  abbrev all_branches : List KnownBranch → List Branch
  all_branches ps = map (λ (p : KnownBranch). p.0) ps

  abbrev all_handlers : List KnownHandler → List Handler
  all_handlers ps = map (λ (p : KnownHandler). p.0) ps

  abbrev noted : List KnownStmt → List Node
  noted ps = n.from_stmts (map (λ (y : Stmt). (y, below_stmt y)) (all ps))

  abbrev noted_branches : List KnownBranch → List Node
  noted_branches ps = n.from_branches (map (λ (y : Branch). (y, nodes_of_branch y)) (all_branches ps))

  abbrev noted_handlers : List KnownHandler → List Node
  noted_handlers ps = n.from_handlers (map (λ (y : Handler). (y, below_handler y)) (all_handlers ps))

  -- the statements of a body, and those of a part of a statement
  body : (ps : List KnownStmt) → Fine (noted ps) (marks_of_block (all ps))
  body [] = nothing
  body (q ∷ qs) = join (nodes_of_stmt q.0) (noted qs) (marks_of_stmt q.0) (marks_of_block (all qs)) q.1 (body qs)

  abbrev marked : List KnownStmt → List Mark
  marked ps = in_order (map marks_of_stmt (all ps))

  stmts : (ps : List KnownStmt) → Fine (noted ps) (marked ps)
  stmts [] = nothing
  stmts (q ∷ qs) = join (nodes_of_stmt q.0) (noted qs) (marks_of_stmt q.0) (marked qs) q.1 (stmts qs)

  abbrev marked_branches : List KnownBranch → List Mark
  marked_branches ps = in_order (map marks_of_branch (all_branches ps))

  branches : (ps : List KnownBranch) → Fine (noted_branches ps) (marked_branches ps)
  branches [] = nothing
  branches (q ∷ qs) =
      join (nodes_of_branch q.0) (noted_branches qs) (marks_of_branch q.0) (marked_branches qs) q.1 (branches qs)

  abbrev marked_handlers : List KnownHandler → List Mark
  marked_handlers ps = in_order (map marks_of_handler (all_handlers ps))

  handlers : (ps : List KnownHandler) → Fine (noted_handlers ps) (marked_handlers ps)
  handlers [] = nothing
  handlers (q ∷ qs) =
      join (nodes_of_handler q.0) (noted_handlers qs) (marks_of_handler q.0) (marked_handlers qs) q.1 (handlers qs)

  two_blocks : (a b : List KnownStmt) → Fine (noted a ++ noted b) (marked a ++ marked b)
  two_blocks a b = join (noted a) (noted b) (marked a) (marked b) (stmts a) (stmts b)

  -- a statement: its marks, its own body, and the nodes below it
  record Layer (ms : List Mark) (code : Option Code) (ns : List Node) : Type 0 where
    marks : Each InMark ms
    own : InCode code
    codes : Each HasCode ns

  abbrev FineLayer : ℕ → List Mark → Option Code → List Node → Type 0
  FineLayer i ms code ns = Within last i → Each HasNumber ns → Layer ms code ns

  -- a statement that has no body of its own and is no declaration
  plain : (i : ℕ) (ns : List Node) (ms : List Mark) → Fine ns ms → FineLayer i ms None ns
  plain i ns ms f here p = let a = f p in record { marks = a.marks; own = tt; codes = a.codes }

  leaf : (i : ℕ) → FineLayer i [] None []
  leaf i here p = record { marks = tt; own = tt; codes = tt }

  -- a `def` or a `class`: its name is bound, and its statements are its own body
  own_body : (i : ℕ) (name : List ℕ) (what : Kind) (params : List (List ℕ)) (ns : List Node) (b : List KnownStmt) → Fine ns []
      → FineLayer i (Binds name ∷ []) (Some (body_code what params (all b))) (ns ++ noted b)
  own_body i name what params ns b f here p =
      let outer = f (each_left HasNumber ns (noted b) p) in
      let inner = body b (each_right HasNumber ns (noted b) p) in
      record { marks = (tt, tt); own = inner.marks; codes = each_joined HasCode ns (noted b) outer.codes inner.codes }

  abbrev bare_stmt : Stmt-F KnownStmt KnownBranch KnownHandler → Stmt-F Stmt Branch Handler
  bare_stmt y = map-Stmt KnownStmt KnownBranch KnownHandler Stmt Branch Handler
      (λ (p : KnownStmt). p.0) (λ (p : KnownBranch). p.0) (λ (p : KnownHandler). p.0) y

  abbrev bare_branch : Branch-F KnownStmt KnownBranch KnownHandler → Branch-F Stmt Branch Handler
  bare_branch y = map-Branch KnownStmt KnownBranch KnownHandler Stmt Branch Handler
      (λ (p : KnownStmt). p.0) (λ (p : KnownBranch). p.0) (λ (p : KnownHandler). p.0) y

  abbrev bare_handler : Handler-F KnownStmt KnownBranch KnownHandler → Handler-F Stmt Branch Handler
  bare_handler y = map-Handler KnownStmt KnownBranch KnownHandler Stmt Branch Handler
      (λ (p : KnownStmt). p.0) (λ (p : KnownBranch). p.0) (λ (p : KnownHandler). p.0) y

  abbrev marked_stmt : Stmt-F Stmt Branch Handler → Stmt-F (List Mark) (List Mark) (List Mark)
  marked_stmt x = map-Stmt Stmt Branch Handler (List Mark) (List Mark) (List Mark) marks_of_stmt marks_of_branch marks_of_handler x

  abbrev noted_stmt : Stmt-F Stmt Branch Handler → Stmt-F (Stmt × List Node) (Branch × List Node) (Handler × List Node)
  noted_stmt x = map-Stmt Stmt Branch Handler (Stmt × List Node) (Branch × List Node) (Handler × List Node)
      (λ (y : Stmt). (y, below_stmt y)) (λ (y : Branch). (y, nodes_of_branch y)) (λ (y : Handler). (y, below_handler y)) x

  abbrev FineForm : Stmt-F KnownStmt KnownBranch KnownHandler → Type 0
  FineForm y = FineLayer (stmt_number_in (bare_stmt y)) (stmt_step (marked_stmt (bare_stmt y))) (code_in_stmt (bare_stmt y))
      (n.stmt_step (noted_stmt (bare_stmt y)))

  form : (y : Stmt-F KnownStmt KnownBranch KnownHandler) → FineForm y
  form (s.Expr i x) = plain i (nodes x) [] (expr x)
  form (s.Assign i ts x) =
      plain i (nodes_of_all ts ++ nodes x) (marks_of_targets ts) (first (nodes_of_all ts) (nodes x) (marks_of_targets ts) (targets ts) (expr x))
  form (s.Augment i t o x) =
      plain i (nodes t ++ nodes x) (marks_of_target t) (first (nodes t) (nodes x) (marks_of_target t) (target t) (expr x))
  form (s.Pass i) = leaf i
  form (s.Break i) = leaf i
  form (s.Continue i) = leaf i
  form (s.Return i x) = plain i (nodes_of_maybe x) [] (maybe x)
  form (s.Raise i x) = plain i (nodes_of_maybe x) [] (maybe x)
  form (s.Global i names) = λ here p. record { marks = (here, tt); own = tt; codes = tt }
  form (s.Nonlocal i names) = λ here p. record { marks = (here, tt); own = tt; codes = tt }
  form (s.Del i t) = plain i (nodes t) (marks_of_target t) (target t)
  form (s.Assert i t x) = plain i (nodes t ++ nodes_of_maybe x) [] (first (nodes t) (nodes_of_maybe x) [] (expr t) (maybe x))
  form (s.If i bs o) =
      plain i (noted_branches bs ++ noted o) (marked_branches bs ++ marked o)
      (join (noted_branches bs) (noted o) (marked_branches bs) (marked o) (branches bs) (stmts o))
  form (s.While i t b o) =
      plain i (nodes t ++ (noted b ++ noted o)) (marked b ++ marked o)
      (join (nodes t) (noted b ++ noted o) [] (marked b ++ marked o) (expr t) (two_blocks b o))
  form (s.For i t x b o) =
      plain i (nodes t ++ (nodes x ++ (noted b ++ noted o))) (marks_of_target t ++ (marked b ++ marked o))
      (join (nodes t) (nodes x ++ (noted b ++ noted o)) (marks_of_target t) (marked b ++ marked o) (target t)
      (join (nodes x) (noted b ++ noted o) [] (marked b ++ marked o) (expr x) (two_blocks b o)))
  form (s.Try i b hs o f) =
      plain i (noted b ++ (noted_handlers hs ++ (noted o ++ noted f))) (marked b ++ (marked_handlers hs ++ (marked o ++ marked f)))
      (join (noted b) (noted_handlers hs ++ (noted o ++ noted f)) (marked b) (marked_handlers hs ++ (marked o ++ marked f)) (stmts b)
      (join (noted_handlers hs) (noted o ++ noted f) (marked_handlers hs) (marked o ++ marked f) (handlers hs) (two_blocks o f)))
  form (s.Def i name params ds b) = own_body i name kind.Function params (nodes_of_all ds) b (exprs ds)
  form (s.Class i name base b) = own_body i name kind.Class [] (nodes_of_maybe base) b (maybe base)

  stmt_made : (y : Stmt-F KnownStmt KnownBranch KnownHandler) → FineStmt (roll-Stmt (bare_stmt y))
  stmt_made y p =
      let x : Stmt-F Stmt Branch Handler = bare_stmt y in
      let is_below : below_stmt (roll-Stmt x) ≡ n.stmt_step (noted_stmt x) =
      para-roll-Stmt (List Node) (List Node) (List Node) n.stmt_step n.branch_step n.handler_step x in
      let are_marks : marks_of_stmt (roll-Stmt x) ≡ stmt_step (marked_stmt x) =
      fold-roll-Stmt (List Mark) (List Mark) (List Mark) stmt_step branch_step handler_step x in
      let here : Within last (stmt_number_in x) =
      subst (λ (z : Stmt-F Stmt Branch Handler). Within last (stmt_number_in z)) (out-roll-Stmt x) p.0 in
      let a = form y here (subst (Each HasNumber) is_below p.1) in
      record {
        marks = subst (Each InMark) (sym are_marks) a.marks;
        codes = (
          subst (λ (z : Stmt-F Stmt Branch Handler). InCode (code_in_stmt z)) (sym (out-roll-Stmt x)) a.own,
          subst (Each HasCode) (sym is_below) a.codes,
        );
      }

  branch_made : (y : Branch-F KnownStmt KnownBranch KnownHandler) → FineBranch (roll-Branch (bare_branch y))
  branch_made y p =
      let x : Branch-F Stmt Branch Handler = bare_branch y in
      let are_nodes : nodes_of_branch (roll-Branch x) ≡ nodes y.test ++ noted y.body =
      para-roll-Branch (List Node) (List Node) (List Node) n.stmt_step n.branch_step n.handler_step x in
      let are_marks : marks_of_branch (roll-Branch x) ≡ marked y.body =
      fold-roll-Branch (List Mark) (List Mark) (List Mark) stmt_step branch_step handler_step x in
      let a = join (nodes y.test) (noted y.body) [] (marked y.body) (expr y.test) (stmts y.body) (subst (Each HasNumber) are_nodes p) in
      record { marks = subst (Each InMark) (sym are_marks) a.marks; codes = subst (Each HasCode) (sym are_nodes) a.codes }

  as_name : (name : Option (List ℕ)) → Each InMark (marks_of_as name)
  as_name None = tt
  as_name (Some name) = (tt, tt)

  handler_made : (y : Handler-F KnownStmt KnownBranch KnownHandler) → FineHandler (roll-Handler (bare_handler y))
  handler_made y p =
      let x : Handler-F Stmt Branch Handler = bare_handler y in
      let is_below : below_handler (roll-Handler x) ≡ nodes_of_maybe y.class ++ noted y.body =
      para-roll-Handler (List Node) (List Node) (List Node) n.stmt_step n.branch_step n.handler_step x in
      let are_marks : marks_of_handler (roll-Handler x) ≡ marks_of_as y.name ++ marked y.body =
      fold-roll-Handler (List Mark) (List Mark) (List Mark) stmt_step branch_step handler_step x in
      let a = join (nodes_of_maybe y.class) (noted y.body) [] (marked y.body) (maybe y.class) (stmts y.body)
      (subst (Each HasNumber) is_below p.1) in
      record {
        marks = subst (Each InMark) (sym are_marks) (each_joined InMark (marks_of_as y.name) (marked y.body) (as_name y.name) a.marks);
        codes = (tt, subst (Each HasCode) (sym is_below) a.codes);
      }

  stmt : (x : Stmt) → FineStmt x
  stmt = ind-Stmt FineStmt FineBranch FineHandler
      (λ x y p. subst (λ (z : Stmt-F Stmt Branch Handler). FineStmt (roll-Stmt z)) p (stmt_made y))
      (λ x y p. subst (λ (z : Branch-F Stmt Branch Handler). FineBranch (roll-Branch z)) p (branch_made y))
      (λ x y p. subst (λ (z : Handler-F Stmt Branch Handler). FineHandler (roll-Handler z)) p (handler_made y))

  block : (xs : List Stmt) → Fine (nodes_of_block xs) (marks_of_block xs)
  block [] = nothing
  block (x ∷ xs) = join (nodes_of_stmt x) (nodes_of_block xs) (marks_of_stmt x) (marks_of_block xs) (stmt x) (block xs)

  -- ---- the faults of a body, and those of a cell

  if_there : (faulty : Bool) (i : ℕ) → Within last i → Each (Within last) (if_fault faulty i)
  if_there true i p = (p, tt)
  if_there false i p = tt

  in_marks : (what : Kind) (params : List (List ℕ)) (r : List Scope) (gs ns : List (List ℕ)) (ms : List Mark) → Each InMark ms
      → Each (Within last) (faults_from what params r gs ns ms)
  in_marks what params r gs ns [] p = tt
  in_marks what params r gs ns (Binds name ∷ ms) p = in_marks what params r gs ns ms p.1
  in_marks what params r gs ns (Declares i Global names ∷ ms) p =
      each_joined (Within last) (if_fault (has_fault what params r ns Global names) i)
      (faults_from what params r (with_names gs names) ns ms)
      (if_there (has_fault what params r ns Global names) i p.0)
      (in_marks what params r (with_names gs names) ns ms p.1)
  in_marks what params r gs ns (Declares i Nonlocal names ∷ ms) p =
      each_joined (Within last) (if_fault (has_fault what params r gs Nonlocal names) i)
      (faults_from what params r gs (with_names ns names) ms)
      (if_there (has_fault what params r gs Nonlocal names) i p.0)
      (in_marks what params r gs (with_names ns names) ms p.1)

  in_code : (r : List Scope) (code : Code) → Each InMark code.marks → Each (Within last) (faults_of r code)
  in_code r code p = in_marks code.kind (once code.params) r [] [] code.marks p

  in_spot : (r : List Scope) (code : Option Code) → InCode code → Each (Within last) (faults_at (record { round = r; code = code }))
  in_spot r None p = tt
  in_spot r (Some code) p = in_code r code p

  in_spots : (spots : List Spot) → Each InCode (map (λ (spot : Spot). spot.code) spots) → Each (Within last) (flat_map faults_at spots)
  in_spots [] p = tt
  in_spots (spot ∷ spots) p =
      each_joined (Within last) (faults_at spot) (flat_map faults_at spots) (in_spot spot.round spot.code p.0) (in_spots spots p.1)

  in_cell : (c : Cell) → Each HasNumber (nodes_of_cell c) → Each (Within last) (faults_of_cell c)
  in_cell c p =
      let a = block c.statements p in
      let codes = each_mapped code_of InCode (nodes_of_cell c) a.codes in
      each_joined (Within last) (faults_of [] (cell_code c)) (flat_map faults_at (spots_of_cell c))
      (in_code [] (cell_code c) a.marks)
      (in_spots (spots_of_cell c) (subst (Each InCode) (sym (cell_aligned c)) codes))

  -- ---- the first of them

  abbrev IfThere : Option ℕ → Type 0
  IfThere None = Unit {0}
  IfThere (Some i) = Within last i

  in_lesser : (m : Option ℕ) (i : ℕ) → IfThere m → Within last i → IfThere (lesser m i)
  in_lesser None i p q = q
  in_lesser (Some k) i p q = record { from_one = le-min p.from_one q.from_one; up_to = omega (arith, min-le_left k i, p.up_to) }

  in_least : (m : Option ℕ) (ns : List ℕ) → IfThere m → Each (Within last) ns → IfThere (least_with m ns)
  in_least m [] p q = p
  in_least m (i ∷ ns) p q = in_least (lesser m i) ns (in_lesser m i p q.0) q.1

  counted : (i k : ℕ) → 1 ≤ i → i + k ≤ last + 1 → Each (Within last) (count_from i k)
  counted i zero p q = tt
  counted i (suc k) p q = (record { from_one = p; up_to = omega arith }, counted (i + 1) k (omega arith) (omega arith))

numbers_within : (c : Cell) → IsNumbered c → Each (HasNumber (length (nodes_of_cell c))) (nodes_of_cell c)
numbers_within c h =
    let last = length (nodes_of_cell c) in
    each_unmapped number_of (Within last) (nodes_of_cell c)
    (subst (Each (Within last)) (sym h.in_order) (counted last 1 last (omega arith) (omega arith)))

-- the first declaration of a numbered cell that has a scope fault is one of its nodes
pub first_within : (c : Cell) (node : ℕ) → IsNumbered c → first_fault c ≡ Some node → Within (length (nodes_of_cell c)) node
first_within c node h e =
    let last = length (nodes_of_cell c) in
    subst (IfThere last) e (in_least last None (faults_of_cell c) tt (in_cell last c (numbers_within c h)))
