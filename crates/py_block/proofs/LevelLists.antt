-- Lists of statements, branches and clauses that grow at their end, and the numbers in them.
use Rattle.std.proofs.Common.{◌≡◌, ◌<◌, ◌+◌, ◌&&◌, ℕ, Bool, true, false, List, [], ◌∷◌, ◌++◌, map, drop, length, slice_index_or, refl, sym, ap, ◌∙◌, append_assoc, append-nil}
use Rattle.std.specs.List.{list_all}
use Rattle.std.proofs.lemmas.List.{drop_more, map-append}
use Rattle.py_ast.specs.Statement.{Statement, view_stmt}
use Rattle.py_ast.specs.Nodes.{Node, flatten, number_of, nodes, nodes_of_maybe, nodes_of_block, nodes_of_branch, nodes_of_branches, nodes_of_handler, nodes_of_handlers, nodes_of_stmt}
use Rattle.py_ast.specs.declared.stmt.Stmt.{Stmt}
use Rattle.py_ast.specs.declared.stmt.Branch.{Branch, out-Branch}
use Rattle.py_ast.specs.declared.stmt.Handler.{Handler, out-Handler}
use Rattle.py_ast.proofs.Below.{nodes_in_branch, nodes_below_handler}
use Rattle.py_line.specs.Form.{statements_of, numbers}
use Rattle.py_block.specs.Machine as m
use Rattle.py_block.specs.LevelViews.{block_numbers, branch_numbers, branch_of, expr_numbers, handler_numbers, handler_of, maybe_numbers, outer_numbers, outer_of, outers_numbers, outers_of, outers_onto, stmt_numbers}
use Rattle.py_block.specs.declared.level_parts.Outer.{Outer}

-- ---- walks over statements

all_from : (p : Statement → Bool) (xs : List Stmt) (i : ℕ) (x : Stmt) → i < length xs → x ≡ slice_index_or xs i x
    → list_all p (statements_of (drop i xs)) ≡ (p (view_stmt x) && list_all p (statements_of (drop (i + 1) xs)))
all_from p xs i x inside is =
    ap (λ (z : List Stmt). list_all p (statements_of z)) (drop_more xs i x inside ∙ ap (λ (z : Stmt). z ∷ drop (i + 1) xs) (sym is))

pub all_stops : (p : Statement → Bool) (xs : List Stmt) (i : ℕ) (x : Stmt) → i < length xs → x ≡ slice_index_or xs i x
    → list_all p (statements_of (drop i xs)) ≡ list_all p (statements_of xs) → p (view_stmt x) ≡ false → false ≡ list_all p (statements_of xs)
all_stops p xs i x inside is so_far not_here =
    ap (λ (z : Bool). z && list_all p (statements_of (drop (i + 1) xs))) (sym not_here) ∙ sym (all_from p xs i x inside is) ∙ so_far

pub all_goes_on : (p : Statement → Bool) (xs : List Stmt) (i : ℕ) (x : Stmt) → i < length xs → x ≡ slice_index_or xs i x
    → list_all p (statements_of (drop i xs)) ≡ list_all p (statements_of xs) → p (view_stmt x) ≡ true
    → list_all p (statements_of (drop (i + 1) xs)) ≡ list_all p (statements_of xs)
all_goes_on p xs i x inside is so_far here =
    ap (λ (z : Bool). z && list_all p (statements_of (drop (i + 1) xs))) (sym here) ∙ sym (all_from p xs i x inside is) ∙ so_far

-- ---- numbers of joined lists

numbers_append : (xs ys : List Node) → numbers (xs ++ ys) ≡ numbers xs ++ numbers ys
numbers_append xs ys = map-append number_of xs ys

joined : {A : Type 0} (f : A → List Node) (xs ys : List A) → numbers (flatten (map f (xs ++ ys))) ≡ numbers (flatten (map f xs)) ++ numbers (flatten (map f ys))
joined f [] ys = refl
joined f (x ∷ xs) ys =
    numbers_append (f x) (flatten (map f (xs ++ ys)))
    ∙ ap (λ (z : List ℕ). numbers (f x) ++ z) (joined f xs ys)
    ∙ sym (append_assoc (numbers (f x)) (numbers (flatten (map f xs))) (numbers (flatten (map f ys))))
    ∙ ap (λ (z : List ℕ). z ++ numbers (flatten (map f ys))) (sym (numbers_append (f x) (flatten (map f xs))))

one_more : {A : Type 0} (f : A → List Node) (xs : List A) (x : A) → numbers (flatten (map f (xs ++ x ∷ []))) ≡ numbers (flatten (map f xs)) ++ numbers (f x)
one_more f xs x = joined f xs (x ∷ []) ∙ ap (λ (z : List Node). numbers (flatten (map f xs)) ++ numbers z) (append-nil (f x))

pub no_block_numbers : block_numbers [] ≡ []
unfolding block_numbers
no_block_numbers = refl

pub block_joined : (xs ys : List Stmt) → block_numbers (xs ++ ys) ≡ block_numbers xs ++ block_numbers ys
unfolding block_numbers
block_joined xs ys = joined nodes_of_stmt xs ys

pub block_more : (xs : List Stmt) (x : Stmt) → block_numbers (xs ++ x ∷ []) ≡ block_numbers xs ++ stmt_numbers x
unfolding block_numbers stmt_numbers
block_more xs x = one_more nodes_of_stmt xs x

pub no_branch_numbers : branch_numbers [] ≡ []
unfolding branch_numbers
no_branch_numbers = refl

pub branch_more : (bs : List Branch) (b : Branch)
    → branch_numbers (bs ++ b ∷ []) ≡ branch_numbers bs ++ (expr_numbers (out-Branch b).test ++ block_numbers (out-Branch b).body)
unfolding branch_numbers expr_numbers block_numbers
branch_more bs b =
    one_more nodes_of_branch bs b
    ∙ ap (λ (z : List ℕ). numbers (nodes_of_branches bs) ++ z)
    (ap numbers (nodes_in_branch b) ∙ numbers_append (nodes (out-Branch b).test) (nodes_of_block (out-Branch b).body))

pub no_handler_numbers : handler_numbers [] ≡ []
unfolding handler_numbers
no_handler_numbers = refl

pub handler_more : (hs : List Handler) (h : Handler)
    → handler_numbers (hs ++ h ∷ []) ≡ handler_numbers hs ++ ((out-Handler h).node ∷ (maybe_numbers (out-Handler h).class ++ block_numbers (out-Handler h).body))
unfolding handler_numbers maybe_numbers block_numbers
handler_more hs h =
    one_more nodes_of_handler hs h
    ∙ ap (λ (z : List ℕ). numbers (nodes_of_handlers hs) ++ ((out-Handler h).node ∷ z))
    (ap numbers (nodes_below_handler h) ∙ numbers_append (nodes_of_maybe (out-Handler h).class) (nodes_of_block (out-Handler h).body))

-- ---- outer levels

reversed_more : (found : List m.Outer) (os : List Outer) (o : Outer) → outers_onto found (os ++ o ∷ []) ≡ outer_of o ∷ outers_onto found os
reversed_more found [] o = refl
reversed_more found (p ∷ os) o = reversed_more (outer_of p ∷ found) os o

pub no_outers : outers_of [] ≡ []
unfolding outers_of
no_outers = refl

pub outers_more : (os : List Outer) (o : Outer) → outers_of (os ++ o ∷ []) ≡ outer_of o ∷ outers_of os
unfolding outers_of
outers_more os o = reversed_more [] os o

pub no_outers_numbers : outers_numbers [] ≡ []
unfolding outers_numbers
no_outers_numbers = refl

pub outers_numbers_more : (os : List Outer) (o : Outer) → outers_numbers (os ++ o ∷ []) ≡ outers_numbers os ++ outer_numbers o
unfolding outers_numbers
outers_numbers_more [] o = append-nil (outer_numbers o)
outers_numbers_more (p ∷ os) o =
    ap (λ (z : List ℕ). outer_numbers p ++ z) (outers_numbers_more os o) ∙ sym (append_assoc (outer_numbers p) (outers_numbers os) (outer_numbers o))

-- ---- plain branches and clauses

pub branches_map : (bs : List Branch) (b : Branch) → map branch_of (bs ++ b ∷ []) ≡ map branch_of bs ++ branch_of b ∷ []
branches_map bs b = map-append branch_of bs (b ∷ [])

pub handlers_map : (hs : List Handler) (h : Handler) → map handler_of (hs ++ h ∷ []) ≡ map handler_of hs ++ handler_of h ∷ []
handlers_map hs h = map-append handler_of hs (h ∷ [])

pub statements_more : (xs : List Stmt) (x : Stmt) → statements_of (xs ++ x ∷ []) ≡ statements_of xs ++ view_stmt x ∷ []
statements_more xs x = map-append view_stmt xs (x ∷ [])

pub statements_joined : (xs ys : List Stmt) → statements_of (xs ++ ys) ≡ statements_of xs ++ statements_of ys
statements_joined xs ys = map-append view_stmt xs ys

pub nothing_more : (xs : List ℕ) → xs ++ [] ≡ xs
nothing_more xs = append-nil xs

pub regrouped : (xs ys zs : List ℕ) → (xs ++ ys) ++ zs ≡ xs ++ (ys ++ zs)
regrouped xs ys zs = append_assoc xs ys zs
