-- Levels after a header, and the numbers in them.
use Rattle.std.proofs.Common.{◌≡◌, ◌==◌, ◌<◌, ◌+◌, append-nil, eqb-true, ℕ, if◌then◌else◌, length, arith, Bool, true, false, List, [], ◌∷◌, ◌++◌, map, refl, sym, ap, ◌∙◌, subst, append_assoc, Option, Some, None, option_map, Result, Ok, Err, IfOk}
use Rattle.std.specs.List.{list_all}
use Rattle.std.proofs.lemmas.Bool.{true≢false}
use Rattle.std.proofs.lemmas.List.{map-append}
use Rattle.py_ast.specs.Tree.{Tree, Trees}
use Rattle.py_ast.specs.Statement.{Statement, block_of}
use Rattle.py_ast.specs.Lawful as lawful
use Rattle.py_ast.specs.Nodes.{Node, nodes, nodes_of_all, nodes_of_block, nodes_of_maybe, number_of}
use Rattle.py_ast.specs.declared.expr.Expr.{Expr}
use Rattle.py_ast.specs.declared.stmt.Stmt.{Stmt}
use Rattle.py_grammar.specs.Blocks.{is_allowed}
use Rattle.py_grammar.specs.Line as l
use Rattle.py_grammar.specs.Line.{Header}
use Rattle.py_grammar.specs.Reading.{◌>>=◌, on}
use Rattle.flow_base.specs.declared.no_memory.NoMemory.{NoMemory}
use Rattle.std.specs.Global.{Vec}
use Rattle.py_ast.specs.View.{view, views}
use Rattle.py_ast.specs.declared.stmt.Branch.{Branch}
use Rattle.py_line.specs.Form.{numbers, numbers_of_form, statements_of}
use Rattle.py_line.specs.declared.form.LineForm.TheVariants as f
use Rattle.py_block.specs.Machine as m
use Rattle.py_block.specs.LevelAnswers.{GoesOn, IsBegun, IsContinued, IsFilled, IsFilledRow, IsJoined, IsSimples, with_simples, IsNextOf, IsPut, IsRow, IsSettled, beside, with_last}
use Rattle.py_block.specs.LevelViews.{block_numbers, branch_numbers, branch_of, expr_numbers, exprs_numbers, last_numbers, last_of, maybe_numbers, place_at, place_of, waiting_numbers, waiting_of}
use Rattle.py_block.specs.declared.level_parts.Body.{Body}
use Rattle.py_block.specs.declared.level_parts.Last.{Last}
use Rattle.py_block.specs.declared.level_parts.Last.TheVariants as t
use Rattle.py_block.specs.declared.level_parts.Place.{Place}
use Rattle.py_block.specs.declared.level_parts.Row.{Row}
use Rattle.py_block.specs.declared.level_parts.Waiting.{Waiting}
use Rattle.py_block.specs.declared.level_parts.Waiting.TheVariants as w
use Rattle.py_block.proofs.LevelLists.{no_block_numbers, no_branch_numbers}

-- ---- headers that begin a statement

pub new_if : (last : m.Last) (test : Tree) → m.goes_on last (l.if test) ≡ None
new_if m.nothing test = refl
new_if (m.whole x) test = refl
new_if (m.after_if bs) test = refl
new_if (m.after_while t b) test = refl
new_if (m.after_for t x b) test = refl
new_if (m.after_try b) test = refl
new_if (m.after_except b hs true) test = refl
new_if (m.after_except b hs false) test = refl
new_if (m.after_else b hs c) test = refl
new_if (m.waits w) test = refl

pub new_while : (last : m.Last) (test : Tree) → m.goes_on last (l.while test) ≡ None
new_while m.nothing test = refl
new_while (m.whole x) test = refl
new_while (m.after_if bs) test = refl
new_while (m.after_while t b) test = refl
new_while (m.after_for t x b) test = refl
new_while (m.after_try b) test = refl
new_while (m.after_except b hs true) test = refl
new_while (m.after_except b hs false) test = refl
new_while (m.after_else b hs c) test = refl
new_while (m.waits w) test = refl

pub new_for : (last : m.Last) (target items : Tree) → m.goes_on last (l.for target items) ≡ None
new_for m.nothing target items = refl
new_for (m.whole x) target items = refl
new_for (m.after_if bs) target items = refl
new_for (m.after_while t b) target items = refl
new_for (m.after_for t x b) target items = refl
new_for (m.after_try b) target items = refl
new_for (m.after_except b hs true) target items = refl
new_for (m.after_except b hs false) target items = refl
new_for (m.after_else b hs c) target items = refl
new_for (m.waits w) target items = refl

pub new_try : (last : m.Last) → m.goes_on last l.try ≡ None
new_try m.nothing = refl
new_try (m.whole x) = refl
new_try (m.after_if bs) = refl
new_try (m.after_while t b) = refl
new_try (m.after_for t x b) = refl
new_try (m.after_try b) = refl
new_try (m.after_except b hs true) = refl
new_try (m.after_except b hs false) = refl
new_try (m.after_else b hs c) = refl
new_try (m.waits w) = refl

pub new_def : (last : m.Last) (name : List ℕ) (names : List (List ℕ)) (ds : Trees) → m.goes_on last (l.define name names ds) ≡ None
new_def m.nothing name names ds = refl
new_def (m.whole x) name names ds = refl
new_def (m.after_if bs) name names ds = refl
new_def (m.after_while t b) name names ds = refl
new_def (m.after_for t x b) name names ds = refl
new_def (m.after_try b) name names ds = refl
new_def (m.after_except b hs true) name names ds = refl
new_def (m.after_except b hs false) name names ds = refl
new_def (m.after_else b hs c) name names ds = refl
new_def (m.waits w) name names ds = refl

pub new_class : (last : m.Last) (name : List ℕ) (base : Option Tree) → m.goes_on last (l.class name base) ≡ None
new_class m.nothing name base = refl
new_class (m.whole x) name base = refl
new_class (m.after_if bs) name base = refl
new_class (m.after_while t b) name base = refl
new_class (m.after_for t x b) name base = refl
new_class (m.after_try b) name base = refl
new_class (m.after_except b hs true) name base = refl
new_class (m.after_except b hs false) name base = refl
new_class (m.after_else b hs c) name base = refl
new_class (m.waits w) name base = refl

-- ---- levels after headers

rows_same : (o u : Option m.Row) (ns ks : List ℕ) (r : Result (Option Row) NoMemory) → o ≡ u → ns ≡ ks → IfOk r (IsRow o ns) → IfOk r (IsRow u ks)
rows_same o u ns ks r e f h =
    subst (λ (z : List ℕ). IfOk r (IsRow u z)) f (subst (λ (z : Option m.Row). IfOk r (IsRow z ns)) e h)

-- a header that begins a statement
begun_by : (p : lawful.Place) (done : List Statement) (last : m.Last) (h : Header) (w : m.Waiting) (xs : List Statement)
    → m.goes_on last h ≡ None → m.starts h ≡ Some w
    → (m.settled done last >>= λ d. with_last d (m.beside p w xs)) ≡ m.on_header p done last h xs
begun_by p done last h w xs e f =
    sym (ap (λ (z : Option m.Waiting). on z (m.new_statement p done last h xs) (λ v. option_map (λ n. (done, n)) (m.beside p v xs))) e
    ∙ ap (λ (z : Option m.Waiting). z >>= λ v. m.settled done last >>= λ d. option_map (λ n. (d, n)) (m.beside p v xs)) f)

pub begun_row : (p : Place) (done : List Stmt) (last : Last) (h : Header) (w : Waiting) (xs : List Stmt) (fs : List ℕ) (r : Result (Option Row) NoMemory)
    → m.goes_on (last_of last) h ≡ None → m.starts h ≡ Some (waiting_of w) → waiting_numbers w ++ block_numbers xs ≡ fs → IfOk r (IsBegun p done last w xs)
    → IfOk r (IsRow (m.on_header (place_of p) (statements_of done) (last_of last) h (statements_of xs)) ((block_numbers done ++ last_numbers last) ++ fs))
begun_row p done last h w xs fs r e f g b =
    rows_same (m.settled (statements_of done) (last_of last) >>= λ d. with_last d (beside p w xs))
    (m.on_header (place_of p) (statements_of done) (last_of last) h (statements_of xs))
    ((block_numbers done ++ last_numbers last) ++ (waiting_numbers w ++ block_numbers xs)) ((block_numbers done ++ last_numbers last) ++ fs) r
    (begun_by (place_of p) (statements_of done) (last_of last) h (waiting_of w) (statements_of xs) e f)
    (ap (λ (z : List ℕ). (block_numbers done ++ last_numbers last) ++ z) g) b

-- a header that goes on with the last statement
refused_by : (p : lawful.Place) (done : List Statement) (last : m.Last) (h : Header) (xs : List Statement)
    → m.goes_on last h ≡ None → m.starts h ≡ None → m.on_header p done last h xs ≡ None
refused_by p done last h xs e f =
    ap (λ (z : Option m.Waiting). on z (m.new_statement p done last h xs) (λ v. option_map (λ n. (done, n)) (m.beside p v xs))) e
    ∙ ap (λ (z : Option m.Waiting). z >>= λ v. m.settled done last >>= λ d. option_map (λ n. (d, n)) (m.beside p v xs)) f

gone_on_by : (p : lawful.Place) (done : List Statement) (last : m.Last) (h : Header) (w : m.Waiting) (xs : List Statement)
    → m.goes_on last h ≡ Some w → with_last done (m.beside p w xs) ≡ m.on_header p done last h xs
gone_on_by p done last h w xs e =
    sym (ap (λ (z : Option m.Waiting). on z (m.new_statement p done last h xs) (λ v. option_map (λ n. (done, n)) (m.beside p v xs))) e)

none_kept : (o : Option m.Row) (ns : List ℕ) (r : Result (Option Row) NoMemory) → o ≡ None → IfOk r (λ z. z ≡ None) → IfOk r (IsRow o ns)
none_kept o ns (Ok None) e h = e
none_kept o ns (Ok (Some x)) e h = cc
none_kept o ns (Err fault) e h = tt

four : (b n k x : List ℕ) → b ++ ((n ++ k) ++ x) ≡ (b ++ n) ++ (k ++ x)
four b n k x = ap (λ (z : List ℕ). b ++ z) (append_assoc n k x) ∙ sym (append_assoc b n (k ++ x))

pub gone_on : (p : Place) (done : List Stmt) (last : Last) (h : Header) (ks : List ℕ) (xs : List Stmt) (fs : List ℕ) (next : Option Waiting) (r : Result (Option Row) NoMemory)
    → m.starts h ≡ None → ks ++ block_numbers xs ≡ fs → IsNextOf last h ks next → IfOk r (GoesOn p done next xs)
    → IfOk r (IsRow (m.on_header (place_of p) (statements_of done) (last_of last) h (statements_of xs)) ((block_numbers done ++ last_numbers last) ++ fs))
gone_on p done last h ks xs fs None r e f g b =
    none_kept (m.on_header (place_of p) (statements_of done) (last_of last) h (statements_of xs)) ((block_numbers done ++ last_numbers last) ++ fs) r
    (refused_by (place_of p) (statements_of done) (last_of last) h (statements_of xs) g e) b
gone_on p done last h ks xs fs (Some w) r e f g b =
    rows_same (with_last (statements_of done) (beside p w xs))
    (m.on_header (place_of p) (statements_of done) (last_of last) h (statements_of xs))
    (block_numbers done ++ (waiting_numbers w ++ block_numbers xs)) ((block_numbers done ++ last_numbers last) ++ fs) r
    (gone_on_by (place_of p) (statements_of done) (last_of last) h (waiting_of w) (statements_of xs) g.0)
    (ap (λ (z : List ℕ). block_numbers done ++ (z ++ block_numbers xs)) g.1
    ∙ four (block_numbers done) (last_numbers last) ks (block_numbers xs) ∙ ap (λ (z : List ℕ). (block_numbers done ++ last_numbers last) ++ z) f) b

-- ---- the numbers of lines

plus : (xs ys : List Node) → numbers xs ++ numbers ys ≡ numbers (xs ++ ys)
plus xs ys = sym (map-append number_of xs ys)

pub simples_numbers : (xs : List Stmt) → block_numbers xs ≡ numbers (nodes_of_block xs)
unfolding block_numbers
simples_numbers xs = refl

pub test_numbers : (a : Expr) (xs : List Stmt) → expr_numbers a ++ block_numbers xs ≡ numbers (nodes a ++ nodes_of_block xs)
unfolding block_numbers expr_numbers
test_numbers a xs = plus (nodes a) (nodes_of_block xs)

pub for_numbers : (t a : Expr) (xs : List Stmt) → (expr_numbers t ++ expr_numbers a) ++ block_numbers xs ≡ numbers (nodes t ++ (nodes a ++ nodes_of_block xs))
unfolding block_numbers expr_numbers
for_numbers t a xs =
    append_assoc (numbers (nodes t)) (numbers (nodes a)) (numbers (nodes_of_block xs))
    ∙ ap (λ (z : List ℕ). numbers (nodes t) ++ z) (plus (nodes a) (nodes_of_block xs)) ∙ plus (nodes t) (nodes a ++ nodes_of_block xs)

pub class_numbers : (a : Option Expr) (xs : List Stmt) → maybe_numbers a ++ block_numbers xs ≡ numbers (nodes_of_maybe a ++ nodes_of_block xs)
unfolding block_numbers maybe_numbers
class_numbers a xs = plus (nodes_of_maybe a) (nodes_of_block xs)

pub def_numbers : (ds : List Expr) (xs : List Stmt) → exprs_numbers ds ++ block_numbers xs ≡ numbers (nodes_of_all ds ++ nodes_of_block xs)
unfolding block_numbers exprs_numbers
def_numbers ds xs = plus (nodes_of_all ds) (nodes_of_block xs)

-- ---- each header

pub put_if : (p : Place) (done : List Stmt) (last : Last) (i : ℕ) (v : Vec Branch) (a : Expr) (xs : Vec Stmt) (r : Result (Option Row) NoMemory) → v.items ≡ []
    → IfOk r (IsBegun p done last (w.IfBody i v a) xs.items) → IfOk r (IsPut p done last (f.If i a xs))
put_if p done last i v a xs r e =
    begun_row p done last (l.if (view a)) (w.IfBody i v a) xs.items (numbers_of_form (f.If i a xs)) r (new_if (last_of last) (view a))
    (ap (λ (z : List Branch). Some (m.if_body (map branch_of z) (view a))) (sym e))
    (ap (λ (z : List Branch). i ∷ ((branch_numbers z ++ expr_numbers a) ++ block_numbers xs.items)) e
    ∙ ap (λ (z : List ℕ). i ∷ ((z ++ expr_numbers a) ++ block_numbers xs.items)) no_branch_numbers
    ∙ ap (λ (z : List ℕ). i ∷ z) (test_numbers a xs.items))

pub put_while : (p : Place) (done : List Stmt) (last : Last) (i : ℕ) (a : Expr) (xs : Vec Stmt) (r : Result (Option Row) NoMemory)
    → IfOk r (IsBegun p done last (w.WhileBody i a) xs.items) → IfOk r (IsPut p done last (f.While i a xs))
put_while p done last i a xs r =
    begun_row p done last (l.while (view a)) (w.WhileBody i a) xs.items (numbers_of_form (f.While i a xs)) r (new_while (last_of last) (view a)) refl
    (ap (λ (z : List ℕ). i ∷ z) (test_numbers a xs.items))

pub put_for : (p : Place) (done : List Stmt) (last : Last) (i : ℕ) (t a : Expr) (xs : Vec Stmt) (r : Result (Option Row) NoMemory)
    → IfOk r (IsBegun p done last (w.ForBody i t a) xs.items) → IfOk r (IsPut p done last (f.For i t a xs))
put_for p done last i t a xs r =
    begun_row p done last (l.for (view t) (view a)) (w.ForBody i t a) xs.items (numbers_of_form (f.For i t a xs)) r (new_for (last_of last) (view t) (view a)) refl
    (ap (λ (z : List ℕ). i ∷ z) (for_numbers t a xs.items))

pub put_try : (p : Place) (done : List Stmt) (last : Last) (i : ℕ) (xs : Vec Stmt) (r : Result (Option Row) NoMemory)
    → IfOk r (IsBegun p done last (w.TryBody i) xs.items) → IfOk r (IsPut p done last (f.Try i xs))
put_try p done last i xs r =
    begun_row p done last l.try (w.TryBody i) xs.items (numbers_of_form (f.Try i xs)) r (new_try (last_of last)) refl
    (ap (λ (z : List ℕ). i ∷ z) (simples_numbers xs.items))

pub put_def : (p : Place) (done : List Stmt) (last : Last) (i : ℕ) (x : List ℕ) (names : List (List ℕ)) (ds : List Expr) (xs : Vec Stmt) (r : Result (Option Row) NoMemory)
    → IfOk r (IsBegun p done last (w.DefBody i x names ds) xs.items) → IfOk r (IsPut p done last (f.Def i x names ds xs))
put_def p done last i x names ds xs r =
    begun_row p done last (l.define x names (views ds)) (w.DefBody i x names ds) xs.items (numbers_of_form (f.Def i x names ds xs)) r
    (new_def (last_of last) x names (views ds)) refl (ap (λ (z : List ℕ). i ∷ z) (def_numbers ds xs.items))

pub put_class : (p : Place) (done : List Stmt) (last : Last) (i : ℕ) (x : List ℕ) (base : Option Expr) (xs : Vec Stmt) (r : Result (Option Row) NoMemory)
    → IfOk r (IsBegun p done last (w.ClassBody i x base) xs.items) → IfOk r (IsPut p done last (f.Class i x base xs))
put_class p done last i x base xs r =
    begun_row p done last (l.class x (option_map view base)) (w.ClassBody i x base) xs.items (numbers_of_form (f.Class i x base xs)) r
    (new_class (last_of last) x (option_map view base)) refl (ap (λ (z : List ℕ). i ∷ z) (class_numbers base xs.items))

pub put_elif : (p : Place) (done : List Stmt) (last : Last) (a : Expr) (xs : Vec Stmt) (next : Option Waiting) (r : Result (Option Row) NoMemory)
    → IsNextOf last (l.elif (view a)) (expr_numbers a) next → IfOk r (GoesOn p done next xs.items) → IfOk r (IsPut p done last (f.Elif a xs))
put_elif p done last a xs next r =
    gone_on p done last (l.elif (view a)) (expr_numbers a) xs.items (numbers_of_form (f.Elif a xs)) next r refl (test_numbers a xs.items)

pub put_else : (p : Place) (done : List Stmt) (last : Last) (xs : Vec Stmt) (next : Option Waiting) (r : Result (Option Row) NoMemory)
    → IsNextOf last l.else [] next → IfOk r (GoesOn p done next xs.items) → IfOk r (IsPut p done last (f.Else xs))
put_else p done last xs next r = gone_on p done last l.else [] xs.items (numbers_of_form (f.Else xs)) next r refl (simples_numbers xs.items)

pub put_finally : (p : Place) (done : List Stmt) (last : Last) (xs : Vec Stmt) (next : Option Waiting) (r : Result (Option Row) NoMemory)
    → IsNextOf last l.finally [] next → IfOk r (GoesOn p done next xs.items) → IfOk r (IsPut p done last (f.Finally xs))
put_finally p done last xs next r = gone_on p done last l.finally [] xs.items (numbers_of_form (f.Finally xs)) next r refl (simples_numbers xs.items)

pub put_except : (p : Place) (done : List Stmt) (last : Last) (i : ℕ) (a : Option Expr) (x : Option (List ℕ)) (xs : Vec Stmt) (next : Option Waiting) (r : Result (Option Row) NoMemory)
    → IsNextOf last (l.except (option_map view a) x) (i ∷ maybe_numbers a) next → IfOk r (GoesOn p done next xs.items) → IfOk r (IsPut p done last (f.Except i a x xs))
put_except p done last i a x xs next r =
    gone_on p done last (l.except (option_map view a) x) (i ∷ maybe_numbers a) xs.items (numbers_of_form (f.Except i a x xs)) next r refl
    (ap (λ (z : List ℕ). i ∷ z) (class_numbers a xs.items))

-- ---- the statements after a colon

beside_by : (p : lawful.Place) (w : m.Waiting) (xs : List Stmt) (b : Bool) → 0 < length xs → b ≡ list_all (is_allowed (m.place_of p w)) (statements_of xs)
    → m.beside p w (statements_of xs) ≡ (if b then Some (m.filled w (block_of (statements_of xs))) else None)
beside_by p w [] b h e = absurd (omega arith)
beside_by p w (x ∷ xs) b h e =
    ap (λ (z : Bool). if z then Some (m.filled w (block_of (statements_of (x ∷ xs)))) else None) (sym e)

allowed_there : (p : Place) (w : Waiting) (body : Body) (xs : List Stmt) (b : Bool) → place_at (p.deep + 1) body ≡ m.place_of (place_of p) (waiting_of w)
    → ((deep : ℕ) → b ≡ list_all (is_allowed (place_at deep body)) (statements_of xs)) → b ≡ list_all (is_allowed (m.place_of (place_of p) (waiting_of w))) (statements_of xs)
allowed_there p w body xs b e f = f (p.deep + 1) ∙ ap (λ (z : lawful.Place). list_all (is_allowed z) (statements_of xs)) e

pub row_refused : (p : Place) (done : List Stmt) (w : Waiting) (body : Body) (xs : List Stmt) (b : Bool) → 0 < length xs
    → place_at (p.deep + 1) body ≡ m.place_of (place_of p) (waiting_of w) → ((deep : ℕ) → b ≡ list_all (is_allowed (place_at deep body)) (statements_of xs))
    → b ≡ false → with_last (statements_of done) (beside p w xs) ≡ None
row_refused p done w body xs b h e f g =
    ap (with_last (statements_of done))
    (beside_by (place_of p) (waiting_of w) xs b h (allowed_there p w body xs b e f)
    ∙ ap (λ (z : Bool). if z then Some (m.filled (waiting_of w) (block_of (statements_of xs))) else None) g)

pub row_filled : (p : Place) (done : List Stmt) (w : Waiting) (body : Body) (xs : List Stmt) (b : Bool) (r : Result (Option Row) NoMemory) → 0 < length xs
    → place_at (p.deep + 1) body ≡ m.place_of (place_of p) (waiting_of w) → ((deep : ℕ) → b ≡ list_all (is_allowed (place_at deep body)) (statements_of xs))
    → b ≡ true → IfOk r (IsFilledRow done w xs) → IfOk r (IsContinued p done w xs)
row_filled p done w body xs b r h e f g k =
    rows_same (Some (statements_of done, m.filled (waiting_of w) (block_of (statements_of xs)))) (with_last (statements_of done) (beside p w xs))
    (block_numbers done ++ (waiting_numbers w ++ block_numbers xs)) (block_numbers done ++ (waiting_numbers w ++ block_numbers xs)) r
    (sym (ap (with_last (statements_of done))
    (beside_by (place_of p) (waiting_of w) xs b h (allowed_there p w body xs b e f)
    ∙ ap (λ (z : Bool). if z then Some (m.filled (waiting_of w) (block_of (statements_of xs))) else None) g)))
    refl k

pub block_put : (done : Vec Stmt) (w : Waiting) (xs : List Stmt) (last : Last) → IsFilled w xs last
    → IsFilledRow done.items w xs (Some (record { done = done; last = last }))
block_put done w xs last f = (ap (λ (z : m.Last). Some (statements_of done.items, z)) (sym f.0), ap (λ (z : List ℕ). block_numbers done.items ++ z) f.1)

pub block_same : (done : List Stmt) (w : Waiting) (xs ys : List Stmt) (r : Result (Option Row) NoMemory) → xs ≡ ys → IfOk r (IsFilledRow done w xs)
    → IfOk r (IsFilledRow done w ys)
block_same done w xs ys r e f = subst (λ (z : List Stmt). IfOk r (IsFilledRow done w z)) e f

pub none_there : (xs : List Stmt) (b : Bool) → b ≡ (length xs == 0) → b ≡ true → xs ≡ []
none_there [] b e f = refl
none_there (x ∷ xs) b e f = let h : length (x ∷ xs) ≡ 0 = eqb-true (length (x ∷ xs)) 0 (sym e ∙ f) in absurd (omega arith)

pub some_there : (xs : List Stmt) (b : Bool) → b ≡ (length xs == 0) → b ≡ false → 0 < length xs
some_there [] b e f = absurd (true≢false (sym e ∙ f))
some_there (x ∷ xs) b e f = omega arith

pub row_waits : (p : Place) (done : Vec Stmt) (w : Waiting) (xs : List Stmt) (b : Bool) → b ≡ (length xs == 0) → b ≡ true
    → IsContinued p done.items w xs (Some (record { done = done; last = t.Waits w }))
row_waits p done w xs b e f =
    subst (λ (z : List Stmt). IsContinued p done.items w z (Some (record { done = done; last = t.Waits w }))) (sym (none_there xs b e f))
    (refl, ap (λ (z : List ℕ). block_numbers done.items ++ z) (sym (append-nil (waiting_numbers w)) ∙ ap (λ (z : List ℕ). waiting_numbers w ++ z) (sym no_block_numbers)))

pub begun_settled : (p : Place) (done : Vec Stmt) (last : Last) (w : Waiting) (xs : List Stmt) (d : Vec Stmt) (r : Result (Option Row) NoMemory)
    → IsSettled done last (Some d) → IfOk r (IsContinued p d.items w xs) → IfOk r (IsBegun p done.items last w xs)
begun_settled p done last w xs d r s c =
    rows_same (with_last (statements_of d.items) (beside p w xs)) (m.settled (statements_of done.items) (last_of last) >>= λ d. with_last d (beside p w xs))
    (block_numbers d.items ++ (waiting_numbers w ++ block_numbers xs))
    ((block_numbers done.items ++ last_numbers last) ++ (waiting_numbers w ++ block_numbers xs)) r
    (sym (ap (λ (z : Option (List Statement)). z >>= λ d. with_last d (beside p w xs)) s.0))
    (ap (λ (z : List ℕ). z ++ (waiting_numbers w ++ block_numbers xs)) s.1) c

pub begun_unsettled : (p : Place) (done : Vec Stmt) (last : Last) (w : Waiting) (xs : List Stmt) → IsSettled done last None → IsBegun p done.items last w xs None
begun_unsettled p done last w xs s = ap (λ (z : Option (List Statement)). z >>= λ d. with_last d (beside p w xs)) s

-- ---- simple statements

simples_by : (p : lawful.Place) (done : List Statement) (last : m.Last) (xs : List Stmt) (b : Bool) → 0 < length xs → b ≡ list_all (is_allowed p) (statements_of xs)
    → m.on_simples p done last (statements_of xs) ≡ (if b then option_map (λ d. (d ++ statements_of xs, m.nothing)) (m.settled done last) else None)
simples_by p done last [] b h e = absurd (omega arith)
simples_by p done last (x ∷ xs) b h e =
    ap (λ (z : Bool). if z then option_map (λ d. (d ++ statements_of (x ∷ xs), m.nothing)) (m.settled done last) else None) (sym e)

pub simples_refused : (p : Place) (done : List Stmt) (last : Last) (xs : List Stmt) (b : Bool) → 0 < length xs
    → ((deep : ℕ) → b ≡ list_all (is_allowed (place_at deep p.body)) (statements_of xs)) → b ≡ false
    → m.on_simples (place_of p) (statements_of done) (last_of last) (statements_of xs) ≡ None
simples_refused p done last xs b h f g =
    simples_by (place_of p) (statements_of done) (last_of last) xs b h (f p.deep)
    ∙ ap (λ (z : Bool). if z then option_map (λ d. (d ++ statements_of xs, m.nothing)) (m.settled (statements_of done) (last_of last)) else None) g

pub simples_settled : (done : Vec Stmt) (last : Last) (xs : List Stmt) (d : Vec Stmt) (r : Result (Option Row) NoMemory)
    → IsSettled done last (Some d) → IfOk r (IsJoined d.items xs) → IfOk r (IsSimples done last xs)
simples_settled done last xs d r s j =
    rows_same (Some (statements_of d.items ++ statements_of xs, m.nothing))
    (option_map (with_simples (statements_of xs)) (m.settled (statements_of done.items) (last_of last)))
    (block_numbers d.items ++ block_numbers xs) ((block_numbers done.items ++ last_numbers last) ++ block_numbers xs) r
    (sym (ap (option_map (with_simples (statements_of xs))) s.0)) (ap (λ (z : List ℕ). z ++ block_numbers xs) s.1) j

pub simples_unsettled : (done : Vec Stmt) (last : Last) (xs : List Stmt) → IsSettled done last None → IsSimples done last xs None
simples_unsettled done last xs s = ap (option_map (with_simples (statements_of xs))) s

pub simples_put : (p : Place) (done : Vec Stmt) (last : Last) (xs : Vec Stmt) (b : Bool) (r : Result (Option Row) NoMemory) → 0 < length xs.items
    → ((deep : ℕ) → b ≡ list_all (is_allowed (place_at deep p.body)) (statements_of xs.items)) → b ≡ true
    → IfOk r (IsSimples done last xs.items) → IfOk r (IsPut p done.items last (f.Simples xs))
simples_put p done last xs b r h f g j =
    rows_same (option_map (with_simples (statements_of xs.items)) (m.settled (statements_of done.items) (last_of last)))
    (m.on_simples (place_of p) (statements_of done.items) (last_of last) (statements_of xs.items))
    ((block_numbers done.items ++ last_numbers last) ++ block_numbers xs.items)
    ((block_numbers done.items ++ last_numbers last) ++ numbers (nodes_of_block xs.items)) r
    (sym (simples_by (place_of p) (statements_of done.items) (last_of last) xs.items b h (f p.deep)
    ∙ ap (λ (z : Bool). if z then option_map (with_simples (statements_of xs.items)) (m.settled (statements_of done.items) (last_of last)) else None) g))
    (ap (λ (z : List ℕ). (block_numbers done.items ++ last_numbers last) ++ z) (simples_numbers xs.items)) j

pub simples_none : (p : Place) (done : List Stmt) (last : Last) (xs : List Stmt) (b : Bool) → b ≡ (length xs == 0) → b ≡ true
    → m.on_simples (place_of p) (statements_of done) (last_of last) (statements_of xs) ≡ None
simples_none p done last xs b e f = ap (λ (z : List Stmt). m.on_simples (place_of p) (statements_of done) (last_of last) (statements_of z)) (none_there xs b e f)
