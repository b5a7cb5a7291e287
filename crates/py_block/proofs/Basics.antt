-- Facts on lists of statements, on options and on equal numbers.
use Rattle.std.proofs.Common.{◌≡◌, ℕ, ◌+◌, ◌<◌, ◌==◌, ◌&&◌, Bool, true, false, List, [], ◌∷◌, ◌++◌, Option, Some, None, option_map, refl, ap, ◌∙◌, arith}
use Rattle.std.specs.List.{list_all}
use Rattle.py_ast.specs.Statement.{Statement, Block, empty, then, Branches, no_branches, branch, Handlers, no_handlers, handler, block_of, branches_of, handlers_of}
use Rattle.py_ast.specs.Lawful.{Place}
use Rattle.py_grammar.specs.Blocks.{put, AreAllowed, is_allowed}
use Rattle.py_block.specs.Machine.{Branch, Clause}

pub option_map_ok : {A B : Type 0} (f : A → B) (o : Option A) (y : B) → option_map f o ≡ Some y → (x : A) × (o ≡ Some x) × (f x ≡ y)
option_map_ok f (Some x) y e = (x, refl, cc)
option_map_ok f None y e = cc

pub equal_numbers : (a b : ℕ) → a ≡ b → (a == b) ≡ true
equal_numbers a b e = grind arith

pub smaller_number : (a b : ℕ) → a < b → (a == b) ≡ false
smaller_number a b e = grind arith

pub and_true : (a b : Bool) → (a && b) ≡ true → (a ≡ true) × (b ≡ true)
and_true true true e = (refl, refl)
and_true true false e = cc
and_true false b e = cc

pub are_allowed : (p : Place) (xs : List Statement) → list_all (is_allowed p) xs ≡ true → AreAllowed p xs
are_allowed p [] e = tt
are_allowed p (x ∷ xs) e = let both = and_true (is_allowed p x) (list_all (is_allowed p) xs) e in (both.0, are_allowed p xs both.1)

pub all_allowed : (p : Place) (xs : List Statement) → AreAllowed p xs → list_all (is_allowed p) xs ≡ true
all_allowed p [] a = refl
all_allowed p (x ∷ xs) a = ap (λ z. z && list_all (is_allowed p) xs) a.0 ∙ all_allowed p xs a.1

-- ---- blocks as lists

abbrev pub list_of : Block → List Statement
list_of empty = []
list_of (then x b) = x ∷ list_of b

pub block_of_list : (b : Block) → block_of (list_of b) ≡ b
block_of_list empty = refl
block_of_list (then x b) = ap (then x) (block_of_list b)

pub put_append : (xs ys : List Statement) (b : Block) → put (xs ++ ys) b ≡ put xs (put ys b)
put_append [] ys b = refl
put_append (x ∷ xs) ys b = ap (then x) (put_append xs ys b)

pub put_empty : (xs : List Statement) → put xs empty ≡ block_of xs
put_empty [] = refl
put_empty (x ∷ xs) = ap (then x) (put_empty xs)

pub list_of_put : (xs : List Statement) (b : Block) → list_of (put xs b) ≡ xs ++ list_of b
list_of_put [] b = refl
list_of_put (x ∷ xs) b = ap (◌∷◌ x) (list_of_put xs b)

-- ---- tests and clauses before others

abbrev pub tests_before : List Branch → Branches → Branches
tests_before [] more = more
tests_before (b ∷ bs) more = branch b.0 b.1 (tests_before bs more)

pub tests_alone : (bs : List Branch) → tests_before bs no_branches ≡ branches_of bs
tests_alone [] = refl
tests_alone (b ∷ bs) = ap (branch b.0 b.1) (tests_alone bs)

pub one_test_more : (bs : List Branch) (b : Branch) (more : Branches) → tests_before (bs ++ b ∷ []) more ≡ tests_before bs (branch b.0 b.1 more)
one_test_more [] b more = refl
one_test_more (c ∷ bs) b more = ap (branch c.0 c.1) (one_test_more bs b more)

abbrev pub clauses_before : List Clause → Handlers → Handlers
clauses_before [] more = more
clauses_before (h ∷ hs) more = handler h.0 h.1 h.2 (clauses_before hs more)

pub clauses_alone : (hs : List Clause) → clauses_before hs no_handlers ≡ handlers_of hs
clauses_alone [] = refl
clauses_alone (h ∷ hs) = ap (handler h.0 h.1 h.2) (clauses_alone hs)

pub one_clause_more : (hs : List Clause) (h : Clause) (more : Handlers)
    → clauses_before (hs ++ h ∷ []) more ≡ clauses_before hs (handler h.0 h.1 h.2 more)
one_clause_more [] h more = refl
one_clause_more (g ∷ hs) h more = ap (handler g.0 g.1 g.2) (one_clause_more hs h more)
