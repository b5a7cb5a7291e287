-- Lines stand as a block exactly where the levels, run over them, end as it; and they begin a cell exactly where they can be run.
use Rattle.std.proofs.Common.{◌≡◌, ℕ, List, [], ◌∷◌, ◌++◌, Some, None, refl, sym, ap, ◌∙◌, append-nil}
use Rattle.py_ast.specs.Statement as t
use Rattle.py_ast.specs.Statement.{Statement, Block, empty}
use Rattle.py_ast.specs.Lawful.{Place, top}
use Rattle.py_grammar.specs.Line as l
use Rattle.py_grammar.specs.Blocks as g
use Rattle.py_grammar.specs.Blocks.{Placed, of, head, put, Stands, Begins}
use Rattle.py_grammar.specs.Reading.{◌>>=◌}
use Rattle.py_grammar.proofs.Steps.{some_is, bind_ok}
use Rattle.py_block.specs.Machine.{Waiting, Last, nothing, whole, after_if, after_while, after_for, after_try, after_except, after_else, waits, place_of, filled, Outer, State, start, waiting_of, run, accepted}
use Rattle.py_block.proofs.Basics.{block_of_list}
use Rattle.py_block.proofs.Means.{Follows, of_nothing, of_whole, of_if, of_while, of_for, of_try, of_except, of_else, of_waits, Level, Stack, run_means, started_stands}
use Rattle.py_block.proofs.Spelled.{result, result_runs, result_append, stands_read, filled_not_waiting}

pub stands_accepted : (lines : List Placed) (b : Block) → Stands top lines b → (run start lines >>= accepted) ≡ Some b
stands_accepted lines b s =
    sym (result_runs start lines)
    ∙ ap (result start) (sym (append-nil lines))
    ∙ stands_read s [] [] nothing [] [] refl tt
    ∙ ap Some (block_of_list b)

pub one_block : (lines : List Placed) (a b : Block) → Stands top lines a → Stands top lines b → a ≡ b
one_block lines a b s u = some_is (sym (stands_accepted lines a s) ∙ stands_accepted lines b u)

-- ---- lines that complete any levels

abbrev Followed : Place → Last → Type 0
Followed p last = (lines : List Placed) × (xs : List Statement) × Follows p last lines xs

followed : (p : Place) (last : Last) → waiting_of last ≡ None → Followed p last
followed p nothing e = ([], [], of_nothing)
followed p (whole x) e = ([], x ∷ [], of_whole)
followed p (after_if bs) e = ([], _, of_if (g.no_elif g.no_else))
followed p (after_while test body) e = ([], _, of_while g.no_else)
followed p (after_for target a body) e = ([], _, of_for g.no_else)
followed p (after_try body) e = (head p l.finally (t.pass ∷ []) ∷ [], _, of_try (g.by_finally (g.beside (refl, tt))))
followed p (after_except body hs more) e = ([], _, of_except (g.without_else g.no_finally))
followed p (after_else body hs otherwise) e = ([], _, of_else g.no_finally)
followed p (waits w) e = cc

abbrev a_pass : Block
a_pass = t.then t.pass empty

waited : (p : Place) (w : Waiting) → Followed p (waits w)
waited p w =
    let f = followed p (filled w a_pass) (filled_not_waiting w a_pass) in
    (of (place_of p w) (t.pass ∷ []) ∷ f.0, f.1, of_waits (g.below (g.simples (refl, tt) g.nothing)) f.2)

always_followed : (p : Place) (last : Last) → Followed p last
always_followed p nothing = followed p nothing refl
always_followed p (whole x) = followed p (whole x) refl
always_followed p (after_if bs) = followed p (after_if bs) refl
always_followed p (after_while test body) = followed p (after_while test body) refl
always_followed p (after_for target a body) = followed p (after_for target a body) refl
always_followed p (after_try body) = followed p (after_try body) refl
always_followed p (after_except body hs more) = followed p (after_except body hs more) refl
always_followed p (after_else body hs otherwise) = followed p (after_else body hs otherwise) refl
always_followed p (waits w) = waited p w

level : (p : Place) (done : List Statement) (last : Last) → (lines : List Placed) × (b : Block) × Level p done last lines b
level p done last =
    let f = always_followed p last in (
      f.0,
      put done (put f.1 empty),
      record { those = f.0; these = []; latest = f.1; rest = empty; splits = sym (append-nil f.0); follows = f.2; stands = g.nothing; is = refl },
    )

stack : (os : List Outer) (p : Place) (done : List Statement) (last : Last) → (lines : List Placed) × (b : Block) × Stack os p done last lines b
stack [] p done last = level p done last
stack (o ∷ os) p done last =
    let v = level p done last in
    let r = stack os o.place o.done (filled o.waiting v.1) in
    (v.0 ++ r.0, r.1, (v.0, r.0, v.1, refl, v.2, r.2))

pub run_begins : (lines : List Placed) (n : State) → run start lines ≡ Some n → Begins lines
run_begins lines n e =
    let r = stack n.outers n.place n.done n.last in
    (r.0, r.1, started_stands (lines ++ r.0) r.1 (run_means lines start n r.0 r.1 e r.2))

pub begins_run : (lines : List Placed) → Begins lines → (n : State) × (run start lines ≡ Some n)
begins_run lines b =
    let all = sym (result_append start lines b.0) ∙ result_runs start (lines ++ b.0) ∙ stands_accepted (lines ++ b.0) b.1 b.2 in
    let k = bind_ok (run start lines) (λ n. result n b.0) b.1 all in
    (k.0, k.1)
