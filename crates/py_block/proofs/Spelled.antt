-- Lines that stand as a block are read: run over them, the levels end as that block, whatever follows at the levels round it.
use Rattle.std.proofs.Common.{◌≡◌, ℕ, ◌+◌, ◌<◌, ◌≤◌, ◌==◌, Bool, true, false, List, [], ◌∷◌, ◌++◌, Option, Some, None, option_map, refl, sym, ap, ◌∙◌, subst, append_assoc, append-nil, ◌⊎◌, arith, if◌then◌else◌}
use Rattle.std.specs.List.{list_all}
use Rattle.std.specs.Option.{is_some}
use Rattle.py_ast.specs.Tree.{Tree}
use Rattle.py_ast.specs.Statement as t
use Rattle.py_ast.specs.Statement.{Statement, Block, empty, Branches, branch, Handlers, no_handlers, handler, block_of, branches_of, handlers_of}
use Rattle.py_ast.specs.Lawful.{Place, inner}
use Rattle.py_grammar.specs.Line as l
use Rattle.py_grammar.specs.Line.{Line, Header}
use Rattle.py_grammar.specs.Blocks as g
use Rattle.py_grammar.specs.Blocks.{Placed, head, is_allowed, put, Stands, Suite, Compound, Elifs, Else, Handled, Excepts, ElseFinally, Finally}
use Rattle.py_grammar.specs.Reading.{◌>>=◌, on}
use Rattle.py_grammar.proofs.Steps.{bind_same, bind_bind}
use Rattle.py_block.specs.Machine as m
use Rattle.py_block.specs.Machine.{Branch, Clause, Waiting, Last, nothing, whole, after_if, after_while, after_for, after_try, after_except, after_else, waits, place_of, filled, settled, goes_on, starts, beside, Row, new_statement, on_header, on_simples, on_line, Outer, State, with_row, down, enter, waiting_of, step, run, ended, accepted}
use Rattle.py_block.proofs.Basics.{equal_numbers, smaller_number, all_allowed, list_of, block_of_list, put_empty, list_of_put, tests_before, tests_alone, one_test_more, clauses_before, clauses_alone, one_clause_more}

-- what comes of the levels by these lines
abbrev pub result : State → List Placed → Option Block
result s [] = accepted s
result s (x ∷ xs) = step s x >>= λ n. result n xs

pub result_runs : (s : State) (xs : List Placed) → result s xs ≡ (run s xs >>= accepted)
result_runs s [] = refl
result_runs s (x ∷ xs) =
    bind_same (step s x) (λ n. result n xs) (λ n. run n xs >>= accepted) (λ n e. result_runs n xs) ∙ sym (bind_bind (step s x) (λ n. run n xs) accepted)

pub result_append : (s : State) (xs ys : List Placed) → result s (xs ++ ys) ≡ (run s xs >>= λ n. result n ys)
result_append s [] ys = refl
result_append s (x ∷ xs) ys =
    bind_same (step s x) (λ n. result n (xs ++ ys)) (λ n. run n xs >>= λ n. result n ys) (λ n e. result_append n xs ys)
    ∙ sym (bind_bind (step s x) (λ n. run n xs) (λ n. result n ys))

abbrev at : List Outer → Place → List Statement → Last → State
at os p done last = record { outers = os; place = p; done = done; last = last }

-- no line, or first one that is less deep
abbrev Above : ℕ → List Placed → Type 0
Above d [] = Unit {0}
Above d (x ∷ xs) = x.deep < d

above_more : (d e : ℕ) (xs : List Placed) → d ≤ e → Above d xs → Above e xs
above_more d e [] m a = tt
above_more d e (x ∷ xs) m a = omega arith

-- ---- waiting or not

not_waiting : (done : List Statement) (last : Last) (d : List Statement) → settled done last ≡ Some d → waiting_of last ≡ None
not_waiting done nothing d e = refl
not_waiting done (whole x) d e = refl
not_waiting done (after_if bs) d e = refl
not_waiting done (after_while test body) d e = refl
not_waiting done (after_for target a body) d e = refl
not_waiting done (after_try body) d e = refl
not_waiting done (after_except body hs more) d e = refl
not_waiting done (after_else body hs otherwise) d e = refl
not_waiting done (waits w) d e = cc

going_on : (last : Last) (h : Header) (w : Waiting) → goes_on last h ≡ Some w → waiting_of last ≡ None
going_on nothing h w e = refl
going_on (whole x) h w e = refl
going_on (after_if bs) h w e = refl
going_on (after_while test body) h w e = refl
going_on (after_for target a body) h w e = refl
going_on (after_try body) h w e = refl
going_on (after_except body hs more) h w e = refl
going_on (after_else body hs otherwise) h w e = refl
going_on (waits v) h w e = cc

pub filled_not_waiting : (w : Waiting) (b : Block) → waiting_of (filled w b) ≡ None
filled_not_waiting (m.if_body bs test) b = refl
filled_not_waiting (m.if_else bs) b = refl
filled_not_waiting (m.while_body test) b = refl
filled_not_waiting (m.while_else test body) b = refl
filled_not_waiting (m.for_body target a) b = refl
filled_not_waiting (m.for_else target a body) b = refl
filled_not_waiting m.try_body b = refl
filled_not_waiting (m.except_body body hs class x) b = refl
filled_not_waiting (m.try_else body hs) b = refl
filled_not_waiting (m.finally_body body hs otherwise) b = refl
filled_not_waiting (m.def_body x names defaults) b = refl
filled_not_waiting (m.class_body x base) b = refl

deeper : (p : Place) (w : Waiting) → (place_of p w).deep ≡ p.deep + 1
deeper p (m.if_body bs test) = refl
deeper p (m.if_else bs) = refl
deeper p (m.while_body test) = refl
deeper p (m.while_else test body) = refl
deeper p (m.for_body target a) = refl
deeper p (m.for_else target a body) = refl
deeper p m.try_body = refl
deeper p (m.except_body body hs class x) = refl
deeper p (m.try_else body hs) = refl
deeper p (m.finally_body body hs otherwise) = refl
deeper p (m.def_body x names defaults) = refl
deeper p (m.class_body x base) = refl

starts_only : (last : Last) (h : Header) (w : Waiting) → starts h ≡ Some w → goes_on last h ≡ None
starts_only nothing h w e = refl
starts_only (whole x) h w e = refl
starts_only (after_if bs) (l.elif test) w e = cc
starts_only (after_if bs) l.else w e = cc
starts_only (after_if bs) _ w e = refl
starts_only (after_while test body) l.else w e = cc
starts_only (after_while test body) _ w e = refl
starts_only (after_for target a body) l.else w e = cc
starts_only (after_for target a body) _ w e = refl
starts_only (after_try body) (l.except class x) w e = cc
starts_only (after_try body) l.finally w e = cc
starts_only (after_try body) _ w e = refl
starts_only (after_except body hs more) (l.except class x) w e = cc
starts_only (after_except body hs more) l.else w e = cc
starts_only (after_except body hs more) l.finally w e = cc
starts_only (after_except body hs true) _ w e = refl
starts_only (after_except body hs false) _ w e = refl
starts_only (after_else body hs otherwise) l.finally w e = cc
starts_only (after_else body hs otherwise) _ w e = refl
starts_only (waits v) h w e = refl

-- ---- a step where the line stands

down_here : (os : List Outer) (p : Place) (done : List Statement) (last : Last) (x : Placed) → x.deep ≡ p.deep
    → down os p done last x ≡ option_map (with_row os p) (on_line p done last x.line)
down_here [] p done last x d = ap (λ z. if z then option_map (with_row [] p) (on_line p done last x.line) else None) (equal_numbers x.deep p.deep d)
down_here (o ∷ os) p done last x d =
    ap (λ z. if z then option_map (with_row (o ∷ os) p) (on_line p done last x.line) else (settled done last >>= λ d. down os o.place o.done (filled o.waiting (block_of d)) x))
    (equal_numbers x.deep p.deep d)

-- a line at the innermost level
step_here : (os : List Outer) (p : Place) (done : List Statement) (last : Last) (line : Line) (rest : List Placed) → waiting_of last ≡ None
    → result (at os p done last) (record { deep = p.deep; line = line } ∷ rest)
    ≡ (option_map (with_row os p) (on_line p done last line) >>= λ n. result n rest)
step_here os p done last line rest e =
    ap (λ z. on z (down os p done last (record { deep = p.deep; line = line })) (λ w. enter (at os p done last) w (record { deep = p.deep; line = line })) >>= λ n. result n rest) e
    ∙ ap (λ z. z >>= λ n. result n rest) (down_here os p done last (record { deep = p.deep; line = line }) refl)

row_is : (os : List Outer) (p : Place) (rest : List Placed) (o : Option Row) (d : List Statement) (n : Last) → o ≡ Some (d, n)
    → (option_map (with_row os p) o >>= λ n. result n rest) ≡ result (at os p d n) rest
row_is os p rest o d n e = ap (λ z. option_map (with_row os p) z >>= λ n. result n rest) e

-- a line that is less deep
step_away : (os : List Outer) (p : Place) (done : List Statement) (last : Last) (d : List Statement) (x : Placed) → settled done last ≡ Some d → x.deep < p.deep
    → step (at os p done last) x ≡ step (at os p d nothing) x
step_away [] p done last d x e a =
    ap (λ z. on z (down [] p done last x) (λ w. enter (at [] p done last) w x)) (not_waiting done last d e)
    ∙ ap (λ z. if z then option_map (with_row [] p) (on_line p done last x.line) else None) (smaller_number x.deep p.deep a)
    ∙ ap (λ z. if z then option_map (with_row [] p) (on_line p d nothing x.line) else None) (sym (smaller_number x.deep p.deep a))
step_away (o ∷ os) p done last d x e a =
    ap (λ z. on z (down (o ∷ os) p done last x) (λ w. enter (at (o ∷ os) p done last) w x)) (not_waiting done last d e)
    ∙ ap (λ z. if z then option_map (with_row (o ∷ os) p) (on_line p done last x.line) else (settled done last >>= λ d. down os o.place o.done (filled o.waiting (block_of d)) x))
    (smaller_number x.deep p.deep a)
    ∙ ap (λ z. z >>= λ d. down os o.place o.done (filled o.waiting (block_of d)) x) e
    ∙ ap (λ z. if z then option_map (with_row (o ∷ os) p) (on_line p d nothing x.line) else down os o.place o.done (filled o.waiting (block_of d)) x)
    (sym (smaller_number x.deep p.deep a))

-- a level that gets no more is as one whose last statement is done
settles : (os : List Outer) (p : Place) (done : List Statement) (last : Last) (d : List Statement) (rest : List Placed) → settled done last ≡ Some d → Above p.deep rest
    → result (at os p done last) rest ≡ result (at os p d nothing) rest
settles [] p done last d [] e a = ap (option_map block_of) e
settles (o ∷ os) p done last d [] e a = ap (λ z. z >>= λ d. ended os o.done (filled o.waiting (block_of d))) e
settles os p done last d (x ∷ rest) e a = ap (λ z. z >>= λ n. result n rest) (step_away os p done last d x e a)

-- a level that is left fills what waits for it
leaves : (os : List Outer) (p : Place) (done : List Statement) (w : Waiting) (q : Place) (d : List Statement) (rest : List Placed) → Above q.deep rest
    → result (at (record { place = p; done = done; waiting = w } ∷ os) q d nothing) rest ≡ result (at os p done (filled w (block_of d))) rest
leaves os p done w q d [] a = refl
leaves os p done w q d (x ∷ rest) a =
    ap (λ z. (if z then option_map (with_row (record { place = p; done = done; waiting = w } ∷ os) q) (on_line q d nothing x.line) else down os p done (filled w (block_of d)) x) >>= λ n. result n rest)
    (smaller_number x.deep q.deep a)
    ∙ ap (λ z. on z (down os p done (filled w (block_of d)) x) (λ v. enter (at os p done (filled w (block_of d))) v x) >>= λ n. result n rest)
    (sym (filled_not_waiting w (block_of d)))

-- the first line of the block that is waited for
enters : (os : List Outer) (p : Place) (done : List Statement) (w : Waiting) (line : Line) (rest : List Placed)
    → result (at os p done (waits w)) (record { deep = (place_of p w).deep; line = line } ∷ rest)
    ≡ result (at (record { place = p; done = done; waiting = w } ∷ os) (place_of p w) [] nothing) (record { deep = (place_of p w).deep; line = line } ∷ rest)
enters os p done w line rest =
    let o : Outer = record { place = p; done = done; waiting = w } in
    let q = place_of p w in
    ap (λ z. (if z then option_map (with_row (o ∷ os) q) (on_line q [] nothing line) else None) >>= λ n. result n rest) (equal_numbers q.deep q.deep refl)
    ∙ sym (step_here (o ∷ os) q [] nothing line rest refl)

-- ---- what reading a part does

abbrev StandsRead : Place → List Placed → Block → Type 0
StandsRead p lines b =
    (os : List Outer) (done : List Statement) (last : Last) (d : List Statement) (rest : List Placed) → settled done last ≡ Some d → Above p.deep rest
    → result (at os p done last) (lines ++ rest) ≡ result (at os p (d ++ list_of b) nothing) rest

-- a header with the statements after its colon leads to where its block fills what waits
record SuiteRead (p : Place) (w : Waiting) (xs : List Statement) (lines : List Placed) (b : Block) : Type 0 where
  pub after : Last
  pub is : beside p w xs ≡ Some after
  pub reads : (os : List Outer) (done : List Statement) (rest : List Placed) → Above (p.deep + 1) rest
      → result (at os p done after) (lines ++ rest) ≡ result (at os p done (filled w b)) rest

-- no line, or first one at this place
abbrev Heads : Place → List Placed → Type 0
Heads p [] = Unit {0}
Heads p (x ∷ xs) = x.deep ≡ p.deep

heads_above : (p : Place) (lines rest : List Placed) → Heads p lines → Above (p.deep + 1) rest → Above (p.deep + 1) (lines ++ rest)
heads_above p [] rest h a = a
heads_above p (x ∷ xs) rest h a = omega arith

-- the last statement and lines that it gets
record Goes (p : Place) (last : Last) (lines : List Placed) (x : Statement) : Type 0 where
  pub after : Last
  pub ends : (d : List Statement) → settled d after ≡ Some (d ++ x ∷ [])
  pub reads : (os : List Outer) (done : List Statement) (rest : List Placed) → Above (p.deep + 1) rest
      → result (at os p done last) (lines ++ rest) ≡ result (at os p done after) rest
  pub heads : Heads p lines

-- a new statement
record Begins (p : Place) (lines : List Placed) (x : Statement) : Type 0 where
  pub after : Last
  pub ends : (d : List Statement) → settled d after ≡ Some (d ++ x ∷ [])
  pub reads : (os : List Outer) (done : List Statement) (last : Last) (d : List Statement) (rest : List Placed) → settled done last ≡ Some d → Above (p.deep + 1) rest
      → result (at os p done last) (lines ++ rest) ≡ result (at os p d after) rest

module _ (p : Place) (h : Header) (w : Waiting) (xs : List Statement) (lines : List Placed) (b : Block) (r : SuiteRead p w xs lines b) where
  goes_row : (os : List Outer) (done : List Statement) (last : Last) (rest : List Placed) → goes_on last h ≡ Some w → Above (p.deep + 1) rest
      → result (at os p done last) (head p h xs ∷ lines ++ rest) ≡ result (at os p done (filled w b)) rest
  goes_row os done last rest e a =
      step_here os p done last (l.header h xs) (lines ++ rest) (going_on last h w e)
      ∙ row_is os p (lines ++ rest) (on_header p done last h xs) done r.after
      (ap (λ z. on z (new_statement p done last h xs) (λ w. option_map (λ n. (done, n)) (beside p w xs))) e ∙ ap (option_map (λ n. (done, n))) r.is)
      ∙ r.reads os done rest a

  begins_row : (os : List Outer) (done : List Statement) (last : Last) (d : List Statement) (rest : List Placed) → starts h ≡ Some w → settled done last ≡ Some d
      → Above (p.deep + 1) rest → result (at os p done last) (head p h xs ∷ lines ++ rest) ≡ result (at os p d (filled w b)) rest
  begins_row os done last d rest e ed a =
      step_here os p done last (l.header h xs) (lines ++ rest) (not_waiting done last d ed)
      ∙ row_is os p (lines ++ rest) (on_header p done last h xs) d r.after
      (ap (λ z. on z (new_statement p done last h xs) (λ w. option_map (λ n. (done, n)) (beside p w xs))) (starts_only last h w e)
      ∙ ap (λ z. z >>= λ w. settled done last >>= λ d. option_map (λ n. (d, n)) (beside p w xs)) e
      ∙ ap (λ z. z >>= λ d. option_map (λ n. (d, n)) (beside p w xs)) ed
      ∙ ap (option_map (λ n. (d, n))) r.is)
      ∙ r.reads os d rest a

  goes_then : (last : Last) (more : List Placed) (x : Statement) → goes_on last h ≡ Some w → Goes p (filled w b) more x → Goes p last (head p h xs ∷ lines ++ more) x
  goes_then last more x e next =
      record {
        after = next.after;
        ends = next.ends;
        reads = λ os done rest a.
            ap (λ z. result (at os p done last) (head p h xs ∷ z)) (append_assoc lines more rest)
            ∙ goes_row os done last (more ++ rest) e (heads_above p more rest next.heads a)
            ∙ next.reads os done rest a;
        heads = refl;
      }

  goes_whole : (last : Last) (x : Statement) → goes_on last h ≡ Some w → filled w b ≡ whole x → Goes p last (head p h xs ∷ lines) x
  goes_whole last x e f =
      record {
        after = whole x;
        ends = λ d. refl;
        reads = λ os done rest a. goes_row os done last rest e a ∙ ap (λ z. result (at os p done z) rest) f;
        heads = refl;
      }

  begins_then : (more : List Placed) (x : Statement) → starts h ≡ Some w → Goes p (filled w b) more x → Begins p (head p h xs ∷ lines ++ more) x
  begins_then more x e next =
      record {
        after = next.after;
        ends = next.ends;
        reads = λ os done last d rest ed a.
            ap (λ z. result (at os p done last) (head p h xs ∷ z)) (append_assoc lines more rest)
            ∙ begins_row os done last d (more ++ rest) e ed (heads_above p more rest next.heads a)
            ∙ next.reads os d rest a;
      }

  begins_whole : (x : Statement) → starts h ≡ Some w → filled w b ≡ whole x → Begins p (head p h xs ∷ lines) x
  begins_whole x e f =
      record {
        after = whole x;
        ends = λ d. refl;
        reads = λ os done last d rest ed a. begins_row os done last d rest e ed a ∙ ap (λ z. result (at os p d z) rest) f;
      }

nothing_goes : (p : Place) (last : Last) (x : Statement) → ((d : List Statement) → settled d last ≡ Some (d ++ x ∷ [])) → Goes p last [] x
nothing_goes p last x e = record { after = last; ends = e; reads = λ os done rest a. refl; heads = tt }

-- ---- the first line

record First (p : Place) (lines : List Placed) : Type 0 where
  pub line : Line
  pub rest : List Placed
  pub is : lines ≡ record { deep = p.deep; line = line } ∷ rest

compound_first : {p : Place} {lines : List Placed} {x : Statement} → Compound p lines x → First p lines
compound_first (g.an_if {test} {xs} {lines} {more} s e) = record { line = l.header (l.if test) xs; rest = lines ++ more; is = refl }
compound_first (g.a_while {test} {xs} {lines} {more} s e) = record { line = l.header (l.while test) xs; rest = lines ++ more; is = refl }
compound_first (g.a_for {target} {a} {xs} {lines} {more} s e) = record { line = l.header (l.for target a) xs; rest = lines ++ more; is = refl }
compound_first (g.a_try {xs} {lines} {more} s e) = record { line = l.header l.try xs; rest = lines ++ more; is = refl }
compound_first (g.a_def {x} {names} {defaults} {xs} {lines} s) = record { line = l.header (l.define x names defaults) xs; rest = lines; is = refl }
compound_first (g.a_class {x} {base} {xs} {lines} s) = record { line = l.header (l.class x base) xs; rest = lines; is = refl }

stands_first : {p : Place} {lines : List Placed} {x : Statement} {b : Block} → Stands p lines (t.then x b) → First p lines
stands_first (g.simples {x} {xs} {lines} a s) = record { line = l.simples (x ∷ xs); rest = lines; is = refl }
stands_first (g.compound {lines} {more} c s) =
    let k = compound_first c in
    record { line = k.line; rest = k.rest ++ more; is = ap (λ z. z ++ more) k.is }

stands_above : {p : Place} {lines : List Placed} {b : Block} → Stands p lines b → (rest : List Placed) → Above p.deep rest → Above (p.deep + 1) (lines ++ rest)
stands_above {p} g.nothing rest a = above_more p.deep (p.deep + 1) rest (omega arith) a
stands_above (g.simples x s) rest a = omega arith
stands_above {p} (g.compound {lines} {more} c s) rest a =
    let k = compound_first c in
    subst (λ z. Above (p.deep + 1) (z ++ more ++ rest)) (sym k.is) (omega arith)

-- ---- reading each part

beside_read : (P p : Place) (w : Waiting) (x : Statement) (xs : List Statement) → place_of p w ≡ P → list_all (is_allowed P) (x ∷ xs) ≡ true
    → SuiteRead p w (x ∷ xs) [] (t.then x (put xs empty))
beside_read P p w x xs e a =
    record {
      after = filled w (block_of (x ∷ xs));
      is = ap (λ q. if list_all (is_allowed q) (x ∷ xs) then Some (filled w (block_of (x ∷ xs))) else None) e
          ∙ ap (λ z. if z then Some (filled w (block_of (x ∷ xs))) else None) a;
      reads = λ os done rest _. ap (λ z. result (at os p done (filled w z)) rest) (sym (put_empty (x ∷ xs)));
    }

below_read : (P p : Place) (w : Waiting) (lines : List Placed) (b : Block) → place_of p w ≡ P → First P lines → StandsRead P lines b → SuiteRead p w [] lines b
below_read P p w lines b e first stands =
    record {
      after = waits w;
      is = refl;
      reads = λ os done rest a.
          let o : Outer = record { place = p; done = done; waiting = w } in
          let above : Above P.deep rest = subst (λ z. Above z rest) (sym (deeper p w) ∙ ap (λ q. q.deep) e) a in
          ap (λ z. result (at os p done (waits w)) (z ++ rest)) first.is
          ∙ ap (λ z. result (at os p done (waits w)) (record { deep = z; line = first.line } ∷ first.rest ++ rest)) (ap (λ q. q.deep) (sym e))
          ∙ enters os p done w first.line (first.rest ++ rest)
          ∙ ap (λ q. result (at (o ∷ os) q [] nothing) (record { deep = q.deep; line = first.line } ∷ first.rest ++ rest)) e
          ∙ ap (λ z. result (at (o ∷ os) P [] nothing) (z ++ rest)) (sym first.is)
          ∙ stands (o ∷ os) [] nothing [] rest refl above
          ∙ leaves os p done w P (list_of b) rest above
          ∙ ap (λ z. result (at os p done (filled w z)) rest) (block_of_list b);
    }

try_goes : (body : Block) (hs : List Clause) (more : Bool) → goes_on (after_except body hs more) l.else ≡ Some (m.try_else body hs)
try_goes body hs true = refl
try_goes body hs false = refl

mutual
  pub stands_read : {p : Place} {lines : List Placed} {b : Block} → Stands p lines b → StandsRead p lines b
  stands_read {p} g.nothing os done last d rest e a =
      settles os p done last d rest e a ∙ ap (λ z. result (at os p z nothing) rest) (sym (append-nil d))
  stands_read {p} (g.simples {x} {xs} {lines} {b} allowed s) os done last d rest e a =
      step_here os p done last (l.simples (x ∷ xs)) (lines ++ rest) (not_waiting done last d e)
      ∙ row_is os p (lines ++ rest) (on_simples p done last (x ∷ xs)) (d ++ x ∷ xs) nothing
      (ap (λ z. if z then option_map (λ d. (d ++ x ∷ xs, nothing)) (settled done last) else None) (all_allowed p (x ∷ xs) allowed)
      ∙ ap (option_map (λ d. (d ++ x ∷ xs, nothing))) e)
      ∙ stands_read s os (d ++ x ∷ xs) nothing (d ++ x ∷ xs) rest refl a
      ∙ ap (λ z. result (at os p z nothing) rest) (append_assoc d (x ∷ xs) (list_of b) ∙ ap (λ z. d ++ x ∷ z) (sym (list_of_put xs b)))
  stands_read {p} (g.compound {x} {lines} {more} {b} c s) os done last d rest e a =
      let k = compound_read c in
      ap (λ z. result (at os p done last) z) (append_assoc lines more rest)
      ∙ k.reads os done last d (more ++ rest) e (stands_above s rest a)
      ∙ stands_read s os d k.after (d ++ x ∷ []) rest (k.ends d) a
      ∙ ap (λ z. result (at os p z nothing) rest) (append_assoc d (x ∷ []) (list_of b))

  suite_read : {P : Place} {xs : List Statement} {lines : List Placed} {b : Block} → Suite P xs lines b → (p : Place) (w : Waiting) → place_of p w ≡ P
      → SuiteRead p w xs lines b
  suite_read {P} (g.beside {x} {xs} a) p w e = beside_read P p w x xs e (all_allowed P (x ∷ xs) a)
  suite_read {P} (g.below {lines} {x} {b} s) p w e = below_read P p w lines (t.then x b) e (stands_first s) (stands_read s)

  compound_read : {p : Place} {lines : List Placed} {x : Statement} → Compound p lines x → Begins p lines x
  compound_read {p} (g.an_if {test} {xs} {lines} {more} {body} {otherwise} {branches} s e) =
      begins_then p (l.if test) (m.if_body [] test) xs lines body (suite_read s p (m.if_body [] test) refl) more (t.choose (branch test body branches) otherwise) refl
      (elifs_read e ((test, body) ∷ []))
  compound_read {p} (g.a_while {test} {xs} {lines} {more} {body} {otherwise} s e) =
      begins_then p (l.while test) (m.while_body test) xs lines body (suite_read s p (m.while_body test) refl) more (t.while test body otherwise) refl
      (else_read e (after_while test body) (m.while_else test body) (λ b. t.while test body b) refl (λ q. refl) (λ b. refl) (λ d. refl))
  compound_read {p} (g.a_for {target} {a} {xs} {lines} {more} {body} {otherwise} s e) =
      begins_then p (l.for target a) (m.for_body target a) xs lines body (suite_read s p (m.for_body target a) refl) more (t.for target a body otherwise) refl
      (else_read e (after_for target a body) (m.for_else target a body) (λ b. t.for target a body b) refl (λ q. refl) (λ b. refl) (λ d. refl))
  compound_read {p} (g.a_try {xs} {lines} {more} {body} {otherwise} {finally} {handlers} s e) =
      begins_then p l.try m.try_body xs lines body (suite_read s p m.try_body refl) more (t.try body handlers otherwise finally) refl (handled_read e body)
  compound_read {p} (g.a_def {x} {names} {defaults} {xs} {lines} {body} s) =
      begins_whole p (l.define x names defaults) (m.def_body x names defaults) xs lines body (suite_read s p (m.def_body x names defaults) refl)
      (t.define x names defaults body) refl refl
  compound_read {p} (g.a_class {x} {base} {xs} {lines} {body} s) =
      begins_whole p (l.class x base) (m.class_body x base) xs lines body (suite_read s p (m.class_body x base) refl) (t.class x base body) refl refl

  elifs_read : {p : Place} {lines : List Placed} {branches : Branches} {otherwise : Block} → Elifs p lines branches otherwise → (bs : List Branch)
      → Goes p (after_if bs) lines (t.choose (tests_before bs branches) otherwise)
  elifs_read {p} (g.no_elif {lines} {otherwise} e) bs =
      subst (λ z. Goes p (after_if bs) lines (t.choose z otherwise)) (sym (tests_alone bs))
      (else_read e (after_if bs) (m.if_else bs) (λ b. t.choose (branches_of bs) b) refl (λ q. refl) (λ b. refl) (λ d. refl))
  elifs_read {p} (g.an_elif {test} {xs} {lines} {more} {body} {otherwise} {branches} s e) bs =
      goes_then p (l.elif test) (m.if_body bs test) xs lines body (suite_read s p (m.if_body bs test) refl) (after_if bs) more
      (t.choose (tests_before bs (branch test body branches)) otherwise) refl
      (subst (λ z. Goes p (after_if (bs ++ (test, body) ∷ [])) more (t.choose z otherwise)) (one_test_more bs (test, body) branches) (elifs_read e (bs ++ (test, body) ∷ [])))

  else_read : {p : Place} {lines : List Placed} {otherwise : Block} → Else p lines otherwise → (last : Last) (w : Waiting) (x : Block → Statement)
      → goes_on last l.else ≡ Some w → ((q : Place) → place_of q w ≡ inner q) → ((b : Block) → filled w b ≡ whole (x b))
      → ((d : List Statement) → settled d last ≡ Some (d ++ x empty ∷ [])) → Goes p last lines (x otherwise)
  else_read {p} g.no_else last w x e i f h = nothing_goes p last (x empty) h
  else_read {p} (g.an_else {xs} {lines} {body} s) last w x e i f h =
      goes_whole p l.else w xs lines body (suite_read s p w (i p)) last (x body) e (f body)

  handled_read : {p : Place} {lines : List Placed} {handlers : Handlers} {otherwise finally : Block} → Handled p lines handlers otherwise finally → (body : Block)
      → Goes p (after_try body) lines (t.try body handlers otherwise finally)
  handled_read {p} (g.by_finally {xs} {lines} {body = b} s) body =
      goes_whole p l.finally (m.finally_body body [] empty) xs lines b (suite_read s p (m.finally_body body [] empty) refl) (after_try body)
      (t.try body no_handlers empty b) refl refl
  handled_read (g.by_except e) body = excepts_read e (after_try body) body [] (λ class x. refl)

  excepts_read : {p : Place} {lines : List Placed} {handlers : Handlers} {otherwise finally : Block} → Excepts p lines handlers otherwise finally
      → (last : Last) (body : Block) (hs : List Clause)
      → ((class : Option Tree) (x : Option (List ℕ)) → goes_on last (l.except class x) ≡ Some (m.except_body body hs class x))
      → Goes p last lines (t.try body (clauses_before hs handlers) otherwise finally)
  excepts_read {p} (g.a_last {class} {x} {xs} {lines} {more} {body = b} {otherwise} {finally} s e) last body hs goes =
      goes_then p (l.except class x) (m.except_body body hs class x) xs lines b (suite_read s p (m.except_body body hs class x) refl) last more
      (t.try body (clauses_before hs (handler class x b no_handlers)) otherwise finally) (goes class x)
      (subst (λ z. Goes p (after_except body (hs ++ (class, x, b) ∷ []) (is_some class)) more (t.try body z otherwise finally))
      (sym (clauses_alone (hs ++ (class, x, b) ∷ [])) ∙ one_clause_more hs (class, x, b) no_handlers)
      (else_finally_read e body (hs ++ (class, x, b) ∷ []) (is_some class)))
  excepts_read {p} (g.an_earlier {class} {x} {xs} {lines} {more} {body = b} {otherwise} {finally} {handlers} s e) last body hs goes =
      goes_then p (l.except (Some class) x) (m.except_body body hs (Some class) x) xs lines b (suite_read s p (m.except_body body hs (Some class) x) refl) last more
      (t.try body (clauses_before hs (handler (Some class) x b handlers)) otherwise finally) (goes (Some class) x)
      (subst (λ z. Goes p (after_except body (hs ++ (Some class, x, b) ∷ []) true) more (t.try body z otherwise finally)) (one_clause_more hs (Some class, x, b) handlers)
      (excepts_read e (after_except body (hs ++ (Some class, x, b) ∷ []) true) body (hs ++ (Some class, x, b) ∷ []) (λ class x. refl)))

  else_finally_read : {p : Place} {lines : List Placed} {otherwise finally : Block} → ElseFinally p lines otherwise finally → (body : Block) (hs : List Clause) (more : Bool)
      → Goes p (after_except body hs more) lines (t.try body (handlers_of hs) otherwise finally)
  else_finally_read (g.without_else f) body hs true =
      finally_read f (after_except body hs true) (m.finally_body body hs empty) (λ b. t.try body (handlers_of hs) empty b) refl (λ q. refl) (λ b. refl) (λ d. refl)
  else_finally_read (g.without_else f) body hs false =
      finally_read f (after_except body hs false) (m.finally_body body hs empty) (λ b. t.try body (handlers_of hs) empty b) refl (λ q. refl) (λ b. refl) (λ d. refl)
  else_finally_read {p} (g.with_else {xs} {lines} {more} {body = b} {finally} s f) body hs further =
      goes_then p l.else (m.try_else body hs) xs lines b (suite_read s p (m.try_else body hs) refl) (after_except body hs further) more
      (t.try body (handlers_of hs) b finally) (try_goes body hs further)
      (finally_read f (after_else body hs b) (m.finally_body body hs b) (λ c. t.try body (handlers_of hs) b c) refl (λ q. refl) (λ b. refl) (λ d. refl))

  finally_read : {p : Place} {lines : List Placed} {finally : Block} → Finally p lines finally → (last : Last) (w : Waiting) (x : Block → Statement)
      → goes_on last l.finally ≡ Some w → ((q : Place) → place_of q w ≡ inner q) → ((b : Block) → filled w b ≡ whole (x b))
      → ((d : List Statement) → settled d last ≡ Some (d ++ x empty ∷ [])) → Goes p last lines (x finally)
  finally_read {p} g.no_finally last w x e i f h = nothing_goes p last (x empty) h
  finally_read {p} (g.a_finally {xs} {lines} {body} s) last w x e i f h =
      goes_whole p l.finally w xs lines body (suite_read s p w (i p)) last (x body) e (f body)
