-- What lines still to come make of the levels that are open: if a step leads to levels that lines complete to a block, the line
-- and those lines complete the levels before it to the block.
use Rattle.std.proofs.Common.{◌≡◌, ℕ, ◌+◌, ◌==◌, Bool, true, List, [], ◌∷◌, ◌++◌, Option, Some, None, option_map, refl, sym, ap, ◌∙◌, subst, append_assoc, append-nil, ◌⊎◌, inl, inr}
use Rattle.std.specs.List.{list_all}
use Rattle.std.specs.Option.{is_some}
use Rattle.std.proofs.lemmas.Bool.{eqb-true}
use Rattle.py_ast.specs.Tree.{Tree}
use Rattle.py_ast.specs.Statement as s
use Rattle.py_ast.specs.Statement.{Statement, Block, empty, then, Branches, no_branches, branch, Handlers, no_handlers, handler, block_of, branches_of, handlers_of}
use Rattle.py_ast.specs.Lawful.{Place, inner, top}
use Rattle.py_grammar.specs.Line as l
use Rattle.py_grammar.specs.Line.{Line, Header}
use Rattle.py_grammar.specs.Blocks as g
use Rattle.py_grammar.specs.Blocks.{Placed, of, head, is_allowed, put, Stands, Suite, Compound, Elifs, Else, Handled, Excepts, ElseFinally, Finally}
use Rattle.py_grammar.specs.Reading.{◌>>=◌}
use Rattle.py_grammar.proofs.Steps.{some_is, bind_ok, on_ok, if_ok}
use Rattle.py_block.specs.Machine as m
use Rattle.py_block.specs.Machine.{Branch, Clause, Waiting, Last, nothing, whole, after_if, after_while, after_for, after_try, after_except, after_else, waits, place_of, filled, settled, goes_on, starts, beside, Row, new_statement, on_header, on_simples, on_line, Outer, State, start, with_row, down, enter, waiting_of, step, run, ended, accepted}
use Rattle.py_block.proofs.Basics.{option_map_ok, are_allowed, put_append, put_empty, tests_before, tests_alone, one_test_more, clauses_before, clauses_alone, one_clause_more}

-- lines that the last statement of a level still gets, and what it is with them
pub data Follows (p : Place) : Last → List Placed → List Statement → Type 0 where
  of_nothing : Follows p nothing [] []
  of_whole : {x : Statement} → Follows p (whole x) [] (x ∷ [])
  of_if : {bs : List Branch} {lines : List Placed} {branches : Branches} {otherwise : Block} → Elifs p lines branches otherwise
      → Follows p (after_if bs) lines (s.choose (tests_before bs branches) otherwise ∷ [])
  of_while : {test : Tree} {body otherwise : Block} {lines : List Placed} → Else p lines otherwise
      → Follows p (after_while test body) lines (s.while test body otherwise ∷ [])
  of_for : {target a : Tree} {body otherwise : Block} {lines : List Placed} → Else p lines otherwise
      → Follows p (after_for target a body) lines (s.for target a body otherwise ∷ [])
  of_try : {body otherwise finally : Block} {handlers : Handlers} {lines : List Placed} → Handled p lines handlers otherwise finally
      → Follows p (after_try body) lines (s.try body handlers otherwise finally ∷ [])
  of_excepts : {body otherwise finally : Block} {hs : List Clause} {handlers : Handlers} {lines : List Placed} → Excepts p lines handlers otherwise finally
      → Follows p (after_except body hs true) lines (s.try body (clauses_before hs handlers) otherwise finally ∷ [])
  of_except : {body otherwise finally : Block} {hs : List Clause} {more : Bool} {lines : List Placed} → ElseFinally p lines otherwise finally
      → Follows p (after_except body hs more) lines (s.try body (handlers_of hs) otherwise finally ∷ [])
  of_else : {body otherwise finally : Block} {hs : List Clause} {lines : List Placed} → Finally p lines finally
      → Follows p (after_else body hs otherwise) lines (s.try body (handlers_of hs) otherwise finally ∷ [])
  of_waits : {w : Waiting} {lines more : List Placed} {b : Block} {xs : List Statement} → Suite (place_of p w) [] lines b → Follows p (filled w b) more xs
      → Follows p (waits w) (lines ++ more) xs

-- lines of a level, from its last statement on, and the whole of its block
pub record Level (p : Place) (done : List Statement) (last : Last) (lines : List Placed) (b : Block) : Type 0 where
  pub those : List Placed
  pub these : List Placed
  pub latest : List Statement
  pub rest : Block
  pub splits : lines ≡ those ++ these
  pub follows : Follows p last those latest
  pub stands : Stands p these rest
  pub is : b ≡ put done (put latest rest)

abbrev pub Stack : List Outer → Place → List Statement → Last → List Placed → Block → Type 0
Stack [] p done last lines b = Level p done last lines b
Stack (o ∷ os) p done last lines b =
    (those these : List Placed) × (within : Block) × (lines ≡ those ++ these) × Level p done last those within
    × Stack os o.place o.done (filled o.waiting within) these b

abbrev pub Means : State → List Placed → Block → Type 0
Means s lines b = Stack s.outers s.place s.done s.last lines b

-- ---- a level that gets no more

pub settled_follows : (p : Place) (done : List Statement) (last : Last) (d : List Statement) → settled done last ≡ Some d
    → (xs : List Statement) × Follows p last [] xs × (d ≡ done ++ xs)
settled_follows p done nothing d e = ([], of_nothing, sym (some_is e) ∙ sym (append-nil done))
settled_follows p done (whole x) d e = (x ∷ [], of_whole, sym (some_is e))
settled_follows p done (after_if bs) d e =
    (s.choose (tests_before bs no_branches) empty ∷ [], of_if (g.no_elif g.no_else), sym (some_is e) ∙ ap (λ z. done ++ s.choose z empty ∷ []) (sym (tests_alone bs)))
settled_follows p done (after_while test body) d e = (s.while test body empty ∷ [], of_while g.no_else, sym (some_is e))
settled_follows p done (after_for target a body) d e = (s.for target a body empty ∷ [], of_for g.no_else, sym (some_is e))
settled_follows p done (after_try body) d e = cc
settled_follows p done (after_except body hs more) d e = (s.try body (handlers_of hs) empty empty ∷ [], of_except (g.without_else g.no_finally), sym (some_is e))
settled_follows p done (after_else body hs otherwise) d e = (s.try body (handlers_of hs) otherwise empty ∷ [], of_else g.no_finally, sym (some_is e))
settled_follows p done (waits w) d e = cc

-- ---- a block and what follows it

-- the `except` clauses on these lines with those before them, and what follows them
record Clauses (p : Place) (body : Block) (hs : List Clause) (those : List Placed) (ys : List Statement) : Type 0 where
  pub handlers : Handlers
  pub otherwise : Block
  pub finally : Block
  pub excepts : Excepts p those handlers otherwise finally
  pub is : ys ≡ s.try body (clauses_before hs handlers) otherwise finally ∷ []

-- where nothing follows the block
ends : {p : Place} {xs : List Statement} {lines : List Placed} (last : Last) (h : Header) (x : Statement) {more : List Placed} {ys : List Statement}
    → Follows p last (head p h xs ∷ lines) (x ∷ []) → Follows p (whole x) more ys → Follows p last (head p h xs ∷ lines ++ more) ys
ends {p} {xs} {lines} last h x f of_whole = subst (λ z. Follows p last (head p h xs ∷ z) (x ∷ [])) (sym (append-nil lines)) f

module _ {p : Place} {xs : List Statement} {lines : List Placed} {b : Block} where
  if_elif : (bs : List Branch) (test : Tree) {more : List Placed} {ys : List Statement} → Suite (inner p) xs lines b
      → Follows p (after_if (bs ++ (test, b) ∷ [])) more ys → Follows p (after_if bs) (head p (l.elif test) xs ∷ lines ++ more) ys
  if_elif bs test {more} suite (of_if {branches} {otherwise} e) =
      subst (λ z. Follows p (after_if bs) (head p (l.elif test) xs ∷ lines ++ more) (s.choose z otherwise ∷ [])) (sym (one_test_more bs (test, b) branches))
      (of_if (g.an_elif suite e))

  last_except : (body : Block) (hs : List Clause) (class : Option Tree) (x : Option (List ℕ)) {more : List Placed} (otherwise finally : Block)
      → Suite (inner p) xs lines b → ElseFinally p more otherwise finally
      → Clauses p body hs (head p (l.except class x) xs ∷ lines ++ more) (s.try body (handlers_of (hs ++ (class, x, b) ∷ [])) otherwise finally ∷ [])
  last_except body hs class x otherwise finally suite e =
      record {
        handlers = handler class x b no_handlers;
        otherwise = otherwise;
        finally = finally;
        excepts = g.a_last suite e;
        is = ap (λ z. s.try body z otherwise finally ∷ []) (sym (clauses_alone (hs ++ (class, x, b) ∷ [])) ∙ one_clause_more hs (class, x, b) no_handlers);
      }

  an_except : (body : Block) (hs : List Clause) (class : Option Tree) (x : Option (List ℕ)) {more : List Placed} {ys : List Statement}
      → Suite (inner p) xs lines b → Follows p (after_except body (hs ++ (class, x, b) ∷ []) (is_some class)) more ys
      → Clauses p body hs (head p (l.except class x) xs ∷ lines ++ more) ys
  an_except body hs (Some class) x suite (of_excepts {otherwise} {finally} {handlers} e) =
      record {
        handlers = handler (Some class) x b handlers;
        otherwise = otherwise;
        finally = finally;
        excepts = g.an_earlier suite e;
        is = ap (λ z. s.try body z otherwise finally ∷ []) (one_clause_more hs (Some class, x, b) handlers);
      }
  an_except body hs (Some class) x suite (of_except {otherwise} {finally} e) = last_except body hs (Some class) x otherwise finally suite e
  an_except body hs None x suite (of_except {otherwise} {finally} e) = last_except body hs None x otherwise finally suite e

  try_except : (body : Block) (class : Option Tree) (x : Option (List ℕ)) {more : List Placed} {ys : List Statement}
      → Suite (inner p) xs lines b → Follows p (after_except body ((class, x, b) ∷ []) (is_some class)) more ys
      → Follows p (after_try body) (head p (l.except class x) xs ∷ lines ++ more) ys
  try_except body class x {more} suite f =
      let c = an_except body [] class x suite f in
      subst (Follows p (after_try body) (head p (l.except class x) xs ∷ lines ++ more)) (sym c.is) (of_try (g.by_except c.excepts))

  except_except : (body : Block) (hs : List Clause) (class : Option Tree) (x : Option (List ℕ)) {more : List Placed} {ys : List Statement}
      → Suite (inner p) xs lines b → Follows p (after_except body (hs ++ (class, x, b) ∷ []) (is_some class)) more ys
      → Follows p (after_except body hs true) (head p (l.except class x) xs ∷ lines ++ more) ys
  except_except body hs class x {more} suite f =
      let c = an_except body hs class x suite f in
      subst (Follows p (after_except body hs true) (head p (l.except class x) xs ∷ lines ++ more)) (sym c.is) (of_excepts c.excepts)

  except_else : (body : Block) (hs : List Clause) (more_clauses : Bool) {more : List Placed} {ys : List Statement} → Suite (inner p) xs lines b
      → Follows p (after_else body hs b) more ys → Follows p (after_except body hs more_clauses) (head p l.else xs ∷ lines ++ more) ys
  except_else body hs more_clauses suite (of_else f) = of_except (g.with_else suite f)

  if_else : (bs : List Branch) {more : List Placed} {ys : List Statement} → Suite (inner p) xs lines b
      → Follows p (whole (s.choose (branches_of bs) b)) more ys → Follows p (after_if bs) (head p l.else xs ∷ lines ++ more) ys
  if_else bs suite f =
      ends (after_if bs) l.else (s.choose (branches_of bs) b)
      (subst (λ z. Follows p (after_if bs) (head p l.else xs ∷ lines) (s.choose z b ∷ [])) (tests_alone bs) (of_if (g.no_elif (g.an_else suite))))
      f

-- a block after a header, and what follows the block
pub record Parts : Type 0 where
  pub xs : List Statement
  pub lines : List Placed
  pub more : List Placed
  pub b : Block
  pub ys : List Statement

abbrev Goes : Place → Parts → Last → Header → Waiting → Type 0
Goes p r last h w = Suite (place_of p w) r.xs r.lines r.b → Follows p (filled w r.b) r.more r.ys → Follows p last (head p h r.xs ∷ r.lines ++ r.more) r.ys

-- A header that goes on with the last statement, its block, and what follows the block.
went_on : (p : Place) (r : Parts) (last : Last) (h : Header) (w : Waiting) → goes_on last h ≡ Some w → Goes p r last h w
went_on p r (after_if bs) (l.elif test) w e = subst (Goes p r (after_if bs) (l.elif test)) (some_is e) (λ suite f. if_elif bs test suite f)
went_on p r (after_if bs) l.else w e = subst (Goes p r (after_if bs) l.else) (some_is e) (λ suite f. if_else bs suite f)
went_on p r (after_while test body) l.else w e =
    subst (Goes p r (after_while test body) l.else) (some_is e) (λ suite f. ends (after_while test body) l.else (s.while test body r.b) (of_while (g.an_else suite)) f)
went_on p r (after_for target a body) l.else w e =
    subst (Goes p r (after_for target a body) l.else) (some_is e)
    (λ suite f. ends (after_for target a body) l.else (s.for target a body r.b) (of_for (g.an_else suite)) f)
went_on p r (after_try body) (l.except class x) w e =
    subst (Goes p r (after_try body) (l.except class x)) (some_is e) (λ suite f. try_except body class x suite f)
went_on p r (after_try body) l.finally w e =
    subst (Goes p r (after_try body) l.finally) (some_is e)
    (λ suite f. ends (after_try body) l.finally (s.try body no_handlers empty r.b) (of_try (g.by_finally suite)) f)
went_on p r (after_except body hs true) (l.except class x) w e =
    subst (Goes p r (after_except body hs true) (l.except class x)) (some_is e) (λ suite f. except_except body hs class x suite f)
went_on p r (after_except body hs more) l.else w e =
    subst (Goes p r (after_except body hs more) l.else) (some_is e) (λ suite f. except_else body hs more suite f)
went_on p r (after_except body hs more) l.finally w e =
    subst (Goes p r (after_except body hs more) l.finally) (some_is e)
    (λ suite f. ends (after_except body hs more) l.finally (s.try body (handlers_of hs) empty r.b) (of_except (g.without_else (g.a_finally suite))) f)
went_on p r (after_else body hs otherwise) l.finally w e =
    subst (Goes p r (after_else body hs otherwise) l.finally) (some_is e)
    (λ suite f. ends (after_else body hs otherwise) l.finally (s.try body (handlers_of hs) otherwise r.b) (of_else (g.a_finally suite)) f)
went_on p r _ _ w e = cc

-- what a header begins: a statement, of the lines up to where what follows it ends
abbrev Begun : Place → Header → List Statement → List Placed → List Statement → Type 0
Begun p h xs lines ys = (x : Statement) × (ys ≡ x ∷ []) × Compound p (head p h xs ∷ lines) x

if_begun : {p : Place} {xs : List Statement} {lines more : List Placed} {b : Block} {ys : List Statement} (test : Tree) → Suite (inner p) xs lines b
    → Follows p (after_if ((test, b) ∷ [])) more ys → Begun p (l.if test) xs (lines ++ more) ys
if_begun {b} test suite (of_if {branches} {otherwise} f) = (s.choose (branch test b branches) otherwise, refl, g.an_if suite f)

while_begun : {p : Place} {xs : List Statement} {lines more : List Placed} {b : Block} {ys : List Statement} (test : Tree) → Suite (place_of p (m.while_body test)) xs lines b
    → Follows p (after_while test b) more ys → Begun p (l.while test) xs (lines ++ more) ys
while_begun {b} test suite (of_while {otherwise} f) = (s.while test b otherwise, refl, g.a_while suite f)

for_begun : {p : Place} {xs : List Statement} {lines more : List Placed} {b : Block} {ys : List Statement} (target a : Tree)
    → Suite (place_of p (m.for_body target a)) xs lines b → Follows p (after_for target a b) more ys → Begun p (l.for target a) xs (lines ++ more) ys
for_begun {b} target a suite (of_for {otherwise} f) = (s.for target a b otherwise, refl, g.a_for suite f)

try_begun : {p : Place} {xs : List Statement} {lines more : List Placed} {b : Block} {ys : List Statement} → Suite (inner p) xs lines b
    → Follows p (after_try b) more ys → Begun p l.try xs (lines ++ more) ys
try_begun {b} suite (of_try {otherwise} {finally} {handlers} f) = (s.try b handlers otherwise finally, refl, g.a_try suite f)

whole_begun : {p : Place} {h : Header} {xs : List Statement} {lines more : List Placed} {ys : List Statement} (x : Statement) → Compound p (head p h xs ∷ lines) x
    → Follows p (whole x) more ys → Begun p h xs (lines ++ more) ys
whole_begun {p} {h} {xs} {lines} x c of_whole = (x, refl, subst (λ z. Compound p (head p h xs ∷ z) x) (sym (append-nil lines)) c)

abbrev Starts : Place → Parts → Header → Waiting → Type 0
Starts p r h w = Suite (place_of p w) r.xs r.lines r.b → Follows p (filled w r.b) r.more r.ys → Begun p h r.xs (r.lines ++ r.more) r.ys

-- A header that begins a statement, its block, and what follows the block.
started : (p : Place) (r : Parts) (h : Header) (w : Waiting) → starts h ≡ Some w → Starts p r h w
started p r (l.if test) w e = subst (Starts p r (l.if test)) (some_is e) (λ suite f. if_begun test suite f)
started p r (l.while test) w e = subst (Starts p r (l.while test)) (some_is e) (λ suite f. while_begun test suite f)
started p r (l.for target a) w e = subst (Starts p r (l.for target a)) (some_is e) (λ suite f. for_begun target a suite f)
started p r l.try w e = subst (Starts p r l.try) (some_is e) (λ suite f. try_begun suite f)
started p r (l.define x names defaults) w e =
    subst (Starts p r (l.define x names defaults)) (some_is e) (λ suite f. whole_begun (s.define x names defaults r.b) (g.a_def suite) f)
started p r (l.class x base) w e = subst (Starts p r (l.class x base)) (some_is e) (λ suite f. whole_begun (s.class x base r.b) (g.a_class suite) f)
started p r _ w e = cc

-- ---- a line at a level

-- the statements after a colon, or the lines below it, and what follows them
pub record Split (p : Place) (w : Waiting) (xs : List Statement) (lines : List Placed) (ys : List Statement) : Type 0 where
  pub those : List Placed
  pub these : List Placed
  pub b : Block
  pub splits : lines ≡ those ++ these
  pub suite : Suite (place_of p w) xs those b
  pub follows : Follows p (filled w b) these ys

waited : {p : Place} {w : Waiting} {lines : List Placed} {ys : List Statement} → Follows p (waits w) lines ys → Split p w [] lines ys
waited (of_waits {lines} {more} {b} suite f) = record { those = lines; these = more; b = b; splits = refl; suite = suite; follows = f }

beside_split : (p : Place) (w : Waiting) (xs : List Statement) (n : Last) (lines : List Placed) (ys : List Statement) → beside p w xs ≡ Some n
    → Follows p n lines ys → Split p w xs lines ys
beside_split p w [] n lines ys e f = waited (subst (λ z. Follows p z lines ys) (sym (some_is e)) f)
beside_split p w (x ∷ xs) n lines ys e f =
    elim (if_ok (list_all (is_allowed (place_of p w)) (x ∷ xs)) (Some (filled w (block_of (x ∷ xs)))) None n e) [
      | inl t ↦ record {
        those = [];
        these = lines;
        b = block_of (x ∷ xs);
        splits = refl;
        suite = subst (Suite (place_of p w) (x ∷ xs) []) (put_empty (x ∷ xs)) (g.beside (are_allowed (place_of p w) (x ∷ xs) t.0));
        follows = subst (λ z. Follows p z lines ys) (sym (some_is t.1)) f;
      }
      | inr t ↦ cc
    ]

nothing_more : {p : Place} {lines : List Placed} {xs : List Statement} → Follows p nothing lines xs → (lines ≡ []) × (xs ≡ [])
nothing_more of_nothing = (refl, refl)

quiet : {p : Place} {d : List Statement} {lines : List Placed} {b : Block} → Level p d nothing lines b → (rest : Block) × Stands p lines rest × (b ≡ put d rest)
quiet {p} {d} v =
    let k = nothing_more v.follows in
    (v.rest, subst (λ z. Stands p z v.rest) (sym (v.splits ∙ ap (λ z. z ++ v.these) k.0)) v.stands, v.is ∙ ap (λ z. put d (put z v.rest)) k.1)

-- A level with one line more: what the row says that is made of it, with the lines after it.
module _ (p : Place) (done : List Statement) (last : Last) (lines : List Placed) (b : Block) where
  simples_then : (x : Statement) (xs d : List Statement) → list_all (is_allowed p) (x ∷ xs) ≡ true → settled done last ≡ Some d
      → Level p (d ++ x ∷ xs) nothing lines b → Level p done last (of p (x ∷ xs) ∷ lines) b
  simples_then x xs d a e v =
      let q = quiet v in
      let f = settled_follows p done last d e in
      record {
        those = [];
        these = of p (x ∷ xs) ∷ lines;
        latest = f.0;
        rest = then x (put xs q.0);
        splits = refl;
        follows = f.1;
        stands = g.simples (are_allowed p (x ∷ xs) a) q.1;
        is = q.2 ∙ put_append d (x ∷ xs) q.0 ∙ ap (λ z. put z (then x (put xs q.0))) f.2 ∙ put_append done f.0 (then x (put xs q.0));
      }

  simples_level : (xs : List Statement) (r : Row) → on_simples p done last xs ≡ Some r → Level p r.0 r.1 lines b → Level p done last (of p xs ∷ lines) b
  simples_level [] r e v = cc
  simples_level (x ∷ xs) r e v =
      elim (if_ok (list_all (is_allowed p) (x ∷ xs)) (option_map (λ d. (d ++ x ∷ xs, nothing)) (settled done last)) None r e) [
        | inl t ↦
            let k = option_map_ok (λ d. (d ++ x ∷ xs, nothing)) (settled done last) r t.1 in
            simples_then x xs k.0 t.0 k.1 (subst (λ z. Level p z.0 z.1 lines b) (sym k.2) v)
        | inr t ↦ cc
      ]

  goes_level : (h : Header) (xs : List Statement) (w : Waiting) (n : Last) → goes_on last h ≡ Some w → beside p w xs ≡ Some n → Level p done n lines b
      → Level p done last (head p h xs ∷ lines) b
  goes_level h xs w n ew en v =
      let sp = beside_split p w xs n v.those v.latest en v.follows in
      let r : Parts = record { xs = xs; lines = sp.those; more = sp.these; b = sp.b; ys = v.latest } in
      record {
        those = head p h xs ∷ v.those;
        these = v.these;
        latest = v.latest;
        rest = v.rest;
        splits = ap (◌∷◌ (head p h xs)) v.splits;
        follows = subst (λ z. Follows p last (head p h xs ∷ z) v.latest) (sym sp.splits) (went_on p r last h w ew sp.suite sp.follows);
        stands = v.stands;
        is = v.is;
      }

  starts_level : (h : Header) (xs : List Statement) (w : Waiting) (d : List Statement) (n : Last) → starts h ≡ Some w → settled done last ≡ Some d
      → beside p w xs ≡ Some n → Level p d n lines b → Level p done last (head p h xs ∷ lines) b
  starts_level h xs w d n ew ed en v =
      let sp = beside_split p w xs n v.those v.latest en v.follows in
      let r : Parts = record { xs = xs; lines = sp.those; more = sp.these; b = sp.b; ys = v.latest } in
      let c = started p r h w ew sp.suite sp.follows in
      let f = settled_follows p done last d ed in
      record {
        those = [];
        these = head p h xs ∷ lines;
        latest = f.0;
        rest = then c.0 v.rest;
        splits = refl;
        follows = f.1;
        stands = subst (λ z. Stands p (head p h xs ∷ z) (then c.0 v.rest)) (sym (v.splits ∙ ap (λ z. z ++ v.these) sp.splits)) (g.compound c.2 v.stands);
        is = v.is ∙ ap (λ z. put d (put z v.rest)) c.1 ∙ ap (λ z. put z (then c.0 v.rest)) f.2 ∙ put_append done f.0 (then c.0 v.rest);
      }

  header_level : (h : Header) (xs : List Statement) (r : Row) → on_header p done last h xs ≡ Some r → Level p r.0 r.1 lines b
      → Level p done last (head p h xs ∷ lines) b
  header_level h xs r e v =
      elim (on_ok (goes_on last h) (new_statement p done last h xs) (λ w. option_map (λ n. (done, n)) (beside p w xs)) (Some r) e) [
        | inr t ↦
            let k = option_map_ok (λ n. (done, n)) (beside p t.0 xs) r t.2 in
            goes_level h xs t.0 k.0 t.1 k.1 (subst (λ z. Level p z.0 z.1 lines b) (sym k.2) v)
        | inl t ↦
            let i = bind_ok (starts h) (λ w. settled done last >>= λ d. option_map (λ n. (d, n)) (beside p w xs)) r t.1 in
            let j = bind_ok (settled done last) (λ d. option_map (λ n. (d, n)) (beside p i.0 xs)) r i.2 in
            let k = option_map_ok (λ n. (j.0, n)) (beside p i.0 xs) r j.2 in
            starts_level h xs i.0 j.0 k.0 i.1 j.1 k.1 (subst (λ z. Level p z.0 z.1 lines b) (sym k.2) v)
      ]

  line_level : (line : Line) (r : Row) → on_line p done last line ≡ Some r → Level p r.0 r.1 lines b
      → Level p done last (record { deep = p.deep; line = line } ∷ lines) b
  line_level (l.simples xs) r e v = simples_level xs r e v
  line_level (l.header h xs) r e v = header_level h xs r e v

  placed_level : (x : Placed) (r : Row) → x.deep ≡ p.deep → on_line p done last x.line ≡ Some r → Level p r.0 r.1 lines b → Level p done last (x ∷ lines) b
  placed_level x r d e v = subst (λ z. Level p done last (record { deep = z; line = x.line } ∷ lines) b) (sym d) (line_level x.line r e v)

-- ---- the stack

stack_line : (os : List Outer) (p : Place) (done : List Statement) (last : Last) (x : Placed) (r : Row) (lines : List Placed) (b : Block) → x.deep ≡ p.deep
    → on_line p done last x.line ≡ Some r → Stack os p r.0 r.1 lines b → Stack os p done last (x ∷ lines) b
stack_line [] p done last x r lines b d e v = placed_level p done last lines b x r d e v
stack_line (o ∷ os) p done last x r lines b d e v =
    (x ∷ v.0, v.1, v.2, ap (◌∷◌ x) v.3, placed_level p done last v.0 v.2 x r d e v.4, v.5)

-- a level without a further line
closed : (p : Place) (done : List Statement) (last : Last) (d : List Statement) → settled done last ≡ Some d → Level p done last [] (block_of d)
closed p done last d e =
    let f = settled_follows p done last d e in
    record {
      those = [];
      these = [];
      latest = f.0;
      rest = empty;
      splits = refl;
      follows = f.1;
      stands = g.nothing;
      is = sym (put_empty d) ∙ ap (λ z. put z empty) f.2 ∙ put_append done f.0 empty;
    }

down_means : (os : List Outer) (p : Place) (done : List Statement) (last : Last) (x : Placed) (s : State) (lines : List Placed) (b : Block)
    → down os p done last x ≡ Some s → Means s lines b → Stack os p done last (x ∷ lines) b
down_means [] p done last x s lines b e v =
    elim (if_ok (x.deep == p.deep) (option_map (with_row [] p) (on_line p done last x.line)) None s e) [
      | inl t ↦
          let k = option_map_ok (with_row [] p) (on_line p done last x.line) s t.1 in
          stack_line [] p done last x k.0 lines b (eqb-true x.deep p.deep t.0) k.1 (subst (λ z. Stack z.outers z.place z.done z.last lines b) (sym k.2) v)
      | inr t ↦ cc
    ]
down_means (o ∷ os) p done last x s lines b e v =
    elim (if_ok (x.deep == p.deep) (option_map (with_row (o ∷ os) p) (on_line p done last x.line)) (settled done last >>= λ d. down os o.place o.done (filled o.waiting (block_of d)) x) s e) [
      | inl t ↦
          let k = option_map_ok (with_row (o ∷ os) p) (on_line p done last x.line) s t.1 in
          stack_line (o ∷ os) p done last x k.0 lines b (eqb-true x.deep p.deep t.0) k.1 (subst (λ z. Stack z.outers z.place z.done z.last lines b) (sym k.2) v)
      | inr t ↦
          let k = bind_ok (settled done last) (λ d. down os o.place o.done (filled o.waiting (block_of d)) x) s t.1 in
          ([], x ∷ lines, block_of k.0, refl, closed p done last k.0 k.1, down_means os o.place o.done (filled o.waiting (block_of k.0)) x s lines b k.2 v)
    ]

some_block : {p : Place} {x : Placed} {lines all : List Placed} {b : Block} → Stands p all b → all ≡ x ∷ lines → (y : Statement) × (more : Block) × (b ≡ then y more)
some_block g.nothing e = cc
some_block (g.simples {x} {xs} {b} a s) e = (x, put xs b, refl)
some_block (g.compound {x} {b} c s) e = (x, b, refl)

-- the block that is waited for, and then the lines after it
waits_level : (p : Place) (done : List Statement) (w : Waiting) (those lines : List Placed) (within b : Block) → Suite (place_of p w) [] those within
    → Level p done (filled w within) lines b → Level p done (waits w) (those ++ lines) b
waits_level p done w those lines within b suite v =
    record {
      those = those ++ v.those;
      these = v.these;
      latest = v.latest;
      rest = v.rest;
      splits = ap (λ z. those ++ z) v.splits ∙ sym (append_assoc those v.those v.these);
      follows = of_waits suite v.follows;
      stands = v.stands;
      is = v.is;
    }

waits_stack : (os : List Outer) (p : Place) (done : List Statement) (w : Waiting) (those lines : List Placed) (within b : Block) → Suite (place_of p w) [] those within
    → Stack os p done (filled w within) lines b → Stack os p done (waits w) (those ++ lines) b
waits_stack [] p done w those lines within b suite v = waits_level p done w those lines within b suite v
waits_stack (o ∷ os) p done w those lines within b suite v =
    (those ++ v.0, v.1, v.2, ap (λ z. those ++ z) v.3 ∙ sym (append_assoc those v.0 v.1), waits_level p done w those v.0 within v.2 suite v.4, v.5)

-- the lines of a level that has begun with a line
below : (p : Place) (x : Placed) (r : Row) (lines : List Placed) (b : Block) → x.deep ≡ p.deep → on_line p [] nothing x.line ≡ Some r → Level p r.0 r.1 lines b
    → Suite p [] (x ∷ lines) b
below p x r lines b d e v =
    let q = quiet (placed_level p [] nothing lines b x r d e v) in
    let k = some_block q.1 refl in
    subst (Suite p [] (x ∷ lines)) (sym (q.2 ∙ k.2)) (g.below (subst (Stands p (x ∷ lines)) k.2 q.1))

enter_means : (s : State) (w : Waiting) (x : Placed) (n : State) (lines : List Placed) (b : Block) → enter s w x ≡ Some n → Means n lines b
    → Stack s.outers s.place s.done (waits w) (x ∷ lines) b
enter_means s w x n lines b e v =
    elim (if_ok (x.deep == (place_of s.place w).deep) (option_map (with_row (record { place = s.place; done = s.done; waiting = w } ∷ s.outers) (place_of s.place w)) (on_line (place_of s.place w) [] nothing x.line)) None n e) [
      | inl t ↦
          let k = option_map_ok (with_row (record { place = s.place; done = s.done; waiting = w } ∷ s.outers) (place_of s.place w)) (on_line (place_of s.place w) [] nothing x.line) n t.1 in
          let u = subst (λ z. Stack z.outers z.place z.done z.last lines b) (sym k.2) v in
          subst (λ z. Stack s.outers s.place s.done (waits w) (x ∷ z) b) (sym u.3)
          (waits_stack s.outers s.place s.done w (x ∷ u.0) u.1 u.2 b (below (place_of s.place w) x k.0 u.0 u.2 (eqb-true x.deep (place_of s.place w).deep t.0) k.1 u.4) u.5)
      | inr t ↦ cc
    ]

waiting_is : (last : Last) (w : Waiting) → waiting_of last ≡ Some w → last ≡ waits w
waiting_is (waits v) w e = ap waits (some_is e)
waiting_is nothing w e = cc
waiting_is (whole x) w e = cc
waiting_is (after_if bs) w e = cc
waiting_is (after_while test body) w e = cc
waiting_is (after_for target a body) w e = cc
waiting_is (after_try body) w e = cc
waiting_is (after_except body hs more) w e = cc
waiting_is (after_else body hs otherwise) w e = cc

-- A line, and the lines that complete the levels after it, complete the levels before it.
pub step_means : (s : State) (x : Placed) (n : State) (lines : List Placed) (b : Block) → step s x ≡ Some n → Means n lines b → Means s (x ∷ lines) b
step_means s x n lines b e v =
    elim (on_ok (waiting_of s.last) (down s.outers s.place s.done s.last x) (λ w. enter s w x) (Some n) e) [
      | inl t ↦ down_means s.outers s.place s.done s.last x n lines b t.1 v
      | inr t ↦ subst (λ z. Stack s.outers s.place s.done z (x ∷ lines) b) (sym (waiting_is s.last t.0 t.1)) (enter_means s t.0 x n lines b t.2 v)
    ]

ended_means : (os : List Outer) (p : Place) (done : List Statement) (last : Last) (b : Block) → ended os done last ≡ Some b → Stack os p done last [] b
ended_means [] p done last b e =
    let k = option_map_ok block_of (settled done last) b e in
    subst (Level p done last []) k.2 (closed p done last k.0 k.1)
ended_means (o ∷ os) p done last b e =
    let k = bind_ok (settled done last) (λ d. ended os o.done (filled o.waiting (block_of d))) b e in
    ([], [], block_of k.0, refl, closed p done last k.0 k.1, ended_means os o.place o.done (filled o.waiting (block_of k.0)) b k.2)

pub run_means : (lines : List Placed) (s n : State) (more : List Placed) (b : Block) → run s lines ≡ Some n → Means n more b → Means s (lines ++ more) b
run_means [] s n more b e v = subst (λ z. Means z more b) (sym (some_is e)) v
run_means (x ∷ lines) s n more b e v =
    let k = bind_ok (step s x) (λ next. run next lines) n e in
    step_means s x k.0 (lines ++ more) b k.1 (run_means lines k.0 n more b k.2 v)

pub started_stands : (lines : List Placed) (b : Block) → Means start lines b → Stands top lines b
started_stands lines b v = let q = quiet v in subst (Stands top lines) (sym q.2) q.1

-- Lines after which the levels end as a block are that block.
pub accepted_stands : (lines : List Placed) (n : State) (b : Block) → run start lines ≡ Some n → accepted n ≡ Some b → Stands top lines b
accepted_stands lines n b e a =
    subst (λ z. Stands top z b) (append-nil lines) (started_stands (lines ++ []) b (run_means lines start n [] b e (ended_means n.outers n.place n.done n.last b a)))
