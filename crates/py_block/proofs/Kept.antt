-- Lines put into blocks keep the number of their nodes.
use Rattle.std.proofs.Common.{◌≡◌, ℕ, ◌+◌, ◌==◌, true, List, [], ◌∷◌, ◌++◌, Option, Some, None, option_map, Result, Ok, Err, refl, sym, ap, ◌∙◌, subst, arith, inl, inr}
use Rattle.std.specs.List.{list_all}
use Rattle.flow_base.specs.declared.kinds.SyntaxKind.TheVariants.{Syntax}
use Rattle.py_ast.specs.Statement as s
use Rattle.py_ast.specs.Statement.{Statement, Block, empty, block_of, branches_of, handlers_of}
use Rattle.py_ast.specs.Lawful.{Place}
use Rattle.py_grammar.specs.Line as l
use Rattle.py_grammar.specs.Line.{Line, Header}
use Rattle.py_grammar.specs.Blocks.{Placed, is_allowed}
use Rattle.py_grammar.specs.Reading.{◌>>=◌, on}
use Rattle.py_grammar.proofs.Steps.{some_is, bind_ok, on_ok, if_ok}
use Rattle.py_line.specs.Numbers.{size, size_of_all, size_of_maybe, size_of_statement, size_of_block, size_of_branches, size_of_handlers, size_of_statements, size_of_header, size_of_line}
use Rattle.py_block.specs.Machine.{Branch, Clause, Waiting, if_body, if_else, while_body, while_else, for_body, for_else, try_body, except_body, try_else, finally_body, def_body, class_body, Last, nothing, whole, after_if, after_while, after_for, after_try, after_except, after_else, waits, place_of, filled, settled, goes_on, starts, beside, Row, new_statement, on_header, on_simples, on_line, Outer, State, start, with_row, down, enter, waiting_of, step, ended, accepted}
use Rattle.py_block.specs.NodeLines.{nodes_in}
use Rattle.py_block.specs.Parsed.{Form, a_line, unsupported, over, no_line, Told, next_in, next_of, blocks, Fault}
use Rattle.py_block.specs.Parsed as parsed
use Rattle.py_block.proofs.Basics.{option_map_ok}

-- ---- how many nodes the parts of a level have

abbrev size_of_tests : List Branch → ℕ
size_of_tests bs = size_of_branches (branches_of bs)

abbrev size_of_clauses : List Clause → ℕ
size_of_clauses hs = size_of_handlers (handlers_of hs)

abbrev size_of_waiting : Waiting → ℕ
size_of_waiting (if_body bs test) = 1 + (size_of_tests bs + size test)
size_of_waiting (if_else bs) = 1 + size_of_tests bs
size_of_waiting (while_body test) = 1 + size test
size_of_waiting (while_else test body) = 1 + (size test + size_of_block body)
size_of_waiting (for_body target a) = 1 + (size target + size a)
size_of_waiting (for_else target a body) = 1 + (size target + (size a + size_of_block body))
size_of_waiting try_body = 1
size_of_waiting (except_body body hs class x) = 1 + (size_of_block body + (size_of_clauses hs + (1 + size_of_maybe class)))
size_of_waiting (try_else body hs) = 1 + (size_of_block body + size_of_clauses hs)
size_of_waiting (finally_body body hs otherwise) = 1 + (size_of_block body + (size_of_clauses hs + size_of_block otherwise))
size_of_waiting (def_body x names defaults) = 1 + size_of_all defaults
size_of_waiting (class_body x base) = 1 + size_of_maybe base

abbrev size_of_last : Last → ℕ
size_of_last nothing = 0
size_of_last (whole x) = size_of_statement x
size_of_last (after_if bs) = 1 + size_of_tests bs
size_of_last (after_while test body) = 1 + (size test + size_of_block body)
size_of_last (after_for target a body) = 1 + (size target + (size a + size_of_block body))
size_of_last (after_try body) = 1 + size_of_block body
size_of_last (after_except body hs more) = 1 + (size_of_block body + size_of_clauses hs)
size_of_last (after_else body hs otherwise) = 1 + (size_of_block body + (size_of_clauses hs + size_of_block otherwise))
size_of_last (waits w) = size_of_waiting w

abbrev size_of_row : Row → ℕ
size_of_row r = size_of_statements r.0 + size_of_last r.1

abbrev size_of_outers : List Outer → ℕ
size_of_outers [] = 0
size_of_outers (o ∷ os) = size_of_statements o.done + size_of_waiting o.waiting + size_of_outers os

abbrev size_of_state : State → ℕ
size_of_state n = size_of_outers n.outers + size_of_row (n.done, n.last)

-- ---- lists

one_test : (bs : List Branch) (b : Branch) → size_of_tests (bs ++ b ∷ []) ≡ size_of_tests bs + (size b.0 + size_of_block b.1)
one_test [] b = omega arith
one_test (c ∷ bs) b = omega (arith, one_test bs b)

one_clause : (hs : List Clause) (h : Clause) → size_of_clauses (hs ++ h ∷ []) ≡ size_of_clauses hs + (1 + (size_of_maybe h.0 + size_of_block h.2))
one_clause [] h = omega arith
one_clause (g ∷ hs) h = omega (arith, one_clause hs h)

both : (xs ys : List Statement) → size_of_statements (xs ++ ys) ≡ size_of_statements xs + size_of_statements ys
both [] ys = omega arith
both (x ∷ xs) ys = omega (arith, both xs ys)

one_more : (xs : List Statement) (x : Statement) → size_of_statements (xs ++ x ∷ []) ≡ size_of_statements xs + size_of_statement x
one_more xs x = omega (arith, both xs (x ∷ []))

pub block_size : (xs : List Statement) → size_of_block (block_of xs) ≡ size_of_statements xs
block_size [] = refl
block_size (x ∷ xs) = omega (arith, block_size xs)

-- ---- one level

filled_size : (w : Waiting) (b : Block) → size_of_last (filled w b) ≡ size_of_waiting w + size_of_block b
filled_size (if_body bs test) b = omega (arith, one_test bs (test, b))
filled_size (if_else bs) b = omega arith
filled_size (while_body test) b = omega arith
filled_size (while_else test body) b = omega arith
filled_size (for_body target a) b = omega arith
filled_size (for_else target a body) b = omega arith
filled_size try_body b = omega arith
filled_size (except_body body hs class x) b = omega (arith, one_clause hs (class, x, b))
filled_size (try_else body hs) b = omega arith
filled_size (finally_body body hs otherwise) b = omega arith
filled_size (def_body x names defaults) b = omega arith
filled_size (class_body x base) b = omega arith

settled_size : (done : List Statement) (last : Last) (d : List Statement) → settled done last ≡ Some d
    → size_of_statements d ≡ size_of_statements done + size_of_last last
settled_size done nothing d e = let same : done ≡ d = some_is e in subst (λ z. size_of_statements z ≡ size_of_statements done + 0) same (omega arith)
settled_size done (whole x) d e = ap size_of_statements (sym (some_is e)) ∙ one_more done x
settled_size done (after_if bs) d e = ap size_of_statements (sym (some_is e)) ∙ one_more done (s.choose (branches_of bs) empty) ∙ (omega arith)
settled_size done (after_while test body) d e = ap size_of_statements (sym (some_is e)) ∙ one_more done (s.while test body empty) ∙ (omega arith)
settled_size done (after_for target a body) d e = ap size_of_statements (sym (some_is e)) ∙ one_more done (s.for target a body empty) ∙ (omega arith)
settled_size done (after_try body) d e = cc
settled_size done (after_except body hs more) d e = ap size_of_statements (sym (some_is e)) ∙ one_more done (s.try body (handlers_of hs) empty empty) ∙ (omega arith)
settled_size done (after_else body hs otherwise) d e = ap size_of_statements (sym (some_is e)) ∙ one_more done (s.try body (handlers_of hs) otherwise empty) ∙ (omega arith)
settled_size done (waits w) d e = cc

size_is : (v w : Waiting) (n : ℕ) → size_of_waiting v ≡ n → Some v ≡ Some w → size_of_waiting w ≡ n
size_is v w n h e = subst (λ z. size_of_waiting z ≡ n) (some_is e) h

goes_size : (last : Last) (h : Header) (w : Waiting) → goes_on last h ≡ Some w → size_of_waiting w ≡ size_of_last last + size_of_header h
goes_size (after_if bs) (l.elif test) w e = size_is (if_body bs test) w (1 + size_of_tests bs + size test) (omega arith) e
goes_size (after_if bs) l.else w e = size_is (if_else bs) w (1 + size_of_tests bs + 0) (omega arith) e
goes_size (after_while test body) l.else w e = size_is (while_else test body) w (size_of_last (after_while test body) + 0) (omega arith) e
goes_size (after_for target a body) l.else w e = size_is (for_else target a body) w (size_of_last (after_for target a body) + 0) (omega arith) e
goes_size (after_try body) (l.except class x) w e = size_is (except_body body [] class x) w (size_of_last (after_try body) + (1 + size_of_maybe class)) (omega arith) e
goes_size (after_try body) l.finally w e = size_is (finally_body body [] empty) w (size_of_last (after_try body) + 0) (omega arith) e
goes_size (after_except body hs true) (l.except class x) w e =
    size_is (except_body body hs class x) w (size_of_last (after_except body hs true) + (1 + size_of_maybe class)) (omega arith) e
goes_size (after_except body hs more) l.else w e = size_is (try_else body hs) w (size_of_last (after_except body hs more) + 0) (omega arith) e
goes_size (after_except body hs more) l.finally w e = size_is (finally_body body hs empty) w (size_of_last (after_except body hs more) + 0) (omega arith) e
goes_size (after_else body hs otherwise) l.finally w e = size_is (finally_body body hs otherwise) w (size_of_last (after_else body hs otherwise) + 0) (omega arith) e
goes_size _ _ w e = cc

starts_size : (h : Header) (w : Waiting) → starts h ≡ Some w → size_of_waiting w ≡ size_of_header h
starts_size (l.if test) w e = size_is (if_body [] test) w (1 + size test) (omega arith) e
starts_size (l.while test) w e = size_is (while_body test) w (1 + size test) refl e
starts_size (l.for target a) w e = size_is (for_body target a) w (1 + (size target + size a)) refl e
starts_size l.try w e = size_is try_body w 1 refl e
starts_size (l.define x names defaults) w e = size_is (def_body x names defaults) w (1 + size_of_all defaults) refl e
starts_size (l.class x base) w e = size_is (class_body x base) w (1 + size_of_maybe base) refl e
starts_size _ w e = cc

beside_size : (p : Place) (w : Waiting) (xs : List Statement) (n : Last) → beside p w xs ≡ Some n → size_of_last n ≡ size_of_waiting w + size_of_statements xs
beside_size p w [] n e = subst (λ z. size_of_last z ≡ size_of_waiting w + 0) (some_is e) (omega arith)
beside_size p w (x ∷ xs) n e =
    elim (if_ok (list_all (is_allowed (place_of p w)) (x ∷ xs)) (Some (filled w (block_of (x ∷ xs)))) None n e) [
      | inl t ↦
          ap size_of_last (sym (some_is t.1)) ∙ filled_size w (block_of (x ∷ xs)) ∙ ap (λ k. size_of_waiting w + k) (block_size (x ∷ xs))
      | inr t ↦ cc
    ]

module _ (p : Place) (done : List Statement) (last : Last) where
  simples_size : (xs : List Statement) (r : Row) → on_simples p done last xs ≡ Some r
      → size_of_row r ≡ size_of_statements done + size_of_last last + size_of_statements xs
  simples_size [] r e = cc
  simples_size (x ∷ xs) r e =
      elim (if_ok (list_all (is_allowed p) (x ∷ xs)) (option_map (λ d. (d ++ x ∷ xs, nothing)) (settled done last)) None r e) [
        | inl t ↦
            let k = option_map_ok (λ d. (d ++ x ∷ xs, nothing)) (settled done last) r t.1 in
            let n = settled_size done last k.0 k.1 in
            let m = both k.0 (x ∷ xs) in
            subst (λ z. size_of_row z ≡ size_of_statements done + size_of_last last + size_of_statements (x ∷ xs)) k.2 (omega arith)
        | inr t ↦ cc
      ]

  header_size : (h : Header) (xs : List Statement) (r : Row) → on_header p done last h xs ≡ Some r
      → size_of_row r ≡ size_of_statements done + size_of_last last + (size_of_header h + size_of_statements xs)
  header_size h xs r e =
      elim (on_ok (goes_on last h) (new_statement p done last h xs) (λ w. option_map (λ n. (done, n)) (beside p w xs)) (Some r) e) [
        | inr t ↦
            let k = option_map_ok (λ n. (done, n)) (beside p t.0 xs) r t.2 in
            let a = goes_size last h t.0 t.1 in
            let b = beside_size p t.0 xs k.0 k.1 in
            subst (λ z. size_of_row z ≡ size_of_statements done + size_of_last last + (size_of_header h + size_of_statements xs)) k.2 (omega arith)
        | inl t ↦
            let i = bind_ok (starts h) (λ w. settled done last >>= λ d. option_map (λ n. (d, n)) (beside p w xs)) r t.1 in
            let j = bind_ok (settled done last) (λ d. option_map (λ n. (d, n)) (beside p i.0 xs)) r i.2 in
            let k = option_map_ok (λ n. (j.0, n)) (beside p i.0 xs) r j.2 in
            let a = starts_size h i.0 i.1 in
            let b = settled_size done last j.0 j.1 in
            let c = beside_size p i.0 xs k.0 k.1 in
            subst (λ z. size_of_row z ≡ size_of_statements done + size_of_last last + (size_of_header h + size_of_statements xs)) k.2 (omega arith)
      ]

  line_size : (line : Line) (r : Row) → on_line p done last line ≡ Some r → size_of_row r ≡ size_of_statements done + size_of_last last + size_of_line line
  line_size (l.simples xs) r e = simples_size xs r e
  line_size (l.header h xs) r e = header_size h xs r e

-- ---- the stack

-- a line at the innermost of some levels
with_row_size : (os : List Outer) (p : Place) (done : List Statement) (last : Last) (line : Line) (n : State)
    → option_map (with_row os p) (on_line p done last line) ≡ Some n
    → size_of_state n ≡ size_of_outers os + (size_of_statements done + size_of_last last) + size_of_line line
with_row_size os p done last line n e =
    let k = option_map_ok (with_row os p) (on_line p done last line) n e in
    let a = line_size p done last line k.0 k.1 in
    subst (λ z. size_of_state z ≡ size_of_outers os + (size_of_statements done + size_of_last last) + size_of_line line) k.2 (omega arith)

down_size : (os : List Outer) (p : Place) (done : List Statement) (last : Last) (x : Placed) (n : State) → down os p done last x ≡ Some n
    → size_of_state n ≡ size_of_outers os + (size_of_statements done + size_of_last last) + size_of_line x.line
down_size [] p done last x n e =
    elim (if_ok (x.deep == p.deep) (option_map (with_row [] p) (on_line p done last x.line)) None n e) [
      | inl t ↦ with_row_size [] p done last x.line n t.1
      | inr t ↦ cc
    ]
down_size (o ∷ os) p done last x n e =
    elim (if_ok (x.deep == p.deep) (option_map (with_row (o ∷ os) p) (on_line p done last x.line)) (settled done last >>= λ d. down os o.place o.done (filled o.waiting (block_of d)) x) n e) [
      | inl t ↦ with_row_size (o ∷ os) p done last x.line n t.1
      | inr t ↦
          let k = bind_ok (settled done last) (λ d. down os o.place o.done (filled o.waiting (block_of d)) x) n t.1 in
          let a = settled_size done last k.0 k.1 in
          let b = filled_size o.waiting (block_of k.0) in
          let c = block_size k.0 in
          let d = down_size os o.place o.done (filled o.waiting (block_of k.0)) x n k.2 in
          omega arith
    ]

enter_size : (m : State) (w : Waiting) (x : Placed) (n : State) → enter m w x ≡ Some n
    → size_of_state n ≡ size_of_outers m.outers + (size_of_statements m.done + size_of_waiting w) + size_of_line x.line
enter_size m w x n e =
    elim (if_ok (x.deep == (place_of m.place w).deep) (option_map (with_row (record { place = m.place; done = m.done; waiting = w } ∷ m.outers) (place_of m.place w)) (on_line (place_of m.place w) [] nothing x.line)) None n e) [
      | inl t ↦
          let a = with_row_size (record { place = m.place; done = m.done; waiting = w } ∷ m.outers) (place_of m.place w) [] nothing x.line n t.1 in
          omega arith
      | inr t ↦ cc
    ]

waiting_size : (last : Last) (w : Waiting) → waiting_of last ≡ Some w → size_of_last last ≡ size_of_waiting w
waiting_size (waits v) w e = ap size_of_waiting (some_is e)
waiting_size nothing w e = cc
waiting_size (whole x) w e = cc
waiting_size (after_if bs) w e = cc
waiting_size (after_while test body) w e = cc
waiting_size (after_for target a body) w e = cc
waiting_size (after_try body) w e = cc
waiting_size (after_except body hs more) w e = cc
waiting_size (after_else body hs otherwise) w e = cc

-- a line adds its nodes to those in the levels
step_size : (m : State) (x : Placed) (n : State) → step m x ≡ Some n → size_of_state n ≡ size_of_state m + size_of_line x.line
step_size m x n e =
    elim (on_ok (waiting_of m.last) (down m.outers m.place m.done m.last x) (λ w. enter m w x) (Some n) e) [
      | inl t ↦ down_size m.outers m.place m.done m.last x n t.1
      | inr t ↦
          let a = waiting_size m.last t.0 t.1 in
          let b = enter_size m t.0 x n t.2 in
          omega arith
    ]

ended_size : (os : List Outer) (done : List Statement) (last : Last) (b : Block) → ended os done last ≡ Some b
    → size_of_block b ≡ size_of_outers os + (size_of_statements done + size_of_last last)
ended_size [] done last b e =
    let k = option_map_ok block_of (settled done last) b e in
    let a = settled_size done last k.0 k.1 in
    let c = block_size k.0 in
    subst (λ z. size_of_block z ≡ 0 + (size_of_statements done + size_of_last last)) k.2 (omega arith)
ended_size (o ∷ os) done last b e =
    let k = bind_ok (settled done last) (λ d. ended os o.done (filled o.waiting (block_of d))) b e in
    let a = settled_size done last k.0 k.1 in
    let f = filled_size o.waiting (block_of k.0) in
    let c = block_size k.0 in
    let d = ended_size os o.done (filled o.waiting (block_of k.0)) b k.2 in
    omega arith

-- ---- the lines of a text

-- how many nodes begin in lines
abbrev pub nodes_told : List Told → ℕ
nodes_told [] = 0
nodes_told (x ∷ xs) = nodes_in x.form + nodes_told xs

next_size : (m n : State) (deep : ℕ) (f : Form) → next_in m deep f ≡ Some n → size_of_state n ≡ size_of_state m + nodes_in f
next_size m n deep (a_line line) e = step_size m (record { deep = deep; line = line }) n e
next_size m n deep unsupported e = cc
next_size m n deep over e = cc
next_size m n deep no_line e = cc

end_size : (last : ℕ) (m : State) (o : Option Block) (b : Block) → accepted m ≡ o → parsed.ended last o ≡ Ok b → size_of_block b ≡ size_of_state m
end_size last m (Some c) b a e = let same : c ≡ b = cc in ended_size m.outers m.done m.last b (a ∙ ap Some same)
end_size last m None b a e = cc

pub on_some : (o : Option State) (f : Fault) (g : State → Result Block Fault) (b : Block) → on o (Err f) g ≡ Ok b → (n : State) × (o ≡ Some n) × (g n ≡ Ok b)
on_some (Some n) f g b e = (n, refl, e)
on_some None f g b e = cc

-- a block has the nodes of its lines
pub blocks_size : (xs : List Told) (last : ℕ) (m : State) (b : Block) → blocks last m xs ≡ Ok b → size_of_block b ≡ size_of_state m + nodes_told xs
blocks_size [] last m b e = let a = end_size last m (accepted m) b refl e in omega arith
blocks_size (x ∷ xs) last m b e =
    let k = on_some (next_of m x) (x.number, Syntax) (λ next. blocks x.number next xs) b e in
    let a = next_size m k.0 x.deep x.form k.1 in
    let c = blocks_size xs x.number k.0 b k.2 in
    omega arith

pub start_size : size_of_state start ≡ 0
start_size = refl
