-- The open levels after one line more: levels that are closed and opened.
use Rattle.std.proofs.Common.{◌≡◌, ◌==◌, ℕ, ◌+◌, Bool, true, false, if◌then◌else◌, List, [], ◌∷◌, ◌++◌, map, refl, sym, ap, ◌∙◌, subst, arith, eq-eqb, append_assoc, append-nil, length, length-append, take, ◌-◌, ◌<◌, eqb-true, Option, Some, None, option_map, Result, Ok, Err, IfOk}
use Rattle.std.proofs.lemmas.Bool.{true≢false}
use Rattle.py_ast.specs.Statement.{Statement, block_of}
use Rattle.py_ast.specs.Lawful as lawful
use Rattle.py_ast.specs.Nodes.{nodes_of_cell, number_of}
use Rattle.py_ast.specs.declared.cell.Cell.{Cell}
use Rattle.py_ast.specs.declared.stmt.Stmt.{Stmt}
use Rattle.py_grammar.specs.Line.{Line}
use Rattle.py_grammar.specs.Blocks.{Placed}
use Rattle.py_grammar.specs.Reading.{◌>>=◌, on}
use Rattle.flow_base.specs.declared.no_memory.NoMemory.{NoMemory}
use Rattle.std.specs.Global.{Vec}
use Rattle.py_line.specs.Form.{line_of, numbers_of_form, statements_of}
use Rattle.py_line.specs.declared.form.LineForm.{LineForm}
use Rattle.py_block.specs.Machine as m
use Rattle.py_block.specs.Opened.{IsEnded, IsPlaced, Opened, placed}
use Rattle.py_block.specs.LevelAnswers.{IsAllClosed, IsCell, IsClosed, IsClosedInto, IsDeeper, IsDown, IsDownBy, IsEntered, IsFinished, IsPut, IsPutAt, IsReached, IsRefilled, IsSettled, at_level, closed, closed_by, down, with_row}
use Rattle.py_block.specs.LevelViews.{after_of, block_numbers, last_numbers, last_of, open_numbers, opened_of, outer_numbers, outer_of, outers_numbers, outers_of, outers_onto, place_at, place_of, row_numbers, row_of, state_of, waiting_numbers, waiting_of}
use Rattle.py_block.specs.declared.level_parts.After.{After}
use Rattle.py_block.specs.declared.level_parts.After.TheVariants as a
use Rattle.py_block.specs.declared.level_parts.Body.{Body}
use Rattle.py_block.specs.declared.level_parts.Last.{Last}
use Rattle.py_block.specs.declared.level_parts.Last.TheVariants as l
use Rattle.py_block.specs.declared.level_parts.Open.{Open}
use Rattle.py_block.specs.declared.level_parts.Outer.{Outer}
use Rattle.py_block.specs.declared.level_parts.Place.{Place}
use Rattle.py_block.specs.declared.level_parts.Row.{Row}
use Rattle.py_block.specs.declared.level_parts.Waiting.{Waiting}
use Rattle.py_block.proofs.LevelLists.{no_outers, no_outers_numbers, outers_more, outers_numbers_more}

-- ---- one level more that is closed

bound_some : {A B C : Type 0} (o : Option A) (f : A → B) (g : B → Option C) (b : B) → (o >>= λ x. Some (f x)) ≡ Some b → (o >>= λ x. g (f x)) ≡ g b
bound_some None f g b e = cc
bound_some (Some x) f g b e = let same : f x ≡ b = cc in ap g same

bound_none : {A B C : Type 0} (o : Option A) (f : A → B) (g : B → Option C) → (o >>= λ x. Some (f x)) ≡ None → (o >>= λ x. g (f x)) ≡ None
bound_none None f g e = refl
bound_none (Some x) f g e = cc

abbrev opened_by : m.Outer → List m.Outer → List Statement → m.State
opened_by o os d = record { outers = os; place = o.place; done = o.done; last = m.filled o.waiting (block_of d) }

not_equal : (i j : ℕ) → (i ≡ j → ⊥) → (i == j) ≡ false
not_equal i j h = grind arith

here_by : (os : List m.Outer) (p : lawful.Place) (done : List Statement) (last : m.Last) (deep : ℕ) (line : Line) → deep ≡ p.deep
    → m.down os p done last (record { deep = deep; line = line }) ≡ option_map (m.with_row os p) (m.on_line p done last line)
here_by [] p done last deep line e =
    ap (λ (b : Bool). if b then option_map (m.with_row [] p) (m.on_line p done last line) else None) (eq-eqb deep p.deep e)
here_by (o ∷ os) p done last deep line e =
    ap (λ (b : Bool). if b then option_map (m.with_row (o ∷ os) p) (m.on_line p done last line) else
    (m.settled done last >>= λ d. m.down os o.place o.done (m.filled o.waiting (block_of d)) (record { deep = deep; line = line })))
    (eq-eqb deep p.deep e)

below_by : (os : List m.Outer) (p : lawful.Place) (done : List Statement) (last : m.Last) (deep : ℕ) (line : Line) (n : m.State) → (deep ≡ p.deep → ⊥)
    → closed_by os done last ≡ Some n → m.down os p done last (record { deep = deep; line = line }) ≡ down n (record { deep = deep; line = line })
below_by [] p done last deep line n h e = cc
below_by (o ∷ os) p done last deep line n h e =
    ap (λ (b : Bool). if b then option_map (m.with_row (o ∷ os) p) (m.on_line p done last line) else
    (m.settled done last >>= λ d. m.down os o.place o.done (m.filled o.waiting (block_of d)) (record { deep = deep; line = line })))
    (not_equal deep p.deep h)
    ∙ bound_some (m.settled done last) (opened_by o os) (λ s. down s (record { deep = deep; line = line })) n e

stuck_by : (os : List m.Outer) (p : lawful.Place) (done : List Statement) (last : m.Last) (deep : ℕ) (line : Line) → (deep ≡ p.deep → ⊥)
    → closed_by os done last ≡ None → m.down os p done last (record { deep = deep; line = line }) ≡ None
stuck_by [] p done last deep line h e =
    ap (λ (b : Bool). if b then option_map (m.with_row [] p) (m.on_line p done last line) else None) (not_equal deep p.deep h)
stuck_by (o ∷ os) p done last deep line h e =
    ap (λ (b : Bool). if b then option_map (m.with_row (o ∷ os) p) (m.on_line p done last line) else
    (m.settled done last >>= λ d. m.down os o.place o.done (m.filled o.waiting (block_of d)) (record { deep = deep; line = line })))
    (not_equal deep p.deep h)
    ∙ bound_none (m.settled done last) (opened_by o os) (λ s. down s (record { deep = deep; line = line })) e

pub down_here : (o : Open) (deep : ℕ) (line : Line) → deep ≡ o.place.deep
    → down (state_of o) (record { deep = deep; line = line }) ≡ at_level (state_of o) line
down_here o deep line e =
    here_by (outers_of o.outers.items) (place_of o.place) (statements_of o.row.done.items) (last_of o.row.last) deep line e

pub down_below : (o : Open) (deep : ℕ) (line : Line) (n : m.State) → (deep ≡ o.place.deep → ⊥) → closed (state_of o) ≡ Some n
    → down (state_of o) (record { deep = deep; line = line }) ≡ down n (record { deep = deep; line = line })
down_below o deep line n h e =
    below_by (outers_of o.outers.items) (place_of o.place) (statements_of o.row.done.items) (last_of o.row.last) deep line n h e

pub down_stuck : (o : Open) (deep : ℕ) (line : Line) → (deep ≡ o.place.deep → ⊥) → closed (state_of o) ≡ None
    → down (state_of o) (record { deep = deep; line = line }) ≡ None
down_stuck o deep line h e =
    stuck_by (outers_of o.outers.items) (place_of o.place) (statements_of o.row.done.items) (last_of o.row.last) deep line h e

accepted_by : (os : List m.Outer) (done : List Statement) (last : m.Last) (n : m.State) → closed_by os done last ≡ Some n → m.ended os done last ≡ m.accepted n
accepted_by [] done last n e = cc
accepted_by (o ∷ os) done last n e = bound_some (m.settled done last) (opened_by o os) m.accepted n e

pub accepted_closed : (o : Open) (n : m.State) → closed (state_of o) ≡ Some n → m.accepted (state_of o) ≡ m.accepted n
accepted_closed o n e = accepted_by (outers_of o.outers.items) (statements_of o.row.done.items) (last_of o.row.last) n e

refused_by : (o : m.Outer) (os : List m.Outer) (done : List Statement) (last : m.Last) → closed_by (o ∷ os) done last ≡ None → m.ended (o ∷ os) done last ≡ None
refused_by o os done last e = bound_none (m.settled done last) (opened_by o os) m.accepted e

-- ---- the level round the innermost in its place

pub refilled : (old mid after : Open) (o : Outer) (row : Row) (d : Vec Stmt) (r : Result Bool NoMemory) → row ≡ old.row → mid.outers ≡ old.outers
    → IsSettled row.done row.last (Some d) → IsRefilled mid o d.items r after → IsClosedInto old o r after
refilled old mid after o row d (Ok true) e f s g =
    let t : IsSettled old.row.done old.row.last (Some d) = subst (λ (z : Row). IsSettled z.done z.last (Some d)) e s in
    let outers : old.outers ≡ after.outers = sym (g.0 ∙ f) in
    let filled : m.filled (waiting_of o.waiting) (block_of (statements_of d.items)) ≡ last_of after.row.last = sym g.3.0 in
    let place : o.place ≡ after.place = sym g.1 in
    let done : o.done ≡ after.row.done = sym g.2 in (
      sym outers,
      ap (λ (z : Option (List Statement)). z >>= λ x. Some (opened_by (outer_of o) (outers_of old.outers.items) x)) t.0
          ∙ (λ i. Some (record { outers = outers_of (outers i).items; place = place_of (place i); done = statements_of (done i).items; last = filled i })),
      ap (λ (z : Vec Stmt). block_numbers z.items ++ last_numbers after.row.last) g.2
          ∙ ap (λ (z : List ℕ). block_numbers o.done.items ++ z) (g.3.1 ∙ ap (λ (z : List ℕ). waiting_numbers o.waiting ++ z) t.1)
          ∙ sym (append_assoc (block_numbers o.done.items) (waiting_numbers o.waiting) (row_numbers old.row)),
    )
refilled old mid after o row d (Ok false) e f s g = absurd g
refilled old mid after o row d (Err fault) e f s g = tt

pub not_settled : (old : Open) (o : Outer) (row : Row) → row ≡ old.row → IsSettled row.done row.last None
    → closed_by (outer_of o ∷ outers_of old.outers.items) (statements_of old.row.done.items) (last_of old.row.last) ≡ None
not_settled old o row e s =
    let t : IsSettled old.row.done old.row.last None = subst (λ (z : Row). IsSettled z.done z.last None) e s in
    ap (λ (z : Option (List Statement)). z >>= λ x. Some (opened_by (outer_of o) (outers_of old.outers.items) x)) t

closing : (old mid : Open) (o : Outer) → old.outers.items ≡ mid.outers.items ++ o ∷ [] → mid.row ≡ old.row
    → closed (state_of old) ≡ closed_by (outer_of o ∷ outers_of mid.outers.items) (statements_of mid.row.done.items) (last_of mid.row.last)
closing old mid o e f =
    ap (λ (z : List Outer). closed_by (outers_of z) (statements_of old.row.done.items) (last_of old.row.last)) e
    ∙ ap (λ (z : List m.Outer). closed_by z (statements_of old.row.done.items) (last_of old.row.last)) (outers_more mid.outers.items o)
    ∙ ap (λ (z : Row). closed_by (outer_of o ∷ outers_of mid.outers.items) (statements_of z.done.items) (last_of z.last)) (sym f)

pub popped : (old mid after : Open) (o : Outer) (r : Result Bool NoMemory) → old.outers.items ≡ mid.outers.items ++ o ∷ [] → mid.row ≡ old.row
    → IsClosedInto mid o r after → IsClosed (opened_of old) r (opened_of after)
popped old mid after o (Ok true) e f g = (
  closing old mid o e f ∙ g.1,
  ap (λ (z : Vec Outer). outers_numbers z.items ++ row_numbers after.row) g.0
      ∙ ap (λ (z : List ℕ). outers_numbers mid.outers.items ++ z) (g.2 ∙ ap (λ (z : Row). outer_numbers o ++ row_numbers z) f)
      ∙ sym (append_assoc (outers_numbers mid.outers.items) (outer_numbers o) (row_numbers old.row))
      ∙ ap (λ (z : List ℕ). z ++ row_numbers old.row) (sym (ap outers_numbers e ∙ outers_numbers_more mid.outers.items o)),
)
popped old mid after o (Ok false) e f g = closing old mid o e f ∙ g
popped old mid after o (Err fault) e f g = tt

pub none_round : (old : Open) → old.outers.items ≡ [] → closed (state_of old) ≡ None
none_round old e =
    ap (λ (z : List Outer). closed_by (outers_of z) (statements_of old.row.done.items) (last_of old.row.last)) e
    ∙ ap (λ (z : List m.Outer). closed_by z (statements_of old.row.done.items) (last_of old.row.last)) no_outers

-- ---- a line put at the innermost level

pub line_put : (old after : Open) (row : Row) (new : Row) (form : LineForm) → row ≡ old.row → IsPut old.place row.done.items row.last form (Some new)
    → after.outers ≡ old.outers → after.place ≡ old.place → after.row ≡ new
    → (at_level (state_of old) (line_of form) ≡ Some (state_of after)) × (open_numbers after ≡ open_numbers old ++ numbers_of_form form)
line_put old after row new form e s outers place same =
    let t : IsPut old.place old.row.done.items old.row.last form (Some new) = subst (λ (z : Row). IsPut old.place z.done.items z.last form (Some new)) e s in (
      ap (option_map (m.with_row (outers_of old.outers.items) (place_of old.place))) t.0
          ∙ (λ i. Some (record {
            outers = outers_of ((sym outers) i).items;
            place = place_of ((sym place) i);
            done = statements_of ((sym same) i).done.items;
            last = last_of ((sym same) i).last;
          })),
      (λ i. outers_numbers (outers i).items ++ row_numbers (same i))
          ∙ ap (λ (z : List ℕ). outers_numbers old.outers.items ++ z) t.1
          ∙ sym (append_assoc (outers_numbers old.outers.items) (row_numbers old.row) (numbers_of_form form)),
    )

pub line_refused : (old : Open) (row : Row) (form : LineForm) → row ≡ old.row → IsPut old.place row.done.items row.last form None
    → at_level (state_of old) (line_of form) ≡ None
line_refused old row form e s =
    let t : IsPut old.place old.row.done.items old.row.last form None = subst (λ (z : Row). IsPut old.place z.done.items z.last form None) e s in
    ap (option_map (m.with_row (outers_of old.outers.items) (place_of old.place))) t

-- ---- a line where no block is waited for

pub down_put : (before : Opened) (mid after : Opened) (deep : ℕ) (form : LineForm) (r : Result Bool NoMemory) → IsReached before deep (Ok true) mid
    → IsPutAt mid form r after → IsDownBy before deep form r after
down_put before mid after deep form (Ok true) e g =
    (e.0 (line_of form) ∙ g.0, g.1 ∙ ap (λ (z : List ℕ). z ++ numbers_of_form form) e.1)
down_put before mid after deep form (Ok false) e g = e.0 (line_of form) ∙ g
down_put before mid after deep form (Err fault) e g = tt

-- ---- a line that is the first of the block that is waited for

inside_deep : (p : lawful.Place) (w : m.Waiting) → (m.place_of p w).deep ≡ p.deep + 1
inside_deep p (m.if_body bs test) = refl
inside_deep p (m.if_else bs) = refl
inside_deep p (m.while_body test) = refl
inside_deep p (m.while_else test b) = refl
inside_deep p (m.for_body t x) = refl
inside_deep p (m.for_else t x b) = refl
inside_deep p m.try_body = refl
inside_deep p (m.except_body b hs c x) = refl
inside_deep p (m.try_else b hs) = refl
inside_deep p (m.finally_body b hs c) = refl
inside_deep p (m.def_body x names ds) = refl
inside_deep p (m.class_body x base) = refl

pub not_entered : (s : m.State) (w : m.Waiting) (deep : ℕ) (form : LineForm) → (deep ≡ s.place.deep + 1 → ⊥) → m.enter s w (placed deep form) ≡ None
not_entered s w deep form h =
    ap (λ (b : Bool). if b
    then option_map (m.with_row (record { place = s.place; done = s.done; waiting = w } ∷ s.outers) (m.place_of s.place w)) (m.on_line (m.place_of s.place w) [] m.nothing (line_of form))
    else None)
    (not_equal deep (m.place_of s.place w).deep (λ e. h (e ∙ inside_deep s.place w)))

entered : (s : m.State) (w : m.Waiting) (deep : ℕ) (form : LineForm) → deep ≡ s.place.deep + 1
    → m.enter s w (placed deep form)
    ≡ at_level (m.with_row (record { place = s.place; done = s.done; waiting = w } ∷ s.outers) (m.place_of s.place w) ([], m.nothing)) (line_of form)
entered s w deep form h =
    ap (λ (b : Bool). if b
    then option_map (m.with_row (record { place = s.place; done = s.done; waiting = w } ∷ s.outers) (m.place_of s.place w)) (m.on_line (m.place_of s.place w) [] m.nothing (line_of form))
    else None)
    (eq-eqb deep (m.place_of s.place w).deep (h ∙ sym (inside_deep s.place w)))

pub entered_put : (old : Open) (done : Vec Stmt) (w : Waiting) (mid after : Opened) (deep : ℕ) (form : LineForm) (r : Result Bool NoMemory) → deep ≡ old.place.deep + 1
    → IsDeeper old done w mid → IsPutAt mid form r after → IsEntered old done w deep form r after
entered_put old done w mid after deep form (Ok true) h e g = (
  entered (state_of (with_row old (record { done = done; last = l.Waits w }))) (waiting_of w) deep form h ∙ ap (λ z. at_level z (line_of form)) (sym e.0) ∙ g.0,
  g.1 ∙ ap (λ (z : List ℕ). z ++ numbers_of_form form) e.1,
)
entered_put old done w mid after deep form (Ok false) h e g =
    entered (state_of (with_row old (record { done = done; last = l.Waits w }))) (waiting_of w) deep form h ∙ ap (λ z. at_level z (line_of form)) (sym e.0) ∙ g
entered_put old done w mid after deep form (Err fault) h e g = tt

pub deeper : (old after : Open) (done : Vec Stmt) (w : Waiting) (body : Body) → place_at (old.place.deep + 1) body ≡ m.place_of (place_of old.place) (waiting_of w)
    → after.outers.items ≡ old.outers.items ++ record { place = old.place; done = done; waiting = w } ∷ []
    → place_of after.place ≡ place_at (old.place.deep + 1) body → row_of after.row ≡ ([], m.nothing) → row_numbers after.row ≡ []
    → IsDeeper old done w (opened_of after)
deeper old after done w body e f g h k =
    let o : Outer = record { place = old.place; done = done; waiting = w } in
    let outers : outers_of after.outers.items ≡ outer_of o ∷ outers_of old.outers.items = ap outers_of f ∙ outers_more old.outers.items o in (
      (λ i. m.with_row (outers i) ((g ∙ e) i) (h i)),
      (λ i. outers_numbers (f i) ++ k i) ∙ append-nil (outers_numbers (old.outers.items ++ o ∷ [])) ∙ outers_numbers_more old.outers.items o,
    )

-- ---- a step

pub waits_for_none : (x : After) → m.waiting_of (after_of x) ≡ None
waits_for_none (a.If i bs) = refl
waits_for_none (a.While i test b) = refl
waits_for_none (a.For i t x b) = refl
waits_for_none (a.Try i b) = refl
waits_for_none (a.Except i b hs more) = refl
waits_for_none (a.Else i b hs c) = refl

pub stepped_down : (o : Open) (x : Placed) → m.waiting_of (last_of o.row.last) ≡ None → m.step (state_of o) x ≡ down (state_of o) x
stepped_down o x e = ap (λ (z : Option m.Waiting). on z (down (state_of o) x) (λ w. m.enter (state_of o) w x)) e

-- ---- the end

cell_numbers : (c : Cell) → block_numbers c.statements ≡ map number_of (nodes_of_cell c)
unfolding block_numbers
cell_numbers c = refl

pub finished_cell : (o : Open) (r : Result (Option Cell) NoMemory) → outers_of o.outers.items ≡ [] → outers_numbers o.outers.items ≡ [] → IfOk r (IsFinished o.row)
    → IsEnded (opened_of o) r
finished_cell o (Ok (Some c)) e f g = (
  ap (λ z. m.ended z (statements_of o.row.done.items) (last_of o.row.last)) e ∙ ap (option_map block_of) g.0,
  sym (cell_numbers c) ∙ g.1 ∙ ap (λ (z : List ℕ). z ++ row_numbers o.row) (sym f),
)
finished_cell o (Ok None) e f g =
    ap (λ z. m.ended z (statements_of o.row.done.items) (last_of o.row.last)) e ∙ ap (option_map block_of) g
finished_cell o (Err fault) e f g = tt

pub ended_later : (before after : Opened) (r : Result (Option Cell) NoMemory) → m.accepted before.state ≡ m.accepted after.state → after.numbers ≡ before.numbers
    → IsEnded after r → IsEnded before r
ended_later before after (Ok (Some c)) e f g = (e ∙ g.0, g.1 ∙ f)
ended_later before after (Ok None) e f g = e ∙ g
ended_later before after (Err fault) e f g = tt

pub kept_outers : (mid after : Open) (o : Outer) (r : Result Bool NoMemory) → IsClosedInto mid o r after → r ≡ Ok true → after.outers ≡ mid.outers
kept_outers mid after o (Ok true) g e = g.0
kept_outers mid after o (Ok false) g e = cc
kept_outers mid after o (Err fault) g e = cc

pub fewer : (old mid after : Open) (o : Outer) (r : Result Bool NoMemory) → old.outers.items ≡ mid.outers.items ++ o ∷ [] → IsClosedInto mid o r after → r ≡ Ok true
    → length after.outers.items < length old.outers.items
fewer old mid after o r e g f =
    let kept : length after.outers.items ≡ length mid.outers.items = ap (λ (z : Vec Outer). length z.items) (kept_outers mid after o r g f) in
    let more : length old.outers.items ≡ length (mid.outers.items ++ o ∷ []) = ap length e in
    omega (arith, length-append {A = Outer})

pub none_popped : (old new : List Outer) (n : ℕ) → old ≡ new ++ [] → new ≡ take (n - 1) old → n ≡ 0 → old ≡ []
none_popped old new n e f g =
    let h : n - 1 ≡ 0 = omega arith in
    e ∙ append-nil new ∙ f ∙ ap (λ (k : ℕ). take k old) h

pub finished_by : (row : Row) (d : Vec Stmt) (r : Result (Option Cell) NoMemory) → IsSettled row.done row.last (Some d) → IfOk r (IsCell d.items) → IfOk r (IsFinished row)
finished_by row d (Ok (Some c)) s g = (s.0 ∙ ap (λ (z : List Stmt). Some (statements_of z)) (sym g), ap block_numbers g ∙ s.1)
finished_by row d (Ok None) s g = absurd g
finished_by row d (Err fault) s g = tt

pub outermost : (xs : List Outer) (b : Bool) → b ≡ (length xs == 0) → b ≡ true → xs ≡ []
outermost [] b e f = refl
outermost (x ∷ xs) b e f = let h : length (x ∷ xs) ≡ 0 = eqb-true (length (x ∷ xs)) 0 (sym e ∙ f) in absurd (omega arith)

refused_round : (os : List m.Outer) (done : List Statement) (last : m.Last) → (os ≡ [] → ⊥) → closed_by os done last ≡ None → m.ended os done last ≡ None
refused_round [] done last h e = absurd (h refl)
refused_round (o ∷ os) done last h e = refused_by o os done last e

onto_some : (x : m.Outer) (found : List m.Outer) (os : List Outer) → outers_onto (x ∷ found) os ≡ [] → ⊥
onto_some x found [] e = cc
onto_some x found (o ∷ os) e = onto_some (outer_of o) (x ∷ found) os e

some_outers : (os : List Outer) → (os ≡ [] → ⊥) → outers_of os ≡ [] → ⊥
unfolding outers_of
some_outers [] h e = h refl
some_outers (o ∷ os) h e = onto_some (outer_of o) [] os e

pub accepted_stuck : (o : Open) (b : Bool) → b ≡ (length o.outers.items == 0) → b ≡ false → closed (state_of o) ≡ None → m.accepted (state_of o) ≡ None
accepted_stuck o b e f g =
    refused_round (outers_of o.outers.items) (statements_of o.row.done.items) (last_of o.row.last)
    (some_outers o.outers.items (λ h. true≢false (sym (e ∙ ap (λ (z : List Outer). length z == 0) h) ∙ f))) g

-- ---- what the loops keep

-- levels after some were closed: a line at the depth, or none, does what it did before
pub record Lowered (deep : ℕ) (before after : Open) : Type 0 where
  pub lines : (line : Line) → down (state_of before) (record { deep = deep; line = line }) ≡ down (state_of after) (record { deep = deep; line = line })
  pub numbers : open_numbers after ≡ open_numbers before

pub lowered : (deep : ℕ) (first before after : Open) → Lowered deep first before → (before.place.deep ≡ deep → ⊥) → IsClosed (opened_of before) (Ok true) (opened_of after)
    → Lowered deep first after
lowered deep first before after l h g = record {
  lines = λ line. l.lines line ∙ down_below before deep line (state_of after) (λ e. h (sym e)) g.0;
  numbers = g.1 ∙ l.numbers;
}

pub lowered_stuck : (deep : ℕ) (first before : Open) → Lowered deep first before → (before.place.deep ≡ deep → ⊥) → closed (state_of before) ≡ None
    → (line : Line) → down (state_of first) (record { deep = deep; line = line }) ≡ None
lowered_stuck deep first before l h g line = l.lines line ∙ down_stuck before deep line (λ e. h (sym e)) g

pub reached : (deep : ℕ) (first after : Open) → Lowered deep first after → after.place.deep ≡ deep → IsReached (opened_of first) deep (Ok true) (opened_of after)
reached deep first after l h = (λ line. l.lines line ∙ down_here after deep line (sym h), l.numbers)

pub record Closing (before after : Open) : Type 0 where
  pub same : m.accepted (state_of before) ≡ m.accepted (state_of after)
  pub numbers : open_numbers after ≡ open_numbers before

pub closing_on : (first before after : Open) → Closing first before → IsClosed (opened_of before) (Ok true) (opened_of after) → Closing first after
closing_on first before after l g = record { same = l.same ∙ accepted_closed before (state_of after) g.0; numbers = g.1 ∙ l.numbers }

pub closing_stuck : (first before : Open) (b : Bool) → Closing first before → b ≡ (length before.outers.items == 0) → b ≡ false → closed (state_of before) ≡ None
    → m.accepted (state_of first) ≡ None
closing_stuck first before b l e f g = l.same ∙ accepted_stuck before b e f g

pub all_closed : (first after : Open) (b : Bool) → Closing first after → b ≡ (length after.outers.items == 0) → b ≡ true
    → IsAllClosed first (Ok true) after
all_closed first after b l e f = (l.same, outermost after.outers.items b e f, l.numbers)

pub ended_here : (before after : Open) (r : Result (Option Cell) NoMemory) → IsAllClosed before (Ok true) after → IfOk r (IsFinished after.row)
    → IsEnded (opened_of before) r
ended_here before after r g h =
    ended_later (opened_of before) (opened_of after) r g.0 g.2
    (finished_cell after r (ap outers_of g.1 ∙ no_outers) (ap outers_numbers g.1 ∙ no_outers_numbers) h)

-- ---- a step from the levels as they were

same_levels : (old mid : Open) (row : Row) → mid.outers ≡ old.outers → mid.place ≡ old.place → row ≡ old.row → with_row mid row ≡ old
same_levels old mid row e f g = λ i. record { outers = e i; place = f i; row = g i }

placed_down : (o : Open) (deep : ℕ) (form : LineForm) (r : Result Bool NoMemory) (after : Opened) → m.waiting_of (last_of o.row.last) ≡ None
    → IsDownBy (opened_of o) deep form r after → IsPlaced (opened_of o) deep form r after
placed_down o deep form (Ok true) after e g = (stepped_down o (placed deep form) e ∙ g.0, g.1)
placed_down o deep form (Ok false) after e g = stepped_down o (placed deep form) e ∙ g
placed_down o deep form (Err fault) after e g = tt

pub placed_from : (old mid : Open) (row : Row) (deep : ℕ) (form : LineForm) (r : Result Bool NoMemory) (after : Opened) → mid.outers ≡ old.outers → mid.place ≡ old.place
    → row ≡ old.row → m.waiting_of (last_of row.last) ≡ None → IsDown mid row deep form r after → IsPlaced (opened_of old) deep form r after
placed_from old mid row deep form r after e f g h d =
    subst (λ (z : Open). IsPlaced (opened_of z) deep form r after) (same_levels old mid row e f g) (placed_down (with_row mid row) deep form r after h d)

placed_in : (o : Open) (done : Vec Stmt) (w : Waiting) (deep : ℕ) (form : LineForm) (r : Result Bool NoMemory) (after : Opened)
    → IsEntered o done w deep form r after → IsPlaced (opened_of (with_row o (record { done = done; last = l.Waits w }))) deep form r after
placed_in o done w deep form (Ok true) after g = g
placed_in o done w deep form (Ok false) after g = g
placed_in o done w deep form (Err fault) after g = tt

pub entered_from : (old mid : Open) (done : Vec Stmt) (w : Waiting) (deep : ℕ) (form : LineForm) (r : Result Bool NoMemory) (after : Opened) → mid.outers ≡ old.outers
    → mid.place ≡ old.place → record { done = done; last = l.Waits w } ≡ old.row → IsEntered mid done w deep form r after → IsPlaced (opened_of old) deep form r after
entered_from old mid done w deep form r after e f g d =
    subst (λ (z : Open). IsPlaced (opened_of z) deep form r after) (same_levels old mid (record { done = done; last = l.Waits w }) e f g)
    (placed_in mid done w deep form r after d)

pub row_again : (row old : Row) (last : Last) → row ≡ old → row.last ≡ last → record { done = row.done; last = last } ≡ old
row_again row old last e f = (λ i. record { done = row.done; last = (sym f) i }) ∙ e
