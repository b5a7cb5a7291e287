-- Lines within the limits that stand as a block are a block of a lawful cell.
use Rattle.std.proofs.Common.{◌≡◌, ℕ, ◌+◌, ◌≤◌, ◌<◌, max, true, ◌&&◌, List, [], ◌∷◌, ◌++◌, length, Option, Some, None, refl, sym, ◌∙◌, subst, arith, length-append}
use Rattle.py_ast.specs.Tree as t
use Rattle.py_ast.specs.Tree.{Tree, Trees, none, more, depth, deepest}
use Rattle.py_ast.specs.Statement as s
use Rattle.py_ast.specs.Statement.{Statement, Block, empty, Branches, Handlers, no_handlers}
use Rattle.py_ast.specs.Lawful.{AreParams, IsForm, AreForms, IsPlace, IsTarget, AreTargets, IsWhole, AreWhole, IsWholeOrNone, Place, inner, IsSome, IsTry, IsClause, IsStatement, IsBlock, AreBranches, AreHandlers}
use Rattle.py_grammar.specs.Grammar as g
use Rattle.py_grammar.specs.Grammar.{push}
use Rattle.py_grammar.specs.Line as l
use Rattle.py_grammar.specs.Line.{Target, Members, TargetRow, Targets, Lefts, Names, Simple, SomeSimples, Simples, Header, Heads, Line, SpellsLine, simple_depth, simples_depth, header_depth, line_depth}
use Rattle.py_grammar.specs.Blocks as b
use Rattle.py_grammar.specs.Blocks.{Placed, head, is_allowed, AreAllowed, put, Stands, Suite, Compound, Elifs, Else, Handled, Excepts, ElseFinally, Finally}
use Rattle.py_grammar.specs.declared.mark.Mark.TheVariants as m
use Rattle.py_grammar.specs.declared.sign.Sign.{Sign}
use Rattle.py_grammar.specs.declared.sign.Sign.TheVariants.{Name, Mark as The}
use Rattle.std.proofs.lemmas.List.{append-nil}
use Rattle.py_grammar.proofs.LawfulForms.{AreNatural, natural_front, natural_back, spelled_form, push_forms, params_forms}

-- ---- targets

-- a tree of the forms of expressions that is a target
pub record IsAim (a : Tree) : Type 0 where
  pub form : IsForm a
  pub target : IsTarget a

pub record AreAims (ts : Trees) : Type 0 where
  pub forms : AreForms ts
  pub targets : AreTargets ts

push_targets : (ts : Trees) (a : Tree) → AreTargets ts → IsTarget a → AreTargets (push ts a)
push_targets none a h f = (f, tt)
push_targets (more b ts) a h f = (h.0, push_targets ts a h.1 f)

tuple_target : (ts : Trees) → AreTargets ts → (ts ≡ none → ⊥) → IsTarget (t.tuple ts)
tuple_target none h some = absurd (some refl)
tuple_target (more a ts) h some = h

some_pushed : (ts : Trees) (a : Tree) → push ts a ≡ none → ⊥
some_pushed none a e = cc
some_pushed (more b ts) a e = cc

members_some : {xs : List Sign} {ts : Trees} → Members xs ts → ts ≡ none → ⊥
members_some (l.one_member s) e = cc
members_some (l.and_member {ts = ts} {a = a} s r) e = some_pushed ts a e

place_aim : {xs : List Sign} {a : Tree} → l.Place xs a → AreNatural xs → IsAim a
place_aim l.a_name h = record { form = tt; target = tt }
place_aim (l.attribute s) h = record { form = spelled_form (g.attribute s) h; target = tt }
place_aim (l.subscript s i) h = record { form = spelled_form (g.subscript s i) h; target = tt }

place_is : {xs : List Sign} {a : Tree} → l.Place xs a → IsPlace a
place_is l.a_name = tt
place_is (l.attribute s) = tt
place_is (l.subscript s i) = tt

mutual
  target_aim : {xs : List Sign} {a : Tree} → Target xs a → AreNatural xs → IsAim a
  target_aim (l.a_place p) h = place_aim p h
  target_aim (l.in_parens {xs} s) h = targets_aim s (natural_front xs (The m.Close ∷ []) h)
  target_aim (l.in_squares {xs} r) h = row_aim r (natural_front xs (The m.CloseSquare ∷ []) h)

  members_aims : {xs : List Sign} {ts : Trees} → Members xs ts → AreNatural xs → AreAims ts
  members_aims (l.one_member s) h = let a = target_aim s h in record { forms = (a.form, tt); targets = (a.target, tt) }
  members_aims (l.and_member {xs} {ys} {ts} {a} s r) h =
      let before = members_aims s (natural_front xs (The m.Comma ∷ ys) h) in
      let last = target_aim r (natural_back xs (The m.Comma ∷ ys) h) in
      record { forms = push_forms ts a before.forms last.form; targets = push_targets ts a before.targets last.target }

  row_aim : {xs : List Sign} {ts : Trees} → TargetRow xs ts → AreNatural xs → IsAim (t.tuple ts)
  row_aim (l.some_members {ts = ts} s) h = let a = members_aims s h in record { form = a.forms; target = tuple_target ts a.targets (members_some s) }
  row_aim (l.members_and_comma {xs} {ts} s) h =
      let a = members_aims s (natural_front xs (The m.Comma ∷ []) h) in
      record { form = a.forms; target = tuple_target ts a.targets (members_some s) }

  pub targets_aim : {xs : List Sign} {a : Tree} → Targets xs a → AreNatural xs → IsAim a
  targets_aim (l.a_target s) h = target_aim s h
  targets_aim (l.several s) h = let a = members_aims s h in record { form = a.forms; target = a.targets }
  targets_aim (l.some_and_comma {xs} {ts} s) h =
      let a = members_aims s (natural_front xs (The m.Comma ∷ []) h) in
      record { form = a.forms; target = tuple_target ts a.targets (members_some s) }

-- ---- simple statements, wherever they stand

lefts_aims : {xs : List Sign} {ts : Trees} → Lefts xs ts → AreNatural xs → AreAims ts
lefts_aims (l.one_left {xs} s) h = let a = targets_aim s (natural_front xs (The m.Equals ∷ []) h) in record { forms = (a.form, tt); targets = (a.target, tt) }
lefts_aims (l.and_left {xs} {ys} {ts} {a} s r) h =
    let before = lefts_aims s (natural_front xs (ys ++ The m.Equals ∷ []) h) in
    let last = targets_aim r (natural_front ys (The m.Equals ∷ []) (natural_back xs (ys ++ The m.Equals ∷ []) h)) in
    record { forms = push_forms ts a before.forms last.form; targets = push_targets ts a before.targets last.target }

lefts_some : {xs : List Sign} {ts : Trees} → Lefts xs ts → ts ≡ none → ⊥
lefts_some (l.one_left s) e = cc
lefts_some (l.and_left {ts = ts} {a = a} s r) e = some_pushed ts a e

all_whole : (ts : Trees) → AreForms ts → deepest ts ≤ 60 → AreWhole ts
all_whole none h d = tt
all_whole (more a ts) h d = ((h.0, omega arith), all_whole ts h.1 (omega arith))

-- what a statement is but for its place
unfoldable pub IsSimple : Statement → Type 0
IsSimple x = (p : Place) → is_allowed p x ≡ true → IsStatement p x

names_some : {xs : List Sign} {names : List (List ℕ)} → Names xs names → 0 < length names
names_some l.one_name = omega arith
names_some (l.and_name {names = names} s x) = omega (arith, length-append names (x ∷ []))

assign_statement : (p : Place) (ts : Trees) (a : Tree) → AreAims ts → (ts ≡ none → ⊥) → IsForm a → max (deepest ts) (depth a) ≤ 60 → IsStatement p (s.assign ts a)
assign_statement p none a h some f d = absurd (some refl)
assign_statement p (more target ts) a h some f d = (h.targets.0, h.targets.1, all_whole (more target ts) h.forms (omega arith), (f, omega arith))

pub simple_lawful : {xs : List Sign} {x : Statement} → Simple xs x → AreNatural xs → simple_depth x ≤ 60 → IsSimple x
unfolding IsSimple
simple_lawful (l.expression s) h d = λ p e. (spelled_form s h, d)
simple_lawful (l.assignment {xs} {ys} {ts} {a} s r) h d = λ p e.
    assign_statement p ts a (lefts_aims s (natural_front xs ys h)) (lefts_some s) (spelled_form r (natural_back xs ys h)) d
simple_lawful (l.augmented {xs} {ys} {k} q o r) h d = λ p e.
    (place_is q, ((place_aim q (natural_front xs (The k ∷ ys) h)).form, omega arith), (spelled_form r (natural_back xs (The k ∷ ys) h), omega arith))
simple_lawful l.pass h d = λ p e. tt
simple_lawful l.break h d = λ p e. e
simple_lawful l.continue h d = λ p e. e
simple_lawful l.return h d = λ p e. (e, tt)
simple_lawful (l.return_value s) h d = λ p e. (e, (spelled_form s h, d))
simple_lawful l.raise h d = λ p e. tt
simple_lawful (l.raise_value s) h d = λ p e. (spelled_form s h, d)
simple_lawful (l.global s) h d = λ p e. names_some s
simple_lawful (l.nonlocal s) h d = λ p e. names_some s
simple_lawful (l.delete s) h d = λ p e. let a = targets_aim s h in (a.target, (a.form, d))
simple_lawful (l.assert s) h d = λ p e. ((spelled_form s h, omega arith), tt)
simple_lawful (l.assert_message {xs} {ys} s r) h d = λ p e.
    ((spelled_form s (natural_front xs (The m.Comma ∷ ys) h), omega arith), (spelled_form r (natural_back xs (The m.Comma ∷ ys) h), omega arith))

unfoldable pub AreSimple : List Statement → Type 0
AreSimple [] = Unit {0}
AreSimple (x ∷ xs) = IsSimple x × AreSimple xs

simple_append : (xs : List Statement) (x : Statement) → AreSimple xs → IsSimple x → AreSimple (xs ++ x ∷ [])
unfolding AreSimple
simple_append [] x h s = (s, tt)
simple_append (y ∷ xs) x h s = (h.0, simple_append xs x h.1 s)

depth_append : (xs : List Statement) (x : Statement) → simples_depth (xs ++ x ∷ []) ≡ max (simples_depth xs) (simple_depth x)
depth_append [] x = omega arith
depth_append (y ∷ xs) x = let r = depth_append xs x in omega arith

some_lawful : {xs : List Sign} {ss : List Statement} → SomeSimples xs ss → AreNatural xs → simples_depth ss ≤ 60 → AreSimple ss
unfolding AreSimple
some_lawful (l.one_simple s) h d = (simple_lawful s h (omega arith), tt)
some_lawful (l.and_simple {xs} {ys} {x} {before} s r) h d =
    let e = depth_append before x in
    simple_append before x (some_lawful s (natural_front xs (The m.Semicolon ∷ ys) h) (omega arith)) (simple_lawful r (natural_back xs (The m.Semicolon ∷ ys) h) (omega arith))

simples_lawful : {xs : List Sign} {ss : List Statement} → Simples xs ss → AreNatural xs → simples_depth ss ≤ 60 → AreSimple ss
simples_lawful (l.some_simples s) h d = some_lawful s h d
simples_lawful (l.simples_and_semicolon {xs} s) h d = some_lawful s (natural_front xs (The m.Semicolon ∷ []) h) d

-- ---- headers and lines

unfoldable pub IsHeader : Header → Type 0
IsHeader (l.if a) = IsWhole a
IsHeader (l.elif a) = IsWhole a
IsHeader l.else = Unit {0}
IsHeader (l.while a) = IsWhole a
IsHeader (l.for target a) = IsTarget target × IsWhole target × IsWhole a
IsHeader l.try = Unit {0}
IsHeader l.finally = Unit {0}
IsHeader (l.except None x) = x ≡ None
IsHeader (l.except (Some a) x) = IsWhole a
IsHeader (l.define x names defaults) = AreParams names defaults × AreWhole defaults
IsHeader (l.class x base) = IsWholeOrNone base

pub head_lawful : {xs : List Sign} {h : Header} → Heads xs h → AreNatural xs → header_depth h ≤ 60 → IsHeader h
unfolding IsHeader
head_lawful (l.an_if s) n d = (spelled_form s n, d)
head_lawful (l.an_elif s) n d = (spelled_form s n, d)
head_lawful l.an_else n d = tt
head_lawful (l.a_while s) n d = (spelled_form s n, d)
head_lawful (l.a_for {xs} {ys} s r) n d =
    let a = targets_aim s (natural_front xs (The m.In ∷ ys) n) in
    (a.target, (a.form, omega arith), (spelled_form r (natural_back xs (The m.In ∷ ys) n), omega arith))
head_lawful l.a_try n d = tt
head_lawful l.a_finally n d = tt
head_lawful l.an_except n d = refl
head_lawful (l.an_except_of s) n d = (spelled_form s n, d)
head_lawful (l.an_except_as {xs} {x = x} s) n d = (spelled_form s (natural_front xs (The m.As ∷ Name x ∷ []) n), d)
head_lawful (l.a_def {xs = xs} {defaults = ts} p distinct) n d =
    let c = params_forms p (natural_front xs (The m.Close ∷ []) n) in
    ((distinct, c.fewer), all_whole ts c.forms d)
head_lawful l.a_class n d = tt
head_lawful l.a_class_of_none n d = tt
head_lawful (l.a_class_of {xs = xs} s) n d = (spelled_form s (natural_front xs (The m.Close ∷ []) n), d)

unfoldable pub IsLine : Line → Type 0
IsLine (l.simples xs) = AreSimple xs
IsLine (l.header h xs) = IsHeader h × AreSimple xs

pub line_lawful : {xs : List Sign} {x : Line} → SpellsLine xs x → AreNatural xs → line_depth x ≤ 60 → IsLine x
unfolding IsLine AreSimple
line_lawful (l.of_simples s) n d = simples_lawful s n d
line_lawful (l.of_header {xs} s) n d = (head_lawful s (natural_front xs (The m.Colon ∷ []) n) (omega arith), tt)
line_lawful (l.of_header_with {xs} {ys} s r) n d =
    (head_lawful s (natural_front xs (The m.Colon ∷ ys) n) (omega arith), simples_lawful r (natural_back xs (The m.Colon ∷ ys) n) (omega arith))

-- ---- blocks

-- a line within the limit of depth: one deeper counts with statements after a header's colon
unfoldable pub IsShallow : ℕ → Line → Type 0
IsShallow deep (l.simples xs) = deep ≤ 60
IsShallow deep (l.header h []) = deep ≤ 60
IsShallow deep (l.header h (x ∷ xs)) = deep + 1 ≤ 60

unfoldable pub AreLines : List Placed → Type 0
AreLines [] = Unit {0}
AreLines (x ∷ xs) = IsLine x.line × IsShallow x.deep x.line × AreLines xs

lines_front : (xs ys : List Placed) → AreLines (xs ++ ys) → AreLines xs
unfolding AreLines
lines_front [] ys h = tt
lines_front (x ∷ xs) ys h = (h.0, h.1, lines_front xs ys h.2)

lines_back : (xs ys : List Placed) → AreLines (xs ++ ys) → AreLines ys
unfolding AreLines
lines_back [] ys h = h
lines_back (x ∷ xs) ys h = lines_back xs ys h.2

shallow_head : (deep : ℕ) (h : Header) (xs : List Statement) → IsShallow deep (l.header h xs) → deep ≤ 60
unfolding IsShallow
shallow_head deep h [] d = d
shallow_head deep h (x ∷ xs) d = omega arith

put_lawful : (p : Place) (xs : List Statement) (b : Block) → p.deep ≤ 60 → AreAllowed p xs → AreSimple xs → IsBlock p b → IsBlock p (put xs b)
unfolding AreSimple IsSimple
put_lawful p [] b d e h r = r
put_lawful p (x ∷ xs) b d e h r = (d, h.0 p e.0, put_lawful p xs b d e.1 h.1 r)

clause_last : (class : Option Tree) (x : Option (List ℕ)) → IsHeader (l.except class x) → IsClause class x no_handlers
unfolding IsHeader
clause_last None None h = tt
clause_last None (Some x) h = cc
clause_last (Some c) x h = h

excepts_try : {p : Place} {lines : List Placed} {hs : Handlers} {otherwise finally : Block} → Excepts p lines hs otherwise finally → IsTry hs otherwise finally
excepts_try (b.a_last s e) = tt
excepts_try (b.an_earlier s e) = tt

pub record IsBody (p : Place) (body : Block) : Type 0 where
  pub some : IsSome body
  pub block : IsBlock p body

mutual
  unfolding AreLines IsLine AreSimple IsSimple IsShallow IsHeader

  pub stands_lawful : {p : Place} {lines : List Placed} {body : Block} → Stands p lines body → AreLines lines → IsBlock p body
  stands_lawful b.nothing h = tt
  stands_lawful (b.simples {p} {x} {xs} {lines} {b = rest} e s) h =
      (h.1, h.0.0 p e.0, put_lawful p xs rest h.1 e.1 h.0.1 (stands_lawful s h.2))
  stands_lawful (b.compound {lines = lines} {more = behind} c s) h =
      let front = lines_front lines behind h in
      (compound_deep c front, compound_lawful c front, stands_lawful s (lines_back lines behind h))

  -- the block of a header with its line
  suite_lawful : {q : Place} {xs : List Statement} {lines : List Placed} {body : Block} → Suite q xs lines body → (p : Place) (h : Header) (behind : List Placed)
      → q.deep ≡ p.deep + 1 → AreLines (head p h xs ∷ lines ++ behind) → IsBody q body
  suite_lawful {q} (b.beside {x = x} {xs = xs} e) p h behind d n =
      record { some = tt; block = (omega arith, n.0.1.0 q e.0, put_lawful q xs empty (omega arith) e.1 n.0.1.1 tt) }
  suite_lawful (b.below {lines = lines} s) p h behind d n = record { some = tt; block = stands_lawful s (lines_front lines behind n.2) }

  compound_deep : {p : Place} {lines : List Placed} {x : Statement} → Compound p lines x → AreLines lines → p.deep ≤ 60
  compound_deep (b.an_if {p} {test} {xs} s e) h = shallow_head p.deep (l.if test) xs h.1
  compound_deep (b.a_while {p} {test} {xs} s e) h = shallow_head p.deep (l.while test) xs h.1
  compound_deep (b.a_for {p} {target} {a} {xs} s e) h = shallow_head p.deep (l.for target a) xs h.1
  compound_deep (b.a_try {p} {xs} s e) h = shallow_head p.deep (l.try) xs h.1
  compound_deep (b.a_def {p} {x} {names} {defaults} {xs} s) h = shallow_head p.deep (l.define x names defaults) xs h.1
  compound_deep (b.a_class {p} {x} {base} {xs} s) h = shallow_head p.deep (l.class x base) xs h.1

  compound_lawful : {p : Place} {lines : List Placed} {x : Statement} → Compound p lines x → AreLines lines → IsStatement p x
  compound_lawful (b.an_if {p} {test} {lines = lines} {more = behind} s e) h =
      let body = suite_lawful s p (l.if test) behind refl h in
      let rest = elifs_lawful e (lines_back lines behind h.2) in
      (h.0.0, body.some, body.block, rest.0, rest.1)
  compound_lawful (b.a_while {p} {test} {lines = lines} {more = behind} s e) h =
      let body = suite_lawful s p (l.while test) behind refl h in
      (h.0.0, body.some, body.block, else_lawful e (lines_back lines behind h.2))
  compound_lawful (b.a_for {p} {target} {a} {lines = lines} {more = behind} s e) h =
      let body = suite_lawful s p (l.for target a) behind refl h in
      let aim = h.0.0 in
      (aim.0, aim.1, aim.2, body.some, body.block, else_lawful e (lines_back lines behind h.2))
  compound_lawful (b.a_try {p} {lines = lines} {more = behind} s e) h =
      let body = suite_lawful s p l.try behind refl h in
      let rest = handled_lawful e (lines_back lines behind h.2) in
      (rest.0, body.some, body.block, rest.1, rest.2, rest.3)
  compound_lawful (b.a_def {p} {x} {names} {defaults} {xs} {lines} s) h =
      let body = suite_lawful s p (l.define x names defaults) [] refl (subst (λ z. AreLines (head p (l.define x names defaults) xs ∷ z)) (sym (append-nil lines)) h) in
      let parts = h.0.0 in
      (parts.0, parts.1, body.some, body.block)
  compound_lawful (b.a_class {p} {x} {base} {xs} {lines} s) h =
      let body = suite_lawful s p (l.class x base) [] refl (subst (λ z. AreLines (head p (l.class x base) xs ∷ z)) (sym (append-nil lines)) h) in
      (h.0.0, body.some, body.block)

  elifs_lawful : {p : Place} {lines : List Placed} {bs : Branches} {otherwise : Block} → Elifs p lines bs otherwise → AreLines lines → AreBranches p bs × IsBlock (inner p) otherwise
  elifs_lawful (b.no_elif e) h = (tt, else_lawful e h)
  elifs_lawful (b.an_elif {p} {test} {lines = lines} {more = behind} s e) h =
      let body = suite_lawful s p (l.elif test) behind refl h in
      let rest = elifs_lawful e (lines_back lines behind h.2) in
      ((h.0.0, body.some, body.block, rest.0), rest.1)

  else_lawful : {p : Place} {lines : List Placed} {body : Block} → Else p lines body → AreLines lines → IsBlock (inner p) body
  else_lawful b.no_else h = tt
  else_lawful (b.an_else {p} {xs} {lines} s) h =
      (suite_lawful s p l.else [] refl (subst (λ z. AreLines (head p l.else xs ∷ z)) (sym (append-nil lines)) h)).block

  handled_lawful : {p : Place} {lines : List Placed} {hs : Handlers} {otherwise finally : Block} → Handled p lines hs otherwise finally → AreLines lines
      → IsTry hs otherwise finally × AreHandlers p hs × IsBlock (inner p) otherwise × IsBlock (inner p) finally
  handled_lawful (b.by_finally {p} {xs} {lines} s) h =
      let body = suite_lawful s p l.finally [] refl (subst (λ z. AreLines (head p l.finally xs ∷ z)) (sym (append-nil lines)) h) in
      (body.some, tt, tt, body.block)
  handled_lawful (b.by_except e) h = let rest = excepts_lawful e h in (excepts_try e, rest.0, rest.1, rest.2)

  excepts_lawful : {p : Place} {lines : List Placed} {hs : Handlers} {otherwise finally : Block} → Excepts p lines hs otherwise finally → AreLines lines
      → AreHandlers p hs × IsBlock (inner p) otherwise × IsBlock (inner p) finally
  excepts_lawful (b.a_last {p} {class} {x} {lines = lines} {more = behind} s e) h =
      let body = suite_lawful s p (l.except class x) behind refl h in
      let rest = else_finally_lawful e (lines_back lines behind h.2) in
      ((clause_last class x (h.0.0), body.some, body.block, tt), rest.0, rest.1)
  excepts_lawful (b.an_earlier {p} {class} {x} {lines = lines} {more = behind} s e) h =
      let body = suite_lawful s p (l.except (Some class) x) behind refl h in
      let rest = excepts_lawful e (lines_back lines behind h.2) in
      ((h.0.0, body.some, body.block, rest.0), rest.1, rest.2)

  else_finally_lawful : {p : Place} {lines : List Placed} {otherwise finally : Block} → ElseFinally p lines otherwise finally → AreLines lines
      → IsBlock (inner p) otherwise × IsBlock (inner p) finally
  else_finally_lawful (b.without_else f) h = (tt, finally_lawful f h)
  else_finally_lawful (b.with_else {p} {lines = lines} {more = behind} s f) h =
      ((suite_lawful s p l.else behind refl h).block, finally_lawful f (lines_back lines behind h.2))

  finally_lawful : {p : Place} {lines : List Placed} {body : Block} → Finally p lines body → AreLines lines → IsBlock (inner p) body
  finally_lawful b.no_finally h = tt
  finally_lawful (b.a_finally {p} {xs} {lines} s) h =
      (suite_lawful s p l.finally [] refl (subst (λ z. AreLines (head p l.finally xs ∷ z)) (sym (append-nil lines)) h)).block
