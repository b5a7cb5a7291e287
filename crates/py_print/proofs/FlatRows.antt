-- However the statements of a block are put on lines, they are the same in their order, with the same headers.
use Rattle.std.proofs.Common.{◌≡◌, ℕ, ℤ, ◌+◌, List, [], ◌∷◌, ◌++◌, map, Some, refl, sym, ap, ◌∙◌, append_assoc}
use Rattle.std.specs.List.{AllByRecursion}
use Rattle.std.proofs.lemmas.List.{map-append}
use Rattle.py_ast.specs.Statement as s
use Rattle.py_ast.specs.Statement.{Statement, Block, empty, Branches, Handlers}
use Rattle.py_ast.specs.Lawful.{Place}
use Rattle.py_grammar.specs.Line as l
use Rattle.py_grammar.specs.Line.{Simple, SomeSimples, Simples, Header, Line, SpellsLine}
use Rattle.py_grammar.specs.Blocks as blocks
use Rattle.py_grammar.specs.Blocks.{Placed, put, Stands, Suite, Compound, Elifs, Else, Handled, Excepts, ElseFinally, Finally}
use Rattle.py_grammar.specs.declared.sign.Sign.{Sign}
use Rattle.py_print.specs.Printed.{Row, simple, header, PrintedLine, simple_at, if_there, lines_of, statement, tests, catches}
use Rattle.py_print.proofs.LineLaws.{IsPlain}
use Rattle.py_print.proofs.Rows.{every_append}

pub every_front : {X : Type 0} (P : X → Type 0) (xs ys : List X) → AllByRecursion P (xs ++ ys) → AllByRecursion P xs
every_front P [] ys h = tt
every_front P (x ∷ xs) ys h = (h.0, every_front P xs ys h.1)

pub every_back : {X : Type 0} (P : X → Type 0) (xs ys : List X) → AllByRecursion P (xs ++ ys) → AllByRecursion P ys
every_back P [] ys h = h
every_back P (x ∷ xs) ys h = every_back P xs ys h.1

-- ---- rows

abbrev pub row : PrintedLine → Row
row x = x.row

abbrev pub rows : List PrintedLine → List Row
rows xs = map row xs

abbrev pub flat_line : Line → List Row
flat_line (l.simples xs) = map simple xs
flat_line (l.header h xs) = header h ∷ map simple xs

abbrev pub flat : List Placed → List Row
flat [] = []
flat (x ∷ xs) = flat_line x.line ++ flat xs

flat_append : (xs ys : List Placed) → flat (xs ++ ys) ≡ flat xs ++ flat ys
flat_append [] ys = refl
flat_append (x ∷ xs) ys = ap (λ z. flat_line x.line ++ z) (flat_append xs ys) ∙ sym (append_assoc (flat_line x.line) (flat xs) (flat ys))

rows_append : (xs ys : List PrintedLine) → rows (xs ++ ys) ≡ rows xs ++ rows ys
rows_append xs ys = map-append row xs ys

-- the statements of a line have no blocks
abbrev pub IsPlainLine : Line → Type 0
IsPlainLine (l.simples xs) = AllByRecursion IsPlain xs
IsPlainLine (l.header h xs) = AllByRecursion IsPlain xs

abbrev pub ArePlain : List Placed → Type 0
ArePlain xs = AllByRecursion (λ (x : Placed). IsPlainLine x.line) xs

simple_plain : {xs : List Sign} {x : Statement} → Simple xs x → IsPlain x
simple_plain (l.expression s) = tt
simple_plain (l.assignment s r) = tt
simple_plain (l.augmented q o r) = tt
simple_plain l.pass = tt
simple_plain l.break = tt
simple_plain l.continue = tt
simple_plain l.return = tt
simple_plain (l.return_value s) = tt
simple_plain l.raise = tt
simple_plain (l.raise_value s) = tt
simple_plain (l.global s) = tt
simple_plain (l.nonlocal s) = tt
simple_plain (l.delete s) = tt
simple_plain (l.assert s) = tt
simple_plain (l.assert_message s r) = tt

some_plain : {xs : List Sign} {ss : List Statement} → SomeSimples xs ss → AllByRecursion IsPlain ss
some_plain (l.one_simple s) = (simple_plain s, tt)
some_plain (l.and_simple {x = x} {before = before} s r) = every_append IsPlain before (x ∷ []) (some_plain s) (simple_plain r, tt)

simples_plain : {xs : List Sign} {ss : List Statement} → Simples xs ss → AllByRecursion IsPlain ss
simples_plain (l.some_simples s) = some_plain s
simples_plain (l.simples_and_semicolon s) = some_plain s

pub line_plain : {xs : List Sign} {x : Line} → SpellsLine xs x → IsPlainLine x
line_plain (l.of_simples s) = simples_plain s
line_plain (l.of_header s) = tt
line_plain (l.of_header_with s r) = simples_plain r

-- ---- simple statements

statement_plain : (deep : ℕ) (x : Statement) → IsPlain x → statement deep x ≡ simple_at deep x
statement_plain deep (s.expression a) h = refl
statement_plain deep (s.assign ts a) h = refl
statement_plain deep (s.augment p o a) h = refl
statement_plain deep s.pass h = refl
statement_plain deep s.break h = refl
statement_plain deep s.continue h = refl
statement_plain deep (s.return a) h = refl
statement_plain deep (s.raise a) h = refl
statement_plain deep (s.global xs) h = refl
statement_plain deep (s.nonlocal xs) h = refl
statement_plain deep (s.delete a) h = refl
statement_plain deep (s.assert a message) h = refl
statement_plain deep _ h = absurd h

put_rows : (deep : ℕ) (xs : List Statement) (b : Block) → AllByRecursion IsPlain xs → rows (lines_of deep (put xs b)) ≡ map simple xs ++ rows (lines_of deep b)
put_rows deep [] b h = refl
put_rows deep (x ∷ xs) b h =
    ap (λ z. rows (z ++ lines_of deep (put xs b))) (statement_plain deep x h.0) ∙ ap (λ z. simple x ∷ z) (put_rows deep xs b h.1)

-- ---- headers with their blocks

-- the rest of a header's line, the lines of its block, and those behind
behind : (xs : List Statement) (lines more : List Placed) (body rest : List PrintedLine) → map simple xs ++ flat lines ≡ rows body → flat more ≡ rows rest
    → map simple xs ++ flat (lines ++ more) ≡ rows (body ++ rest)
behind xs lines more body rest e f =
    ap (λ z. map simple xs ++ z) (flat_append lines more)
    ∙ sym (append_assoc (map simple xs) (flat lines) (flat more))
    ∙ ap (λ z. z ++ flat more) e
    ∙ ap (λ z. rows body ++ z) f
    ∙ sym (rows_append body rest)

behind_two : (xs : List Statement) (lines more : List Placed) (body next rest : List PrintedLine) → map simple xs ++ flat lines ≡ rows body → flat more ≡ rows (next ++ rest)
    → map simple xs ++ flat (lines ++ more) ≡ rows ((body ++ next) ++ rest)
behind_two xs lines more body next rest e f = behind xs lines more body (next ++ rest) e f ∙ ap rows (sym (append_assoc body next rest))

there : {q : Place} {xs : List Statement} {lines : List Placed} {body : Block} (deep : ℕ) (h : Header) (ls : List PrintedLine) → Suite q xs lines body
    → rows (if_there deep h body ls) ≡ header h ∷ rows ls
there deep h ls (blocks.beside e) = refl
there deep h ls (blocks.below s) = refl

there_on : {q : Place} {xs : List Statement} {lines : List Placed} {body : Block} (deep : ℕ) (h : Header) (ls more : List PrintedLine) → Suite q xs lines body
    → header h ∷ rows (ls ++ more) ≡ rows (if_there deep h body ls ++ more)
there_on deep h ls more (blocks.beside e) = refl
there_on deep h ls more (blocks.below s) = refl

mutual
  stands_flat : {p : Place} {lines : List Placed} {b : Block} → Stands p lines b → ArePlain lines → flat lines ≡ rows (lines_of p.deep b)
  stands_flat blocks.nothing h = refl
  stands_flat (blocks.simples {p} {x} {xs} {lines} {b} e k) h =
      ap (λ z. map simple (x ∷ xs) ++ z) (stands_flat k h.1) ∙ sym (put_rows p.deep (x ∷ xs) b h.0)
  stands_flat (blocks.compound {p} {x} {lines} {more} {b} c k) h =
      flat_append lines more
      ∙ ap (λ z. z ++ flat more) (compound_flat c (every_front (λ (x : Placed). IsPlainLine x.line) lines more h))
      ∙ ap (λ z. rows (statement p.deep x) ++ z) (stands_flat k (every_back (λ (x : Placed). IsPlainLine x.line) lines more h))
      ∙ sym (rows_append (statement p.deep x) (lines_of p.deep b))

  suite_flat : {q : Place} {xs : List Statement} {lines : List Placed} {body : Block} → Suite q xs lines body → AllByRecursion IsPlain xs → ArePlain lines
      → map simple xs ++ flat lines ≡ rows (lines_of q.deep body)
  suite_flat (blocks.beside {p} {x} {xs} e) k h = sym (put_rows p.deep (x ∷ xs) empty k)
  suite_flat (blocks.below k) n h = stands_flat k h

  compound_flat : {p : Place} {lines : List Placed} {x : Statement} → Compound p lines x → ArePlain lines → flat lines ≡ rows (statement p.deep x)
  compound_flat (blocks.an_if {p} {test} {xs} {lines} {more} {body} {otherwise} {branches} k e) h =
      ap (λ z. header (l.if test) ∷ z)
      (behind_two xs lines more (lines_of (p.deep + 1) body) (tests l.elif p.deep branches) (if_there p.deep l.else otherwise (lines_of (p.deep + 1) otherwise))
      (suite_flat k h.0 (every_front (λ (x : Placed). IsPlainLine x.line) lines more h.1))
      (elifs_flat e (every_back (λ (x : Placed). IsPlainLine x.line) lines more h.1)))
  compound_flat (blocks.a_while {p} {test} {xs} {lines} {more} {body} {otherwise} k e) h =
      ap (λ z. header (l.while test) ∷ z)
      (behind xs lines more (lines_of (p.deep + 1) body) (if_there p.deep l.else otherwise (lines_of (p.deep + 1) otherwise))
      (suite_flat k h.0 (every_front (λ (x : Placed). IsPlainLine x.line) lines more h.1))
      (else_flat e (every_back (λ (x : Placed). IsPlainLine x.line) lines more h.1)))
  compound_flat (blocks.a_for {p} {target} {a} {xs} {lines} {more} {body} {otherwise} k e) h =
      ap (λ z. header (l.for target a) ∷ z)
      (behind xs lines more (lines_of (p.deep + 1) body) (if_there p.deep l.else otherwise (lines_of (p.deep + 1) otherwise))
      (suite_flat k h.0 (every_front (λ (x : Placed). IsPlainLine x.line) lines more h.1))
      (else_flat e (every_back (λ (x : Placed). IsPlainLine x.line) lines more h.1)))
  compound_flat (blocks.a_try {p} {xs} {lines} {more} {body} {otherwise} {finally} {handlers} k e) h =
      ap (λ z. header l.try ∷ z)
      (behind xs lines more (lines_of (p.deep + 1) body)
      (catches p.deep handlers ++ (if_there p.deep l.else otherwise (lines_of (p.deep + 1) otherwise) ++ if_there p.deep l.finally finally (lines_of (p.deep + 1) finally)))
      (suite_flat k h.0 (every_front (λ (x : Placed). IsPlainLine x.line) lines more h.1))
      (handled_flat e (every_back (λ (x : Placed). IsPlainLine x.line) lines more h.1)))
  compound_flat (blocks.a_def {x = x} {names = names} {defaults = defaults} k) h = ap (λ z. header (l.define x names defaults) ∷ z) (suite_flat k h.0 h.1)
  compound_flat (blocks.a_class {x = x} {base = base} k) h = ap (λ z. header (l.class x base) ∷ z) (suite_flat k h.0 h.1)

  elifs_flat : {p : Place} {lines : List Placed} {bs : Branches} {otherwise : Block} → Elifs p lines bs otherwise → ArePlain lines
      → flat lines ≡ rows (tests l.elif p.deep bs ++ if_there p.deep l.else otherwise (lines_of (p.deep + 1) otherwise))
  elifs_flat (blocks.no_elif e) h = else_flat e h
  elifs_flat (blocks.an_elif {p} {test} {xs} {lines} {more} {body} {otherwise} {branches} k e) h =
      ap (λ z. header (l.elif test) ∷ z)
      (behind_two xs lines more (lines_of (p.deep + 1) body) (tests l.elif p.deep branches) (if_there p.deep l.else otherwise (lines_of (p.deep + 1) otherwise))
      (suite_flat k h.0 (every_front (λ (x : Placed). IsPlainLine x.line) lines more h.1))
      (elifs_flat e (every_back (λ (x : Placed). IsPlainLine x.line) lines more h.1)))

  else_flat : {p : Place} {lines : List Placed} {b : Block} → Else p lines b → ArePlain lines → flat lines ≡ rows (if_there p.deep l.else b (lines_of (p.deep + 1) b))
  else_flat blocks.no_else h = refl
  else_flat (blocks.an_else {p} {xs} {lines} {body} k) h =
      ap (λ z. header l.else ∷ z) (suite_flat k h.0 h.1) ∙ sym (there p.deep l.else (lines_of (p.deep + 1) body) k)

  handled_flat : {p : Place} {lines : List Placed} {hs : Handlers} {otherwise finally : Block} → Handled p lines hs otherwise finally → ArePlain lines
      → flat lines ≡ rows (catches p.deep hs ++ (if_there p.deep l.else otherwise (lines_of (p.deep + 1) otherwise) ++ if_there p.deep l.finally finally (lines_of (p.deep + 1) finally)))
  handled_flat (blocks.by_finally {p} {xs} {lines} {body} k) h =
      ap (λ z. header l.finally ∷ z) (suite_flat k h.0 h.1) ∙ sym (there p.deep l.finally (lines_of (p.deep + 1) body) k)
  handled_flat (blocks.by_except e) h = excepts_flat e h

  excepts_flat : {p : Place} {lines : List Placed} {hs : Handlers} {otherwise finally : Block} → Excepts p lines hs otherwise finally → ArePlain lines
      → flat lines ≡ rows (catches p.deep hs ++ (if_there p.deep l.else otherwise (lines_of (p.deep + 1) otherwise) ++ if_there p.deep l.finally finally (lines_of (p.deep + 1) finally)))
  excepts_flat (blocks.a_last {p} {class} {x} {xs} {lines} {more} {body} {otherwise} {finally} k e) h =
      ap (λ z. header (l.except class x) ∷ z)
      (behind_two xs lines more (lines_of (p.deep + 1) body) []
      (if_there p.deep l.else otherwise (lines_of (p.deep + 1) otherwise) ++ if_there p.deep l.finally finally (lines_of (p.deep + 1) finally))
      (suite_flat k h.0 (every_front (λ (x : Placed). IsPlainLine x.line) lines more h.1))
      (else_finally_flat e (every_back (λ (x : Placed). IsPlainLine x.line) lines more h.1)))
  excepts_flat (blocks.an_earlier {p} {class} {x} {xs} {lines} {more} {body} {otherwise} {finally} {handlers} k e) h =
      ap (λ z. header (l.except (Some class) x) ∷ z)
      (behind_two xs lines more (lines_of (p.deep + 1) body) (catches p.deep handlers)
      (if_there p.deep l.else otherwise (lines_of (p.deep + 1) otherwise) ++ if_there p.deep l.finally finally (lines_of (p.deep + 1) finally))
      (suite_flat k h.0 (every_front (λ (x : Placed). IsPlainLine x.line) lines more h.1))
      (excepts_flat e (every_back (λ (x : Placed). IsPlainLine x.line) lines more h.1)))

  else_finally_flat : {p : Place} {lines : List Placed} {otherwise finally : Block} → ElseFinally p lines otherwise finally → ArePlain lines
      → flat lines ≡ rows (if_there p.deep l.else otherwise (lines_of (p.deep + 1) otherwise) ++ if_there p.deep l.finally finally (lines_of (p.deep + 1) finally))
  else_finally_flat (blocks.without_else f) h = finally_flat f h
  else_finally_flat (blocks.with_else {p} {xs} {lines} {more} {body} {finally} k f) h =
      ap (λ z. header l.else ∷ z)
      (behind xs lines more (lines_of (p.deep + 1) body) (if_there p.deep l.finally finally (lines_of (p.deep + 1) finally))
      (suite_flat k h.0 (every_front (λ (x : Placed). IsPlainLine x.line) lines more h.1))
      (finally_flat f (every_back (λ (x : Placed). IsPlainLine x.line) lines more h.1)))
      ∙ there_on p.deep l.else (lines_of (p.deep + 1) body) (if_there p.deep l.finally finally (lines_of (p.deep + 1) finally)) k

  finally_flat : {p : Place} {lines : List Placed} {b : Block} → Finally p lines b → ArePlain lines → flat lines ≡ rows (if_there p.deep l.finally b (lines_of (p.deep + 1) b))
  finally_flat blocks.no_finally h = refl
  finally_flat (blocks.a_finally {p} {xs} {lines} {body} k) h =
      ap (λ z. header l.finally ∷ z) (suite_flat k h.0 h.1) ∙ sym (there p.deep l.finally (lines_of (p.deep + 1) body) k)

pub block_flat : {p : Place} {lines : List Placed} {b : Block} → Stands p lines b → ArePlain lines → flat lines ≡ rows (lines_of p.deep b)
block_flat k h = stands_flat k h
