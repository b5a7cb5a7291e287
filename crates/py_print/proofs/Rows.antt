-- The lines of a lawful block are lawful, and what stands on each spells it.
use Rattle.std.proofs.Common.{◌≡◌, ℕ, ◌+◌, ◌≤◌, List, [], ◌∷◌, ◌++◌, Option, Some, None, refl, sym, subst}
use Rattle.std.specs.List.{AllByRecursion}
use Rattle.py_ast.specs.Tree.{Tree}
use Rattle.py_ast.specs.Statement as s
use Rattle.py_ast.specs.Statement.{Statement, Block, empty, then, Branches, no_branches, branch, Handlers, no_handlers, handler}
use Rattle.py_ast.specs.Lawful.{Place, inner, loop_body, def_body, class_body, IsClause, IsStatement, IsBlock, AreBranches, AreHandlers}
use Rattle.py_grammar.specs.Grammar as g
use Rattle.py_grammar.specs.Line as l
use Rattle.py_grammar.specs.Line.{Header}
use Rattle.py_grammar.specs.declared.mark.Mark.TheVariants as m
use Rattle.py_grammar.proofs.LawfulBlocks.{IsHeader}
use Rattle.py_print.specs.Lines as lines
use Rattle.py_print.specs.Printed.{Row, simple, header, PrintedLine, head_at, if_there, lines_of, statement, tests, catches}
use Rattle.py_print.specs.Spelled.{IsSpelled, AreSpelled}
use Rattle.py_print.proofs.SignsIn.{signs_behind}
use Rattle.py_print.proofs.LineLaws.{IsPlain, simple_spelled, header_spelled}

pub every_append : {X : Type 0} (P : X → Type 0) (xs ys : List X) → AllByRecursion P xs → AllByRecursion P ys → AllByRecursion P (xs ++ ys)
every_append P [] ys h k = k
every_append P (x ∷ xs) ys h k = (h.0, every_append P xs ys h.1 k)

pub every_weaker : {X : Type 0} (P Q : X → Type 0) (xs : List X) → ((x : X) → P x → Q x) → AllByRecursion P xs → AllByRecursion Q xs
every_weaker P Q [] f h = tt
every_weaker P Q (x ∷ xs) f h = (f x h.0, every_weaker P Q xs f h.1)

-- a simple statement that is lawful at a place, or a lawful header
abbrev pub IsRow : Row → Type 0
IsRow (simple x) = (p : Place) × IsStatement p x × IsPlain x
IsRow (header h) = IsHeader h

abbrev pub IsLawfulLine : PrintedLine → Type 0
IsLawfulLine x = IsRow x.row × (x.deep ≤ 60)

abbrev pub AreLawful : List PrintedLine → Type 0
AreLawful xs = AllByRecursion IsLawfulLine xs

clause_header : (class : Option Tree) (x : Option (List ℕ)) (later : Handlers) → IsClause class x later → IsHeader (l.except class x)
unfolding IsHeader
clause_header (Some c) x later h = h
clause_header None (Some x) later h = absurd h
clause_header None None later h = refl

mutual
  unfolding IsHeader

  pub block_rows : (p : Place) (b : Block) → IsBlock p b → AreLawful (lines_of p.deep b)
  block_rows p empty h = tt
  block_rows p (then x b) h =
      every_append IsLawfulLine (statement p.deep x) (lines_of p.deep b) (statement_rows p x h.1 h.0) (block_rows p b h.2)

  -- a block that may be missing, whose depth is that of its own lines
  there_rows : (p : Place) (h : Header) (b : Block) → IsHeader h → p.deep ≤ 60 → IsBlock (inner p) b → AreLawful (if_there p.deep h b (lines_of (p.deep + 1) b))
  there_rows p h empty k d r = tt
  there_rows p h (then x b) k d r =
      ((k, d), every_append IsLawfulLine (statement (p.deep + 1) x) (lines_of (p.deep + 1) b) (statement_rows (inner p) x r.1 r.0) (block_rows (inner p) b r.2))

  statement_rows : (p : Place) (x : Statement) → IsStatement p x → p.deep ≤ 60 → AreLawful (statement p.deep x)
  statement_rows p (s.choose no_branches otherwise) h d = absurd h
  statement_rows p (s.choose (branch test body branches) otherwise) h d =
      every_append IsLawfulLine (tests l.if p.deep (branch test body branches)) (if_there p.deep l.else otherwise (lines_of (p.deep + 1) otherwise))
      ((h.0, d), every_append IsLawfulLine (lines_of (p.deep + 1) body) (tests l.elif p.deep branches) (block_rows (inner p) body h.2) (elif_rows p branches h.3 d))
      (there_rows p l.else otherwise tt d h.4)
  statement_rows p (s.while test body otherwise) h d =
      every_append IsLawfulLine (head_at p.deep (l.while test) (lines_of (p.deep + 1) body)) (if_there p.deep l.else otherwise (lines_of (p.deep + 1) otherwise))
      ((h.0, d), block_rows (loop_body p) body h.2) (there_rows p l.else otherwise tt d h.3)
  statement_rows p (s.for target a body otherwise) h d =
      every_append IsLawfulLine (head_at p.deep (l.for target a) (lines_of (p.deep + 1) body)) (if_there p.deep l.else otherwise (lines_of (p.deep + 1) otherwise))
      (((h.0, h.1, h.2), d), block_rows (loop_body p) body h.4) (there_rows p l.else otherwise tt d h.5)
  statement_rows p (s.try body handlers otherwise finally) h d =
      let last = if_there p.deep l.finally finally (lines_of (p.deep + 1) finally) in
      let second = if_there p.deep l.else otherwise (lines_of (p.deep + 1) otherwise) in
      every_append IsLawfulLine (head_at p.deep l.try (lines_of (p.deep + 1) body)) (catches p.deep handlers ++ (second ++ last))
      ((tt, d), block_rows (inner p) body h.2)
      (every_append IsLawfulLine (catches p.deep handlers) (second ++ last) (catch_rows p handlers h.3 d)
      (every_append IsLawfulLine second last (there_rows p l.else otherwise tt d h.4) (there_rows p l.finally finally tt d h.5)))
  statement_rows p (s.define x names defaults body) h d = (((h.0, h.1), d), block_rows (def_body p) body h.3)
  statement_rows p (s.class x base body) h d = ((h.0, d), block_rows (class_body p) body h.2)
  statement_rows p (s.expression a) h d = (((p, h, tt), d), tt)
  statement_rows p (s.assign ts a) h d = (((p, h, tt), d), tt)
  statement_rows p (s.augment place o a) h d = (((p, h, tt), d), tt)
  statement_rows p s.pass h d = (((p, h, tt), d), tt)
  statement_rows p s.break h d = (((p, h, tt), d), tt)
  statement_rows p s.continue h d = (((p, h, tt), d), tt)
  statement_rows p (s.return a) h d = (((p, h, tt), d), tt)
  statement_rows p (s.raise a) h d = (((p, h, tt), d), tt)
  statement_rows p (s.global xs) h d = (((p, h, tt), d), tt)
  statement_rows p (s.nonlocal xs) h d = (((p, h, tt), d), tt)
  statement_rows p (s.delete target) h d = (((p, h, tt), d), tt)
  statement_rows p (s.assert a message) h d = (((p, h, tt), d), tt)

  elif_rows : (p : Place) (bs : Branches) → AreBranches p bs → p.deep ≤ 60 → AreLawful (tests l.elif p.deep bs)
  elif_rows p no_branches h d = tt
  elif_rows p (branch test body bs) h d =
      ((h.0, d), every_append IsLawfulLine (lines_of (p.deep + 1) body) (tests l.elif p.deep bs) (block_rows (inner p) body h.2) (elif_rows p bs h.3 d))

  catch_rows : (p : Place) (hs : Handlers) → AreHandlers p hs → p.deep ≤ 60 → AreLawful (catches p.deep hs)
  catch_rows p no_handlers h d = tt
  catch_rows p (handler class x body hs) h d =
      ((clause_header class x hs h.0, d), every_append IsLawfulLine (lines_of (p.deep + 1) body) (catches p.deep hs) (block_rows (inner p) body h.2) (catch_rows p hs h.3 d))

-- ---- what stands on a lawful line

pub row_spelled : (r : Row) → IsRow r → IsSpelled r
row_spelled (simple x) h = l.of_simples (l.some_simples (l.one_simple (simple_spelled h.0 x h.1 h.2)))
row_spelled (header k) h = subst (λ z. l.SpellsLine z (l.header k [])) (sym (signs_behind m.Colon (lines.header k))) (l.of_header (header_spelled k h))

pub lines_spelled : (p : Place) (b : Block) → IsBlock p b → AreSpelled (lines_of p.deep b)
lines_spelled p b h = every_weaker IsLawfulLine (λ x. IsSpelled x.row) (lines_of p.deep b) (λ x k. row_spelled x.row k.0) (block_rows p b h)
