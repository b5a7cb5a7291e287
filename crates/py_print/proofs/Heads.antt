-- Each printed line begins with a sign.
use Rattle.std.proofs.Common.{◌≡◌, ℕ, ◌+◌, ◌<◌, List, [], ◌∷◌, ◌++◌, Bool, true, false, nat_le, if◌then◌else◌, Some, None, refl, ◌∙◌, arith}
use Rattle.py_ast.specs.Tree as t
use Rattle.py_ast.specs.Tree.{Tree, Trees, none, more}
use Rattle.py_ast.specs.Statement as s
use Rattle.py_ast.specs.Statement.{Statement}
use Rattle.py_ast.specs.Lawful.{count, IsForm, AreForms, Place, IsStatement}
use Rattle.py_ast.specs.declared.expr.CompareOp.{CompareOp}
use Rattle.py_grammar.specs.Grammar.{Level, Primary, Sum, And, Or}
use Rattle.py_grammar.specs.Line as l
use Rattle.py_grammar.specs.Line.{Header}
use Rattle.py_grammar.specs.declared.mark.Mark.TheVariants as m
use Rattle.py_print.specs.Pieces.{Piece, sign, space, mark, name, in_parens, in_squares, between, commas}
use Rattle.py_print.specs.Expressions.{rank, level_of, at, left_place, is_number, before_dot, compared_on, compared, printed, members, operands}
use Rattle.py_print.specs.Lines as lines
use Rattle.py_print.specs.Lines.{lefts, augmented}
use Rattle.py_print.specs.Printed.{Row, simple, header, pieces}
use Rattle.py_print.proofs.LineLaws.{IsPlain}
use Rattle.py_print.proofs.Rows.{IsRow}

abbrev pub is_headed : List Piece → Bool
is_headed [] = false
is_headed (space ∷ ps) = false
is_headed (sign s ∷ ps) = true

headed_on : (ps qs : List Piece) → is_headed ps ≡ true → is_headed (ps ++ qs) ≡ true
headed_on [] qs h = cc
headed_on (space ∷ ps) qs h = cc
headed_on (sign s ∷ ps) qs h = refl

if_headed : (v : Bool) (ps : List Piece) → is_headed ps ≡ true → is_headed (if v then ps else in_parens ps) ≡ true
if_headed true ps h = h
if_headed false ps h = refl

at_headed : (l : Level) (a : Tree) → is_headed (printed a) ≡ true → is_headed (at l a (printed a)) ≡ true
at_headed l a h = if_headed (nat_le (rank (level_of a)) (rank l)) (printed a) h

dot_headed : (v : Bool) (ps qs : List Piece) → is_headed qs ≡ true → is_headed (if v then in_parens ps else qs) ≡ true
dot_headed true ps qs h = refl
dot_headed false ps qs h = h

mutual
  pub form_headed : (a : Tree) → IsForm a → is_headed (printed a) ≡ true
  form_headed (t.name x) h = refl
  form_headed (t.number n) h = refl
  form_headed (t.text x) h = refl
  form_headed t.nil h = refl
  form_headed (t.truth v) h = refl
  form_headed (t.tuple ts) h = refl
  form_headed (t.list ts) h = refl
  form_headed (t.dict ts) h = refl
  form_headed (t.lambda names defaults a) h = refl
  form_headed (t.choice a test other) h = headed_on (at Or a (printed a)) (space ∷ mark m.If ∷ space ∷ between m.Else (at Or test (printed test)) (printed other)) (at_headed Or a (form_headed a h.0))
  form_headed (t.and a b) h = headed_on (at And a (printed a)) _ (at_headed And a (form_headed a h.0))
  form_headed (t.or a b) h = headed_on (at Or a (printed a)) _ (at_headed Or a (form_headed a h.0))
  form_headed (t.not a) h = refl
  form_headed (t.compare ops ts) h = compare_headed ops ts h.0 (let e = h.2 in omega arith)
  form_headed (t.binary a o b) h = headed_on (at (left_place o) a (printed a)) _ (at_headed (left_place o) a (form_headed a h.0))
  form_headed (t.sign o a) h = refl
  form_headed (t.attr a x) h =
      headed_on (before_dot a (printed a)) (mark m.Dot ∷ name x ∷ []) (dot_headed (is_number a) (printed a) (at Primary a (printed a)) (at_headed Primary a (form_headed a h)))
  form_headed (t.item a i) h = headed_on (at Primary a (printed a)) (in_squares (printed i)) (at_headed Primary a (form_headed a h.0))
  form_headed (t.call f ts) h = headed_on (at Primary f (printed f)) (in_parens (commas (members ts))) (at_headed Primary f (form_headed f h.0))

  compare_headed : (ops : List CompareOp) (ts : Trees) → AreForms ts → 0 < count ts → is_headed (compared ops (operands ts)) ≡ true
  compare_headed ops none h some = absurd (omega arith)
  compare_headed ops (more a ts) h some = headed_on (at Sum a (printed a)) (compared_on ops (operands ts)) (at_headed Sum a (form_headed a h.0))

simple_headed : (p : Place) (x : Statement) → IsStatement p x → IsPlain x → is_headed (lines.simple x) ≡ true
simple_headed p (s.expression a) h k = form_headed a h.0
simple_headed p (s.assign none a) h k = absurd h
simple_headed p (s.assign (more target targets) a) h k =
    headed_on (lefts (members (more target targets))) (printed a) (headed_on (printed target) (space ∷ mark m.Equals ∷ space ∷ lefts (members targets)) (form_headed target h.2.0.0))
simple_headed p (s.augment place o a) h k = headed_on (printed place) (space ∷ mark (augmented o) ∷ space ∷ printed a) (form_headed place h.1.0)
simple_headed p s.pass h k = refl
simple_headed p s.break h k = refl
simple_headed p s.continue h k = refl
simple_headed p (s.return None) h k = refl
simple_headed p (s.return (Some a)) h k = refl
simple_headed p (s.raise None) h k = refl
simple_headed p (s.raise (Some a)) h k = refl
simple_headed p (s.global xs) h k = refl
simple_headed p (s.nonlocal xs) h k = refl
simple_headed p (s.delete target) h k = refl
simple_headed p (s.assert a None) h k = refl
simple_headed p (s.assert a (Some message)) h k = refl
simple_headed p _ h k = absurd k

header_headed : (h : Header) → is_headed (lines.header h) ≡ true
header_headed (l.if a) = refl
header_headed (l.elif a) = refl
header_headed l.else = refl
header_headed (l.while a) = refl
header_headed (l.for target a) = refl
header_headed l.try = refl
header_headed l.finally = refl
header_headed (l.except None x) = refl
header_headed (l.except (Some a) x) = refl
header_headed (l.define x xs defaults) = refl
header_headed (l.class x None) = refl
header_headed (l.class x (Some a)) = refl

pub row_headed : (r : Row) → IsRow r → is_headed (pieces r) ≡ true
row_headed (simple x) h = simple_headed h.0 x h.1 h.2
row_headed (header k) h = headed_on (lines.header k) (mark m.Colon ∷ []) (header_headed k)
