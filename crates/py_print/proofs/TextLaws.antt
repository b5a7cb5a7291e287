-- The numbers of a block that a text spells are those of tokens, so that its printed text spells it too where its names are tokens.
use Rattle.std.proofs.Common.{◌≡◌, ℕ, ℤ, ◌+◌, ◌<◌, ◌^◌, pos, negsuc, Bool, true, false, ◌&&◌, ◌||◌, not, nat_lt, if◌then◌else◌, List, [], ◌∷◌, ◌++◌, map, Option, Some, None, Ok, refl, sym, ◌∙◌, subst, lit<}
use Rattle.std.specs.List.{AllByRecursion}
use Rattle.std.proofs.lemmas.List.{append-nil}
use Rattle.std.proofs.lemmas.Bool.{or_parts, ltb-true, false_from_ne_true}
use Rattle.py_scalars.specs.NumberForm.{number_of}
use Rattle.py_scalars.specs.TextForm.{text_of}
use Rattle.py_ast.specs.Statement.{Statement, Block}
use Rattle.py_ast.specs.Lawful.{top}
use Rattle.py_lexer.specs.declared.token.TokenKind.{TokenKind}
use Rattle.py_lexer.specs.declared.token.TokenKind.TheVariants.{Word, Number as NumberToken, Text as TextToken, Op, LineEnd, Unsupported}
use Rattle.py_lexer.specs.declared.token.Token.{Token}
use Rattle.py_layout.specs.declared.line.LogicalLine.{LogicalLine}
use Rattle.py_grammar.specs.Line as l
use Rattle.py_grammar.specs.Line.{Line}
use Rattle.py_grammar.specs.Blocks.{Placed}
use Rattle.py_grammar.specs.declared.mark.Mark.{Mark}
use Rattle.py_grammar.specs.declared.sign.Sign.{Sign}
use Rattle.py_grammar.specs.declared.sign.Sign.TheVariants.{Name, Number, Text, Mark as The, Other}
use Rattle.py_signs.specs.Signs.{is_keyword, keyword_of, operator_of, or_else, number_sign, text_sign, sign_of, text_of_token, sign_of_token, signs_of}
use Rattle.py_signs.specs.Limits.{is_over, is_wide, has_wide}
use Rattle.py_block.specs.Parsed.{parsed, tokens_of, with_line_ends}
use Rattle.py_block.specs.Cell as c
use Rattle.py_block.specs.Cell.{IsOver, HoldsOfNone, SpellsText}
use Rattle.py_block.proofs.LawfulCells.{cell_lawful}
use Rattle.py_print.specs.Pieces.{Piece, sign, space, signs_in}
use Rattle.py_print.specs.Printed.{Row, simple, header, PrintedLine, pieces, line, lines_of, printed}
use Rattle.py_print.specs.Spelled.{HasOwnName, HasOwnNames, IsWritten, AreWritten}
use Rattle.py_print.proofs.Classes.{Class, free, class_of}
use Rattle.py_print.proofs.Runs.{turn_of, turned, run, fits_no_other}
use Rattle.py_print.proofs.Rows.{IsRow, AreLawful, every_append, block_rows, row_spelled}
use Rattle.py_print.proofs.RowRuns.{row_runs}
use Rattle.py_print.proofs.Numbers.{numbers_in, simple_numbers, simples_numbers, header_numbers, line_numbers, of_line}
use Rattle.py_print.proofs.FlatRows.{row, rows, flat_line, flat, ArePlain, line_plain, every_front, every_back, block_flat}
use Rattle.py_print.proofs.PieceCuts.{sign_run_of}
use Rattle.py_print.proofs.CellLaws.{printed_spells, printed_parsed}

-- ---- numbers of tokens

abbrev IsSmall : ℤ → Type 0
IsSmall (pos n) = n < 2 ^ 127
IsSmall (negsuc n) = ⊥

abbrev AreSmall : List ℤ → Type 0
AreSmall ns = AllByRecursion IsSmall ns

or_no_number : (o : Option Mark) (x : Sign) → numbers_in (x ∷ []) ≡ [] → numbers_in (or_else o x ∷ []) ≡ []
or_no_number (Some k) x h = refl
or_no_number None x h = h

name_no_number : (b : Bool) (x : List ℕ) → numbers_in ((if b then Other else Name x) ∷ []) ≡ []
name_no_number true x = refl
name_no_number false x = refl

text_no_number : (o : Option (List ℕ)) → numbers_in (text_sign o ∷ []) ≡ []
text_no_number (Some x) = refl
text_no_number None = refl

not_false : (b : Bool) → not b ≡ false → b ≡ true
not_false true h = refl
not_false false h = sym h

number_small : (o : Option ℕ) → is_over o ≡ false → AreSmall (numbers_in (number_sign o ∷ []))
number_small (Some n) h = (ltb-true n (2 ^ 127) (not_false (nat_lt n (2 ^ 127)) h), tt)
number_small None h = tt

none_small : (ns : List ℤ) → ns ≡ [] → AreSmall ns
none_small ns e = subst AreSmall (sym e) tt

sign_small : (k : TokenKind) (text : List ℕ) → is_wide k text ≡ false → AreSmall (numbers_in (sign_of k text ∷ []))
sign_small Word text h = none_small _ (or_no_number (keyword_of text) _ (name_no_number (is_keyword _) _))
sign_small NumberToken text h = number_small (number_of text) h
sign_small TextToken text h = none_small _ (text_no_number (text_of text))
sign_small Op text h = none_small _ (or_no_number (operator_of text) Other refl)
sign_small LineEnd text h = tt
sign_small Unsupported text h = tt

one_more : (x : Sign) (xs : List Sign) → numbers_in (x ∷ xs) ≡ numbers_in (x ∷ []) ++ numbers_in xs
one_more (Number n) xs = refl
one_more (Name x) xs = refl
one_more (Text x) xs = refl
one_more (The k) xs = refl
one_more Other xs = refl

signs_small : (text : List ℕ) (ts : List Token) → has_wide text ts ≡ false → AreSmall (numbers_in (signs_of text ts))
signs_small text [] h = tt
signs_small text (t ∷ ts) h =
    let both = or_parts (is_wide t.kind (text_of_token text t)) (has_wide text ts) h in
    subst AreSmall (sym (one_more (sign_of_token text t) (signs_of text ts)))
    (every_append IsSmall (numbers_in (sign_of_token text t ∷ [])) (numbers_in (signs_of text ts)) (sign_small t.kind (text_of_token text t) both.0) (signs_small text ts both.1))

-- ---- numbers of lines

module _ (text : List ℕ) (tokens : List Token) where
  line_small : (g : LogicalLine) (x : Line) → (IsOver text tokens g → ⊥) → c.Spelled text tokens g x → AreSmall (line_numbers x)
  line_small g x h s =
      subst AreSmall (of_line s)
      (signs_small (with_line_ends text) (tokens_of tokens g) (false_from_ne_true (has_wide (with_line_ends text) (tokens_of tokens g)) (λ e. h (c.number e))))

  lines_small : {gs : List LogicalLine} {xs : List Placed} → c.AreSpelled text tokens gs xs → HoldsOfNone (IsOver text tokens) gs → AllByRecursion (λ (x : Placed). AreSmall (line_numbers x.line)) xs
  lines_small c.none h = tt
  lines_small (c.and {line = g} {x = x} s r) h = (line_small g x h.0 s, lines_small r h.1)

  lines_plain : {gs : List LogicalLine} {xs : List Placed} → c.AreSpelled text tokens gs xs → ArePlain xs
  lines_plain c.none = tt
  lines_plain (c.and s r) = (line_plain s, lines_plain r)

-- ---- numbers of rows

abbrev row_numbers : Row → List ℤ
row_numbers (simple x) = simple_numbers x
row_numbers (header h) = header_numbers h

abbrev RowSmall : Row → Type 0
RowSmall r = AreSmall (row_numbers r)

simples_small : (xs : List Statement) → AreSmall (simples_numbers xs) → AllByRecursion RowSmall (map simple xs)
simples_small [] h = tt
simples_small (x ∷ xs) h =
    (every_front IsSmall (simple_numbers x) (simples_numbers xs) h, simples_small xs (every_back IsSmall (simple_numbers x) (simples_numbers xs) h))

flat_line_small : (x : Line) → AreSmall (line_numbers x) → AllByRecursion RowSmall (flat_line x)
flat_line_small (l.simples xs) h = simples_small xs h
flat_line_small (l.header k xs) h = (every_front IsSmall (header_numbers k) (simples_numbers xs) h, simples_small xs (every_back IsSmall (header_numbers k) (simples_numbers xs) h))

flat_small : (xs : List Placed) → AllByRecursion (λ (x : Placed). AreSmall (line_numbers x.line)) xs → AllByRecursion RowSmall (flat xs)
flat_small [] h = tt
flat_small (x ∷ xs) h = every_append RowSmall (flat_line x.line) (flat xs) (flat_line_small x.line h.0) (flat_small xs h.1)

unmapped : (xs : List PrintedLine) → AllByRecursion RowSmall (rows xs) → AllByRecursion (λ x. RowSmall x.row) xs
unmapped [] h = tt
unmapped (x ∷ xs) h = (h.0, unmapped xs h.1)

row_line : (r : Row) → line_numbers (line r) ≡ row_numbers r
row_line (simple x) = append-nil (simple_numbers x)
row_line (header h) = append-nil (header_numbers h)

-- ---- what is printed

signs_written : (most : ℕ) (k : Class) (n : ℕ) (ps : List Piece) (e : Class) (j : ℕ) → run most k n ps ≡ Some (e, j) → AllByRecursion HasOwnName (signs_in ps) → AreSmall (numbers_in (signs_in ps))
    → AllByRecursion IsWritten (signs_in ps)
signs_written most k n [] e j h o w = tt
signs_written most k n (space ∷ ps) e j h o w = signs_written most free n ps e j h o w
signs_written most k n (sign (Name x) ∷ ps) e j h o w =
    let r = sign_run_of most k n (Name x) ps e j h in
    (o.0, signs_written most (class_of (Name x)) (turned n (turn_of (Name x))) ps e j r.rest o.1 w)
signs_written most k n (sign (Number (pos z)) ∷ ps) e j h o w =
    let r = sign_run_of most k n (Number (pos z)) ps e j h in
    (w.0, signs_written most (class_of (Number (pos z))) (turned n (turn_of (Number (pos z)))) ps e j r.rest o.1 w.1)
signs_written most k n (sign (Number (negsuc z)) ∷ ps) e j h o w = absurd w.0
signs_written most k n (sign (Text x) ∷ ps) e j h o w =
    let r = sign_run_of most k n (Text x) ps e j h in
    (tt, signs_written most (class_of (Text x)) (turned n (turn_of (Text x))) ps e j r.rest o.1 w)
signs_written most k n (sign (The m) ∷ ps) e j h o w =
    let r = sign_run_of most k n (The m) ps e j h in
    (tt, signs_written most (class_of (The m)) (turned n (turn_of (The m))) ps e j r.rest o.1 w)
signs_written most k n (sign Other ∷ ps) e j h o w =
    let r = sign_run_of most k n Other ps e j h in
    absurd (let f = r.fit in let g = fits_no_other k in cc)

row_written : (r : Row) → IsRow r → RowSmall r → AllByRecursion HasOwnName (signs_in (pieces r)) → AllByRecursion IsWritten (signs_in (pieces r))
row_written r h small o =
    let u = row_runs r h in
    signs_written 200 free 0 (pieces r) u.last 0 u.whole o (subst AreSmall (sym (of_line (row_spelled r h) ∙ row_line r)) small)

all_written : (xs : List PrintedLine) → AreLawful xs → AllByRecursion (λ x. RowSmall x.row) xs → AllByRecursion (λ x. AllByRecursion HasOwnName (signs_in (pieces x.row))) xs
    → AllByRecursion (λ x. AllByRecursion IsWritten (signs_in (pieces x.row))) xs
all_written [] h s o = tt
all_written (x ∷ xs) h s o = (row_written x.row h.0.0 s.0 o.0, all_written xs h.1 s.1 o.1)

pub spelled_written : (text : List ℕ) (b : Block) → SpellsText text b → HasOwnNames b → AreWritten b
spelled_written text b s o =
    let small = flat_small s.lines (lines_small text s.cut.tokens s.spelled s.plain.within) in
    let same = block_flat s.stands (lines_plain text s.cut.tokens s.spelled) in
    all_written (lines_of 0 b) (block_rows top b (cell_lawful text b s)) (unmapped (lines_of 0 b) (subst (AllByRecursion RowSmall) same small)) o

pub text_printed : (text : List ℕ) (b : Block) → SpellsText text b → HasOwnNames b → SpellsText (printed b) b
text_printed text b s o = printed_spells b (cell_lawful text b s) (spelled_written text b s o)

pub text_parsed : (text : List ℕ) (b : Block) → SpellsText text b → HasOwnNames b → parsed (printed b) ≡ Ok b
text_parsed text b s o = printed_parsed b (cell_lawful text b s) (spelled_written text b s o)
