-- Texts written piece by piece and line by line.
use Rattle.std.proofs.Common.{◌≡◌, ℕ, ◌+◌, ◌*◌, List, [], ◌∷◌, ◌++◌, replicate, refl, sym, ap, ◌∙◌, arith, append_assoc}
use Rattle.std.proofs.lemmas.List.{replicate-append-replicate, append-nil}
use Rattle.py_ast.specs.Statement.{Statement}
use Rattle.py_grammar.specs.Line.{Header}
use Rattle.py_grammar.specs.declared.mark.Mark.TheVariants as m
use Rattle.py_print.specs.Lines as lines
use Rattle.py_print.specs.Pieces.{Piece, mark, piece_text, text_of}
use Rattle.py_print.specs.Printed.{PrintedLine, simple, header, line_text, lines_text}
use Rattle.py_print.specs.Writing.{with_piece, with_pieces, with_line, with_lines, with_header}

-- ---- pieces

pub with_pieces_append : (text : List ℕ) (ps qs : List Piece) → with_pieces text (ps ++ qs) ≡ with_pieces (with_pieces text ps) qs
with_pieces_append text [] qs = refl
with_pieces_append text (p ∷ ps) qs = with_pieces_append (with_piece text p) ps qs

pub pieces_written : (text : List ℕ) (ps : List Piece) → with_pieces text ps ≡ text ++ text_of ps
unfolding with_piece
pieces_written text [] = sym (append-nil text)
pieces_written text (p ∷ ps) = pieces_written (with_piece text p) ps ∙ append_assoc text (piece_text p) (text_of ps)

-- ---- lines

pub with_lines_append : (text : List ℕ) (xs ys : List PrintedLine) → with_lines text (xs ++ ys) ≡ with_lines (with_lines text xs) ys
with_lines_append text [] ys = refl
with_lines_append text (x ∷ xs) ys = with_lines_append (with_line text x) xs ys

pub lines_written : (text : List ℕ) (xs : List PrintedLine) → with_lines text xs ≡ text ++ lines_text xs
unfolding with_line
lines_written text [] = sym (append-nil text)
lines_written text (x ∷ xs) = lines_written (with_line text x) xs ∙ append_assoc text (line_text x) (lines_text xs)

-- the line of a simple statement, part by part
pub simple_is : (text : List ℕ) (deep : ℕ) (x : Statement)
    → with_line text (record { deep = deep; row = simple x }) ≡ with_pieces (text ++ replicate (4 * deep) 32) (lines.simple x) ++ 10 ∷ []
unfolding with_line
simple_is text deep x =
    let spaces = replicate (4 * deep) 32 in
    sym (append_assoc text spaces (text_of (lines.simple x) ++ 10 ∷ []))
    ∙ sym (append_assoc (text ++ spaces) (text_of (lines.simple x)) (10 ∷ []))
    ∙ ap (λ z. z ++ 10 ∷ []) (sym (pieces_written (text ++ spaces) (lines.simple x)))

-- the line of a header, part by part
pub header_is : (text : List ℕ) (deep : ℕ) (ps : List Piece)
    → with_header text deep ps ≡ with_piece (with_pieces (text ++ replicate (4 * deep) 32) ps) (mark m.Colon) ++ 10 ∷ []
unfolding with_header
header_is text deep ps =
    let spaces = replicate (4 * deep) 32 in
    let all = ps ++ mark m.Colon ∷ [] in
    sym (append_assoc text spaces (text_of all ++ 10 ∷ []))
    ∙ sym (append_assoc (text ++ spaces) (text_of all) (10 ∷ []))
    ∙ ap (λ z. z ++ 10 ∷ []) (sym (pieces_written (text ++ spaces) all) ∙ with_pieces_append (text ++ spaces) ps (mark m.Colon ∷ []))

pub header_line : (text : List ℕ) (deep : ℕ) (h : Header) → with_line text (record { deep = deep; row = header h }) ≡ with_header text deep (lines.header h)
unfolding with_line with_header
header_line text deep h = refl

-- ---- spaces

pub four_more : (text : List ℕ) (n : ℕ) → (text ++ replicate (4 * n) 32) ++ replicate 4 32 ≡ text ++ replicate (4 * (n + 1)) 32
four_more text n = append_assoc text (replicate (4 * n) 32) (replicate 4 32)
    ∙ ap (λ z. text ++ z) (replicate-append-replicate (4 * n) 4 32 ∙ ap (λ k. replicate k 32) (omega arith))
