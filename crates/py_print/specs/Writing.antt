-- A text as it is written: pieces, and whole lines, one after another.
use Rattle.std.specs.Prelude.{ℕ, ◌+◌, ◌*◌, List, [], ◌∷◌, ◌++◌, replicate, Option, Some, None}
use Rattle.py_grammar.specs.declared.mark.Mark.{Mark}
use Rattle.py_grammar.specs.declared.mark.Mark.TheVariants as m
use Rattle.py_ast.specs.Statement.{Block, empty, then}
use Rattle.py_print.specs.Pieces.{Piece, space, mark, piece_text, text_of}
use Rattle.py_print.specs.Printed.{PrintedLine, line_text, lines_of}

-- the text with a piece behind it
unfoldable pub with_piece : List ℕ → Piece → List ℕ
with_piece text p = text ++ piece_text p

abbrev pub with_pieces : List ℕ → List Piece → List ℕ
with_pieces text [] = text
with_pieces text (p ∷ ps) = with_pieces (with_piece text p) ps

-- the text with a line behind it
unfoldable pub with_line : List ℕ → PrintedLine → List ℕ
with_line text x = text ++ line_text x

abbrev pub with_lines : List ℕ → List PrintedLine → List ℕ
with_lines text [] = text
with_lines text (x ∷ xs) = with_lines (with_line text x) xs

-- what stands before a part of a list: nothing, or a mark and a space
abbrev pub separator : Option Mark → List Piece
separator None = []
separator (Some k) = mark k ∷ space ∷ []

-- the text with the line of a header behind it, of which the pieces stand before the colon
unfoldable pub with_header : List ℕ → ℕ → List Piece → List ℕ
with_header text deep ps = text ++ (replicate (4 * deep) 32 ++ (text_of (ps ++ mark m.Colon ∷ []) ++ 10 ∷ []))

-- the text with the header of one keyword and its block behind it, where the block is there
abbrev pub with_otherwise : List ℕ → ℕ → Mark → Block → List ℕ
with_otherwise text deep k empty = text
with_otherwise text deep k (then x b) = with_lines (with_header text deep (mark k ∷ [])) (lines_of (deep + 1) (then x b))
