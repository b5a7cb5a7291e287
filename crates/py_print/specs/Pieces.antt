-- What a printed line is made of: the signs of its tokens, and the spaces between them.
use Rattle.std.specs.Prelude.{ℕ, zero, suc, List, [], ◌∷◌, ◌++◌, if◌then◌else◌}
use Rattle.std.specs.List.{flat_map}
use Rattle.std.specs.Fmt.{signed_decimal}
use Rattle.py_scalars.specs.TextForm.{repr_of}
use Rattle.py_grammar.specs.Reading.{is_same}
use Rattle.py_grammar.specs.declared.mark.Mark.{Mark}
use Rattle.py_grammar.specs.declared.mark.Mark.TheVariants as m
use Rattle.py_grammar.specs.declared.sign.Sign.{Sign}
use Rattle.py_grammar.specs.declared.sign.Sign.TheVariants.{Name, Number, Text, Mark as The, Other}
use Rattle.py_signs.specs.Signs.{Spelling, keywords, operators}

pub data Piece : Type 0 where
  sign : Sign → Piece
  space : Piece

-- the signs alone
abbrev pub signs_in : List Piece → List Sign
signs_in [] = []
signs_in (sign x ∷ ps) = x ∷ signs_in ps
signs_in (space ∷ ps) = signs_in ps

-- ---- how pieces are written

-- how a table writes a mark
abbrev pub spelling_in : List Spelling → Mark → List ℕ
spelling_in [] k = []
spelling_in (s ∷ rest) k = if is_same s.1 k then s.0 else spelling_in rest k

abbrev pub mark_text : Mark → List ℕ
mark_text k = spelling_in (keywords ++ operators) k

-- names as they are, numbers in decimal, texts as `repr`
abbrev pub sign_text : Sign → List ℕ
sign_text (Name x) = x
sign_text (Number n) = signed_decimal n
sign_text (Text x) = repr_of x
sign_text (The k) = mark_text k
sign_text Other = []

abbrev pub piece_text : Piece → List ℕ
piece_text (sign x) = sign_text x
piece_text space = 32 ∷ []

abbrev pub text_of : List Piece → List ℕ
text_of ps = flat_map piece_text ps

-- ---- pieces put together

abbrev pub mark : Mark → Piece
mark k = sign (The k)

abbrev pub name : List ℕ → Piece
name x = sign (Name x)

abbrev pub in_parens : List Piece → List Piece
in_parens ps = mark m.Open ∷ ps ++ mark m.Close ∷ []

abbrev pub in_squares : List Piece → List Piece
in_squares ps = mark m.OpenSquare ∷ ps ++ mark m.CloseSquare ∷ []

abbrev pub in_curly : List Piece → List Piece
in_curly ps = mark m.OpenCurly ∷ ps ++ mark m.CloseCurly ∷ []

-- a mark with a space on each side
abbrev pub between : Mark → List Piece → List Piece → List Piece
between k before after = before ++ (space ∷ mark k ∷ space ∷ after)

-- a space before what is not empty
abbrev pub after_space : List Piece → List Piece
after_space [] = []
after_space (p ∷ ps) = space ∷ p ∷ ps

-- each with a comma and a space before it
abbrev pub after_commas : List (List Piece) → List Piece
after_commas [] = []
after_commas (p ∷ ps) = mark m.Comma ∷ space ∷ p ++ after_commas ps

-- with commas between them
abbrev pub commas : List (List Piece) → List Piece
commas [] = []
commas (p ∷ ps) = p ++ after_commas ps

-- a tuple of one has its comma
abbrev pub one_comma : List (List Piece) → List Piece
one_comma (p ∷ []) = mark m.Comma ∷ []
one_comma [] = []
one_comma (p ∷ q ∷ ps) = []

-- keys and values in turn: a value has a colon before it, and a key that follows a value a comma
abbrev mutual
  pub values_on : List (List Piece) → List Piece
  values_on [] = []
  values_on (p ∷ ps) = mark m.Colon ∷ space ∷ p ++ keys_on ps

  pub keys_on : List (List Piece) → List Piece
  keys_on [] = []
  keys_on (p ∷ ps) = mark m.Comma ∷ space ∷ p ++ values_on ps

abbrev pub pairs : List (List Piece) → List Piece
pairs [] = []
pairs (p ∷ ps) = p ++ values_on ps

-- parameters, of which so many have no default
abbrev pub params : ℕ → List (List ℕ) → List (List Piece) → List (List Piece)
params plain [] defaults = []
params (suc plain) (x ∷ names) defaults = (name x ∷ []) ∷ params plain names defaults
params zero (x ∷ names) [] = (name x ∷ []) ∷ params zero names []
params zero (x ∷ names) (d ∷ defaults) = (name x ∷ mark m.Equals ∷ d) ∷ params zero names defaults
