-- The signs in pieces that are put together.
use Rattle.std.proofs.Common.{◌≡◌, List, [], ◌∷◌, ◌++◌, refl, ap}
use Rattle.py_grammar.specs.declared.mark.Mark.{Mark}
use Rattle.py_grammar.specs.declared.sign.Sign.TheVariants.{Mark as The}
use Rattle.py_print.specs.Pieces.{Piece, sign, space, signs_in, mark, between, after_space}

pub signs_append : (ps qs : List Piece) → signs_in (ps ++ qs) ≡ signs_in ps ++ signs_in qs
signs_append [] qs = refl
signs_append (sign x ∷ ps) qs = ap (λ z. x ∷ z) (signs_append ps qs)
signs_append (space ∷ ps) qs = signs_append ps qs

pub signs_between : (k : Mark) (ps qs : List Piece) → signs_in (between k ps qs) ≡ signs_in ps ++ The k ∷ signs_in qs
signs_between k ps qs = signs_append ps (space ∷ mark k ∷ space ∷ qs)

pub signs_behind : (k : Mark) (ps : List Piece) → signs_in (ps ++ mark k ∷ []) ≡ signs_in ps ++ The k ∷ []
signs_behind k ps = signs_append ps (mark k ∷ [])

pub signs_after_space : (ps : List Piece) → signs_in (after_space ps) ≡ signs_in ps
signs_after_space [] = refl
signs_after_space (p ∷ ps) = refl
