-- What is written of each form of expression, part by part.
use Rattle.std.proofs.Common.{◌≡◌, ℕ, zero, suc, ◌-◌, List, [], ◌∷◌, ◌++◌, length, refl, sym, ap, ◌∙◌}
use Rattle.py_ast.specs.Tree as t
use Rattle.py_ast.specs.Tree.{Tree, Trees}
use Rattle.py_ast.specs.View.{view, views, view_step}
use Rattle.py_ast.specs.declared.expr.BinaryOp.{BinaryOp}
use Rattle.py_ast.specs.declared.expr.Expr.{Expr}
use Rattle.py_ast.specs.declared.expr.Expr.TheVariants as v
use Rattle.py_ast.specs.declared.expr.Expr.TheOpen as e
use Rattle.py_ast.specs.declared.expr.Expr.TheFolds.{fold-roll-Expr}
use Rattle.py_grammar.specs.Grammar.{Primary, Or, And, Not}
use Rattle.py_grammar.specs.declared.mark.Mark.{Mark}
use Rattle.py_grammar.specs.declared.mark.Mark.TheVariants as m
use Rattle.py_print.specs.Pieces.{Piece, space, mark, name, between, commas, one_comma, pairs, params, after_space}
use Rattle.py_print.specs.Expressions.{printed, members, expr_at, before_dot, operator, left_place, right_place, params_of}
use Rattle.py_print.specs.Parts.{space_before}
use Rattle.py_print.specs.Writing.{with_piece, with_pieces}
use Rattle.py_print.proofs.PrintLists.{with_pieces_append}

-- ---- shapes

pub in_marks : (text : List ℕ) (first last : Piece) (ps : List Piece)
    → with_pieces text (first ∷ ps ++ last ∷ []) ≡ with_piece (with_pieces (with_piece text first) ps) last
in_marks text first last ps = with_pieces_append (with_piece text first) ps (last ∷ [])

pub with_between : (text : List ℕ) (k : Mark) (ps qs : List Piece)
    → with_pieces text (between k ps qs) ≡ with_pieces (with_pieces (with_pieces text ps) (space ∷ mark k ∷ space ∷ [])) qs
with_between text k ps qs = with_pieces_append text ps (space ∷ mark k ∷ space ∷ qs)

pub before_marks : (text : List ℕ) (first last : Piece) (ps qs : List Piece)
    → with_pieces text (ps ++ (first ∷ qs ++ last ∷ [])) ≡ with_piece (with_pieces (with_piece (with_pieces text ps) first) qs) last
before_marks text first last ps qs = with_pieces_append text ps (first ∷ qs ++ last ∷ []) ∙ in_marks (with_pieces text ps) first last qs

-- ---- forms

abbrev After : List ℕ → Expr → List ℕ
After text x = with_pieces text (printed (view x))

seen_as : (text : List ℕ) (x : Expr) (a : Tree) → view x ≡ a → After text x ≡ with_pieces text (printed a)
seen_as text x a same = ap (λ z. with_pieces text (printed z)) same

pub of_Tuple : (text : List ℕ) (i : ℕ) (xs : List Expr)
    → with_pieces text (printed (view (v.Tuple i xs)))
    ≡ with_piece (with_pieces (with_pieces (with_piece text (mark m.Open)) (commas (members (views xs)))) (one_comma (members (views xs)))) (mark m.Close)
of_Tuple text i xs =
    seen_as text (v.Tuple i xs) (t.tuple (views xs)) (ap view (sym (v.rolls-Tuple i xs)) ∙ fold-roll-Expr Tree view_step (e.Tuple i xs))
    ∙ in_marks text (mark m.Open) (mark m.Close) (commas (members (views xs)) ++ one_comma (members (views xs)))
    ∙ ap (λ z. with_piece z (mark m.Close)) (with_pieces_append (with_piece text (mark m.Open)) (commas (members (views xs))) (one_comma (members (views xs))))

pub of_List : (text : List ℕ) (i : ℕ) (xs : List Expr)
    → with_pieces text (printed (view (v.List i xs)))
    ≡ with_piece (with_pieces (with_piece text (mark m.OpenSquare)) (commas (members (views xs)))) (mark m.CloseSquare)
of_List text i xs =
    seen_as text (v.List i xs) (t.list (views xs)) (ap view (sym (v.rolls-List i xs)) ∙ fold-roll-Expr Tree view_step (e.List i xs))
    ∙ in_marks text (mark m.OpenSquare) (mark m.CloseSquare) (commas (members (views xs)))

pub of_Dict : (text : List ℕ) (i : ℕ) (xs : List Expr)
    → with_pieces text (printed (view (v.Dict i xs)))
    ≡ with_piece (with_pieces (with_piece text (mark m.OpenCurly)) (pairs (members (views xs)))) (mark m.CloseCurly)
of_Dict text i xs =
    seen_as text (v.Dict i xs) (t.dict (views xs)) (ap view (sym (v.rolls-Dict i xs)) ∙ fold-roll-Expr Tree view_step (e.Dict i xs))
    ∙ in_marks text (mark m.OpenCurly) (mark m.CloseCurly) (pairs (members (views xs)))

pub of_Choice : (text : List ℕ) (i : ℕ) (a b c : Expr)
    → with_pieces text (printed (view (v.Choice i a b c)))
    ≡ with_pieces (with_pieces (with_pieces (with_pieces (with_pieces text (expr_at Or (view a))) (space ∷ mark m.If ∷ space ∷ [])) (expr_at Or (view b)))
    (space ∷ mark m.Else ∷ space ∷ [])) (printed (view c))
of_Choice text i a b c =
    seen_as text (v.Choice i a b c) (t.choice (view a) (view b) (view c)) (ap view (sym (v.rolls-Choice i a b c)) ∙ fold-roll-Expr Tree view_step (e.Choice i a b c))
    ∙ with_between text m.If (expr_at Or (view a)) (between m.Else (expr_at Or (view b)) (printed (view c)))
    ∙ with_between (with_pieces (with_pieces text (expr_at Or (view a))) (space ∷ mark m.If ∷ space ∷ [])) m.Else (expr_at Or (view b)) (printed (view c))

pub of_And : (text : List ℕ) (i : ℕ) (a b : Expr)
    → with_pieces text (printed (view (v.And i a b)))
    ≡ with_pieces (with_pieces (with_pieces text (expr_at And (view a))) (space ∷ mark m.And ∷ space ∷ [])) (expr_at Not (view b))
of_And text i a b =
    seen_as text (v.And i a b) (t.and (view a) (view b)) (ap view (sym (v.rolls-And i a b)) ∙ fold-roll-Expr Tree view_step (e.And i a b))
    ∙ with_between text m.And (expr_at And (view a)) (expr_at Not (view b))

pub of_Or : (text : List ℕ) (i : ℕ) (a b : Expr)
    → with_pieces text (printed (view (v.Or i a b)))
    ≡ with_pieces (with_pieces (with_pieces text (expr_at Or (view a))) (space ∷ mark m.Or ∷ space ∷ [])) (expr_at And (view b))
of_Or text i a b =
    seen_as text (v.Or i a b) (t.or (view a) (view b)) (ap view (sym (v.rolls-Or i a b)) ∙ fold-roll-Expr Tree view_step (e.Or i a b))
    ∙ with_between text m.Or (expr_at Or (view a)) (expr_at And (view b))

pub of_Binary : (text : List ℕ) (i : ℕ) (a : Expr) (o : BinaryOp) (b : Expr)
    → with_pieces text (printed (view (v.Binary i a o b)))
    ≡ with_pieces (with_pieces (with_pieces text (expr_at (left_place o) (view a))) (space ∷ mark (operator o) ∷ space ∷ [])) (expr_at (right_place o) (view b))
of_Binary text i a o b =
    seen_as text (v.Binary i a o b) (t.binary (view a) o (view b)) (ap view (sym (v.rolls-Binary i a o b)) ∙ fold-roll-Expr Tree view_step (e.Binary i a o b))
    ∙ with_between text (operator o) (expr_at (left_place o) (view a)) (expr_at (right_place o) (view b))

pub of_Attr : (text : List ℕ) (i : ℕ) (a : Expr) (x : List ℕ)
    → with_pieces text (printed (view (v.Attr i a x)))
    ≡ with_piece (with_piece (with_pieces text (before_dot (view a) (printed (view a)))) (mark m.Dot)) (name x)
of_Attr text i a x =
    seen_as text (v.Attr i a x) (t.attr (view a) x) (ap view (sym (v.rolls-Attr i a x)) ∙ fold-roll-Expr Tree view_step (e.Attr i a x))
    ∙ with_pieces_append text (before_dot (view a) (printed (view a))) (mark m.Dot ∷ name x ∷ [])

pub of_Item : (text : List ℕ) (i : ℕ) (a b : Expr)
    → with_pieces text (printed (view (v.Item i a b)))
    ≡ with_piece (with_pieces (with_piece (with_pieces text (expr_at Primary (view a))) (mark m.OpenSquare)) (printed (view b))) (mark m.CloseSquare)
of_Item text i a b =
    seen_as text (v.Item i a b) (t.item (view a) (view b)) (ap view (sym (v.rolls-Item i a b)) ∙ fold-roll-Expr Tree view_step (e.Item i a b))
    ∙ before_marks text (mark m.OpenSquare) (mark m.CloseSquare) (expr_at Primary (view a)) (printed (view b))

pub of_Call : (text : List ℕ) (i : ℕ) (f : Expr) (xs : List Expr)
    → with_pieces text (printed (view (v.Call i f xs)))
    ≡ with_piece (with_pieces (with_piece (with_pieces text (expr_at Primary (view f))) (mark m.Open)) (commas (members (views xs)))) (mark m.Close)
of_Call text i f xs =
    seen_as text (v.Call i f xs) (t.call (view f) (views xs)) (ap view (sym (v.rolls-Call i f xs)) ∙ fold-roll-Expr Tree view_step (e.Call i f xs))
    ∙ before_marks text (mark m.Open) (mark m.Close) (expr_at Primary (view f)) (commas (members (views xs)))

some_params : (n : ℕ) (x : List ℕ) (xs : List (List ℕ)) (ds : List (List Piece)) (text : List ℕ)
    → with_pieces text (after_space (commas (params n (x ∷ xs) ds))) ≡ with_pieces (with_piece text space) (commas (params n (x ∷ xs) ds))
some_params (suc n) x xs ds text = refl
some_params zero x xs [] text = refl
some_params zero x xs (d ∷ ds) text = refl

-- the space before parameters stands where there are names
space_before_params : (text : List ℕ) (names : List (List ℕ)) (ts : Trees)
    → with_pieces text (after_space (params_of names (members ts))) ≡ with_pieces (with_pieces text (space_before names)) (params_of names (members ts))
space_before_params text [] ts = refl
space_before_params text (x ∷ xs) ts = some_params (length (x ∷ xs) - length (members ts)) x xs (members ts) text

pub of_Lambda : (text : List ℕ) (i : ℕ) (names : List (List ℕ)) (ds : List Expr) (a : Expr)
    → with_pieces text (printed (view (v.Lambda i names ds a)))
    ≡ with_pieces (with_pieces (with_pieces (with_pieces (with_piece text (mark m.Lambda)) (space_before names)) (params_of names (members (views ds))))
    (mark m.Colon ∷ space ∷ [])) (printed (view a))
of_Lambda text i names ds a =
    let first = with_piece text (mark m.Lambda) in
    seen_as text (v.Lambda i names ds a) (t.lambda names (views ds) (view a))
    (ap view (sym (v.rolls-Lambda i names ds a)) ∙ fold-roll-Expr Tree view_step (e.Lambda i names ds a))
    ∙ with_pieces_append first (after_space (params_of names (members (views ds)))) (mark m.Colon ∷ space ∷ printed (view a))
    ∙ ap (λ z. with_pieces z (mark m.Colon ∷ space ∷ printed (view a))) (space_before_params first names (views ds))
