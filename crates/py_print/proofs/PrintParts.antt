-- Lists of parts written one after another.
use Rattle.std.proofs.Common.{◌≡◌, ◌≢◌, ℕ, zero, suc, Bool, true, false, nat_lt, if◌then◌else◌, ◌+◌, ◌-◌, ◌≤◌, ◌<◌, List, [], ◌∷◌, ◌++◌, length, drop, get_or, Option, Some, None, refl, sym, ap, ◌∙◌, arith, append_assoc}
use Rattle.std.proofs.lemmas.List.{drop_more}
use Rattle.std.proofs.lemmas.Bool.Decides.{nat_tests}
use Rattle.py_ast.specs.View.{view, views}
use Rattle.py_ast.specs.declared.expr.CompareOp.{CompareOp}
use Rattle.py_ast.specs.declared.expr.Expr.{Expr}
use Rattle.py_grammar.specs.declared.mark.Mark.{Mark}
use Rattle.py_grammar.specs.declared.mark.Mark.TheVariants as m
use Rattle.py_print.specs.Pieces.{Piece, space, mark, name, commas, after_commas, one_comma, pairs, values_on, keys_on, params}
use Rattle.py_print.specs.Expressions.{printed, members, operands, comparison, compared, compared_on, expr_at}
use Rattle.py_grammar.specs.Grammar.{Sum}
use Rattle.py_print.specs.Lines.{lefts}
use Rattle.py_print.specs.Parts.{before_operand, behind_part, default_at, default_of}
use Rattle.py_print.specs.Writing.{with_pieces, separator}
use Rattle.py_print.proofs.PrintLists.{with_pieces_append}

pub drop_all : {A : Type 0} (i : ℕ) (xs : List A) → length xs ≤ i → drop i xs ≡ []
drop_all zero [] h = refl
drop_all zero (x ∷ xs) h = absurd (omega arith)
drop_all (suc i) [] h = refl
drop_all (suc i) (x ∷ xs) h = drop_all i xs (omega arith)

-- ---- tuples of one

pub one_part : (xs : List Expr) → length xs ≡ 1 → one_comma (members (views xs)) ≡ mark m.Comma ∷ []
one_part [] h = absurd (omega arith)
one_part (x ∷ []) h = refl
one_part (x ∷ y ∷ xs) h = absurd (omega arith)

pub not_one_part : (xs : List Expr) → length xs ≢ 1 → one_comma (members (views xs)) ≡ []
not_one_part [] h = refl
not_one_part (x ∷ []) h = absurd (h refl)
not_one_part (x ∷ y ∷ xs) h = refl

-- ---- operators

pub operator_at : (i : ℕ) (ops : List CompareOp) (o : CompareOp) → i < length ops
    → before_operand (suc i) ops ≡ space ∷ comparison (get_or ops i o) ++ space ∷ []
operator_at i [] o h = absurd (omega arith)
operator_at zero (p ∷ ops) o h = refl
operator_at (suc i) (p ∷ ops) o h = operator_at i ops o (omega arith)

-- ---- parts behind one another

-- parts, by what stands before the first of them and what then stands before the next
abbrev pub listed : (Option Mark → Option Mark) → Option Mark → List (List Piece) → List Piece
listed next before [] = []
listed next before (p ∷ ps) = separator before ++ (p ++ listed next (next before) ps)

pub listed_step : (next : Option Mark → Option Mark) (before : Option Mark) (w w1 w2 : List ℕ) (p : List Piece) (now rest : List (List Piece)) (goal : List ℕ)
    → now ≡ p ∷ rest → w1 ≡ with_pieces w (separator before) → w2 ≡ with_pieces w1 p
    → with_pieces w (listed next before now) ≡ goal → with_pieces w2 (listed next (next before) rest) ≡ goal
listed_step next before w w1 w2 p now rest goal is one two so_far =
    let more = listed next (next before) rest in
    ap (λ z. with_pieces z more) (two ∙ ap (λ z. with_pieces z p) one)
    ∙ sym (with_pieces_append (with_pieces w (separator before)) p more)
    ∙ sym (with_pieces_append w (separator before) (p ++ more))
    ∙ ap (λ z. with_pieces w (listed next before z)) (sym is)
    ∙ so_far

-- the parts from a place on are the part there and those from the next place on
pub members_at : (i : ℕ) (all : List Expr) (x : Expr) → i < length all → x ≡ get_or all i x
    → members (views (drop i all)) ≡ printed (view x) ∷ members (views (drop (i + 1) all))
members_at i all x inside is = ap (λ z. members (views z)) (drop_more all i x inside ∙ ap (λ z. z ∷ drop (i + 1) all) (sym is))

length_members : (all : List Expr) → length (members (views all)) ≡ length all
length_members [] = refl
length_members (x ∷ all) = ap suc (length_members all)

-- ---- commas

abbrev pub to_comma : Option Mark → Option Mark
to_comma before = Some m.Comma

listed_after : (ps : List (List Piece)) → listed to_comma (Some m.Comma) ps ≡ after_commas ps
listed_after [] = refl
listed_after (p ∷ ps) = ap (λ z. mark m.Comma ∷ space ∷ p ++ z) (listed_after ps)

pub listed_commas : (ps : List (List Piece)) → listed to_comma None ps ≡ commas ps
listed_commas [] = refl
listed_commas (p ∷ ps) = ap (λ z. p ++ z) (listed_after ps)

-- ---- keys and values

mutual
  listed_values : (ps : List (List Piece)) → listed behind_part (Some m.Colon) ps ≡ values_on ps
  listed_values [] = refl
  listed_values (p ∷ ps) = ap (λ z. mark m.Colon ∷ space ∷ p ++ z) (listed_keys ps)

  listed_keys : (ps : List (List Piece)) → listed behind_part (Some m.Comma) ps ≡ keys_on ps
  listed_keys [] = refl
  listed_keys (p ∷ ps) = ap (λ z. mark m.Comma ∷ space ∷ p ++ z) (listed_values ps)

pub listed_pairs : (ps : List (List Piece)) → listed behind_part None ps ≡ pairs ps
listed_pairs [] = refl
listed_pairs (p ∷ ps) = ap (λ z. p ++ z) (listed_values ps)

-- ---- parameters

-- the parameters from a place on
abbrev pub params_from : ℕ → List (List ℕ) → List (List Piece) → ℕ → List (List Piece)
params_from plain names ds i = params (plain - i) (drop i names) (drop (i - plain) ds)

with_default : (k : ℕ) (ds : List (List Piece)) (x : List ℕ) (xs : List (List ℕ))
    → params 0 (x ∷ xs) (drop k ds) ≡ (name x ∷ default_at k ds) ∷ params 0 xs (drop (suc k) ds)
with_default zero [] x xs = refl
with_default zero (d ∷ ds) x xs = refl
with_default (suc k) [] x xs = refl
with_default (suc k) (d ∷ ds) x xs = with_default k ds x xs

param_here : (plain i : ℕ) (x : List ℕ) (xs : List (List ℕ)) (ds : List (List Piece)) (b : Bool) → nat_lt i plain ≡ b
    → params (plain - i) (x ∷ xs) (drop (i - plain) ds)
    ≡ (name x ∷ (if b then [] else default_at (i - plain) ds)) ∷ params (plain - (i + 1)) xs (drop ((i + 1) - plain) ds)
param_here plain i x xs ds true h =
    let less : i < plain = grind (arith, nat_tests) in
    let e : plain - i ≡ suc (plain - (i + 1)) = omega arith in
    let f : (i + 1) - plain ≡ i - plain = omega arith in
    rw (e, f) refl
param_here plain i x xs ds false h =
    let less : plain ≤ i = grind (arith, nat_tests) in
    let e : plain - i ≡ 0 = omega arith in
    let f : plain - (i + 1) ≡ 0 = omega arith in
    let g : (i + 1) - plain ≡ suc (i - plain) = omega arith in
    rw (e, f, g) (with_default (i - plain) ds x xs)

pub params_at : (plain i : ℕ) (names : List (List ℕ)) (ds : List (List Piece)) (x : List ℕ) → i < length names → x ≡ get_or names i x
    → params_from plain names ds i ≡ (name x ∷ default_of plain i ds) ∷ params_from plain names ds (i + 1)
params_at plain i names ds x inside is =
    ap (λ z. params (plain - i) z (drop (i - plain) ds)) (drop_more names i x inside ∙ ap (λ z. z ∷ drop (i + 1) names) (sym is))
    ∙ param_here plain i x (drop (i + 1) names) ds (nat_lt i plain) refl

pub params_start : (plain : ℕ) (names : List (List ℕ)) (all : List Expr) → plain ≡ length names - length all
    → params_from plain names (members (views all)) 0 ≡ params (length names - length (members (views all))) names (members (views all))
params_start plain names all is =
    let e : plain - 0 ≡ length names - length (members (views all)) = rw (length_members all) (omega arith) in
    let f : 0 - plain ≡ 0 = omega arith in
    rw (e, f) refl

-- ---- defaults

default_there : (k : ℕ) (all : List Expr) (x : Expr) → k < length all → x ≡ get_or all k x
    → default_at k (members (views all)) ≡ mark m.Equals ∷ printed (view x)
default_there k [] x inside is = absurd (omega arith)
default_there zero (y ∷ all) x inside is = ap (λ z. mark m.Equals ∷ printed (view z)) (sym is)
default_there (suc k) (y ∷ all) x inside is = default_there k all x (omega arith) is

default_missing : (k : ℕ) (all : List Expr) → length all ≤ k → default_at k (members (views all)) ≡ []
default_missing k [] h = refl
default_missing zero (y ∷ all) h = absurd (omega arith)
default_missing (suc k) (y ∷ all) h = default_missing k all (omega arith)

not_plain : (b : Bool) (ps : List Piece) → b ≡ false → (if b then [] else ps) ≡ ps
not_plain true ps h = cc
not_plain false ps h = refl

not_before : (i plain : ℕ) → plain ≤ i → nat_lt i plain ≡ false
not_before i plain h = grind (arith, nat_tests)

pub default_some : (plain i : ℕ) (all : List Expr) (x : Expr) → plain ≤ i → i - plain < length all → x ≡ get_or all (i - plain) x
    → default_of plain i (members (views all)) ≡ mark m.Equals ∷ printed (view x)
default_some plain i all x h inside is =
    not_plain (nat_lt i plain) (default_at (i - plain) (members (views all))) (not_before i plain h) ∙ default_there (i - plain) all x inside is

pub default_none : (plain i : ℕ) (all : List Expr) → plain ≤ i → length all ≤ i - plain → default_of plain i (members (views all)) ≡ []
default_none plain i all h outside =
    not_plain (nat_lt i plain) (default_at (i - plain) (members (views all))) (not_before i plain h) ∙ default_missing (i - plain) all outside

-- ---- comparisons

-- the operands from a place on, with the operators before them
abbrev pub compared_from : ℕ → List CompareOp → List (List Piece) → List Piece
compared_from zero ops ps = compared ops ps
compared_from (suc i) ops ps = compared_on (drop i ops) ps

compared_step : (i : ℕ) (ops : List CompareOp) (p : List Piece) (ps : List (List Piece)) → i ≤ length ops
    → compared_from i ops (p ∷ ps) ≡ before_operand i ops ++ (p ++ compared_from (suc i) ops ps)
compared_step zero ops p ps h = refl
compared_step (suc i) [] p ps h = absurd (omega arith)
compared_step (suc zero) (o ∷ ops) p ps h = ap (λ z. space ∷ z) (sym (append_assoc (comparison o) (space ∷ []) (p ++ compared_on ops ps)))
compared_step (suc (suc i)) (o ∷ ops) p ps h = compared_step (suc i) ops p ps (omega arith)

pub compared_none : (i : ℕ) (ops : List CompareOp) → compared_from i ops [] ≡ []
compared_none zero ops = refl
compared_none (suc i) ops = no_operands (drop i ops)
  where
    no_operands : (os : List CompareOp) → compared_on os [] ≡ []
    no_operands [] = refl
    no_operands (o ∷ os) = refl

pub operands_at : (i : ℕ) (all : List Expr) (x : Expr) → i < length all → x ≡ get_or all i x
    → operands (views (drop i all)) ≡ expr_at Sum (view x) ∷ operands (views (drop (i + 1) all))
operands_at i all x inside is = ap (λ z. operands (views z)) (drop_more all i x inside ∙ ap (λ z. z ∷ drop (i + 1) all) (sym is))

pub compared_more : (i : ℕ) (ops : List CompareOp) (w w1 w2 : List ℕ) (p : List Piece) (now rest : List (List Piece)) (goal : List ℕ)
    → i ≤ length ops → now ≡ p ∷ rest → w1 ≡ with_pieces w (before_operand i ops) → w2 ≡ with_pieces w1 p
    → with_pieces w (compared_from i ops now) ≡ goal → with_pieces w2 (compared_from (i + 1) ops rest) ≡ goal
compared_more i ops w w1 w2 p now rest goal few is one two so_far =
    let more = compared_from (suc i) ops rest in
    let next : i + 1 ≡ suc i = omega arith in
    ap (λ z. with_pieces w2 (compared_from z ops rest)) next
    ∙ ap (λ z. with_pieces z more) (two ∙ ap (λ z. with_pieces z p) one)
    ∙ sym (with_pieces_append (with_pieces w (before_operand i ops)) p more)
    ∙ sym (with_pieces_append w (before_operand i ops) (p ++ more))
    ∙ ap (λ z. with_pieces w z) (sym (compared_step i ops p rest few))
    ∙ ap (λ z. with_pieces w (compared_from i ops z)) (sym is)
    ∙ so_far

-- ---- targets

pub lefts_step : (w w1 w2 : List ℕ) (p : List Piece) (now rest : List (List Piece)) (goal : List ℕ)
    → now ≡ p ∷ rest → w1 ≡ with_pieces w p → w2 ≡ with_pieces w1 (space ∷ mark m.Equals ∷ space ∷ [])
    → with_pieces w (lefts now) ≡ goal → with_pieces w2 (lefts rest) ≡ goal
lefts_step w w1 w2 p now rest goal is one two so_far =
    ap (λ z. with_pieces z (lefts rest)) (two ∙ ap (λ z. with_pieces z (space ∷ mark m.Equals ∷ space ∷ [])) one)
    ∙ sym (with_pieces_append w p (space ∷ mark m.Equals ∷ space ∷ lefts rest))
    ∙ ap (λ z. with_pieces w (lefts z)) (sym is)
    ∙ so_far
