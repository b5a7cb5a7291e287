-- What is read of whole phrases, and that a phrase has one tree.
use Rattle.std.proofs.Common.{◌≡◌, ℕ, suc, max, ◌≤◌, ◌<◌, false, List, [], ◌++◌, length, Some, None, refl, sym, ap, ◌∙◌, arith}
use Rattle.std.proofs.lemmas.List.{append-nil}
use Rattle.py_ast.specs.Tree.{Tree, Trees, depth, deepest}
use Rattle.py_grammar.specs.Grammar.{Level, Atom, Primary, Term, Sum, And, Or, Expr, Exprs, Spells, Row, PairRow, Params}
use Rattle.py_grammar.specs.Kept.{Kept, keep, keep_all}
use Rattle.py_grammar.specs.Reading.{mark_at, begins_name, primary, expr, exprs, Parameters, params, start, nested}
use Rattle.py_grammar.specs.declared.mark.Mark.TheVariants as m
use Rattle.py_grammar.specs.declared.sign.Sign.{Sign}
use Rattle.py_grammar.proofs.Steps.{some_is}
use Rattle.py_grammar.proofs.Kept.{keep_same, all_same}
use Rattle.py_grammar.proofs.Follow.{follow, below}
use Rattle.py_grammar.proofs.Goes.{primary_ends, term_ends, sum_ends, and_ends, or_ends}
use Rattle.py_grammar.proofs.Complete.{goes_on, complete, row_complete, pair_row_complete, params_complete}

module _ (most : ℕ) (some : 0 < most) (n : ℕ) where
  pub primary_read : {xs : List Sign} {a : Tree} → Spells Primary xs a → (rest : List Sign) → length xs ≤ n → 1 < follow rest
      → primary most (nested most n) (xs ++ rest) ≡ Some (keep most a, rest)
  primary_read {xs} {a} s rest small ends = complete most some s n rest small (omega arith)
      ∙ primary_ends most some n (keep most a) rest ends

  pub expr_read : {xs : List Sign} {a : Tree} → Spells Expr xs a → (rest : List Sign) → length xs ≤ n → 9 < follow rest
      → expr most (nested most n) (xs ++ rest) ≡ Some (keep most a, rest)
  expr_read s rest small ends = complete most some s n rest small ends

  -- no comma follows, and nothing that begins an expression
  pub exprs_read : {xs : List Sign} {a : Tree} → Spells Exprs xs a → (rest : List Sign) → length xs ≤ n → 11 < follow rest
      → exprs most (nested most n) (xs ++ rest) ≡ Some (keep most a, rest)
  exprs_read s rest small ends = complete most some s n rest small ends

  pub params_read : {xs : List Sign} {names : List (List ℕ)} {ts : Trees} → Params xs names ts → (rest : List Sign) → length xs ≤ n
      → 10 < follow rest
      → mark_at m.Equals rest ≡ None → begins_name rest ≡ false → params most (nested most n) (xs ++ rest) ≡ Some
      ((names, keep_all most ts), rest)
  params_read p rest small ends free nameless = params_complete most some p n rest small ends free nameless

  -- each level stops where no signs are left
  level_ends : (l : Level) (v : Kept) → goes_on most l (nested most n) v [] ≡ Some (v, [])
  level_ends Primary v = primary_ends most some n v [] (omega arith)
  level_ends Term v = term_ends most some n v [] (omega arith)
  level_ends Sum v = sum_ends most some n v [] (omega arith)
  level_ends And v = and_ends most some n v [] (omega arith)
  level_ends Or v = or_ends most some n v [] (omega arith)
  level_ends _ v = refl

below_end : (l : Level) → below l < 12
below_end Atom = omega arith
below_end _ = omega arith

-- all of the signs are read
pub all_read : (most : ℕ) → 0 < most → {l : Level} {xs : List Sign} {a : Tree} → Spells l xs a
    → start most l (nested most (length xs)) xs ≡ Some (keep most a, [])
all_read most some {l} {xs} {a} s =
    ap (start most l (nested most (length xs))) (sym (append-nil xs))
    ∙ complete most some s (length xs) [] (omega arith) (below_end l) ∙ level_ends most some (length xs) l (keep most a)

kept_one : (most : ℕ) → 0 < most → (l : Level) (xs : List Sign) (a b : Tree) → Spells l xs a → Spells l xs b → keep most a ≡ keep most b
kept_one most some l xs a b x y = ap (λ z. z.0) (some_is (sym (all_read most some x) ∙ all_read most some y))

-- signs spell one tree of a level: no reading of them keeps another, however many levels it keeps
pub one_tree : (l : Level) (xs : List Sign) (a b : Tree) → Spells l xs a → Spells l xs b → a ≡ b
one_tree l xs a b x y =
    let most = suc (max (depth a) (depth b)) in
    keep_same most a b (omega arith) (omega arith) (kept_one most (omega arith) l xs a b x y)

-- ---- lists and parameters

pub one_row : (xs : List Sign) (a b : Trees) → Row xs a → Row xs b → a ≡ b
one_row xs a b x y =
    let most = suc (max (deepest a) (deepest b)) in
    all_same most a b (omega arith) (omega arith)
    (ap (λ z. z.0) (some_is (sym (row_complete most (omega arith) x (length xs) [] (omega arith) (omega arith))
    ∙ row_complete most (omega arith) y (length xs) [] (omega arith) (omega arith))))

pub one_pair_row : (xs : List Sign) (a b : Trees) → PairRow xs a → PairRow xs b → a ≡ b
one_pair_row xs a b x y =
    let most = suc (max (deepest a) (deepest b)) in
    all_same most a b (omega arith) (omega arith)
    (ap (λ z. z.0) (some_is (sym (pair_row_complete most (omega arith) x (length xs) [] (omega arith) (omega arith))
    ∙ pair_row_complete most (omega arith) y (length xs) [] (omega arith) (omega arith))))

params_same : (most : ℕ) → 0 < most → (xs : List Sign) (names others : List (List ℕ)) (a b : Trees) → Params xs names a → Params xs others b
    → ◌≡◌ {A = Parameters} (names, keep_all most a) (others, keep_all most b)
params_same most some xs names others a b x y =
    ap (λ z. z.0) (some_is (sym (params_complete most some x (length xs) [] (omega arith) (omega arith) refl refl)
    ∙ params_complete most some y (length xs) [] (omega arith) (omega arith) refl refl))

pub one_params : (xs : List Sign) (names others : List (List ℕ)) (a b : Trees) → Params xs names a → Params xs others b
    → (names ≡ others) × (a ≡ b)
one_params xs names others a b x y =
    let most = suc (max (deepest a) (deepest b)) in
    let same = params_same most (omega arith) xs names others a b x y in
    (ap (λ z. z.0) same, all_same most a b (omega arith) (omega arith) (ap (λ z. z.1) same))
