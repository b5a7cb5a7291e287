-- Nodes whose numbers run from one number to another.
use Rattle.std.proofs.Common.{◌≡◌, ℕ, ◌+◌, List, [], ◌∷◌, ◌++◌, length, map, refl, sym, ap, ◌∙◌, subst, arith}
use Rattle.py_ast.specs.Nodes.{Node, number_of, count_from}

-- the nodes hold the numbers from n on, and m is the number behind them
abbrev pub Runs : ℕ → List Node → ℕ → Type 0
Runs n [] m = n ≡ m
Runs n (x ∷ xs) m = (number_of x ≡ n) × Runs (n + 1) xs m

-- the runs of two lists of nodes after each other
pub record Split (n : ℕ) (xs ys : List Node) (m : ℕ) : Type 0 where
  pub between : ℕ
  pub first : Runs n xs between
  pub second : Runs between ys m

pub split : (n : ℕ) (xs ys : List Node) (m : ℕ) → Runs n (xs ++ ys) m → Split n xs ys m
split n [] ys m r = record { between = n; first = refl; second = r }
split n (x ∷ xs) ys m r =
    let rest = split (n + 1) xs ys m r.1 in
    record { between = rest.between; first = (r.0, rest.first); second = rest.second }

pub joined : (n k m : ℕ) (xs ys : List Node) → Runs n xs k → Runs k ys m → Runs n (xs ++ ys) m
joined n k m [] ys r q = subst (λ z. Runs z ys m) (sym r) q
joined n k m (x ∷ xs) ys r q = (r.0, joined (n + 1) k m xs ys r.1 q)

pub counted : (n : ℕ) (xs : List Node) → map number_of xs ≡ count_from n (length xs) → Runs n xs (n + length xs)
counted n [] e = omega arith
counted n (x ∷ xs) e =
    let here : number_of x ≡ n = cc in
    let later : map number_of xs ≡ count_from (n + 1) (length xs) = cc in
    (here, subst (λ z. Runs (n + 1) xs z) (let h : n + 1 + length xs ≡ n + length (x ∷ xs) = omega arith in h) (counted (n + 1) xs later))

pub in_row : (n : ℕ) (xs : List Node) (m : ℕ) → Runs n xs m → map number_of xs ≡ count_from n (length xs)
in_row n [] m r = refl
in_row n (x ∷ xs) m r =
    ap (λ (z : ℕ). z ∷ map number_of xs) r.0 ∙ ap (λ (z : List ℕ). n ∷ z) (in_row (n + 1) xs m r.1)
