-- The first of the faulty declarations is the least of their numbers.
use Rattle.std.proofs.Common.{◌≡◌, ◌≤◌, ◌⊎◌, inl, inr, ℕ, List, [], ◌∷◌, min, Some, None, refl, sym, ap, subst, ◌∙◌, arith}
use Rattle.std.proofs.Math.Nat.{min-eq_left, min-eq_right, min-le_left, min-le_right}
use Rattle.std.proofs.lemmas.Bool.{cases_lt}
use Rattle.std.proofs.lemmas.List.Elements.{All-cons, All-contains, All-nil, Contains-append_left, Contains-append_right, Contains-push}
use Rattle.std.specs.List.{All, Contains}
use Rattle.py_scope.specs.Faults.{least, least_with}

-- the least of a number and others
record IsLeast (m : ℕ) (ns : List ℕ) (n : ℕ) : Type 0 where
  found : least_with (Some m) ns ≡ Some n
  among : (n ≡ m) ⊎ Contains ns n
  below : n ≤ m
  first : All (λ k. n ≤ k) ns

head_in : (k : ℕ) (ns : List ℕ) → Contains (k ∷ ns) k
head_in k ns = Contains-append_left (k ∷ []) ns k (Contains-push [] k)

tail_in : (k : ℕ) (ns : List ℕ) (n : ℕ) → Contains ns n → Contains (k ∷ ns) n
tail_in k ns n h = Contains-append_right (k ∷ []) ns n h

min_is : (m k : ℕ) → (min m k ≡ m) ⊎ (min m k ≡ k)
min_is m k = elim (cases_lt m k) as (λ _. (min m k ≡ m) ⊎ (min m k ≡ k)) [
  | inl h ↦ let le : m ≤ k = omega arith in inl (min-eq_left le)
  | inr h ↦ inr (min-eq_right h)
]

among_more : (m k : ℕ) (ns : List ℕ) (n : ℕ) → (n ≡ min m k) ⊎ Contains ns n → (n ≡ m) ⊎ Contains (k ∷ ns) n
among_more m k ns n (inr h) = inr (tail_in k ns n h)
among_more m k ns n (inl e) = elim (min_is m k) as (λ _. (n ≡ m) ⊎ Contains (k ∷ ns) n) [
  | inl f ↦ inl (e ∙ f)
  | inr f ↦ inr (subst (λ z. Contains (k ∷ ns) z) (sym (e ∙ f)) (head_in k ns))
]

least_of : (m : ℕ) (ns : List ℕ) → (n : ℕ) × IsLeast m ns n
least_of m [] = (m, record { found = refl; among = inl refl; below = omega arith; first = All-nil (λ k. m ≤ k) })
least_of m (k ∷ ns) =
    let w = least_of (min m k) ns in
    let n = w.0 in
    let h = w.1 in
    let low : n ≤ min m k = h.below in (
      n,
      record {
        found = h.found;
        among = among_more m k ns n h.among;
        below = omega (arith, min-le_left m k);
        first = All-cons (λ j. n ≤ j) k ns (omega (arith, min-le_right m k)) h.first;
      },
    )

-- where there are numbers, the least is one of them, and none is less
pub record IsLeastOf (ns : List ℕ) (n : ℕ) : Type 0 where
  pub found : least ns ≡ Some n
  pub among : Contains ns n
  pub first : All (λ k. n ≤ k) ns

among_all : (m : ℕ) (ns : List ℕ) (n : ℕ) → (n ≡ m) ⊎ Contains ns n → Contains (m ∷ ns) n
among_all m ns n (inl e) = subst (λ z. Contains (m ∷ ns) z) (sym e) (head_in m ns)
among_all m ns n (inr h) = tail_in m ns n h

pub least_there : (m : ℕ) (ns : List ℕ) → (n : ℕ) × IsLeastOf (m ∷ ns) n
least_there m ns =
    let w = least_of m ns in
    let n = w.0 in
    let h = w.1 in
    (n, record { found = h.found; among = among_all m ns n h.among; first = All-cons (λ k. n ≤ k) m ns h.below h.first })

pub none_least : (ns : List ℕ) → least ns ≡ None → ns ≡ []
none_least [] e = refl
none_least (m ∷ ns) e = let w = least_there m ns in let f : least (m ∷ ns) ≡ Some w.0 = w.1.found in cc

pub is_least : (ns : List ℕ) (n : ℕ) → least ns ≡ Some n → Contains ns n × All (λ k. n ≤ k) ns
is_least [] n e = cc
is_least (m ∷ ns) n e =
    let w = least_there m ns in
    let f : least (m ∷ ns) ≡ Some w.0 = w.1.found in
    let same : w.0 ≡ n = cc in
    subst (λ z. Contains (m ∷ ns) z × All (λ k. z ≤ k) (m ∷ ns)) same (w.1.among, w.1.first)

pub least_is : (ns : List ℕ) (n : ℕ) → Contains ns n → All (λ k. n ≤ k) ns → least ns ≡ Some n
least_is [] n p q = absurd (omega (arith, p.1))
least_is (m ∷ ns) n p q =
    let w = least_there m ns in
    let down : w.0 ≤ n = All-contains (λ k. w.0 ≤ k) (m ∷ ns) n w.1.first p in
    let up : n ≤ w.0 = All-contains (λ k. n ≤ k) (m ∷ ns) w.0 q w.1.among in
    let same : w.0 ≡ n = omega arith in
    w.1.found ∙ ap (λ k. Some k) same
