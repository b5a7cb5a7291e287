-- On what a list contains, and on counts.
use Rattle.std.proofs.Common.{◌≡◌, ℕ, zero, suc, ◌+◌, ◌<◌, ◌≤◌, Bool, true, false, cond, List, [], ◌∷◌, length, map, refl, sym, ap, subst, ◌∙◌, ⊎_elim, arith}
use Rattle.std.specs.Prelude.{Option, Some, filter, find, is_some}
use Rattle.std.specs.List.{Contains, flat_map, list_any}
use Rattle.std.proofs.lemmas.Bool.{false≢true, true≢false, or_cases, or_left, or_right}
use Rattle.std.proofs.lemmas.List.Elements.{Contains-append_cases, Contains-append_left, Contains-append_right}

-- an empty list contains nothing
pub no_member : {X : Type 0} (x : X) → Contains [] x → ⊥
no_member x (k, lt, e) = omega arith

-- a list contains its first element
pub Contains-head : {X : Type 0} (x : X) (xs : List X) → Contains (x ∷ xs) x
Contains-head x xs = (0, omega arith, refl)

-- a longer list contains what the rest does
pub Contains-cons : {X : Type 0} (y x : X) (xs : List X) → Contains xs x → Contains (y ∷ xs) x
Contains-cons y x xs (k, lt, e) = (suc k, omega arith, e)

-- ---- a map

-- what a mapped list contains comes from an element
pub Contains-map : {X Y : Type 0} (f : X → Y) (xs : List X) (y : Y) → Contains (map f xs) y → (x : X) × Contains xs x × (f x ≡ y)
Contains-map f [] y c = absurd (no_member y c)
Contains-map f (x ∷ xs) y (zero, lt, e) = (x, Contains-head x xs, e)
Contains-map f (x ∷ xs) y (suc k, lt, e) =
    let rest = Contains-map f xs y (k, omega arith, e) in
    (rest.0, Contains-cons x rest.0 xs rest.1, rest.2)

-- a mapped list contains what each element gives
pub Contains-map_of : {X Y : Type 0} (f : X → Y) (xs : List X) (x : X) → Contains xs x → Contains (map f xs) (f x)
Contains-map_of f [] x c = absurd (no_member x c)
Contains-map_of f (y ∷ ys) x (zero, lt, e) = (0, omega arith, ap f e)
Contains-map_of f (y ∷ ys) x (suc k, lt, e) = Contains-cons (f y) (f x) (map f ys) (Contains-map_of f ys x (k, omega arith, e))

-- ---- lists joined end to end

-- what lists joined end to end contain is in one of them
pub Contains-flat_map : {X Y : Type 0} (f : X → List Y) (xs : List X) (y : Y) → Contains (flat_map f xs) y → (x : X) × Contains xs x × Contains (f x) y
Contains-flat_map f [] y c = absurd (no_member y c)
Contains-flat_map {X} {Y} f (x ∷ xs) y c = ⊎_elim
    (λ (here : Contains (f x) y). (x, Contains-head x xs, here))
    (λ (later : Contains (flat_map f xs) y). let rest = Contains-flat_map f xs y later in (rest.0, Contains-cons x rest.0 xs rest.1, rest.2))
    (Contains-append_cases (f x) (flat_map f xs) y c)

-- lists joined end to end contain what each of them does
pub Contains-flat_map_of : {X Y : Type 0} (f : X → List Y) (xs : List X) (x : X) (y : Y) → Contains xs x → Contains (f x) y → Contains (flat_map f xs) y
Contains-flat_map_of f [] x y c d = absurd (no_member x c)
Contains-flat_map_of {X} {Y} f (z ∷ zs) x y (zero, lt, e) d =
    Contains-append_left (f z) (flat_map f zs) y (subst (λ (w : X). Contains (f w) y) (sym e) d)
Contains-flat_map_of f (z ∷ zs) x y (suc k, lt, e) d =
    Contains-append_right (f z) (flat_map f zs) y (Contains-flat_map_of f zs x y (k, omega arith, e) d)

-- ---- some element passes

-- where some element passes, there is one
pub list_any-Contains : {X : Type 0} (p : X → Bool) (xs : List X) → list_any p xs ≡ true → (x : X) × Contains xs x × (p x ≡ true)
list_any-Contains p [] e = absurd (false≢true e)
list_any-Contains p (x ∷ xs) e = ⊎_elim
    (λ (here : p x ≡ true). (x, Contains-head x xs, here))
    (λ (later : list_any p xs ≡ true). let rest = list_any-Contains p xs later in (rest.0, Contains-cons x rest.0 xs rest.1, rest.2))
    (or_cases (p x) (list_any p xs) e)

-- some element passes where one does
pub list_any_of : {X : Type 0} (p : X → Bool) (xs : List X) (x : X) → Contains xs x → p x ≡ true → list_any p xs ≡ true
list_any_of p [] x c t = absurd (no_member x c)
list_any_of p (z ∷ zs) x (zero, lt, e) t = or_left (p z) (list_any p zs) (ap p e ∙ t)
list_any_of p (z ∷ zs) x (suc k, lt, e) t = or_right (p z) (list_any p zs) (list_any_of p zs x (k, omega arith, e) t)

-- ---- counts

-- 1 for an element that passes
abbrev bit : Bool → ℕ
bit true = 1
bit false = 0

-- how many pass a test
abbrev pub count : {X : Type 0} → (X → Bool) → List X → ℕ
count p [] = 0
count p (x ∷ xs) = bit (p x) + count p xs

-- at one element, a weaker test counts no less
bit_le : (a b : Bool) → (a ≡ true → b ≡ true) → bit a ≤ bit b
bit_le true true f = omega arith
bit_le true false f = absurd (false≢true (f refl))
bit_le false b f = omega arith

-- at an element that only the second test passes
bit_lt : (a b : Bool) → a ≡ false → b ≡ true → bit a < bit b
bit_lt true b f t = absurd (true≢false f)
bit_lt false true f t = omega arith
bit_lt false false f t = absurd (false≢true t)

-- a weaker test passes more
module _ {X : Type 0} (p q : X → Bool) (weaker : (x : X) → p x ≡ true → q x ≡ true) where
  -- no fewer pass
  pub count_le : (xs : List X) → count p xs ≤ count q xs
  count_le [] = omega arith
  count_le (x ∷ xs) = omega (arith, bit_le (p x) (q x) (weaker x), count_le xs)

  -- where it passes one element more
  pub count_lt : (xs : List X) (x : X) → Contains xs x → p x ≡ false → q x ≡ true → count p xs < count q xs
  count_lt [] x c f t = absurd (no_member x c)
  count_lt (z ∷ zs) x (zero, lt, e) f t = omega (arith, bit_lt (p z) (q z) (ap p e ∙ f) (ap q e ∙ t), count_le zs)
  count_lt (z ∷ zs) x (suc k, lt, e) f t = omega (arith, bit_le (p z) (q z) (weaker z), count_lt zs x (k, omega arith, e) f t)

-- all elements pass the test that passes all
pub count_all : {X : Type 0} (xs : List X) → count (λ x. true) xs ≡ length xs
count_all [] = refl
count_all (x ∷ xs) = omega (arith, count_all xs)

-- ---- what a filter keeps

-- the same with one element more, which passes or not
filter_head : {X : Type 0} (p : X → Bool) (z x : X) (zs : List X) (b : Bool) → p z ≡ b → (Contains (filter p zs) x → Contains zs x × (p x ≡ true))
    → Contains (cond b (z ∷ filter p zs) (filter p zs)) x → Contains (z ∷ zs) x × (p x ≡ true)
filter_head p z x zs true e rest (zero, lt, q) = ((0, omega arith, q), ap p (sym q) ∙ e)
filter_head p z x zs true e rest (suc k, lt, q) = let found = rest (k, omega arith, q) in (Contains-cons z x zs found.0, found.1)
filter_head p z x zs false e rest c = let found = rest c in (Contains-cons z x zs found.0, found.1)

-- what a filter keeps is in the list and passes
pub Contains-filter : {X : Type 0} (p : X → Bool) (xs : List X) (x : X) → Contains (filter p xs) x → Contains xs x × (p x ≡ true)
Contains-filter p [] x c = absurd (no_member x c)
Contains-filter p (z ∷ zs) x c = filter_head p z x zs (p z) refl (Contains-filter p zs x) c

-- an element more at the front takes nothing away
filter_more : {X : Type 0} (z x : X) (xs : List X) (b : Bool) → Contains xs x → Contains (cond b (z ∷ xs) xs) x
filter_more z x xs true c = Contains-cons z x xs c
filter_more z x xs false c = c

-- a filter keeps each element that passes
pub Contains-filter_of : {X : Type 0} (p : X → Bool) (xs : List X) (x : X) → Contains xs x → p x ≡ true → Contains (filter p xs) x
Contains-filter_of p [] x c t = absurd (no_member x c)
Contains-filter_of {X} p (z ∷ zs) x (zero, lt, e) t =
    subst (λ (b : Bool). Contains (cond b (z ∷ filter p zs) (filter p zs)) x) (sym (ap p e ∙ t)) (0, omega arith, e)
Contains-filter_of p (z ∷ zs) x (suc k, lt, e) t = filter_more z x (filter p zs) (p z) (Contains-filter_of p zs x (k, omega arith, e) t)

-- ---- the first that passes

-- the same with one element more, which passes or not
find_head : {X : Type 0} (p : X → Bool) (z : X) (o : Option X) (b : Bool) → p z ≡ b → is_some o ≡ true → is_some (cond b (Some z) o) ≡ true
find_head p z o true e t = refl
find_head p z o false e t = t

-- a search finds one where an element passes
pub find_some : {X : Type 0} (p : X → Bool) (xs : List X) (x : X) → Contains xs x → p x ≡ true → is_some (find p xs) ≡ true
find_some p [] x c t = absurd (no_member x c)
find_some {X} p (z ∷ zs) x (zero, lt, e) t = subst (λ (b : Bool). is_some (cond b (Some z) (find p zs)) ≡ true) (sym (ap p e ∙ t)) refl
find_some p (z ∷ zs) x (suc k, lt, e) t = find_head p z (find p zs) (p z) refl (find_some p zs x (k, omega arith, e) t)
