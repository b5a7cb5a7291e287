-- Nodes that hold numbers from the first on: two runs of them after each other, a node before those below it, and one more in a list.
use Rattle.std.proofs.Common.{◌≡◌, ℕ, zero, suc, ◌+◌, List, [], ◌∷◌, ◌++◌, map, sym, ap, ◌∙◌, append_assoc, arith}
use Rattle.std.proofs.lemmas.List.{append-nil, map-append}
use Rattle.py_ast.specs.Nodes.{Node, count_from, flatten, number_of}
use Rattle.py_line.specs.Form.{numbers}

pub count_split : (a b n : ℕ) → count_from n (a + b) ≡ count_from n a ++ count_from (n + a) b
count_split zero b n =
    ap (λ (z : ℕ). count_from n z) (let f : zero + b ≡ b = omega arith in f)
    ∙ ap (λ (z : ℕ). count_from z b) (let f : n ≡ n + zero = omega arith in f)
count_split (suc a) b n =
    ap (λ (z : ℕ). count_from n z) (let f : suc a + b ≡ suc (a + b) = omega arith in f)
    ∙ ap (λ (z : List ℕ). n ∷ z) (count_split a b (n + 1))
    ∙ ap (λ (z : ℕ). n ∷ count_from (n + 1) a ++ count_from z b) (let f : n + 1 + a ≡ n + suc a = omega arith in f)

-- two lists of nodes after each other
pub both_counted : (n m a b : ℕ) (xs ys : List Node) → numbers xs ≡ count_from n a → m ≡ n + a → numbers ys ≡ count_from m b
    → numbers (xs ++ ys) ≡ count_from n (a + b)
both_counted n m a b xs ys p h q =
    map-append number_of xs ys
    ∙ ap (λ (z : List ℕ). z ++ numbers ys) p
    ∙ ap (λ (z : List ℕ). count_from n a ++ z) q
    ∙ ap (λ (z : ℕ). count_from n a ++ count_from z b) h
    ∙ sym (count_split a b n)

-- a node before those below it
pub node_counted : (n k i : ℕ) (ms ns : List Node) → i ≡ n → ms ≡ ns → numbers ns ≡ count_from (n + 1) k → (i ∷ numbers ms) ≡ count_from n (1 + k)
node_counted n k i ms ns h s p =
    ap (λ (z : ℕ). z ∷ numbers ms) h
    ∙ ap (λ (z : List Node). n ∷ numbers z) s
    ∙ ap (λ (z : List ℕ). n ∷ z) p
    ∙ ap (λ (z : ℕ). count_from n z) (let f : suc k ≡ 1 + k = omega arith in f)

-- ---- one more in a list

map_push : {A B : Type 0} (f : A → B) (xs : List A) (x : A) → map f (xs ++ x ∷ []) ≡ map f xs ++ f x ∷ []
map_push f xs x = map-append f xs (x ∷ [])

flatten_push : (xs : List (List Node)) (x : List Node) → flatten (xs ++ x ∷ []) ≡ flatten xs ++ x
flatten_push [] x = append-nil x
flatten_push (y ∷ xs) x = ap (λ (z : List Node). y ++ z) (flatten_push xs x) ∙ sym (append_assoc y (flatten xs) x)

pub same_more : {A C : Type 0} (f : A → C) (done : List A) (one : A) (c : C) (rest all : List C) → f one ≡ c → map f done ++ c ∷ rest ≡ all
    → map f (done ++ one ∷ []) ++ rest ≡ all
same_more {C = C} f done one c rest all h p =
    ap (λ (z : List C). z ++ rest) (map_push f done one)
    ∙ append_assoc (map f done) (f one ∷ []) rest
    ∙ ap (λ (z : C). map f done ++ z ∷ rest) h
    ∙ p

pub counted_more : {A : Type 0} (f : A → List Node) (done : List A) (one : A) (s k n m : ℕ) (all : List ℕ) → numbers (f one) ≡ count_from n s → m ≡ n + s
    → numbers (flatten (map f done)) ++ count_from n (s + k) ≡ all → numbers (flatten (map f (done ++ one ∷ []))) ++ count_from m k ≡ all
counted_more f done one s k n m all p h q =
    ap (λ (z : List (List Node)). numbers (flatten z) ++ count_from m k) (map_push f done one)
    ∙ ap (λ (z : List Node). numbers z ++ count_from m k) (flatten_push (map f done) (f one))
    ∙ ap (λ (z : List ℕ). z ++ count_from m k) (map-append number_of (flatten (map f done)) (f one))
    ∙ append_assoc (numbers (flatten (map f done))) (numbers (f one)) (count_from m k)
    ∙ ap (λ (z : List ℕ). numbers (flatten (map f done)) ++ (z ++ count_from m k)) p
    ∙ ap (λ (z : ℕ). numbers (flatten (map f done)) ++ (count_from n s ++ count_from z k)) h
    ∙ ap (λ (z : List ℕ). numbers (flatten (map f done)) ++ z) (sym (count_split s k n))
    ∙ q
