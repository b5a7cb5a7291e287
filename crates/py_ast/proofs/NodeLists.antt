-- Walks over lists of nodes that are joined.
use Rattle.std.proofs.Common.{◌≡◌, ◌==◌, ◌+◌, ℕ, Bool, true, false, List, [], ◌∷◌, ◌++◌, refl, sym, ap, ◌∙◌, Option, Some, None, if◌then◌else◌, length, map, drop, ◌<◌, slice_index_or, arith, suc, zero, subst, eqb-true, eq-eqb, ◌^◌, ◌≤◌, ◌⊎◌, inl, inr, ◌↔◌, slice_get, option_map, IsNone}
use Rattle.std.proofs.lemmas.Bool.{true≢false}
use Rattle.std.proofs.lemmas.Option.{slice_get_within}
use Rattle.std.proofs.lemmas.List.{drop_more}
use Rattle.py_ast.specs.Nodes.{Node, number_of, node_at, seen, flatten, count_from, IsNumbered, nodes_of_cell}
use Rattle.py_ast.specs.declared.cell.Cell.{Cell}
use Rattle.py_ast.specs.declared.find.NodeRef.{NodeRef}
use Rattle.py_ast.specs.Walks.{counted, with_number, counted_on, or_else}

if_counted : (b : Bool) (x : Option ℕ) (ys : List Node) → (if b then counted_on x ys else None) ≡ counted_on (if b then x else None) ys
if_counted true x ys = refl
if_counted false x ys = refl

pub counted_append : (last : ℕ) (xs ys : List Node) → counted last (xs ++ ys) ≡ counted_on (counted last xs) ys
counted_append last [] ys = refl
counted_append last (n ∷ ns) ys =
    ap (λ (z : Option ℕ). if number_of n == last + 1 then z else None) (counted_append (number_of n) ns ys)
    ∙ if_counted (number_of n == last + 1) (counted (number_of n) ns) ys

if_found : (b : Bool) (n : Node) (x y : Option Node) → (if b then Some n else or_else x y) ≡ or_else (if b then Some n else x) y
if_found true n x y = refl
if_found false n x y = refl

pub with_number_append : (i : ℕ) (xs ys : List Node) → with_number i (xs ++ ys) ≡ or_else (with_number i xs) (with_number i ys)
with_number_append i [] ys = refl
with_number_append i (n ∷ ns) ys =
    ap (λ (z : Option Node). if number_of n == i then Some n else z) (with_number_append i ns ys)
    ∙ if_found (number_of n == i) n (with_number i ns) (with_number i ys)

-- ---- the first of the parts that are left

pub joined_head : {A : Type 0} (f : A → List Node) (i : ℕ) (all : List A) (x : A) → i < length all → x ≡ slice_index_or all i x
    → flatten (map f (drop i all)) ≡ f x ++ flatten (map f (drop (i + 1) all))
joined_head f i all x inside is = ap (λ z. flatten (map f z)) (drop_more all i x inside ∙ ap (λ z. z ∷ drop (i + 1) all) (sym is))

pub counted_head : {A : Type 0} (f : A → List Node) (i at : ℕ) (all : List A) (x : A) (r : Option ℕ) → i < length all → x ≡ slice_index_or all i x → r ≡ counted at (f x)
    → counted at (flatten (map f (drop i all))) ≡ counted_on r (flatten (map f (drop (i + 1) all)))
counted_head f i at all x r inside is e =
    ap (counted at) (joined_head f i all x inside is)
    ∙ counted_append at (f x) (flatten (map f (drop (i + 1) all)))
    ∙ ap (λ (z : Option ℕ). counted_on z (flatten (map f (drop (i + 1) all)))) (sym e)

-- a walk over the parts stops where one has no last number, and goes on from the last number of one that has it
pub counted_stops : {A : Type 0} (f : A → List Node) (i at last : ℕ) (all : List A) (x : A) (r : Option ℕ) → i < length all → x ≡ slice_index_or all i x → r ≡ counted at (f x)
    → counted at (flatten (map f (drop i all))) ≡ counted last (flatten (map f all)) → r ≡ None → None ≡ counted last (flatten (map f all))
counted_stops f i at last all x r inside is e so_far none =
    sym (sym so_far ∙ counted_head f i at all x r inside is e ∙ ap (λ (z : Option ℕ). counted_on z (flatten (map f (drop (i + 1) all)))) none)

pub counted_goes_on : {A : Type 0} (f : A → List Node) (i at last next : ℕ) (all : List A) (x : A) (r : Option ℕ) → i < length all → x ≡ slice_index_or all i x → r ≡ counted at (f x)
    → counted at (flatten (map f (drop i all))) ≡ counted last (flatten (map f all)) → r ≡ Some next
    → counted next (flatten (map f (drop (i + 1) all))) ≡ counted last (flatten (map f all))
counted_goes_on f i at last next all x r inside is e so_far some =
    sym (ap (λ (z : Option ℕ). counted_on z (flatten (map f (drop (i + 1) all)))) some) ∙ sym (counted_head f i at all x r inside is e) ∙ so_far

-- ---- where the walk has an answer the nodes are numbered, and the other way round

abbrev Counts : ℕ → List Node → ℕ → Type 0
Counts last ns m = (map number_of ns ≡ count_from (last + 1) (length ns)) × (m ≡ last + length ns)

some_same : (m n : ℕ) → Some m ≡ Some n → m ≡ n
some_same m n e = ap (or_zero) e
  where
    or_zero : Option ℕ → ℕ
    or_zero None = 0
    or_zero (Some k) = k

not_some : (m : ℕ) → ◌≡◌ {A = Option ℕ} None (Some m) → ⊥
not_some m e = subst (λ (z : Option ℕ). elim z as (λ _. Type 0) [ None ↦ Unit {0} | Some k ↦ ⊥ ]) e tt

counted_case : (ns : List Node) (n : Node) (last m : ℕ) → ((last m : ℕ) → counted last ns ≡ Some m → Counts last ns m)
    → (b : Bool) → (number_of n == last + 1) ≡ b → (if b then counted (number_of n) ns else None) ≡ Some m → Counts last (n ∷ ns) m
counted_case ns n last m rest false h e = absurd (not_some m e)
counted_case ns n last m rest true h e =
    let same : number_of n ≡ last + 1 = eqb-true (number_of n) (last + 1) h in
    let later : Counts (number_of n) ns m = rest (number_of n) m e in
    let last_number : m ≡ number_of n + length ns = later.1 in (
      ap (λ (z : ℕ). z ∷ map number_of ns) same
          ∙ ap (λ (zs : List ℕ). (last + 1) ∷ zs) (later.0 ∙ ap (λ (z : ℕ). count_from (z + 1) (length ns)) same),
      omega arith,
    )

pub counted_some : (ns : List Node) (last m : ℕ) → counted last ns ≡ Some m → Counts last ns m
counted_some [] last m e = (refl, sym (some_same last m e) ∙ omega arith)
counted_some (n ∷ ns) last m e = counted_case ns n last m (counted_some ns) (number_of n == last + 1) refl e

-- the head of numbers that count
head_is : (m n : ℕ) (ms ns : List ℕ) → (m ∷ ms) ≡ (n ∷ ns) → m ≡ n
head_is m n ms ns e = ap (λ (zs : List ℕ). head_or zs) e
  where
    head_or : List ℕ → ℕ
    head_or [] = 0
    head_or (k ∷ ks) = k

tail_is : (m n : ℕ) (ms ns : List ℕ) → (m ∷ ms) ≡ (n ∷ ns) → ms ≡ ns
tail_is m n ms ns e = ap (λ (zs : List ℕ). tail_of zs) e
  where
    tail_of : List ℕ → List ℕ
    tail_of [] = []
    tail_of (k ∷ ks) = ks

pub numbered_counted : (ns : List Node) (last : ℕ) → map number_of ns ≡ count_from (last + 1) (length ns) → counted last ns ≡ Some (last + length ns)
numbered_counted [] last e = ap Some (omega arith)
numbered_counted (n ∷ ns) last e =
    let same : number_of n ≡ last + 1 = head_is (number_of n) (last + 1) (map number_of ns) (count_from (last + 1 + 1) (length ns)) e in
    let rest : map number_of ns ≡ count_from (last + 1 + 1) (length ns) = tail_is (number_of n) (last + 1) (map number_of ns) (count_from (last + 1 + 1) (length ns)) e in
    ap (λ (b : Bool). if b then counted (number_of n) ns else None) (eq-eqb (number_of n) (last + 1) same)
    ∙ ap (λ (z : ℕ). counted z ns) same
    ∙ numbered_counted ns (last + 1) rest
    ∙ ap Some (omega arith)

pub counted_is_numbered : (c : Cell) (m : ℕ) → counted 0 (nodes_of_cell c) ≡ Some m → m < 2 ^ 32 → IsNumbered c
counted_is_numbered c m e few =
    let all = counted_some (nodes_of_cell c) 0 m e in
    let last_number : m ≡ 0 + length (nodes_of_cell c) = all.1 in
    record { in_order = all.0; few = omega arith }

pub numbered_is_counted : (c : Cell) → IsNumbered c → counted 0 (nodes_of_cell c) ≡ Some (length (nodes_of_cell c))
numbered_is_counted c numbered = numbered_counted (nodes_of_cell c) 0 numbered.in_order ∙ ap Some (omega arith)

pub counted_is_size : (c : Cell) (r : Option ℕ) (m : ℕ) → IsNumbered c → r ≡ counted 0 (nodes_of_cell c) → r ≡ Some m → m ≡ length (nodes_of_cell c)
counted_is_size c r m numbered is some = some_same m (length (nodes_of_cell c)) (sym some ∙ is ∙ numbered_is_counted c numbered)

pub fewer : {n : ℕ} (m : ℕ) → n < 2 ^ 32 → m ≡ n → m < 2 ^ 32
fewer m few same = omega arith

pub counted_is_some : {P : Type 0} (c : Cell) (r : Option ℕ) → IsNumbered c → r ≡ counted 0 (nodes_of_cell c) → r ≡ None → P
counted_is_some c r numbered is none = absurd (not_some (length (nodes_of_cell c)) (sym none ∙ is ∙ numbered_is_counted c numbered))

-- ---- the node with a number

pub found_head : {A : Type 0} (f : A → List Node) (k i : ℕ) (all : List A) (x : A) → k < length all → x ≡ slice_index_or all k x
    → with_number i (flatten (map f (drop k all))) ≡ or_else (with_number i (f x)) (with_number i (flatten (map f (drop (k + 1) all))))
found_head f k i all x inside is =
    ap (with_number i) (joined_head f k all x inside is) ∙ with_number_append i (f x) (flatten (map f (drop (k + 1) all)))

pub found_here : {A : Type 0} (f : A → List Node) (k i : ℕ) (all : List A) (x : A) (r : Option NodeRef) (found : NodeRef) → k < length all → x ≡ slice_index_or all k x
    → option_map seen r ≡ with_number i (f x) → with_number i (flatten (map f (drop k all))) ≡ with_number i (flatten (map f all)) → r ≡ Some found
    → Some (seen found) ≡ with_number i (flatten (map f all))
found_here f k i all x r found inside is e so_far some =
    let here : with_number i (f x) ≡ Some (seen found) = sym e ∙ ap (option_map seen) some in
    sym (sym so_far ∙ found_head f k i all x inside is ∙ ap (λ (z : Option Node). or_else z (with_number i (flatten (map f (drop (k + 1) all))))) here)

pub found_later : {A : Type 0} (f : A → List Node) (k i : ℕ) (all : List A) (x : A) (r : Option NodeRef) → k < length all → x ≡ slice_index_or all k x
    → option_map seen r ≡ with_number i (f x) → with_number i (flatten (map f (drop k all))) ≡ with_number i (flatten (map f all)) → r ≡ None
    → with_number i (flatten (map f (drop (k + 1) all))) ≡ with_number i (flatten (map f all))
found_later f k i all x r inside is e so_far none =
    let here : with_number i (f x) ≡ None = sym e ∙ ap (option_map seen) none in
    sym (ap (λ (z : Option Node). or_else z (with_number i (flatten (map f (drop (k + 1) all))))) here) ∙ sym (found_head f k i all x inside is) ∙ so_far

skip_case : (m i : ℕ) (x y : Option Node) → (m ≡ i → ⊥) → (b : Bool) → (m == i) ≡ b → (if b then x else y) ≡ y
skip_case m i x y apart true h = absurd (apart (eqb-true m i h))
skip_case m i x y apart false h = refl

skip : (m i : ℕ) (x y : Option Node) → (m ≡ i → ⊥) → (if m == i then x else y) ≡ y
skip m i x y apart = skip_case m i x y apart (m == i) refl

-- the first of the nodes that are numbered on from n, and the others
first_is : (n : ℕ) (x : Node) (ns : List Node) → map number_of (x ∷ ns) ≡ count_from (n + 1) (length (x ∷ ns)) → number_of x ≡ n + 1
first_is n x ns e = head_is (number_of x) (n + 1) (map number_of ns) (count_from (n + 1 + 1) (length ns)) e

others_are : (n : ℕ) (x : Node) (ns : List Node) → map number_of (x ∷ ns) ≡ count_from (n + 1) (length (x ∷ ns)) → map number_of ns ≡ count_from (n + 1 + 1) (length ns)
others_are n x ns e = tail_is (number_of x) (n + 1) (map number_of ns) (count_from (n + 1 + 1) (length ns)) e

too_small : (ns : List Node) (n i : ℕ) → i ≤ n → map number_of ns ≡ count_from (n + 1) (length ns) → with_number i ns ≡ None
too_small [] n i h e = refl
too_small (x ∷ ns) n i h e =
    skip (number_of x) i (Some x) (with_number i ns) (λ same. let first = first_is n x ns e in omega arith)
    ∙ too_small ns (n + 1) i (omega arith) (others_are n x ns e)

found_at : (ns : List Node) (n k : ℕ) → map number_of ns ≡ count_from (n + 1) (length ns) → with_number (n + 1 + k) ns ≡ slice_get ns k
found_at [] n k e = refl
found_at (x ∷ ns) n zero e =
    ap (λ (b : Bool). if b then Some x else with_number (n + 1 + 0) ns) (eq-eqb (number_of x) (n + 1 + 0) (first_is n x ns e ∙ omega arith))
found_at (x ∷ ns) n (suc k) e =
    skip (number_of x) (n + 1 + suc k) (Some x) (with_number (n + 1 + suc k) ns) (λ same. let first = first_is n x ns e in omega arith)
    ∙ ap (λ (z : ℕ). with_number z ns) (let h : n + 1 + suc k ≡ n + 1 + 1 + k = omega arith in h)
    ∙ found_at ns (n + 1) k (others_are n x ns e)

node_found : (ns : List Node) (i : ℕ) → map number_of ns ≡ count_from (0 + 1) (length ns) → with_number i ns ≡ node_at ns i
node_found ns zero e = too_small ns 0 0 (omega arith) e
node_found ns (suc k) e = ap (λ (z : ℕ). with_number z ns) (let h : suc k ≡ 0 + 1 + k = omega arith in h) ∙ found_at ns 0 k e

pub numbered_found : (c : Cell) (i : ℕ) → IsNumbered c → with_number i (nodes_of_cell c) ≡ node_at (nodes_of_cell c) i
numbered_found c i numbered = node_found (nodes_of_cell c) i numbered.in_order

-- ---- which numbers have no node

none_some : {T : Type 0} (x : T) → ◌≡◌ {A = Option T} None (Some x) → ⊥
none_some x e = subst (λ z. elim z as (λ _. Type 0) [ None ↦ Unit {0} | Some k ↦ ⊥ ]) e tt

past : (ns : List Node) (k : ℕ) → ◌≡◌ {A = Option Node} None (slice_get ns k) → length ns < suc k
past [] k e = omega arith
past (n ∷ ns) zero e = absurd (none_some n e)
past (n ∷ ns) (suc k) e = let rest = past ns k e in omega arith

no_place : {P : Type 0} (ns : List Node) (k : ℕ) (n : Node) → slice_get ns k ≡ Some n → (suc k ≡ 0) ⊎ (length ns < suc k) → P
no_place ns k n e (inl h) = absurd (let inside = slice_get_within ns k n e in omega arith)
no_place ns k n e (inr h) = absurd (let inside = slice_get_within ns k n e in omega arith)

pub outside_law : (ns : List Node) (i : ℕ) (r : Option NodeRef) → option_map seen r ≡ node_at ns i → IsNone r ↔ ((i ≡ 0) ⊎ (length ns < i))
outside_law ns zero None e = (λ _. inl refl, λ _. refl)
outside_law ns zero (Some found) e = absurd (none_some (seen found) (sym e))
outside_law ns (suc k) None e = (λ _. inr (past ns k e), λ _. refl)
outside_law ns (suc k) (Some found) e = (λ h. absurd (true≢false h), λ h. no_place ns k (seen found) (sym e) h)

-- ---- a node that was found holds the number

held_case : (i : ℕ) (x n : Node) (rest : Option Node) → (rest ≡ Some n → number_of n ≡ i) → (b : Bool) → (number_of x == i) ≡ b
    → (if b then Some x else rest) ≡ Some n → number_of n ≡ i
held_case i x n rest later true h e = ap number_of (sym (node_same x n e)) ∙ eqb-true (number_of x) i h
  where
    node_same : (x n : Node) → Some x ≡ Some n → x ≡ n
    node_same x n e = ap (λ (o : Option Node). or_this x o) e
      where
        or_this : Node → Option Node → Node
        or_this y None = y
        or_this y (Some z) = z
held_case i x n rest later false h e = later e

held : (ns : List Node) (i : ℕ) (n : Node) → with_number i ns ≡ Some n → number_of n ≡ i
held [] i n e = absurd (none_some n e)
held (x ∷ ns) i n e = held_case i x n (with_number i ns) (held ns i n) (number_of x == i) refl e

pub number_at : (c : Cell) (i : ℕ) (n : Node) → IsNumbered c → node_at (nodes_of_cell c) i ≡ Some n → number_of n ≡ i
number_at c i n numbered e = held (nodes_of_cell c) i n (numbered_found c i numbered ∙ e)
