-- The parameters of a function without a fault are its first slots.
use Rattle.std.proofs.Common.{◌≡◌, ℕ, suc, Bool, true, false, not, ◌||◌, cond, List, [], ◌∷◌, ◌++◌, length, take, filter, Option, Some, None, is_some, bytes_eq, refl, sym, ap, ◌∙◌, append_assoc, append-nil, arith, if◌then◌else◌}
use Rattle.std.specs.List.{Contains, flat_map, list_any}
use Rattle.std.proofs.Math.Seq.{take-append_seam}
use Rattle.std.proofs.lemmas.Bool.{true≢false, false_from_ne_true}
use Rattle.std.proofs.lemmas.Slice.Eq.{bytes_eq-Decides}
use Rattle.flow_base.specs.Names.{next_sym, symbol_of, with_name}
use Rattle.flow_base.specs.declared.numbers.Sym.{Sym}
use Rattle.py_ast.specs.Lawful.{AreDistinct}
use Rattle.py_scope.specs.NameLists.{has, once, with_names}
use Rattle.py_scope.specs.Faults.{belongs_nowhere, faults_from, faults_of, has_fault, if_fault, is_class, name_has_fault}
use Rattle.py_scope.specs.Scopes.{Code, bound, declared, declared_in, is_in_neither, locals_of, same_way}
use Rattle.py_scope.specs.declared.mark.Mark.{Mark}
use Rattle.py_scope.specs.declared.mark.Mark.TheVariants.{Binds, Declares}
use Rattle.py_scope.specs.declared.mark.Way.{Way}
use Rattle.py_scope.specs.declared.mark.Way.TheVariants.{Global, Nonlocal}
use Rattle.py_scope.specs.declared.scope.Kind.{Kind}
use Rattle.py_scope.specs.declared.scope.Scope.{Scope}
use Rattle.py_scope.proofs.Going.{with_filtered_append}

-- ---- which names a list has

next_case : (o : Option Sym) → is_some (next_sym o) ≡ is_some o
next_case None = refl
next_case (Some s) = refl

head_case : (b : Bool) (s : Sym) (o : Option Sym) → is_some (cond b (Some s) (next_sym o)) ≡ (b || is_some o)
head_case true s o = refl
head_case false s o = next_case o

has_cons : (n : List ℕ) (ns : List (List ℕ)) (x : List ℕ) → has (n ∷ ns) x ≡ (bytes_eq n x || has ns x)
has_cons n ns x = head_case (bytes_eq n x) (record { 0 = 0 }) (symbol_of ns x)

or_assoc : (a b c : Bool) → (a || (b || c)) ≡ ((a || b) || c)
or_assoc true b c = refl
or_assoc false b c = refl

or_false : (a : Bool) → (a || false) ≡ a
or_false true = refl
or_false false = refl

has_append : (xs ys : List (List ℕ)) (x : List ℕ) → has (xs ++ ys) x ≡ (has xs x || has ys x)
has_append [] ys x = refl
has_append (n ∷ ns) ys x =
    has_cons n (ns ++ ys) x
    ∙ ap (λ (b : Bool). bytes_eq n x || b) (has_append ns ys x)
    ∙ or_assoc (bytes_eq n x) (has ns x) (has ys x)
    ∙ ap (λ (b : Bool). b || has ys x) (sym (has_cons n ns x))

has_one : (y x : List ℕ) → has (y ∷ []) x ≡ bytes_eq y x
has_one y x = has_cons y [] x ∙ or_false (bytes_eq y x)

known_case : (known : List (List ℕ)) (y x : List ℕ) → has known y ≡ true → (b : Bool) → (b ≡ true → y ≡ x)
    → has known x ≡ (has known x || b)
known_case known y x h true same = ap (has known) (sym (same refl)) ∙ h
    ∙ sym (ap (λ (b : Bool). b || true) (ap (has known) (sym (same refl)) ∙ h))
known_case known y x h false same = sym (or_false (has known x))

name_case : (known : List (List ℕ)) (y x : List ℕ) (b : Bool) → has known y ≡ b
    → has (cond b known (known ++ y ∷ [])) x ≡ (has known x || bytes_eq y x)
name_case known y x true h = known_case known y x h (bytes_eq y x) (bytes_eq-Decides y x).0
name_case known y x false h = has_append known (y ∷ []) x ∙ ap (λ (b : Bool). has known x || b) (has_one y x)

has_with_name : (known : List (List ℕ)) (y x : List ℕ) → has (with_name known y) x ≡ (has known x || bytes_eq y x)
has_with_name known y x = name_case known y x (has known y) refl

has_with_names : (known xs : List (List ℕ)) (x : List ℕ) → has (with_names known xs) x ≡ (has known x || has xs x)
has_with_names known [] x = sym (or_false (has known x))
has_with_names known (y ∷ ys) x =
    has_with_names (with_name known y) ys x
    ∙ ap (λ (b : Bool). b || has ys x) (has_with_name known y x)
    ∙ sym (or_assoc (has known x) (bytes_eq y x) (has ys x))
    ∙ ap (λ (b : Bool). has known x || b) (sym (has_cons y ys x))

has_once : (xs : List (List ℕ)) (x : List ℕ) → has (once xs) x ≡ has xs x
has_once xs x = has_with_names [] xs x

-- a name that a list has stands in it
contains_case : (n : List ℕ) (ns : List (List ℕ)) (x : List ℕ) (b : Bool) → (b ≡ true → n ≡ x) → (has ns x ≡ true → Contains ns x)
    → (b || has ns x) ≡ true
    → Contains (n ∷ ns) x
contains_case n ns x true same later h = (0, omega arith, same refl)
contains_case n ns x false same later h = let w = later h in (suc w.0, omega arith, w.2)

has_contains : (xs : List (List ℕ)) (x : List ℕ) → has xs x ≡ true → Contains xs x
has_contains [] x h = absurd (true≢false (sym h))
has_contains (n ∷ ns) x h =
    contains_case n ns x (bytes_eq n x) (bytes_eq-Decides n x).0 (has_contains ns x) (sym (has_cons n ns x) ∙ h)

-- ---- a declared parameter is a fault

or_parts : (a b : Bool) → (a || b) ≡ false → (a ≡ false) × (b ≡ false)
or_parts true b e = absurd (true≢false e)
or_parts false b e = (refl, e)

both_false : (a b : Bool) → a ≡ false → b ≡ false → (a || b) ≡ false
both_false a b e f = ap (λ (z : Bool). z || b) e ∙ f

-- a list in which a test fails everywhere does not have a name of which it holds
none_holds : (q : List ℕ → Bool) (names : List (List ℕ)) (x : List ℕ) → list_any q names ≡ false → q x ≡ true → has names x ≡ false
none_holds q [] x e h = refl
none_holds q (n ∷ ns) x e h =
    let both = or_parts (q n) (list_any q ns) e in
    let apart : bytes_eq n x ≡ false = false_from_ne_true (bytes_eq n x)
    (λ s. true≢false (sym h ∙ sym (ap q ((bytes_eq-Decides n x).0 s)) ∙ both.0)) in
    has_cons n ns x ∙ both_false (bytes_eq n x) (has ns x) apart (none_holds q ns x both.1 h)

nothing_first : (b : Bool) (i : ℕ) (rest : List ℕ) → (if_fault b i ++ rest) ≡ [] → (b ≡ false) × (rest ≡ [])
nothing_first true i rest e = absurd (cons_not_nil e)
  where
    cons_not_nil : (i ∷ rest) ≡ [] → ⊥
    cons_not_nil e = cc
nothing_first false i rest e = (refl, e)

-- the names of a declaration that has no fault
not_declared : (kind : Kind) (params : List (List ℕ)) (round : List Scope) (other : List (List ℕ)) (w v : Way) (names : List (List ℕ))
    (x : List ℕ)
    → has_fault kind params round other v names ≡ false → has params x ≡ true → has (if same_way w v then names else []) x ≡ false
not_declared kind params round other w v names x e h = case (same_way w v)
  where
    case : (b : Bool) → has (if b then names else []) x ≡ false
    case true = none_holds (name_has_fault params round other v) names x
        (or_parts (is_class kind) (list_any (name_has_fault params round other v) names) e).1
        (ap (λ (z : Bool). z || (has other x || belongs_nowhere v round x)) h)
    case false = refl

faultless : (kind : Kind) (params : List (List ℕ)) (round : List Scope) (g n : List (List ℕ)) (marks : List Mark) (w : Way) (x : List ℕ)
    → faults_from kind params round g n marks ≡ [] → has params x ≡ true → has (flat_map (declared_in w) marks) x ≡ false
faultless kind params round g n [] w x e h = refl
faultless kind params round g n (Binds name ∷ marks) w x e h = faultless kind params round g n marks w x e h
faultless kind params round g n (Declares i Global names ∷ marks) w x e h =
    let both = nothing_first (has_fault kind params round n Global names) i
    (faults_from kind params round (with_names g names) n marks) e in
    has_append (if same_way w Global then names else []) (flat_map (declared_in w) marks) x
    ∙ both_false (has (if same_way w Global then names else []) x) (has (flat_map (declared_in w) marks) x)
    (not_declared kind params round n w Global names x both.0 h) (faultless kind params round (with_names g names) n marks w x both.1 h)
faultless kind params round g n (Declares i Nonlocal names ∷ marks) w x e h =
    let both = nothing_first (has_fault kind params round g Nonlocal names) i
    (faults_from kind params round g (with_names n names) marks) e in
    has_append (if same_way w Nonlocal then names else []) (flat_map (declared_in w) marks) x
    ∙ both_false (has (if same_way w Nonlocal then names else []) x) (has (flat_map (declared_in w) marks) x)
    (not_declared kind params round g w Nonlocal names x both.0 h) (faultless kind params round g (with_names n names) marks w x both.1 h)

-- ---- the parameters stay as they are

-- a list all of whose names pass
all_pass : (p : List ℕ → Bool) (xs : List (List ℕ)) → ((x : List ℕ) → has xs x ≡ true → p x ≡ true) → filter p xs ≡ xs
all_pass p [] h = refl
all_pass p (x ∷ xs) h =
    ap (λ (b : Bool). cond b (x ∷ filter p xs) (filter p xs))
    (h x (has_cons x xs x ∙ ap (λ (b : Bool). b || has xs x) ((bytes_eq-Decides x x).1 refl)))
    ∙ ap (λ (z : List (List ℕ)). x ∷ z) (all_pass p xs
    (λ y k. h y (has_cons x xs y ∙ ap (λ (b : Bool). bytes_eq x y || b) k ∙ or_true (bytes_eq x y))))
  where
    or_true : (b : Bool) → (b || true) ≡ true
    or_true true = refl
    or_true false = refl

-- names that are new, and different from one another
new_names : (known xs : List (List ℕ)) → AreDistinct xs → ((x : List ℕ) → has xs x ≡ true → has known x ≡ false)
    → with_names known xs ≡ known ++ xs
new_names known [] d h = sym (append-nil known)
new_names known (x ∷ xs) d h =
    let absent : has xs x ≡ false = false_from_ne_true (has xs x) (λ k. d.0 (has_contains xs x k)) in
    let fresh : has known x ≡ false = h x (has_cons x xs x ∙ ap (λ (b : Bool). b || has xs x) ((bytes_eq-Decides x x).1 refl)) in
    ap (λ (b : Bool). with_names (cond b known (known ++ x ∷ [])) xs) fresh
    ∙ new_names (known ++ x ∷ []) xs d.1 (λ y k.
    has_append known (x ∷ []) y
    ∙ both_false (has known y) (has (x ∷ []) y)
    (h y (has_cons x xs y ∙ ap (λ (b : Bool). bytes_eq x y || b) k ∙ or_true (bytes_eq x y)))
    (has_one x y ∙ false_from_ne_true (bytes_eq x y) (λ s. true≢false (sym k ∙ sym (ap (has xs) ((bytes_eq-Decides x y).0 s)) ∙ absent))))
    ∙ append_assoc known (x ∷ []) xs
  where
    or_true : (b : Bool) → (b || true) ≡ true
    or_true true = refl
    or_true false = refl

-- what is there stays in front
abbrev Grows : List (List ℕ) → List (List ℕ) → Type 0
Grows known all = (more : List (List ℕ)) × (all ≡ known ++ more)

grown_case : (known : List (List ℕ)) (y : List ℕ) (b : Bool) (all : List (List ℕ)) → Grows (cond b known (known ++ y ∷ [])) all
    → Grows known all
grown_case known y true all w = w
grown_case known y false all w = (y ∷ w.0, w.1 ∙ append_assoc known (y ∷ []) w.0)

grows : (known xs : List (List ℕ)) → Grows known (with_names known xs)
grows known [] = ([], sym (append-nil known))
grows known (y ∷ ys) = grown_case known y (has known y) (with_names (with_name known y) ys) (grows (with_name known y) ys)

pub params_first : (round : List Scope) (code : Code) → AreDistinct code.params → faults_of round code ≡ []
    → take (length code.params) (locals_of code) ≡ code.params
params_first round code d e =
    let p = is_in_neither (declared Global code.marks) (declared Nonlocal code.marks) in
    let undeclared : (x : List ℕ) → has code.params x ≡ true → p x ≡ true = λ x h.
    ap not (both_false (has (declared Global code.marks) x) (has (declared Nonlocal code.marks) x) (absent Global x h)
    (absent Nonlocal x h)) in
    let kept : filter p code.params ≡ code.params = all_pass p code.params undeclared in
    let apart : once code.params ≡ code.params = new_names [] code.params d (λ x h. refl) in
    let start : once (filter p code.params) ≡ code.params = ap once kept ∙ apart in
    let w = grows code.params (filter p (bound code.marks)) in
    let whole : locals_of code ≡ code.params ++ w.0 =
    with_filtered_append p [] code.params (bound code.marks)
    ∙ ap (λ (z : List (List ℕ)). with_names z (filter p (bound code.marks))) start
    ∙ w.1 in
    ap (take (length code.params)) whole ∙ take-append_seam code.params w.0
  where
    absent : (w : Way) (x : List ℕ) → has code.params x ≡ true → has (declared w code.marks) x ≡ false
    absent w x h =
        has_once (flat_map (declared_in w) code.marks) x
        ∙ faultless code.kind (once code.params) round [] [] code.marks w x e (has_once code.params x ∙ h)
