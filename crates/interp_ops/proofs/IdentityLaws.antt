-- Identity holds exactly where two values stand for the same tree.
use Rattle.std.proofs.Common.{◌≡◌, ◌&&◌, ◌==◌, ℕ, Bool, true, false, not, List, [], ◌∷◌, map, refl, sym, ap, subst, ◌∙◌, eqb-true, eq-eqb}
use Rattle.std.specs.Ordering.{int_eq}
use Rattle.std.proofs.lemmas.Bool.{false≢true, and_parts, and_from}
use Rattle.std.proofs.lemmas.Bool.Decides.{Decides-int_eq}
use Rattle.std.proofs.lemmas.Slice.Eq.{bytes_eq-Decides}
use Rattle.flow_base.specs.declared.numbers.ObjRef.{ObjRef}
use Rattle.flow_base.specs.declared.numbers.Sym.{Sym}
use Rattle.heap_objects.specs.Tree as tree
use Rattle.heap_objects.specs.Tree.{Tree, more, tree_of, tree_step, trees_of}
use Rattle.heap_objects.specs.declared.value.Value.{Value, out-Value, roll-Value}
use Rattle.heap_objects.specs.declared.value.Value.TheFolds.{fold-roll-Value, ind-Value, map-Value}
use Rattle.heap_objects.specs.declared.value.Value.TheViews.{roll-out-Value}
use Rattle.heap_objects.specs.declared.value.Value.TheOpen as v
use Rattle.heap_objects.specs.declared.value.Value.TheOpen.{Value-F}
use Rattle.interp_ops.specs.Truths.{all_pass, identical, passes}

-- ---- parts

same_object : (o p : ObjRef) → (o.0 == p.0) ≡ true → o ≡ p
same_object o p e = ap (λ (n : ℕ). record { 0 = n }) (eqb-true o.0 p.0 e)

same_symbol : (s t : Sym) → (s.0 == t.0) ≡ true → s ≡ t
same_symbol s t e = ap (λ (n : ℕ). record { 0 = n }) (eqb-true s.0 t.0 e)

same_two : {A B C : Type 0} (make : A → B → C) (a c : A) (b d : B) → a ≡ c → b ≡ d → make a b ≡ make c d
same_two {A} {B} {C} make a c b d e f = ap (λ (x : A). make x b) e ∙ ap (make c) f

same_three : {A B : Type 0} (make : A → A → A → B) (a b c x y z : A) → a ≡ x → b ≡ y → c ≡ z → make a b c ≡ make x y z
same_three {A} {B} make a b c x y z e f g = ap (λ (t : A). make t b c) e ∙ ap (λ (t : A). make x t c) f ∙ ap (make x y) g

not_true : (b : Bool) → not b ≡ true → b ≡ false
not_true true e = absurd (false≢true e)
not_true false e = refl

-- the test of a value that is given by its level, and its tree
identical-roll : (x : Value-F Value) (b : Value) → identical (roll-Value x) b ≡ passes (map-Value Value (Value → Bool) identical x) (out-Value b)
identical-roll x b = ap (λ (test : Value → Bool). test b) (fold-roll-Value (Value → Bool) (λ x b. passes x (out-Value b)) x)

tree-roll : (x : Value-F Value) → tree_of (roll-Value x) ≡ tree_step (map-Value Value Tree tree_of x)
tree-roll x = fold-roll-Value Tree tree_step x

tree-out : (b : Value) → tree_of b ≡ tree_step (map-Value Value Tree tree_of (out-Value b))
tree-out b = ap tree_of (sym (roll-out-Value b)) ∙ tree-roll (out-Value b)

-- ---- what passes the test stands for the same tree

abbrev Same : Value → Type 0
Same a = (b : Value) → identical a b ≡ true → tree_of a ≡ tree_of b

abbrev Known : Type 0
Known = (a : Value) × Same a

all_same : (ps : List Known) (xs : List Value) → all_pass (map identical (map (λ p. p.0) ps)) xs ≡ true
    → trees_of (map tree_of (map (λ p. p.0) ps)) ≡ trees_of (map tree_of xs)
all_same [] [] e = refl
all_same [] (x ∷ xs) e = absurd (false≢true e)
all_same (p ∷ ps) [] e = absurd (false≢true e)
all_same (p ∷ ps) (x ∷ xs) e =
    let both = and_parts (identical p.0 x) (all_pass (map identical (map (λ p. p.0) ps)) xs) e in
    same_two more (tree_of p.0) (tree_of x) (trees_of (map tree_of (map (λ p. p.0) ps))) (trees_of (map tree_of xs)) (p.1 x both.0) (all_same ps xs both.1)

-- one level of a value, whose parts have the law
level_same : (y : Value-F Known) (x : Value-F Value) → passes (map-Value Value (Value → Bool) identical (map-Value Known Value (λ e. e.0) y)) x ≡ true
    → tree_step (map-Value Value Tree tree_of (map-Value Known Value (λ e. e.0) y)) ≡ tree_step (map-Value Value Tree tree_of x)
level_same v.Nil v.Nil e = refl
level_same (v.Truth true) (v.Truth b) e = ap tree.truth (sym e)
level_same (v.Truth false) (v.Truth b) e = ap tree.truth (sym (not_true b e))
level_same (v.Int m) (v.Int n) e = ap tree.int ((Decides-int_eq m n).0 e)
level_same (v.Text s) (v.Text t) e = ap tree.text ((bytes_eq-Decides s t).0 e)
level_same (v.Tuple ps kept) (v.Tuple xs depth) e = ap tree.tuple (all_same ps xs e)
level_same (v.Range a b c) (v.Range x y z) e =
    let last = and_parts (int_eq a x && int_eq b y) (int_eq c z) e in
    let first = and_parts (int_eq a x) (int_eq b y) last.0 in
    same_three tree.range a b c x y z ((Decides-int_eq a x).0 first.0) ((Decides-int_eq b y).0 first.1) ((Decides-int_eq c z).0 last.1)
level_same (v.Builtin f) (v.Builtin g) e = ap tree.builtin (same_symbol f g e)
level_same (v.Obj o) (v.Obj p) e = ap tree.obj (same_object o p e)
level_same (v.Bound f o) (v.Bound g p) e =
    let both = and_parts (f.0 == g.0) (o.0 == p.0) e in same_two tree.bound f g o p (same_object f g both.0) (same_object o p both.1)
level_same (v.Method f p) (v.Method g x) e =
    let both = and_parts (f.0 == g.0) (identical p.0 x) e in same_two tree.method f g (tree_of p.0) (tree_of x) (same_symbol f g both.0) (p.1 x both.1)
level_same _ _ e = absurd (false≢true e)

pub identical_same : (a b : Value) → identical a b ≡ true → tree_of a ≡ tree_of b
identical_same = ind-Value Same (λ x y e. subst (λ (z : Value-F Value). Same (roll-Value z)) e (step y))
  where
    step : (y : Value-F Known) → Same (roll-Value (map-Value Known Value (λ e. e.0) y))
    step y b t =
        let x : Value-F Value = map-Value Known Value (λ e. e.0) y in
        tree-roll x ∙ level_same y (out-Value b) (sym (identical-roll x b) ∙ t) ∙ sym (tree-out b)

-- ---- values of one tree pass each other's test

abbrev Alike : Value → Type 0
Alike a = (b : Value) → tree_of a ≡ tree_of b → identical a b ≡ true

abbrev Passing : Type 0
Passing = (a : Value) × Alike a

all_alike : (ps : List Passing) (xs : List Value) → trees_of (map tree_of (map (λ p. p.0) ps)) ≡ trees_of (map tree_of xs)
    → all_pass (map identical (map (λ p. p.0) ps)) xs ≡ true
all_alike [] [] e = refl
all_alike [] (x ∷ xs) e = cc
all_alike (p ∷ ps) [] e = cc
all_alike (p ∷ ps) (x ∷ xs) e =
    let head : tree_of p.0 ≡ tree_of x = cc in
    let rest : trees_of (map tree_of (map (λ p. p.0) ps)) ≡ trees_of (map tree_of xs) = cc in
    and_from (identical p.0 x) (all_pass (map identical (map (λ p. p.0) ps)) xs) (p.1 x head) (all_alike ps xs rest)

-- one level of a value, whose parts have the law
level_alike : (y : Value-F Passing) (x : Value-F Value)
    → tree_step (map-Value Value Tree tree_of (map-Value Passing Value (λ e. e.0) y)) ≡ tree_step (map-Value Value Tree tree_of x)
    → passes (map-Value Value (Value → Bool) identical (map-Value Passing Value (λ e. e.0) y)) x ≡ true
level_alike v.Nil v.Nil e = refl
level_alike (v.Truth true) (v.Truth b) e = let same : b ≡ true = cc in same
level_alike (v.Truth false) (v.Truth b) e = let same : b ≡ false = cc in ap not same
level_alike (v.Int m) (v.Int n) e = let same : m ≡ n = cc in (Decides-int_eq m n).1 same
level_alike (v.Text s) (v.Text t) e = let same : s ≡ t = cc in (bytes_eq-Decides s t).1 same
level_alike (v.Tuple ps kept) (v.Tuple xs depth) e =
    let same : trees_of (map tree_of (map (λ p. p.0) ps)) ≡ trees_of (map tree_of xs) = cc in all_alike ps xs same
level_alike (v.Range a b c) (v.Range x y z) e =
    let first : a ≡ x = cc in
    let second : b ≡ y = cc in
    let third : c ≡ z = cc in
    and_from (int_eq a x && int_eq b y) (int_eq c z)
    (and_from (int_eq a x) (int_eq b y) ((Decides-int_eq a x).1 first) ((Decides-int_eq b y).1 second)) ((Decides-int_eq c z).1 third)
level_alike (v.Builtin f) (v.Builtin g) e = let same : f ≡ g = cc in eq-eqb f.0 g.0 (ap (λ (s : Sym). s.0) same)
level_alike (v.Obj o) (v.Obj p) e = let same : o ≡ p = cc in eq-eqb o.0 p.0 (ap (λ (r : ObjRef). r.0) same)
level_alike (v.Bound f o) (v.Bound g p) e =
    let first : f ≡ g = cc in
    let second : o ≡ p = cc in
    and_from (f.0 == g.0) (o.0 == p.0) (eq-eqb f.0 g.0 (ap (λ (r : ObjRef). r.0) first)) (eq-eqb o.0 p.0 (ap (λ (r : ObjRef). r.0) second))
level_alike (v.Method f p) (v.Method g x) e =
    let first : f ≡ g = cc in
    let second : tree_of p.0 ≡ tree_of x = cc in
    and_from (f.0 == g.0) (identical p.0 x) (eq-eqb f.0 g.0 (ap (λ (s : Sym). s.0) first)) (p.1 x second)
level_alike _ _ e = cc

pub same_identical : (a b : Value) → tree_of a ≡ tree_of b → identical a b ≡ true
same_identical = ind-Value Alike (λ x y e. subst (λ (z : Value-F Value). Alike (roll-Value z)) e (step y))
  where
    step : (y : Value-F Passing) → Alike (roll-Value (map-Value Passing Value (λ e. e.0) y))
    step y b t =
        let x : Value-F Value = map-Value Passing Value (λ e. e.0) y in
        identical-roll x b ∙ level_alike y (out-Value b) (sym (tree-roll x) ∙ t ∙ tree-out b)
