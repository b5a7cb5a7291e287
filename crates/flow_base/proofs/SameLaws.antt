-- The tests of keys and locations hold exactly where the two are the same.
use Rattle.std.proofs.Common.{◌≡◌, ◌==◌, ℕ, Bool, true, List, [], ◌∷◌, map, refl, sym, ap, subst, ◌∙◌, eqb-true, eq-eqb}
use Rattle.std.proofs.lemmas.Bool.{false≢true, and_parts, and_from}
use Rattle.std.proofs.lemmas.Bool.Decides.{Decides-int_eq}
use Rattle.std.proofs.lemmas.Slice.Eq.{bytes_eq-Decides}
use Rattle.flow_base.specs.declared.key.Key.{Key, out-Key, roll-Key}
use Rattle.flow_base.specs.declared.key.Key.TheFolds.{fold-roll-Key, ind-Key, map-Key}
use Rattle.flow_base.specs.declared.key.Key.TheViews.{out-roll-Key, roll-out-Key}
use Rattle.flow_base.specs.declared.key.Key.TheOpen as key
use Rattle.flow_base.specs.declared.key.Key.TheOpen.{Key-F}
use Rattle.flow_base.specs.declared.loc.Loc.{Loc}
use Rattle.flow_base.specs.declared.loc.Loc.TheVariants.{Name, Attr, Item, Present, Shape}
use Rattle.flow_base.specs.declared.numbers.ObjRef.{ObjRef}
use Rattle.flow_base.specs.declared.numbers.Sym.{Sym}
use Rattle.flow_base.specs.Same.{all_pass, key_eq, loc_eq, passes}

-- ---- keys: what passes the test is the same

-- the key is any other that its test holds of
abbrev Same : Key → Type 0
Same a = (b : Key) → key_eq a b ≡ true → a ≡ b

abbrev Known : Type 0
Known = (a : Key) × Same a

-- the parts of a tuple
all_same : (ps : List Known) (ks : List Key) → all_pass (map key_eq (map (λ p. p.0) ps)) ks ≡ true → map (λ p. p.0) ps ≡ ks
all_same [] [] e = refl
all_same [] (k ∷ ks) e = absurd (false≢true e)
all_same (p ∷ ps) [] e = absurd (false≢true e)
all_same (p ∷ ps) (k ∷ ks) e =
    let both = and_parts (key_eq p.0 k) (all_pass (map key_eq (map (λ p. p.0) ps)) ks) e in
    ap (λ (z : Key). z ∷ map (λ p. p.0) ps) (p.1 k both.0) ∙ ap (λ (zs : List Key). k ∷ zs) (all_same ps ks both.1)

-- one level of a key, whose parts have the law
level_same : (y : Key-F Known) (x : Key-F Key) → passes (map-Key Key (Key → Bool) key_eq (map-Key Known Key (λ e. e.0) y)) x ≡ true
    → map-Key Known Key (λ e. e.0) y ≡ x
level_same key.Nil key.Nil e = refl
level_same key.Nil (key.Int n) e = absurd (false≢true e)
level_same key.Nil (key.Text t) e = absurd (false≢true e)
level_same key.Nil (key.Tuple ks) e = absurd (false≢true e)
level_same (key.Int m) key.Nil e = absurd (false≢true e)
level_same (key.Int m) (key.Int n) e = ap key.Int ((Decides-int_eq m n).0 e)
level_same (key.Int m) (key.Text t) e = absurd (false≢true e)
level_same (key.Int m) (key.Tuple ks) e = absurd (false≢true e)
level_same (key.Text s) key.Nil e = absurd (false≢true e)
level_same (key.Text s) (key.Int n) e = absurd (false≢true e)
level_same (key.Text s) (key.Text t) e = ap key.Text ((bytes_eq-Decides s t).0 e)
level_same (key.Text s) (key.Tuple ks) e = absurd (false≢true e)
level_same (key.Tuple ps) key.Nil e = absurd (false≢true e)
level_same (key.Tuple ps) (key.Int n) e = absurd (false≢true e)
level_same (key.Tuple ps) (key.Text t) e = absurd (false≢true e)
level_same (key.Tuple ps) (key.Tuple ks) e = ap key.Tuple (all_same ps ks e)

-- the test of a key that is given by its level
key_eq-roll : (x : Key-F Key) (b : Key) → key_eq (roll-Key x) b ≡ passes (map-Key Key (Key → Bool) key_eq x) (out-Key b)
key_eq-roll x b = ap (λ (test : Key → Bool). test b) (fold-roll-Key (Key → Bool) (λ x k. passes x (out-Key k)) x)

pub same_key_true : (a b : Key) → key_eq a b ≡ true → a ≡ b
same_key_true = ind-Key Same (λ x y e. subst (λ (z : Key-F Key). Same (roll-Key z)) e (step y))
  where
    step : (y : Key-F Known) → Same (roll-Key (map-Key Known Key (λ e. e.0) y))
    step y b t = ap roll-Key (level_same y (out-Key b) (sym (key_eq-roll (map-Key Known Key (λ e. e.0) y) b) ∙ t)) ∙ roll-out-Key b

-- ---- keys: a key passes its own test

abbrev Itself : Key → Type 0
Itself a = key_eq a a ≡ true

abbrev Passing : Type 0
Passing = (a : Key) × Itself a

-- the parts of a tuple
all_itself : (ps : List Passing) → all_pass (map key_eq (map (λ p. p.0) ps)) (map (λ p. p.0) ps) ≡ true
all_itself [] = refl
all_itself (p ∷ ps) = and_from (key_eq p.0 p.0) (all_pass (map key_eq (map (λ p. p.0) ps)) (map (λ p. p.0) ps)) p.1 (all_itself ps)

-- one level of a key, whose parts have the law
level_itself : (y : Key-F Passing)
    → passes (map-Key Key (Key → Bool) key_eq (map-Key Passing Key (λ e. e.0) y)) (map-Key Passing Key (λ e. e.0) y) ≡ true
level_itself key.Nil = refl
level_itself (key.Int n) = (Decides-int_eq n n).1 refl
level_itself (key.Text t) = (bytes_eq-Decides t t).1 refl
level_itself (key.Tuple ps) = all_itself ps

pub key_itself : (a : Key) → key_eq a a ≡ true
key_itself = ind-Key Itself (λ x y e. subst (λ (z : Key-F Key). Itself (roll-Key z)) e (step y))
  where
    step : (y : Key-F Passing) → Itself (roll-Key (map-Key Passing Key (λ e. e.0) y))
    step y = let x : Key-F Key = map-Key Passing Key (λ e. e.0) y in
        key_eq-roll x (roll-Key x) ∙ ap (passes (map-Key Key (Key → Bool) key_eq x)) (out-roll-Key x) ∙ level_itself y

pub true_same_key : (a b : Key) → a ≡ b → key_eq a b ≡ true
true_same_key a b e = subst (λ (k : Key). key_eq a k ≡ true) e (key_itself a)

-- ---- locations

same_number : (o p : ObjRef) → (o.0 == p.0) ≡ true → o ≡ p
same_number o p e = ap (λ (n : ℕ). record { 0 = n }) (eqb-true o.0 p.0 e)

same_symbol : (s t : Sym) → (s.0 == t.0) ≡ true → s ≡ t
same_symbol s t e = ap (λ (n : ℕ). record { 0 = n }) (eqb-true s.0 t.0 e)

-- two parts that are the same make the same location
same_parts : {A B : Type 0} (make : A → B → Loc) (a c : A) (b d : B) → a ≡ c → b ≡ d → make a b ≡ make c d
same_parts {A} {B} make a c b d e f = ap (λ (x : A). make x b) e ∙ ap (make c) f

pub same_loc_true : (a b : Loc) → loc_eq a b ≡ true → a ≡ b
same_loc_true (Name o s) (Name p t) e =
    let both = and_parts (o.0 == p.0) (s.0 == t.0) e in same_parts Name o p s t (same_number o p both.0) (same_symbol s t both.1)
same_loc_true (Attr o s) (Attr p t) e =
    let both = and_parts (o.0 == p.0) (s.0 == t.0) e in same_parts Attr o p s t (same_number o p both.0) (same_symbol s t both.1)
same_loc_true (Item o j) (Item p k) e =
    let both = and_parts (o.0 == p.0) (key_eq j k) e in same_parts Item o p j k (same_number o p both.0) (same_key_true j k both.1)
same_loc_true (Present o j) (Present p k) e =
    let both = and_parts (o.0 == p.0) (key_eq j k) e in same_parts Present o p j k (same_number o p both.0) (same_key_true j k both.1)
same_loc_true (Shape o) (Shape p) e = ap Shape (same_number o p e)
same_loc_true _ _ e = absurd (false≢true e)

pub loc_itself : (a : Loc) → loc_eq a a ≡ true
loc_itself (Name o s) = and_from (o.0 == o.0) (s.0 == s.0) (eq-eqb o.0 o.0 refl) (eq-eqb s.0 s.0 refl)
loc_itself (Attr o s) = and_from (o.0 == o.0) (s.0 == s.0) (eq-eqb o.0 o.0 refl) (eq-eqb s.0 s.0 refl)
loc_itself (Item o k) = and_from (o.0 == o.0) (key_eq k k) (eq-eqb o.0 o.0 refl) (key_itself k)
loc_itself (Present o k) = and_from (o.0 == o.0) (key_eq k k) (eq-eqb o.0 o.0 refl) (key_itself k)
loc_itself (Shape o) = eq-eqb o.0 o.0 refl

pub true_same_loc : (a b : Loc) → a ≡ b → loc_eq a b ≡ true
true_same_loc a b e = subst (λ (l : Loc). loc_eq a l ≡ true) e (loc_itself a)
