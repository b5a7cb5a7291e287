-- The order of versions is total, up to ties.
use Rattle.std.proofs.Common.{◌≡◌, ℕ, ℤ, pos, List, [], ◌∷◌, map, refl, sym, ap, subst, ◌∙◌}
use Rattle.std.specs.Cmp.{IsTotalOrder, then_flip}
use Rattle.std.specs.Cmp.Lexicographic.{slice_cmp}
use Rattle.std.specs.List.{AllByRecursion}
use Rattle.std.specs.Ordering.{int_cmp, is_eq, is_lt, nat_cmp, on, ordering_reverse, ordering_then, then_cmp}
use Rattle.std.specs.declared.cmp.Ordering.{Ordering}
use Rattle.std.specs.declared.cmp.Ordering.TheVariants.{Less, Equal, Greater}
use Rattle.std.proofs.lemmas.Bool.{false≢true}
use Rattle.std.proofs.lemmas.Cmp.{alike_right, int_cmp_total, lists_total, nat_cmp_total, nat_list_cmp_total, on_total, then_total}
use Rattle.flow_base.specs.declared.key.Key.{Key, out-Key, roll-Key}
use Rattle.flow_base.specs.declared.key.Key.TheFolds.{fold_out-Key, ind-Key, map-Key}
use Rattle.flow_base.specs.declared.key.Key.TheOpen as key
use Rattle.flow_base.specs.declared.key.Key.TheOpen.{Key-F}
use Rattle.flow_base.specs.declared.key.Key.TheViews.{out-roll-Key}
use Rattle.flow_base.specs.declared.loc.Loc.{Loc}
use Rattle.flow_base.specs.declared.loc.Loc.TheVariants.{Name, Attr, Item, Present, Shape}
use Rattle.trace_events.specs.declared.version.Version.{Version}
use Rattle.trace_events.specs.declared.version.Version.TheVariants.{Empty, Written}
use Rattle.trace_events.specs.Order.{key_cmp, loc_cmp, open_cmp, parts_cmp, text_of, version_cmp}

-- ---- comparisons

-- what is after is not before
pub greater_less : Greater ≡ Less → ⊥
greater_less e = false≢true (ap is_lt e)

-- what is level is not before
pub equal_less : Equal ≡ Less → ⊥
equal_less e = false≢true (ap is_lt e)

-- what is before is not level
less_equal : Less ≡ Equal → ⊥
less_equal e = false≢true (ap is_eq e)

-- what is after is not level
greater_equal : Greater ≡ Equal → ⊥
greater_equal e = false≢true (ap is_eq e)

-- a second order that says nothing
then_equal : (o : Ordering) → ordering_then o Equal ≡ o
then_equal Less = refl
then_equal Equal = refl
then_equal Greater = refl

-- what has the answers of a total order is one
total_same : {K : Type 0} (R S : K → K → Ordering) → ((x y : K) → R x y ≡ S x y) → IsTotalOrder S → IsTotalOrder R
total_same R S same o = record {
  antisymm = λ x y. same x y ∙ o.antisymm x y ∙ ap ordering_reverse (sym (same y x));
  trans = λ x y z e f. same x z ∙ o.trans x y z (sym (same x y) ∙ e) (sym (same y z) ∙ f);
  congr = λ x y z e. same x z ∙ o.congr x y z (sym (same x y) ∙ e) ∙ sym (same y z);
}

-- ---- the laws of a total order at one element, for an induction over keys

record Ordered {K : Type 0} (R : K → K → Ordering) (a : K) : Type 0 where
  flip : (b : K) → R a b ≡ ordering_reverse (R b a)
  trans : (b c : K) → R a b ≡ Less → R b c ≡ Less → R a c ≡ Less
  congr : (b c : K) → R a b ≡ Equal → R a c ≡ R b c
  alike : (b c : K) → R b c ≡ Equal → R a b ≡ R a c

-- a total order has the laws at each element
ordered_total : {K : Type 0} {R : K → K → Ordering} → IsTotalOrder R → (a : K) → Ordered R a
ordered_total o a = record { flip = λ b. o.antisymm a b; trans = λ b c. o.trans a b c; congr = λ b c. o.congr a b c; alike = λ b c e. alike_right o b c a e }

-- an order by what elements give
ordered_on : {K J : Type 0} (f : K → J) (R : J → J → Ordering) (a : K) → Ordered R (f a) → Ordered (on f R) a
ordered_on f R a o = record { flip = λ b. o.flip (f b); trans = λ b c. o.trans (f b) (f c); congr = λ b c. o.congr (f b) (f c); alike = λ b c. o.alike (f b) (f c) }

-- an order with the same answers
ordered_same : {K : Type 0} (R S : K → K → Ordering) (a : K) → ((x y : K) → R x y ≡ S x y) → Ordered S a → Ordered R a
ordered_same R S a same o = record {
  flip = λ b. same a b ∙ o.flip b ∙ ap ordering_reverse (sym (same b a));
  trans = λ b c e f. same a c ∙ o.trans b c (sym (same a b) ∙ e) (sym (same b c) ∙ f);
  congr = λ b c e. same a c ∙ o.congr b c (sym (same a b) ∙ e) ∙ sym (same b c);
  alike = λ b c e. same a b ∙ o.alike b c (sym (same b c) ∙ e) ∙ sym (same a c);
}

-- by one order, and then by another
module _ {K : Type 0} (R S : K → K → Ordering) (a : K) (p : Ordered R a) (q : Ordered S a) where
  -- the law of steps, by the two first answers
  then_trans : (b c : K) (r s : Ordering) → R a b ≡ r → R b c ≡ s → ordering_then r (S a b) ≡ Less → ordering_then s (S b c) ≡ Less
      → ordering_then (R a c) (S a c) ≡ Less
  then_trans b c Less Less er es e f = ap (λ o. ordering_then o (S a c)) (p.trans b c er es)
  then_trans b c Less Equal er es e f = ap (λ o. ordering_then o (S a c)) (sym (p.alike b c es) ∙ er)
  then_trans b c Less Greater er es e f = absurd (greater_less f)
  then_trans b c Equal Less er es e f = ap (λ o. ordering_then o (S a c)) (p.congr b c er ∙ es)
  then_trans b c Equal Equal er es e f = ap (λ o. ordering_then o (S a c)) (p.congr b c er ∙ es) ∙ q.trans b c e f
  then_trans b c Equal Greater er es e f = absurd (greater_less f)
  then_trans b c Greater s er es e f = absurd (greater_less e)

  -- the law of level elements on the left, by the first answer
  then_congr : (b c : K) (r : Ordering) → R a b ≡ r → ordering_then r (S a b) ≡ Equal → ordering_then (R a c) (S a c) ≡ ordering_then (R b c) (S b c)
  then_congr b c Less er e = absurd (less_equal e)
  then_congr b c Equal er e = ap (λ o. ordering_then o (S a c)) (p.congr b c er) ∙ ap (ordering_then (R b c)) (q.congr b c e)
  then_congr b c Greater er e = absurd (greater_equal e)

  -- the law of level elements on the right, by the first answer
  then_alike : (b c : K) (r : Ordering) → R b c ≡ r → ordering_then r (S b c) ≡ Equal → ordering_then (R a b) (S a b) ≡ ordering_then (R a c) (S a c)
  then_alike b c Less er e = absurd (less_equal e)
  then_alike b c Equal er e = ap (λ o. ordering_then o (S a b)) (p.alike b c er) ∙ ap (ordering_then (R a c)) (q.alike b c e)
  then_alike b c Greater er e = absurd (greater_equal e)

  -- one order after the other has the laws
  ordered_then : Ordered (then_cmp R S) a
  ordered_then = record {
    flip = λ b. ap (λ o. ordering_then o (S a b)) (p.flip b) ∙ ap (ordering_then (ordering_reverse (R b a))) (q.flip b) ∙ then_flip (R b a) (S b a);
    trans = λ b c e f. then_trans b c (R a b) (R b c) refl refl e f;
    congr = λ b c e. then_congr b c (R a b) refl e;
    alike = λ b c e. then_alike b c (R b c) refl e;
  }

-- lists whose elements have the laws
module _ {X : Type 0} (R : X → X → Ordering) where
  -- by the first element, and then by the rest
  abbrev cons_cmp : X × List X → X × List X → Ordering
  cons_cmp = then_cmp (on (λ p. p.0) R) (on (λ p. p.1) (slice_cmp R))

  -- the empty list
  ordered_nil : Ordered (slice_cmp R) []
  ordered_nil = record { flip = flip; trans = trans; congr = congr; alike = alike }
    where
      flip : (b : List X) → slice_cmp R [] b ≡ ordering_reverse (slice_cmp R b [])
      flip [] = refl
      flip (y ∷ ys) = refl

      trans : (b c : List X) → slice_cmp R [] b ≡ Less → slice_cmp R b c ≡ Less → slice_cmp R [] c ≡ Less
      trans [] c e f = absurd (equal_less e)
      trans (y ∷ ys) [] e f = absurd (greater_less f)
      trans (y ∷ ys) (z ∷ zs) e f = refl

      congr : (b c : List X) → slice_cmp R [] b ≡ Equal → slice_cmp R [] c ≡ slice_cmp R b c
      congr [] c e = refl
      congr (y ∷ ys) c e = absurd (less_equal e)

      alike : (b c : List X) → slice_cmp R b c ≡ Equal → slice_cmp R [] b ≡ slice_cmp R [] c
      alike [] [] e = refl
      alike [] (z ∷ zs) e = absurd (less_equal e)
      alike (y ∷ ys) [] e = absurd (greater_equal e)
      alike (y ∷ ys) (z ∷ zs) e = refl

  -- a list by its first element and its rest
  ordered_cons : (x : X) (xs : List X) → Ordered cons_cmp (x, xs) → Ordered (slice_cmp R) (x ∷ xs)
  ordered_cons x xs o = record { flip = flip; trans = trans; congr = congr; alike = alike }
    where
      flip : (b : List X) → slice_cmp R (x ∷ xs) b ≡ ordering_reverse (slice_cmp R b (x ∷ xs))
      flip [] = refl
      flip (y ∷ ys) = o.flip (y, ys)

      trans : (b c : List X) → slice_cmp R (x ∷ xs) b ≡ Less → slice_cmp R b c ≡ Less → slice_cmp R (x ∷ xs) c ≡ Less
      trans [] c e f = absurd (greater_less e)
      trans (y ∷ ys) [] e f = absurd (greater_less f)
      trans (y ∷ ys) (z ∷ zs) e f = o.trans (y, ys) (z, zs) e f

      congr : (b c : List X) → slice_cmp R (x ∷ xs) b ≡ Equal → slice_cmp R (x ∷ xs) c ≡ slice_cmp R b c
      congr [] c e = absurd (greater_equal e)
      congr (y ∷ ys) [] e = refl
      congr (y ∷ ys) (z ∷ zs) e = o.congr (y, ys) (z, zs) e

      alike : (b c : List X) → slice_cmp R b c ≡ Equal → slice_cmp R (x ∷ xs) b ≡ slice_cmp R (x ∷ xs) c
      alike [] [] e = refl
      alike [] (z ∷ zs) e = absurd (less_equal e)
      alike (y ∷ ys) [] e = absurd (greater_equal e)
      alike (y ∷ ys) (z ∷ zs) e = o.alike (y, ys) (z, zs) e

  -- each list whose elements have the laws
  ordered_list : (xs : List X) → AllByRecursion (Ordered R) xs → Ordered (slice_cmp R) xs
  ordered_list [] each = ordered_nil
  ordered_list (x ∷ xs) each = ordered_cons x xs
      (ordered_then (on (λ p. p.0) R) (on (λ p. p.1) (slice_cmp R)) (x, xs) (ordered_on (λ p. p.0) R (x, xs) each.0)
      (ordered_on (λ p. p.1) (slice_cmp R) (x, xs) (ordered_list xs each.1)))

-- ---- keys

-- the parts of tuples are compared as lists
pub parts_cmp-slice : (ps ks : List Key) → parts_cmp (map key_cmp ps) ks ≡ slice_cmp key_cmp ps ks
parts_cmp-slice [] [] = refl
parts_cmp-slice [] (k ∷ ks) = refl
parts_cmp-slice (p ∷ ps) [] = refl
parts_cmp-slice (p ∷ ps) (k ∷ ks) = ap (ordering_then (key_cmp p k)) (parts_cmp-slice ps ks)

-- a level of a key as its kind, its number, its text and its parts
abbrev Level : Type 0
Level = ℕ × ℤ × List ℕ × List Key

-- a level as its parts
abbrev level : Key-F Key → Level
level key.Nil = (0, pos 0, [], [])
level (key.Int n) = (1, n, [], [])
level (key.Text t) = (2, pos 0, t, [])
level (key.Tuple ks) = (3, pos 0, [], ks)

-- by the parts of a tuple
abbrev by_part : Level → Level → Ordering
by_part = on (λ l. l.3) (slice_cmp key_cmp)

-- by text, and then by the parts
abbrev by_text : Level → Level → Ordering
by_text = then_cmp (on (λ l. l.2) (slice_cmp nat_cmp)) by_part

-- by number, and then by the rest
abbrev by_number : Level → Level → Ordering
by_number = then_cmp (on (λ l. l.1) int_cmp) by_text

-- by kind, and then by the rest
abbrev level_cmp : Level → Level → Ordering
level_cmp = then_cmp (on (λ l. l.0) nat_cmp) by_number

-- levels are compared by these parts
open_cmp-level : (x y : Key-F Key) → open_cmp (map-Key Key (Key → Ordering) key_cmp x) y ≡ level_cmp (level x) (level y)
open_cmp-level key.Nil key.Nil = refl
open_cmp-level key.Nil (key.Int n) = refl
open_cmp-level key.Nil (key.Text t) = refl
open_cmp-level key.Nil (key.Tuple ks) = refl
open_cmp-level (key.Int m) key.Nil = refl
open_cmp-level (key.Int m) (key.Int n) = sym (then_equal (int_cmp m n))
open_cmp-level (key.Int m) (key.Text t) = refl
open_cmp-level (key.Int m) (key.Tuple ks) = refl
open_cmp-level (key.Text s) key.Nil = refl
open_cmp-level (key.Text s) (key.Int n) = refl
open_cmp-level (key.Text s) (key.Text t) = sym (then_equal (slice_cmp nat_cmp s t))
open_cmp-level (key.Text s) (key.Tuple ks) = refl
open_cmp-level (key.Tuple ps) key.Nil = refl
open_cmp-level (key.Tuple ps) (key.Int n) = refl
open_cmp-level (key.Tuple ps) (key.Text t) = refl
open_cmp-level (key.Tuple ps) (key.Tuple ks) = parts_cmp-slice ps ks

-- keys are compared by their levels
key_cmp-level : (a b : Key) → key_cmp a b ≡ on (λ k. level (out-Key k)) level_cmp a b
key_cmp-level a b = ap (λ (compare : Key → Ordering). compare b) (fold_out-Key (Key → Ordering) (λ x k. open_cmp x (out-Key k)) a)
    ∙ open_cmp-level (out-Key a) (out-Key b)

-- a level whose parts have the laws
ordered_level : (l : Level) → AllByRecursion (Ordered key_cmp) l.3 → Ordered level_cmp l
ordered_level l each =
    ordered_then (on (λ x. x.0) nat_cmp) by_number l (ordered_on (λ x. x.0) nat_cmp l (ordered_total nat_cmp_total l.0))
    (ordered_then (on (λ x. x.1) int_cmp) by_text l (ordered_on (λ x. x.1) int_cmp l (ordered_total int_cmp_total l.1))
    (ordered_then (on (λ x. x.2) (slice_cmp nat_cmp)) by_part l (ordered_on (λ x. x.2) (slice_cmp nat_cmp) l (ordered_total nat_list_cmp_total l.2))
    (ordered_on (λ x. x.3) (slice_cmp key_cmp) l (ordered_list key_cmp l.3 each))))

-- a key with the laws
abbrev Known : Type 0
Known = (k : Key) × Ordered key_cmp k

-- the parts of a level with the laws
known_parts : (y : Key-F Known) → AllByRecursion (Ordered key_cmp) (level (map-Key Known Key (λ e. e.0) y)).3
known_parts key.Nil = tt
known_parts (key.Int n) = tt
known_parts (key.Text t) = tt
known_parts (key.Tuple ps) = all ps
  where
    all : (ps : List Known) → AllByRecursion (Ordered key_cmp) (map (λ e. e.0) ps)
    all [] = tt
    all (p ∷ ps) = (p.1, all ps)

-- each key has the laws
ordered_key : (k : Key) → Ordered key_cmp k
ordered_key = ind-Key (Ordered key_cmp) (λ x y e. subst (λ (z : Key-F Key). Ordered key_cmp (roll-Key z)) e (step y))
  where
    step : (y : Key-F Known) → Ordered key_cmp (roll-Key (map-Key Known Key (λ e. e.0) y))
    step y = let x : Key-F Key = map-Key Known Key (λ e. e.0) y in
        ordered_same key_cmp (on (λ k. level (out-Key k)) level_cmp) (roll-Key x) key_cmp-level
        (ordered_on (λ k. level (out-Key k)) level_cmp (roll-Key x)
        (subst (λ (z : Key-F Key). Ordered level_cmp (level z)) (sym (out-roll-Key x)) (ordered_level (level x) (known_parts y))))

-- the order of keys
pub key_total : IsTotalOrder key_cmp
key_total = record {
  antisymm = λ x y. (ordered_key x).flip y;
  trans = λ x y z. (ordered_key x).trans y z;
  congr = λ x y z. (ordered_key x).congr y z;
}

-- ---- locations

module _ (names : List (List ℕ)) where
  -- a location as its object, its kind, and the text and the number of its name or its key
  abbrev pub Parts : Type 0
  Parts = ℕ × ℕ × List ℕ × ℕ × List Key

  -- a location as its parts
  abbrev pub parts : Loc → Parts
  parts (Name o s) = (o.0, 0, text_of names s, s.0, [])
  parts (Attr o s) = (o.0, 1, text_of names s, s.0, [])
  parts (Item o k) = (o.0, 2, [], 0, k ∷ [])
  parts (Present o k) = (o.0, 3, [], 0, k ∷ [])
  parts (Shape o) = (o.0, 4, [], 0, [])

  -- by object, kind, name and key
  abbrev pub by_parts : Parts → Parts → Ordering
  by_parts = then_cmp (on (λ p. p.0) nat_cmp) (then_cmp (on (λ p. p.1) nat_cmp)
      (then_cmp (on (λ p. p.2) (slice_cmp nat_cmp)) (then_cmp (on (λ p. p.3) nat_cmp) (on (λ p. p.4) (slice_cmp key_cmp)))))

  -- locations are compared by these parts
  pub loc_cmp-parts : (a b : Loc) → loc_cmp names a b ≡ on parts by_parts a b
  loc_cmp-parts (Name o s) (Name p t) = ap (λ r. ordering_then (nat_cmp o.0 p.0) (ordering_then (slice_cmp nat_cmp (text_of names s) (text_of names t)) r)) (sym (then_equal (nat_cmp s.0 t.0)))
  loc_cmp-parts (Attr o s) (Attr p t) = ap (λ r. ordering_then (nat_cmp o.0 p.0) (ordering_then (slice_cmp nat_cmp (text_of names s) (text_of names t)) r)) (sym (then_equal (nat_cmp s.0 t.0)))
  loc_cmp-parts (Item o j) (Item p k) = ap (ordering_then (nat_cmp o.0 p.0)) (sym (then_equal (key_cmp j k)))
  loc_cmp-parts (Present o j) (Present p k) = ap (ordering_then (nat_cmp o.0 p.0)) (sym (then_equal (key_cmp j k)))
  loc_cmp-parts (Shape o) (Shape p) = refl
  loc_cmp-parts _ _ = refl

  -- the order of locations
  loc_total : IsTotalOrder (loc_cmp names)
  loc_total = total_same (loc_cmp names) (on parts by_parts) loc_cmp-parts
      (on_total parts (then_total (on_total (λ p. p.0) nat_cmp_total) (then_total (on_total (λ p. p.1) nat_cmp_total)
      (then_total (on_total (λ p. p.2) nat_list_cmp_total) (then_total (on_total (λ p. p.3) nat_cmp_total) (on_total (λ p. p.4) (lists_total key_total)))))))

  -- ---- versions

  -- a version as its location or its run and place
  abbrev pub Spot : Type 0
  Spot = ℕ × List Loc × ℕ × ℕ

  -- a version as its parts
  abbrev pub spot : Version → Spot
  spot (Empty l) = (0, l ∷ [], 0, 0)
  spot (Written run place) = (1, [], run.0, place)

  -- what stood before any run first, by location; then by run and place
  abbrev pub by_spot : Spot → Spot → Ordering
  by_spot = then_cmp (on (λ p. p.0) nat_cmp) (then_cmp (on (λ p. p.1) (slice_cmp (loc_cmp names))) (then_cmp (on (λ p. p.2) nat_cmp) (on (λ p. p.3) nat_cmp)))

  -- versions are compared by these parts
  pub version_cmp-spot : (u v : Version) → version_cmp names u v ≡ on spot by_spot u v
  version_cmp-spot (Empty a) (Empty b) = sym (ap (λ o. ordering_then o Equal) (then_equal (loc_cmp names a b)) ∙ then_equal (loc_cmp names a b))
  version_cmp-spot (Empty a) (Written run place) = refl
  version_cmp-spot (Written run place) (Empty b) = refl
  version_cmp-spot (Written run place) (Written other at) = refl

  -- the order of versions
  pub version_total : IsTotalOrder (version_cmp names)
  version_total = total_same (version_cmp names) (on spot by_spot) version_cmp-spot
      (on_total spot (then_total (on_total (λ p. p.0) nat_cmp_total) (then_total (on_total (λ p. p.1) (lists_total loc_total))
      (then_total (on_total (λ p. p.2) nat_cmp_total) (on_total (λ p. p.3) nat_cmp_total)))))
