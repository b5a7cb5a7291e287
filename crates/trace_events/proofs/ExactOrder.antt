-- The order of versions tells all versions apart.
use Rattle.std.proofs.Common.{◌≡◌, ℕ, zero, suc, ◌<◌, List, [], ◌∷◌, map, refl, sym, ap, subst, ◌∙◌}
use Rattle.std.specs.Cmp.Lexicographic.{slice_cmp}
use Rattle.std.specs.Ordering.{is_eq, nat_cmp, ordering_then}
use Rattle.std.specs.declared.cmp.Ordering.{Ordering}
use Rattle.std.specs.declared.cmp.Ordering.TheVariants.{Less, Equal, Greater}
use Rattle.std.proofs.lemmas.Bool.{false≢true}
use Rattle.std.proofs.lemmas.Map.Lookups.{CmpEqualImpliesEq, exact_bytes, exact_signed, exact_unsigned}
use Rattle.flow_base.specs.declared.key.Key.{Key, out-Key, roll-Key}
use Rattle.flow_base.specs.declared.key.Key.TheFolds.{fold-roll-Key, ind-Key, map-Key}
use Rattle.flow_base.specs.declared.key.Key.TheOpen as key
use Rattle.flow_base.specs.declared.key.Key.TheOpen.{Key-F}
use Rattle.flow_base.specs.declared.key.Key.TheViews.{roll-out-Key}
use Rattle.flow_base.specs.declared.loc.Loc.{Loc}
use Rattle.flow_base.specs.declared.loc.Loc.TheVariants.{Name, Attr, Item, Present, Shape}
use Rattle.trace_events.specs.declared.version.Version.{Version}
use Rattle.trace_events.specs.declared.version.Version.TheVariants.{Empty, Written}
use Rattle.trace_events.specs.Order.{key_cmp, loc_cmp, open_cmp, parts_cmp, version_cmp}
use Rattle.trace_events.proofs.TotalOrder.{loc_cmp-parts, parts}

-- ---- comparisons

less_equal : Less ≡ Equal → ⊥
less_equal e = false≢true (ap is_eq e)

greater_equal : Greater ≡ Equal → ⊥
greater_equal e = false≢true (ap is_eq e)

-- both are level
then_level : (r s : Ordering) → ordering_then r s ≡ Equal → (r ≡ Equal) × (s ≡ Equal)
then_level Less s e = absurd (less_equal e)
then_level Equal s e = (refl, e)
then_level Greater s e = absurd (greater_equal e)

-- lists of elements that are told apart
exact_lists : {X : Type 0} (R : X → X → Ordering) → CmpEqualImpliesEq R → CmpEqualImpliesEq (slice_cmp R)
exact_lists R exact [] [] e = refl
exact_lists R exact [] (y ∷ ys) e = absurd (less_equal e)
exact_lists R exact (x ∷ xs) [] e = absurd (greater_equal e)
exact_lists {X} R exact (x ∷ xs) (y ∷ ys) e =
    let both = then_level (R x y) (slice_cmp R xs ys) e in
    ap (λ (z : X). z ∷ xs) (exact x y both.0) ∙ ap (λ (zs : List X). y ∷ zs) (exact_lists R exact xs ys both.1)

-- ---- keys

-- a key that is level with it is the same
abbrev Exact : Key → Type 0
Exact a = (b : Key) → key_cmp a b ≡ Equal → a ≡ b

-- a key with the law
abbrev Known : Type 0
Known = (a : Key) × Exact a

-- the parts of a tuple
all_exact : (ps : List Known) (ks : List Key) → parts_cmp (map key_cmp (map (λ p. p.0) ps)) ks ≡ Equal → map (λ p. p.0) ps ≡ ks
all_exact [] [] e = refl
all_exact [] (k ∷ ks) e = absurd (less_equal e)
all_exact (p ∷ ps) [] e = absurd (greater_equal e)
all_exact (p ∷ ps) (k ∷ ks) e =
    let both = then_level (key_cmp p.0 k) (parts_cmp (map key_cmp (map (λ p. p.0) ps)) ks) e in
    ap (λ (z : Key). z ∷ map (λ p. p.0) ps) (p.1 k both.0) ∙ ap (λ (zs : List Key). k ∷ zs) (all_exact ps ks both.1)

-- one level of a key, whose parts have the law
level_exact : (y : Key-F Known) (x : Key-F Key) → open_cmp (map-Key Key (Key → Ordering) key_cmp (map-Key Known Key (λ e. e.0) y)) x ≡ Equal
    → map-Key Known Key (λ e. e.0) y ≡ x
level_exact key.Nil key.Nil e = refl
level_exact key.Nil (key.Int n) e = absurd (less_equal e)
level_exact key.Nil (key.Text t) e = absurd (less_equal e)
level_exact key.Nil (key.Tuple ks) e = absurd (less_equal e)
level_exact (key.Int m) key.Nil e = absurd (greater_equal e)
level_exact (key.Int m) (key.Int n) e = ap key.Int (exact_signed m n e)
level_exact (key.Int m) (key.Text t) e = absurd (less_equal e)
level_exact (key.Int m) (key.Tuple ks) e = absurd (less_equal e)
level_exact (key.Text s) key.Nil e = absurd (greater_equal e)
level_exact (key.Text s) (key.Int n) e = absurd (greater_equal e)
level_exact (key.Text s) (key.Text t) e = ap key.Text (exact_bytes s t e)
level_exact (key.Text s) (key.Tuple ks) e = absurd (less_equal e)
level_exact (key.Tuple ps) key.Nil e = absurd (greater_equal e)
level_exact (key.Tuple ps) (key.Int n) e = absurd (greater_equal e)
level_exact (key.Tuple ps) (key.Text t) e = absurd (greater_equal e)
level_exact (key.Tuple ps) (key.Tuple ks) e = ap key.Tuple (all_exact ps ks e)

-- the comparison with a key that is given by its level
pub key_cmp-roll : (x : Key-F Key) (b : Key) → key_cmp (roll-Key x) b ≡ open_cmp (map-Key Key (Key → Ordering) key_cmp x) (out-Key b)
key_cmp-roll x b = ap (λ (compare : Key → Ordering). compare b) (fold-roll-Key (Key → Ordering) (λ x k. open_cmp x (out-Key k)) x)

-- keys that are level are the same
exact_key : (a : Key) → Exact a
exact_key = ind-Key Exact (λ x y e. subst (λ (z : Key-F Key). Exact (roll-Key z)) e (step y))
  where
    step : (y : Key-F Known) → Exact (roll-Key (map-Key Known Key (λ e. e.0) y))
    step y b t = ap roll-Key (level_exact y (out-Key b) (sym (key_cmp-roll (map-Key Known Key (λ e. e.0) y) b) ∙ t)) ∙ roll-out-Key b

-- ---- locations

-- the location of a kind
loc_of : ℕ → ℕ → ℕ → List Key → Loc
loc_of zero o s ks = Name (record { 0 = o }) (record { 0 = s })
loc_of (suc zero) o s ks = Attr (record { 0 = o }) (record { 0 = s })
loc_of (suc (suc zero)) o s [] = Shape (record { 0 = o })
loc_of (suc (suc zero)) o s (k ∷ ks) = Item (record { 0 = o }) k
loc_of (suc (suc (suc zero))) o s [] = Shape (record { 0 = o })
loc_of (suc (suc (suc zero))) o s (k ∷ ks) = Present (record { 0 = o }) k
loc_of (suc (suc (suc (suc kind)))) o s ks = Shape (record { 0 = o })

module _ (names : List (List ℕ)) where
  -- a location is given by its parts
  loc_of-parts : (a : Loc) → loc_of (parts names a).1 (parts names a).0 (parts names a).3 (parts names a).4 ≡ a
  unfolding loc_of
  loc_of-parts (Name o s) = refl
  loc_of-parts (Attr o s) = refl
  loc_of-parts (Item o k) = refl
  loc_of-parts (Present o k) = refl
  loc_of-parts (Shape o) = refl

  -- locations that are level are the same
  exact_loc : CmpEqualImpliesEq (loc_cmp names)
  exact_loc a b e =
      let p = parts names a in
      let q = parts names b in
      let object = then_level (nat_cmp p.0 q.0) (ordering_then (nat_cmp p.1 q.1) (ordering_then (slice_cmp nat_cmp p.2 q.2) (ordering_then (nat_cmp p.3 q.3) (slice_cmp key_cmp p.4 q.4)))) (sym (loc_cmp-parts names a b) ∙ e) in
      let kind = then_level (nat_cmp p.1 q.1) (ordering_then (slice_cmp nat_cmp p.2 q.2) (ordering_then (nat_cmp p.3 q.3) (slice_cmp key_cmp p.4 q.4))) object.1 in
      let text = then_level (slice_cmp nat_cmp p.2 q.2) (ordering_then (nat_cmp p.3 q.3) (slice_cmp key_cmp p.4 q.4)) kind.1 in
      let name = then_level (nat_cmp p.3 q.3) (slice_cmp key_cmp p.4 q.4) text.1 in
      sym (loc_of-parts a)
      ∙ ap (λ n. loc_of n p.0 p.3 p.4) (exact_unsigned p.1 q.1 kind.0)
      ∙ ap (λ n. loc_of q.1 n p.3 p.4) (exact_unsigned p.0 q.0 object.0)
      ∙ ap (λ n. loc_of q.1 q.0 n p.4) (exact_unsigned p.3 q.3 name.0)
      ∙ ap (λ ks. loc_of q.1 q.0 q.3 ks) (exact_lists key_cmp exact_key p.4 q.4 name.1)
      ∙ loc_of-parts b

  -- ---- versions

  -- versions that are level are the same
  pub exact_version : (u v : Version) → version_cmp names u v ≡ Equal → u ≡ v
  exact_version (Empty a) (Empty b) e = ap Empty (exact_loc a b e)
  exact_version (Empty a) (Written run place) e = absurd (less_equal e)
  exact_version (Written run place) (Empty b) e = absurd (greater_equal e)
  exact_version (Written run place) (Written other at) e =
      let both = then_level (nat_cmp run.0 other.0) (nat_cmp place at) e in
      ap (λ n. Written (record { 0 = n }) place) (exact_unsigned run.0 other.0 both.0) ∙ ap (Written other) (exact_unsigned place at both.1)
