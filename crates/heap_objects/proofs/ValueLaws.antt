-- Values and the trees that they stand for.
use Rattle.std.proofs.Common.{◌≡◌, ℕ, ◌+◌, max, true, false, List, [], ◌∷◌, map, refl, sym, ap, subst, ◌∙◌}
use Rattle.std.specs.Prelude.{Option, Some, None}
use Rattle.std.specs.Option.{option_map}
use Rattle.flow_base.specs.declared.key.Key.{Key, roll-Key}
use Rattle.flow_base.specs.declared.key.Key.TheOpen as key
use Rattle.heap_objects.specs.Keyed.{all_of, key_of, key_step, with_first}
use Rattle.heap_objects.specs.Nesting.{kept_nesting, kept_step, largest, nesting, nesting_step, tuple_of}
use Rattle.heap_objects.specs.Tree.{Tree, deepest, depth, key_before, key_of_tree, keys_of_trees, tree_of, tree_step, trees_of, tuple_with}
use Rattle.heap_objects.specs.declared.value.Value.{Value, roll-Value}
use Rattle.heap_objects.specs.declared.value.Value.TheFolds.{fold-roll-Value, ind-Value, map-Value}
use Rattle.heap_objects.specs.declared.value.Value.TheOpen as v
use Rattle.heap_objects.specs.declared.value.Value.TheOpen.{Value-F}

-- ---- the nesting is the depth of the tree

abbrev Deep : Value → Type 0
Deep x = nesting x ≡ depth (tree_of x)

abbrev Known : Type 0
Known = (x : Value) × Deep x

deep_parts : (ps : List Known) → largest (map nesting (map (λ p. p.0) ps)) ≡ deepest (trees_of (map tree_of (map (λ p. p.0) ps)))
deep_parts [] = refl
deep_parts (p ∷ ps) = ap (λ n. max n (largest (map nesting (map (λ p. p.0) ps)))) p.1 ∙ ap (max (depth (tree_of p.0))) (deep_parts ps)

deep_level : (y : Value-F Known) → nesting_step (map-Value Value ℕ nesting (map-Value Known Value (λ p. p.0) y))
    ≡ depth (tree_step (map-Value Value Tree tree_of (map-Value Known Value (λ p. p.0) y)))
deep_level v.Nil = refl
deep_level (v.Truth b) = refl
deep_level (v.Int n) = refl
deep_level (v.Text t) = refl
deep_level (v.Tuple ps kept) = ap (λ n. n + 1) (deep_parts ps)
deep_level (v.Range a b c) = refl
deep_level (v.Builtin s) = refl
deep_level (v.Obj o) = refl
deep_level (v.Bound f o) = refl
deep_level (v.Method s p) = ap (λ n. n + 1) p.1

pub nesting_is_depth : (x : Value) → nesting x ≡ depth (tree_of x)
nesting_is_depth = ind-Value Deep (λ x y e. subst (λ (z : Value-F Value). Deep (roll-Value z)) e (step y))
  where
    step : (y : Value-F Known) → Deep (roll-Value (map-Value Known Value (λ p. p.0) y))
    step y = let x : Value-F Value = map-Value Known Value (λ p. p.0) y in
        fold-roll-Value ℕ nesting_step x ∙ deep_level y ∙ ap depth (sym (fold-roll-Value Tree tree_step x))

-- ---- the nesting beside the parts

pub kept_in_tuples : (parts : List Value) → map kept_nesting parts ≡ map nesting parts → kept_nesting (tuple_of parts) ≡ nesting (tuple_of parts)
kept_in_tuples parts e =
    fold-roll-Value ℕ kept_step (v.Tuple parts (largest (map kept_nesting parts) + 1)) ∙ ap (λ ns. largest ns + 1) e
    ∙ sym (fold-roll-Value ℕ nesting_step (v.Tuple parts (largest (map kept_nesting parts) + 1)))

-- ---- the key

abbrev Keyed : Value → Type 0
Keyed x = key_of x ≡ key_of_tree (tree_of x)

abbrev KnownKey : Type 0
KnownKey = (x : Value) × Keyed x

same_first : (o : Option Key) (p : Option (List Key)) → with_first o p ≡ key_before o p
same_first None p = refl
same_first (Some k) None = refl
same_first (Some k) (Some ks) = refl

key_parts : (ps : List KnownKey) → all_of (map key_of (map (λ p. p.0) ps)) ≡ keys_of_trees (trees_of (map tree_of (map (λ p. p.0) ps)))
key_parts [] = refl
key_parts (p ∷ ps) =
    same_first (key_of p.0) (all_of (map key_of (map (λ p. p.0) ps)))
    ∙ ap (λ o. key_before o (all_of (map key_of (map (λ p. p.0) ps)))) p.1 ∙ ap (key_before (key_of_tree (tree_of p.0))) (key_parts ps)

same_tuple : (o : Option (List Key)) → option_map (λ all. roll-Key (key.Tuple all)) o ≡ tuple_with o
same_tuple None = refl
same_tuple (Some ks) = refl

key_level : (y : Value-F KnownKey) → key_step (map-Value Value (Option Key) key_of (map-Value KnownKey Value (λ p. p.0) y))
    ≡ key_of_tree (tree_step (map-Value Value Tree tree_of (map-Value KnownKey Value (λ p. p.0) y)))
key_level v.Nil = refl
key_level (v.Truth true) = refl
key_level (v.Truth false) = refl
key_level (v.Int n) = refl
key_level (v.Text t) = refl
key_level (v.Tuple ps kept) = same_tuple (all_of (map key_of (map (λ p. p.0) ps))) ∙ ap tuple_with (key_parts ps)
key_level (v.Range a b c) = refl
key_level (v.Builtin s) = refl
key_level (v.Obj o) = refl
key_level (v.Bound f o) = refl
key_level (v.Method s p) = refl

pub key_by_tree : (x : Value) → key_of x ≡ key_of_tree (tree_of x)
key_by_tree = ind-Value Keyed (λ x y e. subst (λ (z : Value-F Value). Keyed (roll-Value z)) e (step y))
  where
    step : (y : Value-F KnownKey) → Keyed (roll-Value (map-Value KnownKey Value (λ p. p.0) y))
    step y = let x : Value-F Value = map-Value KnownKey Value (λ p. p.0) y in
        fold-roll-Value (Option Key) key_step x ∙ key_level y ∙ ap key_of_tree (sym (fold-roll-Value Tree tree_step x))
