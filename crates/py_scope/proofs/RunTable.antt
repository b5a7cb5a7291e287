-- The entries of a map in the order of its keys, as a finite map.
use Rattle.std.proofs.Common.{◌≡◌, List, [], ◌∷◌, Some, ap, sym, ◌∙◌, refl, cond}
use Rattle.std.specs.declared.cmp.Ordering.{Ordering}
use Rattle.std.specs.declared.cmp.Ordering.TheVariants.{Less, Equal, Greater}
use Rattle.std.specs.Cmp.{IsTotalOrder}
use Rattle.std.specs.Ordering.{eq_by_cmp, match_ordering}
use Rattle.std.specs.Map.{lookup}
use Rattle.std.specs.BTreeMap.{insert_entry, is_at}
use Rattle.std.specs.FinMap.{get, insert, from_entries, get-from_entries, get-insert, same_map, IsAntisymmetric, find}
use Rattle.std.specs.FinMap.Entries.{put, find-put, by_order}

module _ {K X : Type 0} (R : K → K → Ordering) where
  entry_put : (es : List (K × X)) (k : K) (v : X) → insert_entry R es k v ≡ put R k v es
  entry_put [] k v = refl
  entry_put (e ∷ es) k v =
      elim (R k e.0) as (λ o. match_ordering o ((k, v) ∷ e ∷ es) ((e.0, v) ∷ es) (e ∷ insert_entry R es k v)
      ≡ by_order o ((k, v) ∷ e ∷ es) ((e.0, v) ∷ es) (e ∷ put R k v es)) [
        | Less ↦ refl
        | Equal ↦ refl
        | Greater ↦ ap (λ t. e ∷ t) (entry_put es k v)
      ]

  find_entry : (es : List (K × X)) (q : K) → find R q es ≡ lookup (is_at (R q)) es
  find_entry [] q = refl
  find_entry (e ∷ es) q = ap (cond (eq_by_cmp R q e.0) (Some e.1)) (find_entry es q)

  pub get_entry : IsTotalOrder R → (es : List (K × X)) (q : K) → get (from_entries {R = R} es) q ≡ lookup (is_at (R q)) es
  get_entry o es q = get-from_entries o es q ∙ find_entry es q

  pub insert_one : IsTotalOrder R → IsAntisymmetric R → (es : List (K × X)) (k : K) (v : X)
      → from_entries {R = R} (insert_entry R es k v) ≡ insert (from_entries es) k v
  insert_one o same es k v = same_map o same _ _ (λ q.
      get-from_entries o _ q
      ∙ ap (find R q) (entry_put es k v)
      ∙ find-put R o q k v es
      ∙ ap (cond (eq_by_cmp R q k) (Some v)) (sym (get-from_entries o es q))
      ∙ sym (get-insert o (from_entries es) k v q))
