-- The entries of a map in the order of its keys, seen as a finite map from what the keys stand for.
use Rattle.std.proofs.Common.{◌≡◌, List, [], ◌∷◌, Some, ap, sym, ◌∙◌, refl, cond, map}
use Rattle.std.specs.declared.cmp.Ordering.{Ordering}
use Rattle.std.specs.declared.cmp.Ordering.TheVariants.{Less, Equal, Greater}
use Rattle.std.specs.Cmp.{IsTotalOrder}
use Rattle.std.specs.Ordering.{eq_by_cmp, match_ordering}
use Rattle.std.specs.Map.{lookup}
use Rattle.std.specs.BTreeMap.{insert_entry, is_at}
use Rattle.std.specs.FinMap.{get, insert, from_entries, get-from_entries, get-insert, same_map, IsAntisymmetric, find}
use Rattle.std.specs.FinMap.Entries.{put, find-put, by_order}

module _ {K Q X : Type 0} (R : Q → Q → Ordering) (key : K → Q) where
  abbrev pub keyed : List (K × X) → List (Q × X)
  keyed es = map (λ e. (key e.0, e.1)) es

  keyed-insert_entry : (es : List (K × X)) (k : K) (v : X) → keyed (insert_entry (λ a b. R (key a) (key b)) es k v) ≡ put R (key k) v (keyed es)
  keyed-insert_entry [] k v = refl
  keyed-insert_entry (e ∷ es) k v =
      elim (R (key k) (key e.0)) as (λ o. keyed (match_ordering o ((k, v) ∷ e ∷ es) ((e.0, v) ∷ es) (e ∷ insert_entry (λ a b. R (key a) (key b)) es k v))
      ≡ by_order o ((key k, v) ∷ keyed (e ∷ es)) ((key e.0, v) ∷ keyed es) ((key e.0, e.1) ∷ put R (key k) v (keyed es))) [
        | Less ↦ refl
        | Equal ↦ refl
        | Greater ↦ ap (λ t. (key e.0, e.1) ∷ t) (keyed-insert_entry es k v)
      ]

  find-keyed : (es : List (K × X)) (q : Q) → find R q (keyed es) ≡ lookup (is_at (λ k. R q (key k))) es
  find-keyed [] q = refl
  find-keyed (e ∷ es) q = ap (cond (eq_by_cmp R q (key e.0)) (Some e.1)) (find-keyed es q)

  pub get-keyed : IsTotalOrder R → (es : List (K × X)) (q : Q) → get (from_entries {R = R} (keyed es)) q ≡ lookup (is_at (λ k. R q (key k))) es
  get-keyed o es q = get-from_entries o (keyed es) q ∙ find-keyed es q

  pub insert-keyed : IsTotalOrder R → IsAntisymmetric R → (es : List (K × X)) (k : K) (v : X)
      → from_entries {R = R} (keyed (insert_entry (λ a b. R (key a) (key b)) es k v)) ≡ insert (from_entries (keyed es)) (key k) v
  insert-keyed o same es k v = same_map o same _ _ (λ q.
      get-from_entries o _ q
      ∙ ap (find R q) (keyed-insert_entry es k v)
      ∙ find-put R o q (key k) v (keyed es)
      ∙ ap (cond (eq_by_cmp R q (key k)) (Some v)) (sym (get-from_entries o (keyed es) q))
      ∙ sym (get-insert o (from_entries (keyed es)) (key k) v q))
