-- Values by name, as a map keeps them and as they are seen.
use Rattle.std.proofs.Common.{◌≡◌, ℕ, cond, sym, ap, ◌∙◌}
use Rattle.std.specs.Prelude.{Some, None}
use Rattle.std.specs.BTreeMap.{BTreeMap, Updates, UpdatesBy, get, is_at}
use Rattle.std.specs.Cmp.{nat_cmp_total, eq_by_cmp_equiv}
use Rattle.std.specs.FinMap as map
use Rattle.std.specs.Ordering.{nat_cmp}
use Rattle.heap_objects.specs.Names.{Names}
use Rattle.heap_objects.specs.declared.value.Value.{Value}

-- what a kept map is seen as, at a key
pub seen : (m : BTreeMap ℕ Value) (q : ℕ) → map.get (map.from_entries {R = nat_cmp} m.entries) q ≡ get nat_cmp m q
seen m q = map.get-from_entries nat_cmp_total m.entries q

flipped : (k q : ℕ) → is_at (nat_cmp k) q ≡ is_at (nat_cmp q) k
flipped k q = (eq_by_cmp_equiv nat_cmp_total).symm k q

pub inserted : (m n : BTreeMap ℕ Value) (names : Names) (k : ℕ) (v : Value) → map.from_entries m.entries ≡ names → Updates nat_cmp m n k (Some v)
    → map.from_entries n.entries ≡ map.insert names k v
inserted m n names k v is updates = map.same_map nat_cmp_total map.nat_cmp-IsAntisymmetric _ _ (λ q.
    seen n q ∙ updates.0 q ∙ ap (λ b. cond b (Some v) (get nat_cmp m q)) (flipped k q)
    ∙ ap (λ o. cond (is_at (nat_cmp q) k) (Some v) o) (sym (seen m q) ∙ ap (λ (x : Names). map.get x q) is)
    ∙ sym (map.get-insert nat_cmp_total names k v q))

pub removed : (m n : BTreeMap ℕ Value) (names : Names) (k : ℕ) → map.from_entries m.entries ≡ names → UpdatesBy nat_cmp (nat_cmp k) m n None
    → map.from_entries n.entries ≡ map.remove names k
removed m n names k is updates = map.same_map nat_cmp_total map.nat_cmp-IsAntisymmetric _ _ (λ q.
    seen n q ∙ updates.0 q ∙ ap (λ b. cond b None (get nat_cmp m q)) (flipped k q)
    ∙ ap (λ o. cond (is_at (nat_cmp q) k) None o) (sym (seen m q) ∙ ap (λ (x : Names). map.get x q) is)
    ∙ sym (map.get-remove nat_cmp_total names k q))
