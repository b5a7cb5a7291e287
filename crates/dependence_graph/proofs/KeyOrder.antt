-- The order of tuples of keys.
use Rattle.std.proofs.Common.{◌≡◌, ℕ, ◌<◌, ◌≤◌, List, [], ◌∷◌, length, drop, refl, sym, ap, ◌∙◌, length-drop, arith}
use Rattle.std.specs.Cmp.Lexicographic.{slice_cmp}
use Rattle.std.specs.declared.cmp.Ordering.{Ordering}
use Rattle.std.specs.declared.cmp.Ordering.TheVariants.{Less}
use Rattle.std.proofs.lemmas.List.{drop_all}
use Rattle.flow_base.specs.declared.key.Key.{Key, Tuple, roll-Key}
use Rattle.flow_base.specs.declared.key.Key.TheFolds.{map-Key}
use Rattle.flow_base.specs.declared.key.Key.TheOpen as key
use Rattle.flow_base.specs.declared.key.Key.TheViews.{out-roll-Key}
use Rattle.trace_events.specs.Order.{key_cmp, open_cmp}
use Rattle.trace_events.proofs.ExactOrder.{key_cmp-roll}
use Rattle.trace_events.proofs.TotalOrder.{parts_cmp-slice}

-- where the first has no more and the second has
less_rest : (ts : List Key) → 0 < length ts → Less ≡ slice_cmp key_cmp [] ts
less_rest [] lt = absurd (omega arith)
less_rest (t ∷ ts) lt = refl

pub parts_less : (s t : List Key) (i : ℕ) → length s ≤ i → length s < length t → i ≤ length s → slice_cmp key_cmp (drop i s) (drop i t) ≡ slice_cmp key_cmp s t
    → Less ≡ slice_cmp key_cmp s t
parts_less s t i past less upto same =
    less_rest (drop i t) (omega (arith, length-drop i t))
    ∙ ap (λ (l : List Key). slice_cmp key_cmp l (drop i t)) (sym (drop_all i s past))
    ∙ same

-- tuples are compared by their parts
pub tuple_cmp : (a b : Key) (s t : List Key) → a ≡ Tuple s → b ≡ Tuple t → slice_cmp key_cmp s t ≡ key_cmp a b
unfolding roll-Key denote.Hole.Carrier.roll
tuple_cmp a b s t e f =
    sym (parts_cmp-slice s t)
    ∙ ap (open_cmp (map-Key Key (Key → Ordering) key_cmp (key.Tuple s))) (sym (out-roll-Key (key.Tuple t)))
    ∙ sym (key_cmp-roll (key.Tuple s) (roll-Key (key.Tuple t)))
    ∙ ap (λ (k : Key). key_cmp k (Tuple t)) (sym e)
    ∙ ap (key_cmp a) (sym f)
