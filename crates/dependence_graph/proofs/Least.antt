-- The least version of a list depends on what is in the list alone.
use Rattle.std.proofs.Common.{◌≡◌, ◌≢◌, ℕ, Bool, true, List, refl, ap, ◌∙◌}
use Rattle.std.specs.Prelude.{Option, Some, None, filter}
use Rattle.std.specs.List.{Contains}
use Rattle.std.specs.Ordering.{ordering_reverse}
use Rattle.std.specs.declared.cmp.Ordering.{Ordering}
use Rattle.std.specs.declared.cmp.Ordering.TheVariants.{Less, Equal, Greater}
use Rattle.trace_events.specs.declared.version.Version.{Version}
use Rattle.trace_events.specs.Order.{version_cmp}
use Rattle.trace_events.specs.Why.{least}
use Rattle.trace_events.proofs.ExactOrder.{exact_version}
use Rattle.trace_events.proofs.Lists.{Contains-filter, Contains-filter_of}
use Rattle.trace_events.proofs.Reasons.{least_found, least_none}
use Rattle.trace_events.proofs.TotalOrder.{version_total}

module _ (names : List (List ℕ)) where
  -- two versions neither of which is before the other are the same
  same_version : (u w : Version) (o : Ordering) → version_cmp names u w ≡ o → version_cmp names u w ≢ Less → version_cmp names w u ≢ Less → u ≡ w
  same_version u w Less e f g = absurd (f e)
  same_version u w Equal e f g = exact_version names u w e
  same_version u w Greater e f g = absurd (g ((version_total names).antisymm w u ∙ ap ordering_reverse e))

  module _ (xs ys : List Version) (to : (u : Version) → Contains xs u → Contains ys u) (back : (u : Version) → Contains ys u → Contains xs u) where
    least_pair : (o p : Option Version) → least names xs ≡ o → least names ys ≡ p → o ≡ p
    least_pair None None e f = refl
    least_pair None (Some u) e f = absurd (least_none names xs u e (back u (least_found names ys u f).0))
    least_pair (Some u) None e f = absurd (least_none names ys u f (to u (least_found names xs u e).0))
    least_pair (Some u) (Some w) e f =
        let here = least_found names xs u e in
        let there = least_found names ys w f in
        ap Some (same_version u w (version_cmp names u w) refl (there.1 u (to u here.0)) (here.1 w (back w there.0)))

    pub least_same : least names xs ≡ least names ys
    least_same = least_pair (least names xs) (least names ys) refl refl

  -- the same of what passes two tests that agree
  pub least_filter : (xs ys : List Version) (p q : Version → Bool) → ((u : Version) → Contains xs u → p u ≡ true → Contains ys u × (q u ≡ true))
      → ((u : Version) → Contains ys u → q u ≡ true → Contains xs u × (p u ≡ true)) → least names (filter p xs) ≡ least names (filter q ys)
  least_filter xs ys p q to back = least_same (filter p xs) (filter q ys)
      (λ u c. let found = Contains-filter p xs u c in let there = to u found.0 found.1 in Contains-filter_of q ys u there.0 there.1)
      (λ u c. let found = Contains-filter q ys u c in let there = back u found.0 found.1 in Contains-filter_of p xs u there.0 there.1)
