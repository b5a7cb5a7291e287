-- What reading a trace keeps: the places of its writes ascend, and own uses are of earlier places.
use Rattle.std.proofs.Common.{◌≡◌, ℕ, zero, suc, ◌+◌, ◌<◌, ◌≤◌, Bool, true, false, cond, List, [], ◌∷◌, ◌++◌, length, reverse, refl, sym, subst, ◌∙◌, arith}
use Rattle.std.specs.Prelude.{Option, Some, None}
use Rattle.std.specs.List.{AllByRecursion, flat_map, fold}
use Rattle.std.proofs.lemmas.Grind.{reverse_onto}
use Rattle.flow_base.specs.Same.{loc_eq}
use Rattle.flow_base.specs.declared.event.Event.{Event}
use Rattle.flow_base.specs.declared.event.Event.TheVariants.{Use, Place, Write, Open, Close, CallIn, CallOut}
use Rattle.flow_base.specs.declared.event.How.{How}
use Rattle.flow_base.specs.declared.event.How.TheVariants.{Normal, Raise, Break, Continue, Return}
use Rattle.flow_base.specs.declared.loc.Loc.{Loc}
use Rattle.trace_events.specs.Lawful.{IsAscendingFrom, IsSeenBelow}
use Rattle.trace_events.specs.Trace.{Written, Reading, Seen, Before, Own, all_uses, close, forget, gather, hand_out, last_write, or_else, seen_from, seen_after, step, start, reading_of}

-- ---- of each element

module _ {X : Type 0} (P : X → Type 0) where
  -- both parts
  pub each-append : (xs ys : List X) → AllByRecursion P xs → AllByRecursion P ys → AllByRecursion P (xs ++ ys)
  each-append [] ys a b = b
  each-append (x ∷ xs) ys a b = (a.0, each-append xs ys a.1 b)

  -- a weaker fact
  pub each-weaker : (Q : X → Type 0) → ((x : X) → P x → Q x) → (xs : List X) → AllByRecursion P xs → AllByRecursion Q xs
  each-weaker Q f [] a = tt
  each-weaker Q f (x ∷ xs) a = (f x a.0, each-weaker Q f xs a.1)

  -- the other way round
  pub each-reverse : (xs : List X) → AllByRecursion P xs → AllByRecursion P (reverse xs)
  each-reverse [] a = tt
  each-reverse (x ∷ xs) a =
      subst (λ (l : List X). AllByRecursion P l) (sym (reverse_onto xs x [])) (each-append (reverse xs) (x ∷ []) (each-reverse xs a.1) (a.0, tt))

  -- lists joined end to end
  pub each-flat : (gs : List (List X)) → AllByRecursion (AllByRecursion P) gs → AllByRecursion P (flat_map (λ g. g) gs)
  each-flat [] a = tt
  each-flat (g ∷ gs) a = each-append g (flat_map (λ g. g) gs) a.0 (each-flat gs a.1)

-- ---- what is kept

-- all uses are of earlier places
abbrev AllSeenBelow : ℕ → List Seen → Type 0
AllSeenBelow q ss = AllByRecursion (IsSeenBelow q) ss

-- all gathered uses are of earlier places
abbrev AllGatheredBelow : ℕ → List (List Seen) → Type 0
AllGatheredBelow q gs = AllByRecursion (AllSeenBelow q) gs

-- all writes are at earlier places
abbrev AllPlacedBelow : ℕ → List Written → Type 0
AllPlacedBelow q ws = AllByRecursion (λ w. w.place < q) ws

record IsKept (r : Reading) : Type 0 where
  ascending : IsAscendingFrom 0 r.writes
  placed : AllPlacedBelow r.place r.writes
  gathered : AllGatheredBelow r.place r.open_uses

-- one use more
gathered_gather : (q : ℕ) (s : Seen) (gs : List (List Seen)) → IsSeenBelow q s → AllGatheredBelow q gs → AllGatheredBelow q (gather s gs)
gathered_gather q s [] b a = tt
gathered_gather q s (g ∷ gs) b a = (each-append (IsSeenBelow q) g (s ∷ []) a.0 (b, tt), a.1)

-- a gathering less
gathered_forget : (q : ℕ) (gs : List (List Seen)) → AllGatheredBelow q gs → AllGatheredBelow q (forget gs)
gathered_forget q [] a = tt
gathered_forget q (g ∷ gs) a = a.1

-- a gathering handed out
gathered_hand_out : (q : ℕ) (gs : List (List Seen)) → AllGatheredBelow q gs → AllGatheredBelow q (hand_out gs)
gathered_hand_out q [] a = tt
gathered_hand_out q (g ∷ []) a = tt
gathered_hand_out q (g ∷ outer ∷ gs) a = (each-append (IsSeenBelow q) outer g a.1.0 a.0, a.1.1)

-- a statement that ends
gathered_close : (q : ℕ) (how : How) (n : ℕ) (gs : List (List Seen)) → AllGatheredBelow q gs → AllGatheredBelow q (close how n gs)
gathered_close q Normal zero gs a = gathered_forget q gs a
gathered_close q Normal (suc n) gs a = gathered_hand_out q gs a
gathered_close q Raise n gs a = gathered_hand_out q gs a
gathered_close q Break n gs a = gathered_hand_out q gs a
gathered_close q Continue n gs a = gathered_hand_out q gs a
gathered_close q Return n gs a = gathered_hand_out q gs a

-- one place further, for a use
below_more_seen : (q : ℕ) (s : Seen) → IsSeenBelow q s → IsSeenBelow (q + 1) s
below_more_seen q (Before l) b = tt
below_more_seen q (Own i) b = omega arith

-- one place further, for gathered uses
below_more_gathered : (q : ℕ) (gs : List (List Seen)) → AllGatheredBelow q gs → AllGatheredBelow (q + 1) gs
below_more_gathered q gs a =
    each-weaker (AllSeenBelow q) (AllSeenBelow (q + 1)) (λ g b. each-weaker (IsSeenBelow q) (IsSeenBelow (q + 1)) (below_more_seen q) g b) gs a

-- one place further, for writes
below_more_placed : (q : ℕ) (ws : List Written) → AllPlacedBelow q ws → AllPlacedBelow (q + 1) ws
below_more_placed q ws a = each-weaker (λ w. w.place < q) (λ w. w.place < q + 1) (λ w h. omega arith) ws a

-- what a use sees is earlier
seen_from_else : (q : ℕ) (l : Loc) (p : ℕ) (o : Option ℕ) (b : Bool) → p < q → IsSeenBelow q (seen_from l o) → IsSeenBelow q (seen_from l (or_else o (cond b (Some p) None)))
seen_from_else q l p (Some i) b h k = k
seen_from_else q l p None true h k = h
seen_from_else q l p None false h k = tt

-- the same after all writes
seen_after_below : (q : ℕ) (l : Loc) (ws : List Written) → AllPlacedBelow q ws → IsSeenBelow q (seen_after ws l)
seen_after_below q l [] a = tt
seen_after_below q l (w ∷ ws) a = seen_from_else q l w.place (last_write l ws) (loc_eq w.location l) a.0 (seen_after_below q l ws a.1)

-- one more write at the end
ascending_push : (p : ℕ) (ws : List Written) (w : Written) → p ≤ w.place → IsAscendingFrom p ws → AllPlacedBelow w.place ws
    → AllByRecursion (IsSeenBelow w.place) w.uses → IsAscendingFrom p (ws ++ w ∷ [])
ascending_push p [] w le a b u = (le, u, tt)
ascending_push p (x ∷ xs) w le a b u = (a.0, a.1, ascending_push (x.place + 1) xs w (let lt : x.place < w.place = b.0 in omega arith) a.2 b.1 u)

-- one event more keeps all of it
kept_step : (r : Reading) (e : Event) → IsKept r → IsKept (step r e)
kept_step r (Use l) k = record {
  ascending = k.ascending;
  placed = below_more_placed r.place r.writes k.placed;
  gathered = below_more_gathered r.place (gather (seen_after r.writes l) r.open_uses) (gathered_gather r.place (seen_after r.writes l) r.open_uses (seen_after_below r.place l r.writes k.placed) k.gathered);
}
kept_step r (Place l) k = record {
  ascending = k.ascending;
  placed = below_more_placed r.place r.writes k.placed;
  gathered = below_more_gathered r.place r.open_uses k.gathered;
}
kept_step r (Write l) k =
    let w : Written = record { place = r.place; location = l; uses = all_uses r.open_uses } in
    record {
      ascending = ascending_push 0 r.writes w (omega arith) k.ascending k.placed (each-flat (IsSeenBelow r.place) (reverse r.open_uses) (each-reverse (AllSeenBelow r.place) r.open_uses k.gathered));
      placed = each-append (λ (x : Written). x.place < r.place + 1) r.writes (w ∷ []) (below_more_placed r.place r.writes k.placed) (omega arith, tt);
      gathered = below_more_gathered r.place r.open_uses k.gathered;
    }
kept_step r Open k = record {
  ascending = k.ascending;
  placed = below_more_placed r.place r.writes k.placed;
  gathered = (tt, below_more_gathered r.place r.open_uses k.gathered);
}
kept_step r (Close how) k = record {
  ascending = k.ascending;
  placed = below_more_placed r.place r.writes k.placed;
  gathered = below_more_gathered r.place (close how r.calls r.open_uses) (gathered_close r.place how r.calls r.open_uses k.gathered);
}
kept_step r CallIn k = record {
  ascending = k.ascending;
  placed = below_more_placed r.place r.writes k.placed;
  gathered = below_more_gathered r.place r.open_uses k.gathered;
}
kept_step r CallOut k = record {
  ascending = k.ascending;
  placed = below_more_placed r.place r.writes k.placed;
  gathered = below_more_gathered r.place r.open_uses k.gathered;
}

-- over a whole trace, from the front
kept_fold : (es : List Event) (r : Reading) → IsKept r → IsKept (fold step r es)
kept_fold [] r k = k
kept_fold (e ∷ es) r k = kept_fold es (step r e) (kept_step r e k)

-- each event is one place more
pub place_step : (r : Reading) (e : Event) → (step r e).place ≡ r.place + 1
place_step r (Use l) = refl
place_step r (Place l) = refl
place_step r (Write l) = refl
place_step r Open = refl
place_step r (Close how) = refl
place_step r CallIn = refl
place_step r CallOut = refl

-- the places of the writes of a trace ascend, and own uses are of earlier places
pub reading_of-ascending : (es : List Event) → IsAscendingFrom 0 (reading_of es).writes
reading_of-ascending es = (kept_fold es start (record { ascending = tt; placed = tt; gathered = tt })).ascending

-- so many places as events
place_fold : (es : List Event) (r : Reading) → (fold step r es).place ≡ r.place + length es
place_fold [] r = omega arith
place_fold (e ∷ es) r = place_fold es (step r e) ∙ (let one : (step r e).place ≡ r.place + 1 = place_step r e in omega arith)

-- the place after a trace is its length
pub reading_of-length : (es : List Event) → (reading_of es).place ≡ length es
reading_of-length es = place_fold es start ∙ (omega arith)
