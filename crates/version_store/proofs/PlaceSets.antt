-- Sets and lists of places.
use Rattle.std.proofs.Common.{◌≡◌, ℕ, ◌+◌, ◌<◌, ◌≤◌, inl, inr, ◌⊎◌, Bool, true, false, cond, ◌||◌, List, [], ◌∷◌, ◌++◌, length, map, take, get_or, refl, sym, ap, subst, ◌∙◌, ⊎_elim, arith, append_assoc, eq-eqb}
use Rattle.std.specs.Prelude.{◌==◌, filter}
use Rattle.std.specs.BTreeMap.{BTreeMap, is_at}
use Rattle.std.specs.BTreeSet as set
use Rattle.std.specs.BTreeSet.{BTreeSet}
use Rattle.std.specs.Cmp.{Equal-is, nat_cmp_is}
use Rattle.std.specs.List.{Contains}
use Rattle.std.specs.Ordering.{is_eq, nat_cmp, ordering_then}
use Rattle.std.specs.declared.cmp.Ordering.{Ordering}
use Rattle.std.specs.declared.cmp.Ordering.TheVariants.{Equal}
use Rattle.std.proofs.lemmas.Bool.{false≢true}
use Rattle.std.proofs.lemmas.List.{append-nil, map-append, take_all, take_more}
use Rattle.std.proofs.lemmas.List.Folds.{list_any-append}
use Rattle.std.proofs.lemmas.List.Elements.{filter-append, Contains-append_left, Contains-append_right, Contains-append_cases, Contains-push, Contains-push_cases}
use Rattle.std.proofs.lemmas.Map.Lookups.{CmpEqualImpliesEq, exact_pairs, exact_unsigned}
use Rattle.trace_events.specs.declared.version.Version.{Version}
use Rattle.trace_events.specs.declared.version.Version.TheVariants.{Empty, Written as at_write}
use Rattle.trace_events.proofs.Lists.{no_member, list_any-Contains, list_any_of}
use Rattle.flow_base.specs.declared.numbers.RunNo.{RunNo}
use Rattle.version_store.specs.Dependents.{held_among, is_in, is_listed, listed_at, place_cmp, AddsAll, AddsAt, AddsIf, AddsPlace, Grows, IsListed, IsSeen}

-- two runs that compare as equal are one
exact_runs : CmpEqualImpliesEq (λ (a b : RunNo). nat_cmp a.0 b.0)
exact_runs a b e = ap (λ (n : ℕ). let r : RunNo = record { 0 = n } in r) (exact_unsigned a.0 b.0 e)

pub exact_places : CmpEqualImpliesEq place_cmp
exact_places = exact_pairs (λ (a b : RunNo). nat_cmp a.0 b.0) nat_cmp exact_runs exact_unsigned

-- a place compares to itself as equal
same_place : (p : RunNo × ℕ) → is_at (place_cmp p) p ≡ true
same_place p =
    ap (λ (o : Ordering). is_eq (ordering_then o (nat_cmp p.1 p.1))) (sym (nat_cmp_is p.0.0 p.0.0 Equal refl))
    ∙ ap is_eq (sym (nat_cmp_is p.1 p.1 Equal refl))

-- ---- lists

pub is_in-Contains : (ps : List (RunNo × ℕ)) (p : RunNo × ℕ) → is_in ps p ≡ true → Contains ps p
is_in-Contains ps p t =
    let f = list_any-Contains (λ (q : RunNo × ℕ). is_at (place_cmp q) p) ps t in
    subst (λ (q : RunNo × ℕ). Contains ps q) (exact_places f.0 p ((Equal-is (place_cmp f.0 p)).0 f.2)) f.1

pub Contains-is_in : (ps : List (RunNo × ℕ)) (p : RunNo × ℕ) → Contains ps p → is_in ps p ≡ true
Contains-is_in ps p c = list_any_of (λ (q : RunNo × ℕ). is_at (place_cmp q) p) ps p c (same_place p)

pub is_listed-IsListed : (ps : List (RunNo × ℕ)) (v : Version) → is_listed ps v ≡ true → IsListed ps v
is_listed-IsListed ps (Empty l) t = absurd (false≢true t)
is_listed-IsListed ps (at_write run place) t = is_in-Contains ps (run, place) t

pub IsListed-is_listed : (ps : List (RunNo × ℕ)) (v : Version) → IsListed ps v → is_listed ps v ≡ true
IsListed-is_listed ps (Empty l) c = elim c [ ]
IsListed-is_listed ps (at_write run place) c = Contains-is_in ps (run, place) c

pub IsListed-left : (xs ys : List (RunNo × ℕ)) (v : Version) → IsListed xs v → IsListed (xs ++ ys) v
IsListed-left xs ys (Empty l) c = elim c [ ]
IsListed-left xs ys (at_write run place) c = Contains-append_left xs ys (run, place) c

pub IsListed-right : (xs ys : List (RunNo × ℕ)) (v : Version) → IsListed ys v → IsListed (xs ++ ys) v
IsListed-right xs ys (Empty l) c = elim c [ ]
IsListed-right xs ys (at_write run place) c = Contains-append_right xs ys (run, place) c

pub IsListed-cases : (xs ys : List (RunNo × ℕ)) (v : Version) → IsListed (xs ++ ys) v → IsListed xs v ⊎ IsListed ys v
IsListed-cases xs ys (Empty l) c = elim c [ ]
IsListed-cases xs ys (at_write run place) c = Contains-append_cases xs ys (run, place) c

pub Contains-one : (p q : RunNo × ℕ) → Contains (p ∷ []) q → p ≡ q
Contains-one p q c = ⊎_elim (λ (n : Contains [] q). absurd (no_member q n)) (λ (e : p ≡ q). e) (Contains-push_cases [] p q c)

pub no_listed : (v : Version) → IsListed [] v → ⊥
no_listed (Empty l) c = elim c [ ]
no_listed (at_write run place) c = no_member (run, place) c

pub all_listed : (ps : List (RunNo × ℕ)) (i : ℕ) (v : Version) → length ps ≤ i → IsListed ps v → IsListed (take i ps) v
all_listed ps i v le c = subst (λ (qs : List (RunNo × ℕ)). IsListed qs v) (sym (take_all i ps le)) c

-- ---- a place more

or_false : (b : Bool) → (b || false) ≡ b
or_false true = refl
or_false false = refl

or_swap : (a b : Bool) → cond a true b ≡ (b || (a || false))
or_swap true true = refl
or_swap true false = refl
or_swap false true = refl
or_swap false false = refl

pub seen_more : (old new : BTreeSet (RunNo × ℕ)) (ps : List (RunNo × ℕ)) (p : RunNo × ℕ) → IsSeen old ps → set.Updates place_cmp old new p true → IsSeen new (ps ++ p ∷ [])
seen_more old new ps p s h q =
    h.0 q ∙ ap (λ (b : Bool). cond (is_at (place_cmp p) q) true b) (s q)
    ∙ or_swap (is_at (place_cmp p) q) (is_in ps q)
    ∙ sym (list_any-append (λ (x : RunNo × ℕ). is_at (place_cmp x) q) ps (p ∷ []))

-- ---- a list of a map

adds_cases : (n number : ℕ) (b : Bool) (ps : List (RunNo × ℕ)) (p q : RunNo × ℕ) → Contains ps q → Contains (cond b (ps ++ p ∷ []) ps) q
adds_cases n number true ps p q c = Contains-append_left ps (p ∷ []) q c
adds_cases n number false ps p q c = c

module _ (old new : BTreeMap ℕ (List (RunNo × ℕ))) (number : ℕ) (p : RunNo × ℕ) (h : AddsAt old new number p) where
  pub adds_grows : Grows old new
  adds_grows n q c = subst (λ (ps : List (RunNo × ℕ)). Contains ps q) (sym (h n)) (adds_cases n number (n == number) (listed_at old n) p q c)

  pub adds_listed : Contains (listed_at new number) p
  adds_listed = subst (λ (ps : List (RunNo × ℕ)). Contains ps p)
      (sym (h number ∙ ap (λ (b : Bool). cond b (listed_at old number ++ p ∷ []) (listed_at old number)) (eq-eqb number number refl)))
      (Contains-push (listed_at old number) p)

pub same_grows : (old new : BTreeMap ℕ (List (RunNo × ℕ))) → ((n : ℕ) → listed_at new n ≡ listed_at old n) → Grows old new
same_grows old new same n q c = subst (λ (ps : List (RunNo × ℕ)). Contains ps q) (sym (same n)) c

pub grows_further : (a b c : BTreeMap ℕ (List (RunNo × ℕ))) → Grows a b → Grows b c → Grows a c
grows_further a b c f g n q x = g n q (f n q x)

-- ---- lists that grow by places with a property

module _ (old : List (RunNo × ℕ)) where
  -- none yet
  pub adds_none : (P : Version → Type 0) → ((v : Version) → P v → ⊥) → AddsAll old old P
  adds_none P never = record { more = []; is = sym (append-nil old); added = λ v p. absurd (never v p); only = none }
    where
      none : (v : Version) → IsListed [] v → P v
      none (Empty l) c = elim c [ ]
      none (at_write run place) c = absurd (no_member (run, place) c)

  -- the same property in other words
  pub adds_same : (new : List (RunNo × ℕ)) (P Q : Version → Type 0) → ((v : Version) → P v → Q v) → ((v : Version) → Q v → P v) → AddsAll old new P → AddsAll old new Q
  adds_same new P Q f g a = record { more = a.more; is = a.is; added = λ v q. a.added v (g v q); only = λ v c. f v (a.only v c) }

  -- one place more, which may be there already
  pub adds_place : (mid new : List (RunNo × ℕ)) (run : RunNo) (place : ℕ) (P Q : Version → Type 0)
      → ((v : Version) → P v → Q v) → Q (at_write run place) → ((v : Version) → Q v → P v ⊎ (v ≡ at_write run place))
      → AddsAll old mid P → AddsPlace mid new (run, place) → AddsAll old new Q
  adds_place mid new run place P Q f here g a p = ⊎_elim
      (λ (q : (new ≡ mid) × Contains mid (run, place)). record {
        more = a.more;
        is = q.0 ∙ a.is;
        added = λ v x. subst (λ (ps : List (RunNo × ℕ)). IsListed ps v) (sym q.0) (⊎_elim
            (λ (y : P v). a.added v y)
            (λ (e : v ≡ at_write run place). subst (λ (w : Version). IsListed mid w) (sym e) q.1)
            (g v x));
        only = λ v c. f v (a.only v c);
      })
      (λ (q : new ≡ mid ++ (run, place) ∷ []). record {
        more = a.more ++ (run, place) ∷ [];
        is = q ∙ ap (λ (ps : List (RunNo × ℕ)). ps ++ (run, place) ∷ []) a.is ∙ append_assoc old a.more ((run, place) ∷ []);
        added = λ v x. subst (λ (ps : List (RunNo × ℕ)). IsListed ps v) (sym q) (⊎_elim
            (λ (y : P v). IsListed-left mid ((run, place) ∷ []) v (a.added v y))
            (λ (e : v ≡ at_write run place). subst (λ (w : Version). IsListed (mid ++ (run, place) ∷ []) w) (sym e) (Contains-push mid (run, place)))
            (g v x));
        only = λ v c. ⊎_elim
            (λ (y : IsListed a.more v). f v (a.only v y))
            (λ (y : IsListed ((run, place) ∷ []) v). subst Q (sym (only_one v y)) here)
            (IsListed-cases a.more ((run, place) ∷ []) v c);
      })
      p
    where
      only_one : (v : Version) → IsListed ((run, place) ∷ []) v → v ≡ at_write run place
      only_one (Empty l) c = elim c [ ]
      only_one (at_write r i) c = let e = Contains-one (run, place) (r, i) c in ap (λ (p : RunNo × ℕ). at_write p.0 p.1) (sym e)

  -- the same where a test decides
  pub adds_if : (mid new : List (RunNo × ℕ)) (run : RunNo) (place : ℕ) (test : Bool) (P Q : Version → Type 0)
      → ((v : Version) → P v → Q v) → (test ≡ true → Q (at_write run place)) → ((v : Version) → Q v → P v ⊎ ((test ≡ true) × (v ≡ at_write run place)))
      → AddsAll old mid P → AddsIf test mid new (run, place) → AddsAll old new Q
  adds_if mid new run place true P Q f here g a r =
      adds_place mid new run place P Q f (here refl) (λ v q. ⊎_elim (λ (p : P v). inl p) (λ (e : (true ≡ true) × (v ≡ at_write run place)). inr e.1) (g v q)) a r
  adds_if mid new run place false P Q f here g a r =
      subst (λ (ps : List (RunNo × ℕ)). AddsAll old ps Q) (sym r)
      (adds_same mid P Q f (λ v q. ⊎_elim (λ (p : P v). p) (λ (e : (false ≡ true) × (v ≡ at_write run place)). absurd (false≢true e.0)) (g v q)) a)

more_is : {X : Type 0} (xs : List X) (i : ℕ) (x : X) → i < length xs → x ≡ get_or xs i x → take (i + 1) xs ≡ take i xs ++ x ∷ []
more_is xs i x lt is = take_more xs i x lt ∙ ap (λ y. take i xs ++ y ∷ []) (sym is)

-- one place more of those that rest on a version
pub listed_next : (ps : List (RunNo × ℕ)) (i : ℕ) (p : RunNo × ℕ) → i < length ps → p ≡ get_or ps i p → (v : Version) → IsListed (take (i + 1) ps) v → IsListed (take i ps) v ⊎ (v ≡ at_write p.0 p.1)
listed_next ps i p lt is (Empty l) c = elim c [ ]
listed_next ps i p lt is (at_write run place) c = ⊎_elim
    (λ (o : Contains (take i ps) (run, place)). inl o)
    (λ (e : p ≡ (run, place)). inr (ap (λ (q : RunNo × ℕ). at_write q.0 q.1) (sym e)))
    (Contains-push_cases (take i ps) p (run, place) (subst (λ (qs : List (RunNo × ℕ)). Contains qs (run, place)) (more_is ps i p lt is) c))

pub listed_before : (ps : List (RunNo × ℕ)) (i : ℕ) (p : RunNo × ℕ) → i < length ps → p ≡ get_or ps i p → (v : Version) → IsListed (take i ps) v → IsListed (take (i + 1) ps) v
listed_before ps i p lt is v c = subst (λ (qs : List (RunNo × ℕ)). IsListed qs v) (sym (more_is ps i p lt is)) (IsListed-left (take i ps) (p ∷ []) v c)

pub listed_here : (ps : List (RunNo × ℕ)) (i : ℕ) (p : RunNo × ℕ) → i < length ps → p ≡ get_or ps i p → IsListed (take (i + 1) ps) (at_write p.0 p.1)
listed_here ps i p lt is = subst (λ (qs : List (RunNo × ℕ)). IsListed qs (at_write p.0 p.1)) (sym (more_is ps i p lt is)) (Contains-push (take i ps) p)

-- the pairs of a run, one more
abbrev at_first : ℕ → ℕ × ℕ → Bool
at_first place e = e.0 == place

among_more : (run : RunNo) (place : ℕ) (es : List (ℕ × ℕ)) (e : ℕ × ℕ)
    → held_among run place (es ++ e ∷ []) ≡ held_among run place es ++ map (λ (x : ℕ × ℕ). at_write run x.1) (filter (at_first place) (e ∷ []))
among_more run place es e =
    ap (λ (xs : List (ℕ × ℕ)). map (λ (x : ℕ × ℕ). at_write run x.1) xs) (filter-append (at_first place) es (e ∷ []))
    ∙ map-append (λ (x : ℕ × ℕ). at_write run x.1) (filter (at_first place) es) (filter (at_first place) (e ∷ []))

module _ (run : RunNo) (place : ℕ) (es : List (ℕ × ℕ)) (i : ℕ) (e : ℕ × ℕ) (lt : i < length es) (is : e ≡ get_or es i e) where
  among_is : held_among run place (take (i + 1) es) ≡ held_among run place (take i es) ++ map (λ (x : ℕ × ℕ). at_write run x.1) (filter (at_first place) (e ∷ []))
  among_is = ap (held_among run place) (more_is es i e lt is) ∙ among_more run place (take i es) e

  pub among_before : (v : Version) → Contains (held_among run place (take i es)) v → Contains (held_among run place (take (i + 1) es)) v
  among_before v c = subst (λ (vs : List Version). Contains vs v) (sym among_is)
      (Contains-append_left (held_among run place (take i es)) (map (λ (x : ℕ × ℕ). at_write run x.1) (filter (at_first place) (e ∷ []))) v c)

  one_here : (b : Bool) → (e.0 == place) ≡ b → b ≡ true → Contains (map (λ (x : ℕ × ℕ). at_write run x.1) (cond b (e ∷ []) [])) (at_write run e.1)
  one_here true same t = (0, omega arith, refl)
  one_here false same t = absurd (false≢true t)

  pub among_here : (e.0 == place) ≡ true → Contains (held_among run place (take (i + 1) es)) (at_write run e.1)
  among_here t = subst (λ (vs : List Version). Contains vs (at_write run e.1)) (sym among_is)
      (Contains-append_right (held_among run place (take i es)) (map (λ (x : ℕ × ℕ). at_write run x.1) (filter (at_first place) (e ∷ []))) (at_write run e.1)
      (one_here (e.0 == place) refl t))

  one_only : (b : Bool) → (v : Version) → Contains (map (λ (x : ℕ × ℕ). at_write run x.1) (cond b (e ∷ []) [])) v → (b ≡ true) × (v ≡ at_write run e.1)
  one_only true v c = (refl, ⊎_elim (λ (n : Contains [] v). absurd (no_member v n)) (λ (q : at_write run e.1 ≡ v). sym q) (Contains-push_cases [] (at_write run e.1) v c))
  one_only false v c = absurd (no_member v c)

  pub among_next : (v : Version) → Contains (held_among run place (take (i + 1) es)) v → Contains (held_among run place (take i es)) v ⊎ (((e.0 == place) ≡ true) × (v ≡ at_write run e.1))
  among_next v c = ⊎_elim
      (λ (o : Contains (held_among run place (take i es)) v). inl o)
      (λ (n : Contains (map (λ (x : ℕ × ℕ). at_write run x.1) (filter (at_first place) (e ∷ []))) v). inr (one_only (e.0 == place) v n))
      (Contains-append_cases (held_among run place (take i es)) (map (λ (x : ℕ × ℕ). at_write run x.1) (filter (at_first place) (e ∷ []))) v
      (subst (λ (vs : List Version). Contains vs v) among_is c))
