-- The names that hold a value, in the order of their numbers.
use Rattle.std.proofs.lemmas.List.{drop_all}
use Rattle.std.proofs.Common.{◌≡◌, ℕ, suc, ◌+◌, ◌<◌, ◌≤◌, ◌++◌, length, drop, get_or, arith, append_assoc, append-nil, drop-cons, Bool, true, false, cond, List, [], ◌∷◌, map, refl, sym, ap, subst, ◌∙◌, eqb-true, eq-eqb}
use Rattle.std.specs.Prelude.{Option, None, ◌==◌, ◌||◌, is_some, filter}
use Rattle.std.specs.List.{list_any}
use Rattle.std.specs.List.Sorted.{IsStrictlySortedBy}
use Rattle.std.specs.Ordering.{eq_by_cmp, nat_cmp}
use Rattle.std.proofs.lemmas.Bool.{false≢true, true≢false}
use Rattle.std.proofs.lemmas.List.Kept.{IsStrictlySortedBy-filter}
use Rattle.flow_base.specs.declared.numbers.Sym.{Sym}
use Rattle.heap_objects.specs.Names.{AreNumbers, IsSymbols, holding}
use Rattle.heap_objects.specs.declared.value.Value.{Value}
use Rattle.heap_objects.proofs.SlotLaws.{is_at-eqb}

same_any : (p q : ℕ → Bool) (xs : List ℕ) → ((x : ℕ) → p x ≡ q x) → list_any p xs ≡ list_any q xs
same_any p q [] h = refl
same_any p q (x ∷ xs) h = ap (λ (b : Bool). b || list_any p xs) (h x) ∙ ap (λ (b : Bool). q x || b) (same_any p q xs h)

pub flip_eqb : (m n : ℕ) → (m == n) ≡ (n == m)
flip_eqb m n = go (m == n) (n == m) refl refl
  where
    go : (a b : Bool) → (m == n) ≡ a → (n == m) ≡ b → a ≡ b
    go true true e f = refl
    go true false e f = sym (eq-eqb n m (sym (eqb-true m n e))) ∙ f
    go false true e f = sym e ∙ eq-eqb m n (sym (eqb-true n m f))
    go false false e f = refl

-- the keys of a map in which all names that hold a value are
pub numbers_are : (ns : List ℕ) (value : Sym → Option Value) (has : ℕ → Bool) → IsStrictlySortedBy nat_cmp ns → ((q : ℕ) → has q ≡ list_any (eq_by_cmp nat_cmp q) ns)
    → ((n : Sym) → is_some (value n) ≡ true → has n.0 ≡ true) → AreNumbers value ns
numbers_are ns value has sorted members covers = record {
  ascending = sorted;
  all = λ n h. same_any (λ m. m == n.0) (eq_by_cmp nat_cmp n.0) ns (λ x. flip_eqb x n.0 ∙ sym (is_at-eqb n.0 x)) ∙ sym (members n.0) ∙ covers n h;
}

held_numbers : (value : Sym → Option Value) (ns : List ℕ) → map (λ n. n.0) (holding value ns) ≡ filter (λ n. is_some (value (record { 0 = n }))) ns
held_numbers value [] = refl
held_numbers value (n ∷ ns) = go (is_some (value (record { 0 = n }))) (held_numbers value ns)
  where
    go : (b : Bool) → map (λ n. n.0) (holding value ns) ≡ filter (λ n. is_some (value (record { 0 = n }))) ns
        → map (λ (n : Sym). n.0) (cond b (record { 0 = n } ∷ holding value ns) (holding value ns)) ≡ cond b (n ∷ filter (λ n. is_some (value (record { 0 = n }))) ns) (filter (λ n. is_some (value (record { 0 = n }))) ns)
    go true e = ap (λ (x : List ℕ). n ∷ x) e
    go false e = e

named_by : (m : ℕ) (n : Sym) → (m == n.0) ≡ true → record { 0 = m } ≡ n
named_by m n e = ap (λ (x : ℕ). record { 0 = x }) (eqb-true m n.0 e)

holds_head : (value : Sym → Option Value) (m : ℕ) (ms : List ℕ) (n : Sym) (b c : Bool) → (m == n.0) ≡ b → is_some (value (record { 0 = m })) ≡ c → is_some (value n) ≡ true
    → (list_any (λ m. m == n.0) ms ≡ true → list_any (λ m. m.0 == n.0) (holding value ms) ≡ true) → (b || list_any (λ m. m == n.0) ms) ≡ true
    → list_any (λ (m : Sym). m.0 == n.0) (cond c (record { 0 = m } ∷ holding value ms) (holding value ms)) ≡ true
holds_head value m ms n true true e f h rest there = ap (λ (b : Bool). b || list_any (λ (m : Sym). m.0 == n.0) (holding value ms)) e
holds_head value m ms n true false e f h rest there =
    absurd (true≢false (sym h ∙ ap (λ (x : Sym). is_some (value x)) (sym (named_by m n e)) ∙ f))
holds_head value m ms n false true e f h rest there = ap (λ (b : Bool). b || list_any (λ (m : Sym). m.0 == n.0) (holding value ms)) e ∙ rest there
holds_head value m ms n false false e f h rest there = rest there

holds : (value : Sym → Option Value) (ms : List ℕ) (n : Sym) → is_some (value n) ≡ true → list_any (λ m. m == n.0) ms ≡ true → list_any (λ m. m.0 == n.0) (holding value ms) ≡ true
holds value [] n h there = absurd (false≢true there)
holds value (m ∷ ms) n h there = holds_head value m ms n (m == n.0) (is_some (value (record { 0 = m }))) refl refl h (holds value ms n h) there

lacks_head : (value : Sym → Option Value) (m : ℕ) (ms : List ℕ) (n : Sym) (b c : Bool) → (m == n.0) ≡ b → is_some (value (record { 0 = m })) ≡ c → is_some (value n) ≡ false
    → list_any (λ m. m.0 == n.0) (holding value ms) ≡ false → list_any (λ (m : Sym). m.0 == n.0) (cond c (record { 0 = m } ∷ holding value ms) (holding value ms)) ≡ false
lacks_head value m ms n true true e f h rest = absurd (true≢false (sym f ∙ ap (λ (x : Sym). is_some (value x)) (named_by m n e) ∙ h))
lacks_head value m ms n false true e f h rest = ap (λ (b : Bool). b || list_any (λ (m : Sym). m.0 == n.0) (holding value ms)) e ∙ rest
lacks_head value m ms n b false e f h rest = rest

lacks : (value : Sym → Option Value) (ms : List ℕ) (n : Sym) → is_some (value n) ≡ false → list_any (λ m. m.0 == n.0) (holding value ms) ≡ false
lacks value [] n h = refl
lacks value (m ∷ ms) n h = lacks_head value m ms n (m == n.0) (is_some (value (record { 0 = m }))) refl refl h (lacks value ms n h)

pub symbols_are : (value : Sym → Option Value) (ms : List ℕ) (names : List Sym) → AreNumbers value ms → names ≡ holding value ms → IsSymbols value names
symbols_are value ms names a is = record {
  ascending = subst (λ (x : List Sym). IsStrictlySortedBy nat_cmp (map (λ n. n.0) x)) (sym is)
      (subst (IsStrictlySortedBy nat_cmp) (sym (held_numbers value ms)) (IsStrictlySortedBy-filter nat_cmp (λ n. is_some (value (record { 0 = n }))) ms a.ascending));
  all = λ n. ap (list_any (λ (m : Sym). m.0 == n.0)) is ∙ go n (is_some (value n)) refl;
}
  where
    go : (n : Sym) (b : Bool) → is_some (value n) ≡ b → list_any (λ m. m.0 == n.0) (holding value ms) ≡ is_some (value n)
    go n true h = holds value ms n h (a.all n h) ∙ sym h
    go n false h = lacks value ms n h ∙ sym h

nothing_sorted : IsStrictlySortedBy nat_cmp []
unfolding IsStrictlySortedBy
nothing_sorted = tt

pub no_names : AreNumbers (λ n. None) []
no_names = record { ascending = nothing_sorted; all = λ n h. absurd (false≢true h) }

one_first : (value : Sym → Option Value) (m : ℕ) (ms : List ℕ) (b : Bool) → cond b (record { 0 = m } ∷ holding value ms) (holding value ms) ≡ cond b (record { 0 = m } ∷ []) [] ++ holding value ms
one_first value m ms true = refl
one_first value m ms false = refl

-- one number more of those that are left
pub holding-step : (value : Sym → Option Value) (ms : List ℕ) (i : ℕ) (now next all : List Sym) → i < length ms → now ++ holding value (drop i ms) ≡ all
    → next ≡ now ++ cond (is_some (value (record { 0 = get_or ms i 0 }))) (record { 0 = get_or ms i 0 } ∷ []) [] → next ++ holding value (drop (i + 1) ms) ≡ all
holding-step value ms i now next all lt was step =
    let m : ℕ = get_or ms i 0 in
    let later : suc i ≡ i + 1 = omega arith in
    let parts : drop i ms ≡ m ∷ drop (i + 1) ms = drop-cons ms i 0 lt ∙ ap (λ (k : ℕ). m ∷ drop k ms) later in
    ap (λ (x : List Sym). x ++ holding value (drop (i + 1) ms)) step
    ∙ append_assoc now (cond (is_some (value (record { 0 = m }))) (record { 0 = m } ∷ []) []) (holding value (drop (i + 1) ms))
    ∙ ap (λ (x : List Sym). now ++ x) (sym (one_first value m (drop (i + 1) ms) (is_some (value (record { 0 = m })))))
    ∙ ap (λ (x : List ℕ). now ++ holding value x) (sym parts)
    ∙ was

pub holding-end : (value : Sym → Option Value) (ms : List ℕ) (i : ℕ) (now all : List Sym) → length ms ≤ i → now ++ holding value (drop i ms) ≡ all → now ≡ all
holding-end value ms i now all past is = sym (append-nil now) ∙ ap (λ (x : List ℕ). now ++ holding value x) (sym (drop_all i ms past)) ∙ is
