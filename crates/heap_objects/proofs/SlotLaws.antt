-- The slots of a frame: where a name is found, and what a write changes.
use Rattle.std.proofs.Common.{◌≡◌, ◌≢◌, ℕ, zero, suc, ◌+◌, ◌<◌, Bool, true, false, cond, List, [], ◌∷◌, ◌++◌, length, get_or, set, refl, sym, ap, subst, ◌∙◌, arith, eq-eqb, eqb-true, ltb-true, ne_eqb, nat_lt}
use Rattle.std.specs.Prelude.{AllPairs, Option, Some, None, ◌==◌}
use Rattle.std.proofs.lemmas.Bool.{false≢true}
use Rattle.std.specs.Option.{is_some}
use Rattle.std.specs.BTreeMap.{BTreeMap, get, is_at}
use Rattle.std.specs.Ordering.{is_eq, nat_cmp}
use Rattle.std.specs.declared.cmp.Ordering.TheVariants.{Less, Equal, Greater}
use Rattle.flow_base.specs.declared.numbers.Sym.{Sym}
use Rattle.heap_objects.specs.declared.value.Value.{Value}
use Rattle.heap_objects.specs.Names.{SlotList, name_at, new_slots, slot_names, slot_value, with_slot}
use Rattle.heap_objects.specs.Places.{ArePlaces, AreSlots, place_from}

pub none_some : {T : Type 0} (x : T) → None ≡ Some x → ⊥
none_some x e = false≢true (ap is_some e)

abbrev or_else : {T : Type 0} → T → Option T → T
or_else d None = d
or_else d (Some x) = x

pub same_some : {T : Type 0} (x y : T) → Some x ≡ Some y → x ≡ y
same_some x y e = ap (or_else x) e

-- a number is found by its own
pub is_at-eqb : (m q : ℕ) → is_at (nat_cmp m) q ≡ (m == q)
is_at-eqb m q = go (nat_lt m q) (m == q) refl refl
  where
    go : (a b : Bool) → nat_lt m q ≡ a → (m == q) ≡ b → is_eq (cond a Less (cond b Equal Greater)) ≡ b
    go true true e f = let same : m ≡ q = eqb-true m q f in let less : m < q = ltb-true m q e in absurd (omega arith)
    go true false e f = refl
    go false true e f = refl
    go false false e f = refl

-- the slot at this place is that of the name
pub record Found (slots : SlotList) (q : Sym) (k : ℕ) : Type 0 where
  pub within : k < length slots
  pub value : (d : Sym × Option Value) → slot_value slots q ≡ (get_or slots k d).1
  pub written : (d : Sym × Option Value) (v : Option Value) → with_slot slots q v ≡ set slots k ((get_or slots k d).0, v)

abbrev pub Place : SlotList → Sym → ℕ → ℕ → Type 0
Place slots q n i = (k : ℕ) × (i ≡ n + k) × Found slots q k

found_later : (s : Sym × Option Value) (ss : SlotList) (q : Sym) (k : ℕ) → (s.0.0 == q.0) ≡ false → Found ss q k → Found (s ∷ ss) q (suc k)
found_later s ss q k t f = record {
  within = omega (arith, f.within);
  value = λ d. ap (λ (b : Bool). cond b s.1 (slot_value ss q)) t ∙ f.value d;
  written = λ d v. ap (λ (b : Bool). cond b ((s.0, v) ∷ ss) (s ∷ with_slot ss q v)) t ∙ ap (λ (x : SlotList). s ∷ x) (f.written d v);
}

found_head : (n : ℕ) (s : Sym × Option Value) (ss : SlotList) (q : Sym) (i : ℕ) (b : Bool) → (s.0.0 == q.0) ≡ b
    → (place_from (suc n) ss q.0 ≡ Some i → Place ss q (suc n) i) → cond b (Some n) (place_from (suc n) ss q.0) ≡ Some i → Place (s ∷ ss) q n i
found_head n s ss q i true t rest e = (
  0,
  sym (same_some n i e) ∙ omega arith,
  record {
    within = omega arith;
    value = λ d. ap (λ (b : Bool). cond b s.1 (slot_value ss q)) t;
    written = λ d v. ap (λ (b : Bool). cond b ((s.0, v) ∷ ss) (s ∷ with_slot ss q v)) t;
  },
)
found_head n s ss q i false t rest e = let r = rest e in (suc r.0, omega (arith, r.1), found_later s ss q r.0 t r.2)

pub found : (n : ℕ) (slots : SlotList) (q : Sym) (i : ℕ) → place_from n slots q.0 ≡ Some i → Place slots q n i
found n [] q i e = absurd (none_some i e)
found n (s ∷ ss) q i e = found_head n s ss q i (s.0.0 == q.0) refl (found (suc n) ss q i) e

abbrev pub NotFound : SlotList → Sym → Type 0
NotFound slots q = (slot_value slots q ≡ None) × ((v : Option Value) → with_slot slots q v ≡ slots)

not_found_head : (n : ℕ) (s : Sym × Option Value) (ss : SlotList) (q : Sym) (b : Bool) → (s.0.0 == q.0) ≡ b
    → (place_from (suc n) ss q.0 ≡ None → NotFound ss q) → cond b (Some n) (place_from (suc n) ss q.0) ≡ None → NotFound (s ∷ ss) q
not_found_head n s ss q true t rest e = absurd (none_some n (sym e))
not_found_head n s ss q false t rest e = let r = rest e in (
  ap (λ (b : Bool). cond b s.1 (slot_value ss q)) t ∙ r.0,
  λ v. ap (λ (b : Bool). cond b ((s.0, v) ∷ ss) (s ∷ with_slot ss q v)) t ∙ ap (λ (x : SlotList). s ∷ x) (r.1 v),
)

pub not_found : (n : ℕ) (slots : SlotList) (q : Sym) → place_from n slots q.0 ≡ None → NotFound slots q
not_found n [] q e = (refl, λ v. refl)
not_found n (s ∷ ss) q e = not_found_head n s ss q (s.0.0 == q.0) refl (not_found (suc n) ss q) e

-- a write leaves the names where they are
pub place_from-set : (n : ℕ) (slots : SlotList) (k : ℕ) (d : Sym × Option Value) (v : Option Value) (q : ℕ) → place_from n (set slots k ((get_or slots k d).0, v)) q ≡ place_from n slots q
place_from-set n [] k d v q = refl
place_from-set n (s ∷ ss) zero d v q = refl
place_from-set n (s ∷ ss) (suc k) d v q = ap (λ (o : Option ℕ). cond (s.0.0 == q) (Some n) o) (place_from-set (suc n) ss k d v q)

-- a new name comes last
push_first : (t s : Sym) (n m q : ℕ) (o : Option ℕ) (a b : Bool) → (t.0 == q) ≡ a → (s.0 == q) ≡ b → (t.0 == s.0) ≡ false
    → cond a (Some n) (cond b (Some m) o) ≡ cond b (Some m) (cond a (Some n) o)
push_first t s n m q o true true x y z = absurd (false≢true (sym z ∙ eq-eqb t.0 s.0 (eqb-true t.0 q x ∙ sym (eqb-true s.0 q y))))
push_first t s n m q o true false x y z = refl
push_first t s n m q o false b x y z = refl

abbrev pub LastAt : ℕ → SlotList → Sym × Option Value → ℕ → Type 0
LastAt n slots s q = place_from n (slots ++ s ∷ []) q ≡ cond (s.0.0 == q) (Some (n + length slots)) (place_from n slots q)

push_head : (n : ℕ) (t : Sym × Option Value) (ts : SlotList) (s : Sym × Option Value) (q : ℕ) (b : Bool) → (t.0.0 == s.0.0) ≡ b
    → (place_from (suc n) ts s.0.0 ≡ None → LastAt (suc n) ts s q) → cond b (Some n) (place_from (suc n) ts s.0.0) ≡ None → LastAt n (t ∷ ts) s q
push_head n t ts s q true z rest e = absurd (none_some n (sym e))
push_head n t ts s q false z rest e =
    let last : suc n + length ts ≡ n + length (t ∷ ts) = omega arith in
    ap (λ (o : Option ℕ). cond (t.0.0 == q) (Some n) o) (rest e)
    ∙ ap (λ (m : ℕ). cond (t.0.0 == q) (Some n) (cond (s.0.0 == q) (Some m) (place_from (suc n) ts q))) last
    ∙ push_first t.0 s.0 n (n + length (t ∷ ts)) q (place_from (suc n) ts q) (t.0.0 == q) (s.0.0 == q) refl refl z

pub place_from-push : (n : ℕ) (slots : SlotList) (s : Sym × Option Value) (q : ℕ) → place_from n slots s.0.0 ≡ None → LastAt n slots s q
place_from-push n [] s q e = let last : n ≡ n + 0 = omega arith in ap (λ (m : ℕ). cond (s.0.0 == q) (Some m) None) last
place_from-push n (t ∷ ts) s q e = push_head n t ts s q (t.0.0 == s.0.0) refl (place_from-push (suc n) ts s q) e

-- a name that stands nowhere has no place
pub no_place : (n : ℕ) (names : List Sym) (q : Sym) → ((k : ℕ) → k < length names → get_or names k q ≢ q) → place_from n (new_slots names) q.0 ≡ None
no_place n [] q apart = refl
no_place n (m ∷ ms) q apart =
    let other : (m.0 == q.0) ≡ false = ne_eqb m.0 q.0 (λ e. apart 0 (omega arith) (ap (λ (x : ℕ). record { 0 = x }) e)) in
    ap (λ (b : Bool). cond b (Some n) (place_from (suc n) (new_slots ms) q.0)) other ∙ no_place (suc n) ms q (λ k lt. apart (suc k) (omega arith))

pub new_slots-push : (names : List Sym) (m : Sym) → new_slots (names ++ m ∷ []) ≡ new_slots names ++ (m, None) ∷ []
new_slots-push [] m = refl
new_slots-push (n ∷ ns) m = ap (λ (x : SlotList). (n, None) ∷ x) (new_slots-push ns m)

pub length-new_slots : (names : List Sym) → length (new_slots names) ≡ length names
length-new_slots [] = refl
length-new_slots (n ∷ ns) = ap suc (length-new_slots ns)

-- the index with one more name
pub ArePlaces-push : (places next : BTreeMap ℕ ℕ) (names : List Sym) (m : Sym) (slots : SlotList) (i : ℕ) → ArePlaces places (new_slots names) → i ≡ length names
    → ((k : ℕ) → k < length names → get_or names k m ≢ m) → slots ≡ new_slots names ++ (m, None) ∷ []
    → ((q : ℕ) → get nat_cmp next q ≡ cond (is_at (nat_cmp m.0) q) (Some i) (get nat_cmp places q)) → ArePlaces next slots
ArePlaces-push places next names m slots i was is apart more updates q =
    let place : i ≡ 0 + length (new_slots names) = omega (arith, length-new_slots names) in
    updates q
    ∙ ap (λ (b : Bool). cond b (Some i) (get nat_cmp places q)) (is_at-eqb m.0 q)
    ∙ ap (λ (o : Option ℕ). cond (m.0 == q) (Some i) o) (was q)
    ∙ ap (λ (k : ℕ). cond (m.0 == q) (Some k) (place_from 0 (new_slots names) q)) place
    ∙ sym (place_from-push 0 (new_slots names) (m, None) q (no_place 0 names m apart))
    ∙ ap (λ (x : SlotList). place_from 0 x q) (sym more)

-- what the index has for a name is the place of its slot
pub index_found : (places : BTreeMap ℕ ℕ) (slots : SlotList) (q : Sym) (i : ℕ) → ArePlaces places slots → Some i ≡ get nat_cmp places q.0 → Found slots q i
index_found places slots q i a e =
    let f = found 0 slots q i (sym (a q.0) ∙ sym e) in
    let same : f.0 ≡ i = omega (arith, f.1) in
    subst (Found slots q) same f.2

pub index_none : (places : BTreeMap ℕ ℕ) (slots : SlotList) (q : Sym) → ArePlaces places slots → None ≡ get nat_cmp places q.0
    → (slot_value slots q ≡ None) × ((v : Option Value) → with_slot slots q v ≡ slots)
index_none places slots q a e = not_found 0 slots q (sym (a q.0) ∙ sym e)

-- ---- slots by their places

pub name_at-slot : (slots : SlotList) (k : ℕ) (d : Sym × Option Value) → k < length slots → name_at (slot_names slots) k ≡ (get_or slots k d).0
name_at-slot [] k d lt = absurd (omega arith)
name_at-slot (s ∷ ss) zero d lt = refl
name_at-slot (s ∷ ss) (suc k) d lt = name_at-slot ss k d (omega arith)

pub length-slot_names : (slots : SlotList) → length (slot_names slots) ≡ length slots
length-slot_names [] = refl
length-slot_names (s ∷ ss) = ap suc (length-slot_names ss)

names_apart : (s : Sym × Option Value) (ss : SlotList) (k : ℕ) (d : Sym × Option Value) → AllPairs (λ m n. m ≢ n) (slot_names (s ∷ ss)) → k < length ss → (s.0.0 == (get_or ss k d).0.0) ≡ false
names_apart s ss k d apart lt =
    ne_eqb s.0.0 (get_or ss k d).0.0 (λ e. apart 0 (suc k) (record { 0 = 0 }) (omega arith) (omega (arith, length-slot_names ss))
    (ap (λ (x : ℕ). record { 0 = x }) e ∙ sym (name_at-slot ss k d lt)))

distinct_rest : (s : Sym × Option Value) (ss : SlotList) → AllPairs (λ m n. m ≢ n) (slot_names (s ∷ ss)) → AllPairs (λ m n. m ≢ n) (slot_names ss)
distinct_rest s ss apart = λ i j d lt le. apart (suc i) (suc j) d (omega arith) (omega arith)

pub slot_value-at : (slots : SlotList) (k : ℕ) (d : Sym × Option Value) → AllPairs (λ m n. m ≢ n) (slot_names slots) → k < length slots → slot_value slots (get_or slots k d).0 ≡ (get_or slots k d).1
slot_value-at [] k d apart lt = absurd (omega arith)
slot_value-at (s ∷ ss) zero d apart lt = ap (λ (b : Bool). cond b s.1 (slot_value ss s.0)) (eq-eqb s.0.0 s.0.0 refl)
slot_value-at (s ∷ ss) (suc k) d apart lt =
    ap (λ (b : Bool). cond b s.1 (slot_value ss (get_or ss k d).0)) (names_apart s ss k d apart (omega arith)) ∙ slot_value-at ss k d (distinct_rest s ss apart) (omega arith)

pub with_slot-at : (slots : SlotList) (k : ℕ) (d : Sym × Option Value) (v : Option Value) → AllPairs (λ m n. m ≢ n) (slot_names slots) → k < length slots
    → with_slot slots (get_or slots k d).0 v ≡ set slots k ((get_or slots k d).0, v)
with_slot-at [] k d v apart lt = refl
with_slot-at (s ∷ ss) zero d v apart lt = ap (λ (b : Bool). cond b ((s.0, v) ∷ ss) (s ∷ with_slot ss s.0 v)) (eq-eqb s.0.0 s.0.0 refl)
with_slot-at (s ∷ ss) (suc k) d v apart lt =
    ap (λ (b : Bool). cond b ((s.0, v) ∷ ss) (s ∷ with_slot ss (get_or ss k d).0 v)) (names_apart s ss k d apart (omega arith))
    ∙ ap (λ (x : SlotList). s ∷ x) (with_slot-at ss k d v (distinct_rest s ss apart) (omega arith))

pub slot_names-set : (slots : SlotList) (k : ℕ) (d : Sym × Option Value) (v : Option Value) → slot_names (set slots k ((get_or slots k d).0, v)) ≡ slot_names slots
slot_names-set [] k d v = refl
slot_names-set (s ∷ ss) zero d v = refl
slot_names-set (s ∷ ss) (suc k) d v = ap (λ (x : List Sym). s.0 ∷ x) (slot_names-set ss k d v)

pub slot_names-new : (names : List Sym) → slot_names (new_slots names) ≡ names
slot_names-new [] = refl
slot_names-new (n ∷ ns) = ap (λ (x : List Sym). n ∷ x) (slot_names-new ns)

-- a write leaves the index right
pub AreSlots-set : (index : BTreeMap ℕ ℕ) (slots next : SlotList) (k : ℕ) (d : Sym × Option Value) (v : Option Value) → AreSlots index slots → next ≡ set slots k ((get_or slots k d).0, v) → AreSlots index next
AreSlots-set index slots next k d v was is = record {
  places = λ q. was.places q ∙ sym (place_from-set 0 slots k d v q) ∙ ap (λ (x : SlotList). place_from 0 x q) (sym is);
  distinct = subst (AllPairs (λ m n. m ≢ n)) (sym (ap slot_names is ∙ slot_names-set slots k d v)) was.distinct;
}

some_place : (slots : SlotList) (n : Sym) (o : Option ℕ) → place_from 0 slots n.0 ≡ o → is_some (slot_value slots n) ≡ true → is_some o ≡ true
some_place slots n (Some i) e h = refl
some_place slots n None e h = absurd (false≢true (sym (ap is_some (not_found 0 slots n e).0) ∙ h))

-- a name that holds a value has a place
pub index_has : (index : BTreeMap ℕ ℕ) (slots : SlotList) (n : Sym) → ArePlaces index slots → is_some (slot_value slots n) ≡ true → is_some (get nat_cmp index n.0) ≡ true
index_has index slots n a h = ap is_some (a n.0) ∙ some_place slots n (place_from 0 slots n.0) refl h
