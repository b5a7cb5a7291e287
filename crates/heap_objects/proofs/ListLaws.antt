-- What a splice and the making of a list leave.
use Rattle.std.proofs.Common.{◌≡◌, ◌≢◌, ℕ, zero, suc, ◌+◌, ◌-◌, ◌<◌, ◌≤◌, Bool, true, false, cond, List, [], ◌∷◌, ◌++◌, length, take, max, refl, sym, ap, subst, ◌∙◌, inl, inr, arith, eq-eqb, eqb-true}
use Rattle.std.specs.Prelude.{◌==◌, pos, negsuc, slice_get}
use Rattle.std.proofs.lemmas.Bool.{cases_lt, true≢false}
use Rattle.std.proofs.lemmas.Option.{slice_get_past}
use Rattle.flow_base.specs.Same.{loc_eq}
use Rattle.flow_base.specs.declared.key.Key.{Key, out-Key, roll-Key}
use Rattle.flow_base.specs.declared.key.Key.TheOpen as key
use Rattle.flow_base.specs.declared.key.Key.TheOpen.{Key-F}
use Rattle.flow_base.specs.declared.key.Key.TheViews.{out-roll-Key, roll-out-Key}
use Rattle.flow_base.specs.declared.loc.Loc.{Loc}
use Rattle.flow_base.specs.declared.loc.Loc.TheVariants as loc
use Rattle.flow_base.specs.declared.numbers.ObjRef.{ObjRef}
use Rattle.flow_base.proofs.SameLaws.{same_loc_true, true_same_loc}
use Rattle.heap_objects.specs.Calls.{splice_items, spliced_items}
use Rattle.heap_objects.specs.Changes.{after, item_changes, length_change, list_change, splice_change}
use Rattle.heap_objects.specs.State.{content_in, held, item, list_item, object_of}
use Rattle.heap_objects.specs.declared.object.Cell.TheVariants as cell
use Rattle.heap_objects.specs.declared.object.Content.{Content}
use Rattle.heap_objects.specs.declared.object.Content.TheVariants.{Absent, Length}
use Rattle.heap_objects.specs.declared.value.Value.{Value}
use Rattle.heap_objects.proofs.ChangeLaws.{AreOf}

pub after_both : (ws vs : List (Loc × Content)) (c : Loc → Content) (l : Loc) → after (ws ++ vs) c l ≡ after vs (after ws c) l
after_both [] vs c l = refl
after_both (w ∷ ws) vs c l = after_both ws vs (λ k. cond (loc_eq w.0 k) w.1 (c k)) l

pub of_both : (o : ObjRef) (ws vs : List (Loc × Content)) → AreOf o ws → AreOf o vs → AreOf o (ws ++ vs)
of_both o [] vs h k = k
of_both o (w ∷ ws) vs h k = (h.0, of_both o ws vs h.1 k)

pub of_items : (o : ObjRef) (items : List Value) (i n : ℕ) → AreOf o (item_changes o items i n)
of_items o items i zero = tt
of_items o items i (suc n) = (refl, of_items o items (suc i) n)

of_length : (o : ObjRef) (n : ℕ) (b : Bool) → AreOf o (length_change o n b)
of_length o n true = tt
of_length o n false = (refl, tt)

pub of_splice : (o : ObjRef) (i : ℕ) (old new : List Value) → AreOf o (splice_change o i old new)
of_splice o i old new =
    of_both o (item_changes o new i (max (length old) (length new) - i)) (length_change o (length new) (length old == length new))
    (of_items o new i (max (length old) (length new) - i)) (of_length o (length new) (length old == length new))

-- a location that is none of the items that are written
pub items_far : (o : ObjRef) (items : List Value) (i n : ℕ) (c : Loc → Content) (l : Loc) → ((j : ℕ) → i ≤ j → j < i + n → loc_eq (item o j) l ≡ false)
    → after (item_changes o items i n) c l ≡ c l
items_far o items i zero c l far = refl
items_far o items i (suc n) c l far =
    items_far o items (suc i) n (λ k. cond (loc_eq (item o i) k) (held (slice_get items i)) (c k)) l (λ j le lt. far j (omega arith) (omega arith))
    ∙ ap (λ (b : Bool). cond b (held (slice_get items i)) (c l)) (far i (omega arith) (omega arith))

same_item : (o p : ObjRef) (i j : ℕ) → item o i ≡ item p j → i ≡ j
same_item o p i j e = go (out-Key (roll-Key (key.Int (pos i)))) (out-Key (roll-Key (key.Int (pos j)))) (out-roll-Key (key.Int (pos i))) (out-roll-Key (key.Int (pos j))) (ap key_in e)
  where
    key_in : Loc → Key-F Key
    key_in (loc.Item o k) = out-Key k
    key_in _ = key.Nil

    number : Key-F Key → ℕ
    number (key.Int (pos n)) = n
    number _ = 0

    go : (x y : Key-F Key) → x ≡ key.Int (pos i) → y ≡ key.Int (pos j) → x ≡ y → i ≡ j
    go x y a b e = ap number (sym a ∙ e ∙ b)

other_place : (o : ObjRef) (i j : ℕ) → i ≢ j → loc_eq (item o i) (item o j) ≡ false
other_place o i j apart = go (loc_eq (item o i) (item o j)) refl
  where
    go : (b : Bool) → loc_eq (item o i) (item o j) ≡ b → b ≡ false
    go true e = absurd (apart (same_item o o i j (same_loc_true (item o i) (item o j) e)))
    go false e = refl

-- an item that is written
pub items_near : (o : ObjRef) (items : List Value) (i n : ℕ) (c : Loc → Content) (j : ℕ) → i ≤ j → j < i + n
    → after (item_changes o items i n) c (item o j) ≡ held (slice_get items j)
items_near o items i zero c j le lt = absurd (omega arith)
items_near o items i (suc n) c j le lt = go (i == j) refl (λ above below. items_near o items (suc i) n (λ k. cond (loc_eq (item o i) k) (held (slice_get items i)) (c k)) j above below)
  where
    next : Loc → Content
    next k = cond (loc_eq (item o i) k) (held (slice_get items i)) (c k)

    go : (b : Bool) → (i == j) ≡ b → (suc i ≤ j → j < suc i + n → after (item_changes o items (suc i) n) next (item o j) ≡ held (slice_get items j))
        → after (item_changes o items (suc i) n) next (item o j) ≡ held (slice_get items j)
    go true e rest = let same : i ≡ j = eqb-true i j e in
        items_far o items (suc i) n next (item o j) (λ k above below. other_place o k j (λ p. omega arith))
        ∙ ap (λ (b : Bool). cond b (held (slice_get items i)) (c (item o j))) (true_same_loc (item o i) (item o j) (ap (item o) same)) ∙ ap (λ (k : ℕ). held (slice_get items k)) same
    go false e rest = let apart : i ≢ j = λ p. true≢false (sym (eq-eqb i j p) ∙ e) in rest (omega (arith, apart)) (omega arith)

-- no item of a list is at such a key
no_item : (o f : ObjRef) (k : Key) (x : Key-F Key) (i : ℕ) → out-Key k ≡ x → x ≢ key.Int (pos i) → loc_eq (item o i) (loc.Item f k) ≡ false
no_item o f k x i is other = go (loc_eq (item o i) (loc.Item f k)) refl
  where
    key_in : Loc → Key-F Key
    key_in (loc.Item o k) = out-Key k
    key_in _ = key.Nil

    go : (b : Bool) → loc_eq (item o i) (loc.Item f k) ≡ b → b ≡ false
    go true e = absurd (other (sym is ∙ ap key_in (sym (same_loc_true (item o i) (loc.Item f k) e)) ∙ out-roll-Key (key.Int (pos i))))
    go false e = refl

int_item : (o f : ObjRef) (k : Key) (j : ℕ) → o ≡ f → out-Key k ≡ key.Int (pos j) → item o j ≡ loc.Item f k
int_item o f k j e is = ap (λ (p : ObjRef). item p j) e ∙ ap (loc.Item f) (ap roll-Key (sym is) ∙ roll-out-Key k)

-- ---- a list that changes from one place on

-- The second list has what the first one has before the place, and behind the end of both none has anything.
pub record IsFrom (i : ℕ) (old new : List Value) : Type 0 where
  pub before : (j : ℕ) → j < i → slice_get new j ≡ slice_get old j
  pub beyond : (j : ℕ) → max (length old) (length new) ≤ j → slice_get new j ≡ slice_get old j

front : (xs tail : List Value) (i j : ℕ) → i ≤ length xs → j < i → slice_get (take i xs ++ tail) j ≡ slice_get xs j
front xs tail zero j le lt = absurd (omega arith)
front [] tail (suc i) j le lt = absurd (omega arith)
front (x ∷ xs) tail (suc i) zero le lt = refl
front (x ∷ xs) tail (suc i) (suc j) le lt = front xs tail i j (omega arith) (omega arith)

pub is_from : (items tail : List Value) (i : ℕ) → i ≤ length items → IsFrom i items (spliced_items items i tail)
is_from items tail i le = record {
  before = λ j lt. front items tail i j le lt;
  beyond = λ j le_both. slice_get_past (spliced_items items i tail) j (omega arith) ∙ sym (slice_get_past items j (omega arith));
}

-- before the place, among the items that are written, or behind them
data Stands (i n j : ℕ) : Type 0 where
  before : j < i → Stands i n j
  among : i ≤ j → j < i + (n - i) → Stands i n j
  beyond : n ≤ j → Stands i n j

stands : (i n j : ℕ) → Stands i n j
stands i n j = elim (cases_lt j i) [ inl lt ↦ before lt | inr le ↦ elim (cases_lt j n) [ inl lt ↦ among le (omega arith) | inr ge ↦ beyond ge ] ]

-- what an item holds after the writes of all from one on
item_now : (o f : ObjRef) (old new : List Value) (i n : ℕ) (c : Loc → Content) (k : Key) (x : Key-F Key) → n ≡ max (length old) (length new) → IsFrom i old new → o ≡ f
    → out-Key k ≡ x → c (loc.Item f k) ≡ held (list_item old x) → held (list_item new x) ≡ after (item_changes o new i (n - i)) c (loc.Item f k)
item_now o f old new i n c k key.Nil ends h e is was = sym (items_far o new i (n - i) c (loc.Item f k) (λ j le lt. no_item o f k key.Nil j is (λ p. cc)) ∙ was)
item_now o f old new i n c k (key.Int (pos j)) ends h e is was = go (stands i n j)
  where
    same : item o j ≡ loc.Item f k
    same = int_item o f k j e is

    far : ((m : ℕ) → i ≤ m → m < i + (n - i) → m ≢ j) → after (item_changes o new i (n - i)) c (loc.Item f k) ≡ c (loc.Item f k)
    far apart = items_far o new i (n - i) c (loc.Item f k) (λ m le lt. subst (λ (l : Loc). loc_eq (item o m) l ≡ false) same (other_place o m j (apart m le lt)))

    go : Stands i n j → held (slice_get new j) ≡ after (item_changes o new i (n - i)) c (loc.Item f k)
    go (before lt) = ap held (h.before j lt) ∙ sym was ∙ sym (far (λ m le below p. omega arith))
    go (among le lt) = sym (items_near o new i (n - i) c j le lt) ∙ ap (after (item_changes o new i (n - i)) c) same
    go (beyond ge) = ap held (h.beyond j (omega arith)) ∙ sym was ∙ sym (far (λ m le below p. omega arith))
item_now o f old new i n c k (key.Int (negsuc j)) ends h e is was =
    sym (items_far o new i (n - i) c (loc.Item f k) (λ m le lt. no_item o f k (key.Int (negsuc j)) m is (λ p. cc)) ∙ was)
item_now o f old new i n c k (key.Text t) ends h e is was = sym (items_far o new i (n - i) c (loc.Item f k) (λ m le lt. no_item o f k (key.Text t) m is (λ p. cc)) ∙ was)
item_now o f old new i n c k (key.Tuple ks) ends h e is was = sym (items_far o new i (n - i) c (loc.Item f k) (λ m le lt. no_item o f k (key.Tuple ks) m is (λ p. cc)) ∙ was)

-- ---- lists

not_length : (o : ObjRef) (n : ℕ) (b : Bool) (c : Loc → Content) (l : Loc) → loc_eq (loc.Shape o) l ≡ false → after (length_change o n b) c l ≡ c l
not_length o n true c l apart = refl
not_length o n false c l apart = ap (λ (t : Bool). cond t (Length n) (c l)) apart

its_length : (o f : ObjRef) (old n : ℕ) (b : Bool) (c : Loc → Content) → (old == n) ≡ b → o ≡ f → c (loc.Shape f) ≡ Length old → Length n ≡ after (length_change o n b) c (loc.Shape f)
its_length o f old n true c same e was = ap Length (sym (eqb-true old n same)) ∙ sym was
its_length o f old n false c same e was = sym (ap (λ (t : Bool). cond t (Length n) (c (loc.Shape f))) (eq-eqb o.0 f.0 (ap (λ (p : ObjRef). p.0) e)))

-- a list that has other items from one on
pub splice_law : (items tail : List Value) (o : ObjRef) (i : ℕ) (l : Loc) → i ≤ length items → o ≡ object_of l
    → content_in (λ _. splice_items i tail (cell.List items)) l ≡ after (splice_change o i items (spliced_items items i tail)) (content_in (λ _. cell.List items)) l
splice_law items tail o i l le e = law l e ∙ sym (after_both writes (length_change o (length new) (length items == length new)) was l)
  where
    new : List Value
    new = spliced_items items i tail

    was : Loc → Content
    was = content_in (λ _. cell.List items)

    writes : List (Loc × Content)
    writes = item_changes o new i (max (length items) (length new) - i)

    last : List (Loc × Content)
    last = length_change o (length new) (length items == length new)

    law : (l : Loc) → o ≡ object_of l → content_in (λ _. cell.List new) l ≡ after last (after writes was) l
    law (loc.Name f n) e = sym (not_length o (length new) (length items == length new) (after writes was) (loc.Name f n) refl ∙ items_far o new i (max (length items) (length new) - i) was (loc.Name f n) (λ j a b. refl))
    law (loc.Attr f n) e = sym (not_length o (length new) (length items == length new) (after writes was) (loc.Attr f n) refl ∙ items_far o new i (max (length items) (length new) - i) was (loc.Attr f n) (λ j a b. refl))
    law (loc.Item f k) e =
        item_now o f items new i (max (length items) (length new)) was k (out-Key k) refl (is_from items tail i le) e refl refl
        ∙ sym (not_length o (length new) (length items == length new) (after writes was) (loc.Item f k) refl)
    law (loc.Present f k) e = sym (not_length o (length new) (length items == length new) (after writes was) (loc.Present f k) refl ∙ items_far o new i (max (length items) (length new) - i) was (loc.Present f k) (λ j a b. refl))
    law (loc.Shape f) e =
        its_length o f (length items) (length new) (length items == length new) (after writes was) refl e (items_far o new i (max (length items) (length new) - i) was (loc.Shape f) (λ j a b. refl))

-- a list that is made where nothing was held
pub list_law : (items : List Value) (o : ObjRef) (l : Loc) → o ≡ object_of l
    → content_in (λ _. cell.List items) l ≡ after (list_change o items) (content_in (λ _. cell.Nothing)) l
list_law items o l e = law l e ∙ sym (after_both writes ((loc.Shape o, Length (length items)) ∷ []) was l)
  where
    was : Loc → Content
    was = content_in (λ _. cell.Nothing)

    writes : List (Loc × Content)
    writes = item_changes o items 0 (length items)

    whole_length : length items - 0 ≡ length items
    whole_length = omega arith

    whole : IsFrom 0 [] items
    whole = record { before = λ j lt. absurd (omega arith); beyond = λ j le. slice_get_past items j (omega arith) }

    law : (l : Loc) → o ≡ object_of l → content_in (λ _. cell.List items) l ≡ after ((loc.Shape o, Length (length items)) ∷ []) (after writes was) l
    law (loc.Name f n) e = sym (items_far o items 0 (length items) was (loc.Name f n) (λ j a b. refl))
    law (loc.Attr f n) e = sym (items_far o items 0 (length items) was (loc.Attr f n) (λ j a b. refl))
    law (loc.Item f k) e =
        item_now o f [] items 0 (length items) was k (out-Key k) (omega arith) whole e refl (nothing_held (out-Key k))
        ∙ ap (λ (n : ℕ). after (item_changes o items 0 n) was (loc.Item f k)) whole_length
      where
        nothing_held : (x : Key-F Key) → Absent ≡ held (list_item [] x)
        nothing_held key.Nil = refl
        nothing_held (key.Int (pos j)) = refl
        nothing_held (key.Int (negsuc j)) = refl
        nothing_held (key.Text t) = refl
        nothing_held (key.Tuple ks) = refl
    law (loc.Present f k) e = sym (items_far o items 0 (length items) was (loc.Present f k) (λ j a b. refl))
    law (loc.Shape f) e = sym (ap (λ (t : Bool). cond t (Length (length items)) (after writes was (loc.Shape f))) (eq-eqb o.0 f.0 (ap (λ (p : ObjRef). p.0) e)))
