-- The rows of a dictionary: how a key is found, and what a write leaves.
use Rattle.std.proofs.Common.{◌≡◌, ◌≢◌, ◌+◌, ◌≤◌, ℕ, Bool, true, false, not, cond, List, [], ◌∷◌, ◌++◌, refl, sym, ap, subst, ◌∙◌, arith, eq-eqb, eqb-true}
use Rattle.std.specs.Prelude.{Option, Some, None, ◌==◌, is_some}
use Rattle.std.specs.HashMap.{HashMap}
use Rattle.std.specs.Option.{option_map}
use Rattle.std.proofs.lemmas.Bool.{false≢true, true≢false}
use Rattle.flow_base.specs.Same.{key_eq}
use Rattle.flow_base.specs.declared.key.Key.{Key}
use Rattle.flow_base.proofs.SameLaws.{same_key_true, true_same_key}
use Rattle.heap_objects.specs.DictRows.{AreDistinct, AreListed, IsDict, entries_of, has_tag, or_row, row_among, row_if, tags_of}
use Rattle.heap_objects.specs.Entries.{entry_of, has_key, with_entry, with_value, without}
use Rattle.heap_objects.specs.Hash.{hash_key}
use Rattle.heap_objects.specs.Rows.{AllBelow, AllFrom, IsTree, row_of, rows, with_stamp, without_stamp}
use Rattle.heap_objects.specs.Stamps.{has_stamp, stamps_at}
use Rattle.heap_objects.specs.declared.tree.Entry.{Entry}
use Rattle.heap_objects.specs.declared.tree.Row.{Row}
use Rattle.heap_objects.specs.declared.tree.Tree.{Tree}
use Rattle.heap_objects.specs.declared.tree.Tree.TheVariants.{Empty, Leaf, Branch'}
use Rattle.heap_objects.specs.declared.value.Value.{Value}
use Rattle.heap_objects.proofs.RowLaws.{AllBelow-append, AllBelow-weaken, AllBelow-with_stamp, AllBelow-without_stamp, row_of-left}
use Rattle.heap_objects.proofs.SlotLaws.{none_some, same_some}

-- ---- no stamp stands twice

abbrev pub AreUnique : List Row → Type 0
AreUnique [] = Unit {0}
AreUnique (r ∷ rs) = (row_of rs r.stamp ≡ None) × AreUnique rs

unique_append : (n : ℕ) (xs ys : List Row) → AllBelow n xs → AllFrom n ys → AreUnique xs → AreUnique ys → AreUnique (xs ++ ys)
unique_append n [] ys b f u v = v
unique_append n (x ∷ xs) ys b f u v = (row_of-left n xs ys x.stamp f b.0 ∙ u.0, unique_append n xs ys b.1 f u.1 v)

pub tree_unique : (t : Tree) → IsTree t → AreUnique (rows t)
tree_unique Empty h = tt
tree_unique (Leaf r) h = (refl, tt)
tree_unique (Branch' p left m q right) h = unique_append m.split (rows left) (rows right) h.1 h.2 (tree_unique left h.3) (tree_unique right h.4)

-- each row is found by its stamp
abbrev pub AllFound : List Row → List Row → Type 0
AllFound rs [] = Unit {0}
AllFound rs (x ∷ xs) = (row_of rs x.stamp ≡ Some x) × AllFound rs xs

found_behind : (x y : Row) (xs : List Row) (b : Bool) → (x.stamp == y.stamp) ≡ b → row_of xs x.stamp ≡ None → row_of xs y.stamp ≡ Some y
    → cond b (Some x) (row_of xs y.stamp) ≡ Some y
found_behind x y xs true e u f = absurd (none_some y (sym u ∙ ap (row_of xs) (eqb-true x.stamp y.stamp e) ∙ f))
found_behind x y xs false e u f = f

all_behind : (x : Row) (xs ys : List Row) → row_of xs x.stamp ≡ None → AllFound xs ys → AllFound (x ∷ xs) ys
all_behind x xs [] u f = tt
all_behind x xs (y ∷ ys) u f = (found_behind x y xs (x.stamp == y.stamp) refl u f.0, all_behind x xs ys u f.1)

pub all_found : (rs : List Row) → AreUnique rs → AllFound rs rs
all_found [] u = tt
all_found (r ∷ rs) u = (ap (λ (b : Bool). cond b (Some r) (row_of rs r.stamp)) (eq-eqb r.stamp r.stamp refl), all_behind r rs rs u.0 (all_found rs u.1))

-- ---- keys and tags

pub has_tag-has_key : (rs : List Row) (k : Key) → has_tag (tags_of rs) k ≡ has_key (entries_of rs) k
has_tag-has_key [] k = refl
has_tag-has_key (r ∷ rs) k = go (key_eq r.entry.key k) (has_tag-has_key rs k)
  where
    go : (b : Bool) → has_tag (tags_of rs) k ≡ has_key (entries_of rs) k → cond b true (has_tag (tags_of rs) k) ≡ is_some (cond b (Some r.entry) (entry_of (entries_of rs) k))
    go true e = refl
    go false e = e

-- the row with the stamp comes first, or behind another
abbrev pub HasRow : List Row → ℕ → Key → Row → Type 0
HasRow rs s k r = (row_of rs s ≡ Some r) × (key_eq r.entry.key k ≡ true)

tag_head : (x : Row) (xs : List Row) (s : ℕ) (k : Key) (r : Row) (b : Bool) → (HasRow xs s k r → has_tag (tags_of xs) k ≡ true) → cond b (Some x) (row_of xs s) ≡ Some r
    → key_eq r.entry.key k ≡ true → cond (key_eq x.entry.key k) true (has_tag (tags_of xs) k) ≡ true
tag_head x xs s k r true rest e same =
    ap (λ (b : Bool). cond b true (has_tag (tags_of xs) k)) (ap (λ (y : Row). key_eq y.entry.key k) (same_some x r e) ∙ same)
tag_head x xs s k r false rest e same = go (key_eq x.entry.key k) (rest (e, same))
  where
    go : (b : Bool) → has_tag (tags_of xs) k ≡ true → cond b true (has_tag (tags_of xs) k) ≡ true
    go true h = refl
    go false h = h

pub row_tag : (rs : List Row) (s : ℕ) (k : Key) (r : Row) → HasRow rs s k r → has_tag (tags_of rs) k ≡ true
row_tag [] s k r h = absurd (none_some r h.0)
row_tag (x ∷ xs) s k r h = tag_head x xs s k r (x.stamp == s) (row_tag xs s k r) h.0 h.1

-- a row before that of a key has another key
pub other_key : (x : Row) (xs : List Row) (s : ℕ) (k : Key) (r : Row) → HasRow xs s k r → has_tag (tags_of xs) x.entry.key ≡ false → key_eq x.entry.key k ≡ false
other_key x xs s k r h apart = go (key_eq x.entry.key k) refl
  where
    go : (b : Bool) → key_eq x.entry.key k ≡ b → key_eq x.entry.key k ≡ false
    go true e = absurd (true≢false (sym (row_tag xs s k r h) ∙ ap (has_tag (tags_of xs)) (sym (same_key_true x.entry.key k e)) ∙ apart))
    go false e = e

-- ---- the entry of a key

entry_head : (x : Row) (xs : List Row) (s : ℕ) (k : Key) (r : Row) (b : Bool) → has_tag (tags_of xs) x.entry.key ≡ false
    → (HasRow xs s k r → entry_of (entries_of xs) k ≡ Some r.entry) → cond b (Some x) (row_of xs s) ≡ Some r → key_eq r.entry.key k ≡ true
    → cond (key_eq x.entry.key k) (Some x.entry) (entry_of (entries_of xs) k) ≡ Some r.entry
entry_head x xs s k r true apart rest e same =
    ap (λ (b : Bool). cond b (Some x.entry) (entry_of (entries_of xs) k)) (ap (λ (y : Row). key_eq y.entry.key k) (same_some x r e) ∙ same)
    ∙ ap (λ (y : Row). Some y.entry) (same_some x r e)
entry_head x xs s k r false apart rest e same =
    ap (λ (b : Bool). cond b (Some x.entry) (entry_of (entries_of xs) k)) (other_key x xs s k r (e, same) apart) ∙ rest (e, same)

pub row_entry : (rs : List Row) (s : ℕ) (k : Key) (r : Row) → AreDistinct (tags_of rs) → HasRow rs s k r → entry_of (entries_of rs) k ≡ Some r.entry
row_entry [] s k r d h = absurd (none_some r h.0)
row_entry (x ∷ xs) s k r d h = entry_head x xs s k r (x.stamp == s) d.0 (row_entry xs s k r d.1) h.0 h.1

-- ---- a value at a key

value_head : (x : Row) (xs : List Row) (s : ℕ) (k : Key) (v : Value) (r : Row) (b : Bool) → has_tag (tags_of xs) x.entry.key ≡ false
    → (HasRow xs s k r → entries_of (with_stamp xs s v) ≡ with_value (entries_of xs) k v) → cond b (Some x) (row_of xs s) ≡ Some r → key_eq r.entry.key k ≡ true
    → entries_of (cond b (record x { entry = record x.entry { value = v } } ∷ xs) (x ∷ with_stamp xs s v))
    ≡ cond (key_eq x.entry.key k) (record x.entry { value = v } ∷ entries_of xs) (x.entry ∷ with_value (entries_of xs) k v)
value_head x xs s k v r true apart rest e same =
    sym (ap (λ (b : Bool). cond b (record x.entry { value = v } ∷ entries_of xs) (x.entry ∷ with_value (entries_of xs) k v))
    (ap (λ (y : Row). key_eq y.entry.key k) (same_some x r e) ∙ same))
value_head x xs s k v r false apart rest e same =
    ap (λ (z : List Entry). x.entry ∷ z) (rest (e, same))
    ∙ sym (ap (λ (b : Bool). cond b (record x.entry { value = v } ∷ entries_of xs) (x.entry ∷ with_value (entries_of xs) k v)) (other_key x xs s k r (e, same) apart))

pub row_value : (rs : List Row) (s : ℕ) (k : Key) (v : Value) (r : Row) → AreDistinct (tags_of rs) → HasRow rs s k r
    → entries_of (with_stamp rs s v) ≡ with_value (entries_of rs) k v
row_value [] s k v r d h = refl
row_value (x ∷ xs) s k v r d h = value_head x xs s k v r (x.stamp == s) d.0 (row_value xs s k v r d.1) h.0 h.1

pub tags-with_stamp : (rs : List Row) (s : ℕ) (v : Value) → tags_of (with_stamp rs s v) ≡ tags_of rs
tags-with_stamp [] s v = refl
tags-with_stamp (x ∷ xs) s v = go (x.stamp == s) (tags-with_stamp xs s v)
  where
    go : (b : Bool) → tags_of (with_stamp xs s v) ≡ tags_of xs
        → tags_of (cond b (record x { entry = record x.entry { value = v } } ∷ xs) (x ∷ with_stamp xs s v)) ≡ tags_of (x ∷ xs)
    go true e = refl
    go false e = ap (λ (z : List (ℕ × Key)). (x.stamp, x.entry.key) ∷ z) e

-- ---- without a key

without_head : (x : Row) (xs : List Row) (s : ℕ) (b : Bool) → (row_of xs s ≡ None → without_stamp xs s ≡ xs) → cond b (Some x) (row_of xs s) ≡ None
    → cond (not b) (x ∷ without_stamp xs s) (without_stamp xs s) ≡ x ∷ xs
without_head x xs s true rest e = absurd (none_some x (sym e))
without_head x xs s false rest e = ap (λ (z : List Row). x ∷ z) (rest e)

pub without_stamp-none : (rs : List Row) (s : ℕ) → row_of rs s ≡ None → without_stamp rs s ≡ rs
without_stamp-none [] s e = refl
without_stamp-none (x ∷ xs) s e = without_head x xs s (x.stamp == s) (without_stamp-none xs s) e

lacks_head : (e : Entry) (es : List Entry) (k : Key) (b : Bool) → (has_key es k ≡ false → without es k ≡ es) → is_some (cond b (Some e) (entry_of es k)) ≡ false
    → cond (not b) (e ∷ without es k) (without es k) ≡ e ∷ es
lacks_head e es k true rest h = absurd (true≢false h)
lacks_head e es k false rest h = ap (λ (z : List Entry). e ∷ z) (rest h)

pub without-none : (es : List Entry) (k : Key) → has_key es k ≡ false → without es k ≡ es
without-none [] k h = refl
without-none (e ∷ es) k h = lacks_head e es k (key_eq e.key k) (without-none es k) h

removed_head : (x : Row) (xs : List Row) (s : ℕ) (k : Key) (r : Row) (b : Bool) → (x.stamp == s) ≡ b → has_tag (tags_of xs) x.entry.key ≡ false → row_of xs x.stamp ≡ None
    → (HasRow xs s k r → entries_of (without_stamp xs s) ≡ without (entries_of xs) k) → cond b (Some x) (row_of xs s) ≡ Some r → key_eq r.entry.key k ≡ true
    → entries_of (cond (not b) (x ∷ without_stamp xs s) (without_stamp xs s))
    ≡ cond (not (key_eq x.entry.key k)) (x.entry ∷ without (entries_of xs) k) (without (entries_of xs) k)
removed_head x xs s k r true t apart single rest e same =
    let here : key_eq x.entry.key k ≡ true = ap (λ (y : Row). key_eq y.entry.key k) (same_some x r e) ∙ same in
    let none : row_of xs s ≡ None = ap (row_of xs) (sym (eqb-true x.stamp s t)) ∙ single in
    let lacks : has_key (entries_of xs) k ≡ false = sym (has_tag-has_key xs k) ∙ ap (has_tag (tags_of xs)) (sym (same_key_true x.entry.key k here)) ∙ apart in
    ap entries_of (without_stamp-none xs s none) ∙ sym (without-none (entries_of xs) k lacks)
    ∙ sym (ap (λ (b : Bool). cond (not b) (x.entry ∷ without (entries_of xs) k) (without (entries_of xs) k)) here)
removed_head x xs s k r false t apart single rest e same =
    ap (λ (z : List Entry). x.entry ∷ z) (rest (e, same))
    ∙ sym (ap (λ (b : Bool). cond (not b) (x.entry ∷ without (entries_of xs) k) (without (entries_of xs) k)) (other_key x xs s k r (e, same) apart))

pub row_removed : (rs : List Row) (s : ℕ) (k : Key) (r : Row) → AreUnique rs → AreDistinct (tags_of rs) → HasRow rs s k r
    → entries_of (without_stamp rs s) ≡ without (entries_of rs) k
row_removed [] s k r u d h = refl
row_removed (x ∷ xs) s k r u d h = removed_head x xs s k r (x.stamp == s) refl d.0 u.0 (row_removed xs s k r u.1 d.1) h.0 h.1

tag_gone : (x : Row) (xs : List Row) (s : ℕ) (k : Key) (b c : Bool) → (has_tag (tags_of xs) k ≡ false → has_tag (tags_of (without_stamp xs s)) k ≡ false)
    → key_eq x.entry.key k ≡ c → cond c true (has_tag (tags_of xs) k) ≡ false → has_tag (tags_of (cond (not b) (x ∷ without_stamp xs s) (without_stamp xs s))) k ≡ false
tag_gone x xs s k b true rest e h = absurd (true≢false h)
tag_gone x xs s k true false rest e h = rest h
tag_gone x xs s k false false rest e h = ap (λ (c : Bool). cond c true (has_tag (tags_of (without_stamp xs s)) k)) e ∙ rest h

pub has_tag-without : (rs : List Row) (s : ℕ) (k : Key) → has_tag (tags_of rs) k ≡ false → has_tag (tags_of (without_stamp rs s)) k ≡ false
has_tag-without [] s k h = refl
has_tag-without (x ∷ xs) s k h = tag_gone x xs s k (x.stamp == s) (key_eq x.entry.key k) (has_tag-without xs s k) refl h

pub distinct-without : (rs : List Row) (s : ℕ) → AreDistinct (tags_of rs) → AreDistinct (tags_of (without_stamp rs s))
distinct-without [] s d = tt
distinct-without (x ∷ xs) s d = go (x.stamp == s) (has_tag-without xs s x.entry.key d.0) (distinct-without xs s d.1)
  where
    go : (b : Bool) → has_tag (tags_of (without_stamp xs s)) x.entry.key ≡ false → AreDistinct (tags_of (without_stamp xs s))
        → AreDistinct (tags_of (cond (not b) (x ∷ without_stamp xs s) (without_stamp xs s)))
    go true h e = e
    go false h e = (h, e)

-- ---- what is listed

pub listed_more : (at next : ℕ → List ℕ) (ts : List (ℕ × Key)) → ((n t : ℕ) → has_stamp (at n) t ≡ true → has_stamp (next n) t ≡ true) → AreListed at ts → AreListed next ts
listed_more at next [] f l = tt
listed_more at next (t ∷ ts) f l = (f (hash_key t.1) t.0 l.0, listed_more at next ts f l.1)

listed_kept : (at next : ℕ → List ℕ) (x : Row) (xs : List Row) (s : ℕ) (b : Bool) → (x.stamp == s) ≡ b
    → ((n t : ℕ) → t ≢ s → has_stamp (at n) t ≡ true → has_stamp (next n) t ≡ true) → has_stamp (at (hash_key x.entry.key)) x.stamp ≡ true
    → AreListed next (tags_of (without_stamp xs s)) → AreListed next (tags_of (cond (not b) (x ∷ without_stamp xs s) (without_stamp xs s)))
listed_kept at next x xs s true e f l rest = rest
listed_kept at next x xs s false e f l rest =
    let other : x.stamp ≢ s = λ same. true≢false (sym (eq-eqb x.stamp s same) ∙ e) in
    (f (hash_key x.entry.key) x.stamp other l, rest)

pub listed-without : (at next : ℕ → List ℕ) (rs : List Row) (s : ℕ) → ((n t : ℕ) → t ≢ s → has_stamp (at n) t ≡ true → has_stamp (next n) t ≡ true)
    → AreListed at (tags_of rs) → AreListed next (tags_of (without_stamp rs s))
listed-without at next [] s f l = tt
listed-without at next (x ∷ xs) s f l = listed_kept at next x xs s (x.stamp == s) refl f l.0 (listed-without at next xs s f l.1)

pub tags_push : (rs : List Row) (r : Row) → tags_of (rs ++ r ∷ []) ≡ tags_of rs ++ (r.stamp, r.entry.key) ∷ []
tags_push [] r = refl
tags_push (x ∷ xs) r = ap (λ (z : List (ℕ × Key)). (x.stamp, x.entry.key) ∷ z) (tags_push xs r)

pub entries_push : (rs : List Row) (r : Row) → entries_of (rs ++ r ∷ []) ≡ entries_of rs ++ r.entry ∷ []
entries_push [] r = refl
entries_push (x ∷ xs) r = ap (λ (z : List Entry). x.entry ∷ z) (entries_push xs r)

pub listed_push : (at : ℕ → List ℕ) (ts : List (ℕ × Key)) (t : ℕ × Key) → AreListed at ts → has_stamp (at (hash_key t.1)) t.0 ≡ true → AreListed at (ts ++ t ∷ [])
listed_push at [] t l h = (h, tt)
listed_push at (u ∷ us) t l h = (l.0, listed_push at us t l.1 h)

key_flip : (a b : Key) → key_eq a b ≡ false → key_eq b a ≡ false
key_flip a b e = go (key_eq b a) refl
  where
    go : (c : Bool) → key_eq b a ≡ c → key_eq b a ≡ false
    go true f = absurd (true≢false (sym (true_same_key a b (sym (same_key_true b a f))) ∙ e))
    go false f = f

has_tag-push : (ts : List (ℕ × Key)) (t : ℕ × Key) (k : Key) → has_tag ts k ≡ false → key_eq t.1 k ≡ false → has_tag (ts ++ t ∷ []) k ≡ false
has_tag-push [] t k h e = ap (λ (c : Bool). cond c true false) e
has_tag-push (u ∷ us) t k h e = go (key_eq u.1 k) (has_tag-push us t k) h
  where
    go : (b : Bool) → (has_tag us k ≡ false → key_eq t.1 k ≡ false → has_tag (us ++ t ∷ []) k ≡ false) → cond b true (has_tag us k) ≡ false
        → cond b true (has_tag (us ++ t ∷ []) k) ≡ false
    go true f h = absurd (true≢false h)
    go false f h = f h e

apart_head : (u : ℕ × Key) (us : List (ℕ × Key)) (k : Key) (b : Bool) → key_eq u.1 k ≡ b → cond b true (has_tag us k) ≡ false → (key_eq u.1 k ≡ false) × (has_tag us k ≡ false)
apart_head u us k true e h = absurd (true≢false h)
apart_head u us k false e h = (e, h)

pub distinct_push : (ts : List (ℕ × Key)) (t : ℕ × Key) → AreDistinct ts → has_tag ts t.1 ≡ false → AreDistinct (ts ++ t ∷ [])
distinct_push [] t d h = (refl, tt)
distinct_push (u ∷ us) t d h =
    let apart = apart_head u us t.1 (key_eq u.1 t.1) refl h in
    (has_tag-push us t u.1 d.0 (key_flip u.1 t.1 apart.0), distinct_push us t d.1 apart.1)

-- ---- how a key is found

-- what is found is a row with the key
among_head : (rs : List Row) (k : Key) (s : ℕ) (ss : List ℕ) (r : Row) (o : Option Row) → row_of rs s ≡ o → (row_among rs k ss ≡ Some r → (t : ℕ) × HasRow rs t k r)
    → or_row (row_if k o) (row_among rs k ss) ≡ Some r → (t : ℕ) × HasRow rs t k r
among_head rs k s ss r None e rest h = rest h
among_head rs k s ss r (Some x) e rest h = go (key_eq x.entry.key k) refl h
  where
    go : (b : Bool) → key_eq x.entry.key k ≡ b → or_row (cond b (Some x) None) (row_among rs k ss) ≡ Some r → (t : ℕ) × HasRow rs t k r
    go true f h = (s, (e ∙ ap (λ (y : Row). Some y) (same_some x r h), ap (λ (y : Row). key_eq y.entry.key k) (sym (same_some x r h)) ∙ f))
    go false f h = rest h

pub among_row : (rs : List Row) (k : Key) (ss : List ℕ) (r : Row) → row_among rs k ss ≡ Some r → (t : ℕ) × HasRow rs t k r
among_row rs k [] r h = absurd (none_some r h)
among_row rs k (s ∷ ss) r h = among_head rs k s ss r (row_of rs s) refl (among_row rs k ss r) h

-- where none is found, no row with one of the stamps has the key
none_head : (rs : List Row) (k : Key) (t : ℕ) (ss : List ℕ) (s : ℕ) (r : Row) (b : Bool) → (t == s) ≡ b
    → (row_among rs k ss ≡ None → has_stamp ss s ≡ true → key_eq r.entry.key k ≡ false) → row_of rs s ≡ Some r
    → or_row (row_if k (row_of rs t)) (row_among rs k ss) ≡ None → cond b true (has_stamp ss s) ≡ true → key_eq r.entry.key k ≡ false
none_head rs k t ss s r true e rest here h listed =
    go (key_eq r.entry.key k) refl (ap (λ (o : Option Row). or_row (row_if k o) (row_among rs k ss)) (sym (ap (row_of rs) (eqb-true t s e) ∙ here)) ∙ h)
  where
    go : (b : Bool) → key_eq r.entry.key k ≡ b → or_row (cond b (Some r) None) (row_among rs k ss) ≡ None → key_eq r.entry.key k ≡ false
    go true f h = absurd (none_some r (sym h))
    go false f h = f
none_head rs k t ss s r false e rest here h listed = go (row_if k (row_of rs t)) h
  where
    go : (o : Option Row) → or_row o (row_among rs k ss) ≡ None → key_eq r.entry.key k ≡ false
    go None h = rest h listed
    go (Some x) h = absurd (none_some x (sym h))

pub among_none : (rs : List Row) (k : Key) (ss : List ℕ) (s : ℕ) (r : Row) → row_of rs s ≡ Some r → row_among rs k ss ≡ None → has_stamp ss s ≡ true → key_eq r.entry.key k ≡ false
among_none rs k [] s r here h listed = absurd (false≢true listed)
among_none rs k (t ∷ ss) s r here h listed = none_head rs k t ss s r (t == s) refl (among_none rs k ss s r here) here h listed

none_tag : (rs : List Row) (at : ℕ → List ℕ) (k : Key) (x : Row) (xs : List Row) (b : Bool) → key_eq x.entry.key k ≡ b → row_among rs k (at (hash_key k)) ≡ None
    → has_stamp (at (hash_key x.entry.key)) x.stamp ≡ true → row_of rs x.stamp ≡ Some x → has_tag (tags_of xs) k ≡ false → cond b true (has_tag (tags_of xs) k) ≡ false
none_tag rs at k x xs true e h listed found rest =
    absurd (true≢false (sym e ∙ among_none rs k (at (hash_key k)) x.stamp x found h
    (ap (λ (j : Key). has_stamp (at (hash_key j)) x.stamp) (sym (same_key_true x.entry.key k e)) ∙ listed)))
none_tag rs at k x xs false e h listed found rest = rest

pub none_tags : (rs : List Row) (at : ℕ → List ℕ) (k : Key) (xs : List Row) → row_among rs k (at (hash_key k)) ≡ None → AreListed at (tags_of xs) → AllFound rs xs
    → has_tag (tags_of xs) k ≡ false
none_tags rs at k [] h l f = refl
none_tags rs at k (x ∷ xs) h l f = none_tag rs at k x xs (key_eq x.entry.key k) refl h l.0 f.0 (none_tags rs at k xs h l.1 f.1)

-- ---- dictionaries

module _ {S : Type 0} (m : HashMap ℕ (List ℕ) S) (next : ℕ) (t : Tree) (d : IsDict m next t) where
  -- where no row is found, the key is not present
  pub lacks_key : (k : Key) → row_among (rows t) k (stamps_at m (hash_key k)) ≡ None → has_key (entries_of (rows t)) k ≡ false
  lacks_key k h =
      sym (has_tag-has_key (rows t) k)
      ∙ none_tags (rows t) (stamps_at m) k (rows t) h d.listed (all_found (rows t) (tree_unique t d.tree))

  pub lacks_entry : (k : Key) → row_among (rows t) k (stamps_at m (hash_key k)) ≡ None → entry_of (entries_of (rows t)) k ≡ None
  lacks_entry k h = go (entry_of (entries_of (rows t)) k) (lacks_key k h)
    where
      go : (o : Option Entry) → is_some o ≡ false → o ≡ None
      go None e = refl
      go (Some e) f = absurd (true≢false f)

  pub finds_entry : (k : Key) (r : Row) → row_among (rows t) k (stamps_at m (hash_key k)) ≡ Some r → entry_of (entries_of (rows t)) k ≡ Some r.entry
  finds_entry k r h = let f = among_row (rows t) k (stamps_at m (hash_key k)) r h in row_entry (rows t) f.0 k r d.distinct f.1

  pub found_key : (k : Key) (r : Row) → row_among (rows t) k (stamps_at m (hash_key k)) ≡ Some r → has_key (entries_of (rows t)) k ≡ true
  found_key k r h = ap is_some (finds_entry k r h)

  -- the entry of a key by the row that is found
  pub finds : (k : Key) (o : Option Row) → row_among (rows t) k (stamps_at m (hash_key k)) ≡ o → option_map (λ r. r.entry) o ≡ entry_of (entries_of (rows t)) k
  finds k None h = sym (lacks_entry k h)
  finds k (Some r) h = sym (finds_entry k r h)

-- ---- what calls leave of a dictionary

stamp_head : (x : Row) (xs : List Row) (s : ℕ) (r : Row) (b : Bool) → (x.stamp == s) ≡ b → (row_of xs s ≡ Some r → r.stamp ≡ s) → cond b (Some x) (row_of xs s) ≡ Some r → r.stamp ≡ s
stamp_head x xs s r true e rest h = ap (λ (y : Row). y.stamp) (sym (same_some x r h)) ∙ eqb-true x.stamp s e
stamp_head x xs s r false e rest h = rest h

pub row_stamp : (rs : List Row) (s : ℕ) (r : Row) → row_of rs s ≡ Some r → r.stamp ≡ s
row_stamp [] s r h = absurd (none_some r h)
row_stamp (x ∷ xs) s r h = stamp_head x xs s r (x.stamp == s) refl (row_stamp xs s r) h

-- what is found by a stamp has that stamp
pub stamp_row : (rs : List Row) (k : Key) (ss : List ℕ) (s : ℕ) (o : Option Row) → row_among rs k ss ≡ o → Some s ≡ option_map (λ r. r.stamp) o → (r : Row) × HasRow rs s k r
stamp_row rs k ss s None e h = absurd (none_some s (sym h))
stamp_row rs k ss s (Some r) e h =
    let f = among_row rs k ss r e in
    let here : f.0 ≡ s = sym (row_stamp rs f.0 r f.1.0) ∙ sym (same_some s r.stamp h) in
    (r, subst (λ (t : ℕ). HasRow rs t k r) here f.1)

no_row : (o : Option Row) → None ≡ option_map (λ (r : Row). r.stamp) o → o ≡ None
no_row None h = refl
no_row (Some r) h = absurd (none_some r.stamp h)

module _ {S : Type 0} (m : HashMap ℕ (List ℕ) S) (next : ℕ) (t : Tree) (d : IsDict m next t) where
  pub is_dict-set : (u : Tree) (s : ℕ) (v : Value) → IsTree u → rows u ≡ with_stamp (rows t) s v → IsDict m next u
  is_dict-set u s v tree is = record {
    tree = tree;
    below = subst (AllBelow next) (sym is) (AllBelow-with_stamp next (rows t) s v d.below);
    listed = subst (AreListed (stamps_at m)) (sym (ap tags_of is ∙ tags-with_stamp (rows t) s v)) d.listed;
    distinct = subst AreDistinct (sym (ap tags_of is ∙ tags-with_stamp (rows t) s v)) d.distinct;
  }

  pub is_dict-removed : (n : HashMap ℕ (List ℕ) S) (u : Tree) (s : ℕ) → IsTree u → rows u ≡ without_stamp (rows t) s
      → ((number stamp : ℕ) → stamp ≢ s → has_stamp (stamps_at m number) stamp ≡ true → has_stamp (stamps_at n number) stamp ≡ true) → IsDict n next u
  is_dict-removed n u s tree is kept = record {
    tree = tree;
    below = subst (AllBelow next) (sym is) (AllBelow-without_stamp next (rows t) s d.below);
    listed = subst (λ (rs : List Row). AreListed (stamps_at n) (tags_of rs)) (sym is) (listed-without (stamps_at m) (stamps_at n) (rows t) s kept d.listed);
    distinct = subst (λ (rs : List Row). AreDistinct (tags_of rs)) (sym is) (distinct-without (rows t) s d.distinct);
  }

  pub is_dict-more : (n : HashMap ℕ (List ℕ) S) (later : ℕ) (u : Tree) → next ≤ later → IsTree u → rows u ≡ rows t
      → ((number stamp : ℕ) → has_stamp (stamps_at m number) stamp ≡ true → has_stamp (stamps_at n number) stamp ≡ true) → IsDict n later u
  is_dict-more n later u le tree is grown = record {
    tree = tree;
    below = subst (AllBelow later) (sym is) (AllBelow-weaken next later (rows t) le d.below);
    listed = subst (λ (rs : List Row). AreListed (stamps_at n) (tags_of rs)) (sym is) (listed_more (stamps_at m) (stamps_at n) (tags_of (rows t)) grown d.listed);
    distinct = subst (λ (rs : List Row). AreDistinct (tags_of rs)) (sym is) d.distinct;
  }

  pub is_dict-pushed : (n : HashMap ℕ (List ℕ) S) (later : ℕ) (u : Tree) (r : Row) → later ≡ next + 1 → r.stamp ≡ next → IsTree u → rows u ≡ rows t ++ r ∷ []
      → ((number stamp : ℕ) → has_stamp (stamps_at m number) stamp ≡ true → has_stamp (stamps_at n number) stamp ≡ true)
      → has_stamp (stamps_at n (hash_key r.entry.key)) r.stamp ≡ true → entry_of (entries_of (rows t)) r.entry.key ≡ None → IsDict n later u
  is_dict-pushed n later u r is_later is_next tree is grown there absent = record {
    tree = tree;
    below = subst (AllBelow later) (sym is) (AllBelow-append later (rows t) (r ∷ []) (AllBelow-weaken next later (rows t) (omega arith) d.below) (omega arith, tt));
    listed = subst (AreListed (stamps_at n)) (sym (ap tags_of is ∙ tags_push (rows t) r))
        (listed_push (stamps_at n) (tags_of (rows t)) (r.stamp, r.entry.key) (listed_more (stamps_at m) (stamps_at n) (tags_of (rows t)) grown d.listed) there);
    distinct = subst AreDistinct (sym (ap tags_of is ∙ tags_push (rows t) r))
        (distinct_push (tags_of (rows t)) (r.stamp, r.entry.key) d.distinct (has_tag-has_key (rows t) r.entry.key ∙ ap is_some absent));
  }

  -- the value at the key of a row that is found
  pub sets_value : (u : Tree) (k : Key) (s : ℕ) (spelled v : Value) → Some s ≡ option_map (λ r. r.stamp) (row_among (rows t) k (stamps_at m (hash_key k)))
      → rows u ≡ with_stamp (rows t) s v → entries_of (rows u) ≡ with_entry (entries_of (rows t)) k spelled v
  sets_value u k s spelled v found is =
      let r = stamp_row (rows t) k (stamps_at m (hash_key k)) s _ refl found in
      let here : has_key (entries_of (rows t)) k ≡ true = ap is_some (row_entry (rows t) s k r.0 d.distinct r.1) in
      ap entries_of is ∙ row_value (rows t) s k v r.0 d.distinct r.1
      ∙ sym (ap (λ (b : Bool). cond b (with_value (entries_of (rows t)) k v) (entries_of (rows t) ++ record { key = k; spelled = spelled; value = v } ∷ [])) here)

  pub removes_entry : (u : Tree) (k : Key) (s : ℕ) → Some s ≡ option_map (λ r. r.stamp) (row_among (rows t) k (stamps_at m (hash_key k)))
      → rows u ≡ without_stamp (rows t) s → entries_of (rows u) ≡ without (entries_of (rows t)) k
  removes_entry u k s found is =
      let r = stamp_row (rows t) k (stamps_at m (hash_key k)) s _ refl found in
      ap entries_of is ∙ row_removed (rows t) s k r.0 (tree_unique t d.tree) d.distinct r.1

  pub absent_entry : (k : Key) → None ≡ option_map (λ r. r.stamp) (row_among (rows t) k (stamps_at m (hash_key k))) → entry_of (entries_of (rows t)) k ≡ None
  absent_entry k h = lacks_entry m next t d k (no_row _ h)

  pub removes_nothing : (k : Key) → None ≡ option_map (λ r. r.stamp) (row_among (rows t) k (stamps_at m (hash_key k))) → entries_of (rows t) ≡ without (entries_of (rows t)) k
  removes_nothing k h = sym (without-none (entries_of (rows t)) k (lacks_key m next t d k (no_row _ h)))
