-- The entries of dictionaries.
use Rattle.std.proofs.Common.{◌≡◌, ◌↔◌, Bool, true, false, not, cond, List, [], ◌∷◌, ◌++◌, map, refl, sym, ap, ◌∙◌}
use Rattle.std.specs.Prelude.{IsTrue, Option, Some, None, is_some}
use Rattle.std.proofs.lemmas.Bool.{false≢true, true≢false}
use Rattle.flow_base.specs.Same.{key_eq}
use Rattle.flow_base.specs.declared.key.Key.{Key}
use Rattle.flow_base.proofs.SameLaws.{same_key_true, true_same_key}
use Rattle.heap_objects.specs.Entries.{entry_of, has_key, with_value, without}
use Rattle.heap_objects.specs.State.{entry_value}
use Rattle.heap_objects.specs.declared.tree.Entry.{Entry}
use Rattle.heap_objects.specs.declared.value.Value.{Value}

-- a test that tells whether two keys are the same is the test of the definitions
pub same_test : (b : Bool) (j k : Key) → (IsTrue b ↔ (j ≡ k)) → b ≡ key_eq j k
same_test true j k h = sym (true_same_key j k (h.0 refl))
same_test false j k h = go (key_eq j k) refl
  where
    go : (t : Bool) → key_eq j k ≡ t → false ≡ key_eq j k
    go true e = h.1 (same_key_true j k e) ∙ sym e
    go false e = sym e

-- ---- entries after a write

entry_here : (e : Entry) (es : List Entry) (j k : Key) (v : Value) (b : Bool) → e.key ≡ j → key_eq e.key k ≡ b
    → entry_value (cond b (Some (record e { value = v })) (entry_of es k)) ≡ cond (key_eq j k) (Some v) (entry_value (cond b (Some e) (entry_of es k)))
entry_here e es j k v true same t = sym (ap (λ (b : Bool). cond b (Some v) (Some e.value)) (ap (λ (x : Key). key_eq x k) (sym same) ∙ t))
entry_here e es j k v false same t = sym (ap (λ (b : Bool). cond b (Some v) (entry_value (entry_of es k))) (ap (λ (x : Key). key_eq x k) (sym same) ∙ t))

-- a key that is not that of an entry
key_other : (i j k : Key) → key_eq i j ≡ false → key_eq i k ≡ true → key_eq j k ≡ false
key_other i j k apart here = go (key_eq j k) refl
  where
    go : (b : Bool) → key_eq j k ≡ b → key_eq j k ≡ false
    go true s = absurd (true≢false (sym (true_same_key i j (same_key_true i k here ∙ sym (same_key_true j k s))) ∙ apart))
    go false s = s

entry_behind : (e : Entry) (es : List Entry) (j k : Key) (v : Value) (b : Bool) → key_eq e.key j ≡ false → key_eq e.key k ≡ b
    → entry_value (entry_of (with_value es j v) k) ≡ cond (key_eq j k) (Some v) (entry_value (entry_of es k))
    → entry_value (cond b (Some e) (entry_of (with_value es j v) k)) ≡ cond (key_eq j k) (Some v) (entry_value (cond b (Some e) (entry_of es k)))
entry_behind e es j k v true apart t rest = sym (ap (λ (b : Bool). cond b (Some v) (Some e.value)) (key_other e.key j k apart t))
entry_behind e es j k v false apart t rest = rest

put_head : (e : Entry) (es : List Entry) (j k : Key) (v : Value) (b : Bool) → key_eq e.key j ≡ b
    → (has_key es j ≡ true → entry_value (entry_of (with_value es j v) k) ≡ cond (key_eq j k) (Some v) (entry_value (entry_of es k)))
    → is_some (cond b (Some e) (entry_of es j)) ≡ true
    → entry_value (entry_of (cond b (record e { value = v } ∷ es) (e ∷ with_value es j v)) k) ≡ cond (key_eq j k) (Some v) (entry_value (entry_of (e ∷ es) k))
put_head e es j k v true t rest h = entry_here e es j k v (key_eq e.key k) (same_key_true e.key j t) refl
put_head e es j k v false t rest h = entry_behind e es j k v (key_eq e.key k) t refl (rest h)

-- the value at a key after one was put at a key that is present
pub value-with_value : (es : List Entry) (j k : Key) (v : Value) → has_key es j ≡ true → entry_value (entry_of (with_value es j v) k) ≡ cond (key_eq j k) (Some v) (entry_value (entry_of es k))
value-with_value [] j k v h = absurd (false≢true h)
value-with_value (e ∷ es) j k v h = put_head e es j k v (key_eq e.key j) refl (value-with_value es j k v) h

some_either : (b : Bool) (x y : Entry) (o p : Option Entry) → is_some o ≡ is_some p → is_some (cond b (Some x) o) ≡ is_some (cond b (Some y) p)
some_either true x y o p h = refl
some_either false x y o p h = h

has_head : (e : Entry) (es : List Entry) (j k : Key) (v : Value) (b : Bool) → has_key (with_value es j v) k ≡ has_key es k
    → has_key (cond b (record e { value = v } ∷ es) (e ∷ with_value es j v)) k ≡ has_key (e ∷ es) k
has_head e es j k v true h = some_either (key_eq e.key k) (record e { value = v }) e (entry_of es k) (entry_of es k) refl
has_head e es j k v false h = some_either (key_eq e.key k) e e (entry_of (with_value es j v) k) (entry_of es k) h

pub has_key-with_value : (es : List Entry) (j k : Key) (v : Value) → has_key (with_value es j v) k ≡ has_key es k
has_key-with_value [] j k v = refl
has_key-with_value (e ∷ es) j k v = has_head e es j k v (key_eq e.key j) (has_key-with_value es j k v)

pub spelled-with_value : (es : List Entry) (j : Key) (v : Value) → map (λ e. e.spelled) (with_value es j v) ≡ map (λ e. e.spelled) es
spelled-with_value [] j v = refl
spelled-with_value (e ∷ es) j v = go (key_eq e.key j) (spelled-with_value es j v)
  where
    go : (b : Bool) → map (λ e. e.spelled) (with_value es j v) ≡ map (λ e. e.spelled) es
        → map (λ (e : Entry). e.spelled) (cond b (record e { value = v } ∷ es) (e ∷ with_value es j v)) ≡ e.spelled ∷ map (λ e. e.spelled) es
    go true h = refl
    go false h = ap (λ (x : List Value). e.spelled ∷ x) h

-- ---- with one key more

push_value : (e : Entry) (es : List Entry) (n : Entry) (k : Key) (b : Bool) → key_eq e.key k ≡ b → key_eq e.key n.key ≡ false
    → entry_value (entry_of (es ++ n ∷ []) k) ≡ cond (key_eq n.key k) (Some n.value) (entry_value (entry_of es k))
    → entry_value (cond b (Some e) (entry_of (es ++ n ∷ []) k)) ≡ cond (key_eq n.key k) (Some n.value) (entry_value (cond b (Some e) (entry_of es k)))
push_value e es n k true t apart rest = sym (ap (λ (b : Bool). cond b (Some n.value) (Some e.value)) (key_other e.key n.key k apart t))
push_value e es n k false t apart rest = rest

push_some : (e : Entry) (es : List Entry) (n : Entry) (k : Key) (b : Bool)
    → has_key (es ++ n ∷ []) k ≡ cond (key_eq n.key k) true (has_key es k)
    → is_some (cond b (Some e) (entry_of (es ++ n ∷ []) k)) ≡ cond (key_eq n.key k) true (is_some (cond b (Some e) (entry_of es k)))
push_some e es n k true rest = go (key_eq n.key k)
  where
    go : (b : Bool) → true ≡ cond b true true
    go true = refl
    go false = refl
push_some e es n k false rest = rest

pub absent_head : (e : Entry) (es : List Entry) (k : Key) (b : Bool) → key_eq e.key k ≡ b → is_some (cond b (Some e) (entry_of es k)) ≡ false → (key_eq e.key k ≡ false) × (has_key es k ≡ false)
absent_head e es k true t h = absurd (true≢false h)
absent_head e es k false t h = (t, h)

pub value-push : (es : List Entry) (n : Entry) (k : Key) → has_key es n.key ≡ false → entry_value (entry_of (es ++ n ∷ []) k) ≡ cond (key_eq n.key k) (Some n.value) (entry_value (entry_of es k))
value-push [] n k h = go (key_eq n.key k)
  where
    go : (b : Bool) → entry_value (cond b (Some n) None) ≡ cond b (Some n.value) None
    go true = refl
    go false = refl
value-push (e ∷ es) n k h =
    let apart = absent_head e es n.key (key_eq e.key n.key) refl h in
    push_value e es n k (key_eq e.key k) refl apart.0 (value-push es n k apart.1)

pub has_key-push : (es : List Entry) (n : Entry) (k : Key) → has_key (es ++ n ∷ []) k ≡ cond (key_eq n.key k) true (has_key es k)
has_key-push [] n k = go (key_eq n.key k)
  where
    go : (b : Bool) → is_some (cond b (Some n) None) ≡ cond b true false
    go true = refl
    go false = refl
has_key-push (e ∷ es) n k = push_some e es n k (key_eq e.key k) (has_key-push es n k)

pub spelled-push : (es : List Entry) (n : Entry) → map (λ e. e.spelled) (es ++ n ∷ []) ≡ map (λ e. e.spelled) es ++ n.spelled ∷ []
spelled-push [] n = refl
spelled-push (e ∷ es) n = ap (λ (x : List Value). e.spelled ∷ x) (spelled-push es n)

-- ---- without a key

without_here : (e : Entry) (es : List Entry) (j k : Key) (b c : Bool) → key_eq e.key j ≡ b → key_eq e.key k ≡ c
    → entry_of (without es j) k ≡ cond (key_eq j k) None (entry_of es k)
    → entry_of (cond (not b) (e ∷ without es j) (without es j)) k ≡ cond (key_eq j k) None (cond c (Some e) (entry_of es k))
without_here e es j k true true s t rest =
    let same : key_eq j k ≡ true = ap (λ (x : Key). key_eq x k) (sym (same_key_true e.key j s)) ∙ t in
    rest ∙ ap (λ (b : Bool). cond b None (entry_of es k)) same ∙ sym (ap (λ (b : Bool). cond b None (Some e)) same)
without_here e es j k true false s t rest = rest
without_here e es j k false true s t rest =
    ap (λ (b : Bool). cond b (Some e) (entry_of (without es j) k)) t ∙ sym (ap (λ (b : Bool). cond b None (Some e)) (key_other e.key j k s t))
without_here e es j k false false s t rest = ap (λ (b : Bool). cond b (Some e) (entry_of (without es j) k)) t ∙ rest

either_way : (b : Bool) (o : Option Entry) → o ≡ cond b o o
either_way true o = refl
either_way false o = refl

pub entry-without : (es : List Entry) (j k : Key) → entry_of (without es j) k ≡ cond (key_eq j k) None (entry_of es k)
entry-without [] j k = either_way (key_eq j k) None
entry-without (e ∷ es) j k = without_here e es j k (key_eq e.key j) (key_eq e.key k) refl refl (entry-without es j k)
