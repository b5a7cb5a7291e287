-- The entries of a dictionary have the keys of their spellings, and no key stands twice.
use Rattle.std.proofs.Common.{◌≡◌, Bool, true, false, not, cond, List, [], ◌∷◌, ◌++◌, refl, sym, ap, ◌∙◌}
use Rattle.std.specs.Prelude.{Option, Some, None, is_some}
use Rattle.flow_base.specs.Same.{key_eq}
use Rattle.flow_base.specs.declared.key.Key.{Key}
use Rattle.flow_base.proofs.SameLaws.{same_key_true, true_same_key}
use Rattle.heap_objects.specs.Entries.{entry_of, has_key, with_all, with_entry, with_keyed, with_value, without}
use Rattle.heap_objects.specs.Keyed.{key_of}
use Rattle.heap_objects.specs.WellFormed.{AreEntries, AreKeyed}
use Rattle.heap_objects.specs.declared.tree.Entry.{Entry}
use Rattle.heap_objects.specs.declared.value.Value.{Value}
use Rattle.heap_objects.proofs.EntryLaws.{absent_head, entry-without, has_key-push, has_key-with_value}
use Rattle.std.proofs.lemmas.Bool.{true≢false}

flip_key : (j k : Key) → key_eq j k ≡ false → key_eq k j ≡ false
flip_key j k apart = go (key_eq k j) refl
  where
    go : (b : Bool) → key_eq k j ≡ b → b ≡ false
    go true e = absurd (true≢false (sym (true_same_key j k (sym (same_key_true k j e))) ∙ apart))
    go false e = refl

pub keyed-with_value : (es : List Entry) (k : Key) (v : Value) → AreKeyed es → AreKeyed (with_value es k v)
keyed-with_value [] k v h = tt
keyed-with_value (e ∷ es) k v h = go (key_eq e.key k) (keyed-with_value es k v h.2)
  where
    go : (b : Bool) → AreKeyed (with_value es k v) → AreKeyed (cond b (record e { value = v } ∷ es) (e ∷ with_value es k v))
    go true rest = (h.0, h.1, h.2)
    go false rest = (h.0, has_key-with_value es k e.key v ∙ h.1, rest)

pub keyed-push : (es : List Entry) (n : Entry) → AreKeyed es → key_of n.spelled ≡ Some n.key → has_key es n.key ≡ false → AreKeyed (es ++ n ∷ [])
keyed-push [] n h is none = (is, refl, tt)
keyed-push (e ∷ es) n h is none =
    let apart = absent_head e es n.key (key_eq e.key n.key) refl none in
    (h.0, has_key-push es n e.key ∙ ap (λ (b : Bool). cond b true (has_key es e.key)) (flip_key e.key n.key apart.0) ∙ h.1, keyed-push es n h.2 is apart.1)

pub keyed-with_entry : (es : List Entry) (k : Key) (spelled v : Value) → AreKeyed es → key_of spelled ≡ Some k → AreKeyed (with_entry es k spelled v)
keyed-with_entry es k spelled v h is = go (has_key es k) refl
  where
    go : (b : Bool) → has_key es k ≡ b → AreKeyed (cond b (with_value es k v) (es ++ record { key = k; spelled = spelled; value = v } ∷ []))
    go true e = keyed-with_value es k v h
    go false e = keyed-push es (record { key = k; spelled = spelled; value = v }) h is e

keyed-with_keyed : (es : List Entry) (o : Option Key) (spelled v : Value) → AreKeyed es → key_of spelled ≡ o → AreKeyed (with_keyed es o spelled v)
keyed-with_keyed es None spelled v h is = h
keyed-with_keyed es (Some k) spelled v h is = keyed-with_entry es k spelled v h is

pub keyed-with_all : (es : List Entry) (keys values : List Value) → AreKeyed es → AreKeyed (with_all es keys values)
keyed-with_all es [] values h = h
keyed-with_all es (k ∷ keys) [] h = h
keyed-with_all es (k ∷ keys) (v ∷ values) h = keyed-with_all (with_keyed es (key_of k) k v) keys values (keyed-with_keyed es (key_of k) k v h refl)

none_either : (b : Bool) (o : Option Entry) → is_some o ≡ false → is_some (cond b None o) ≡ false
none_either true o h = refl
none_either false o h = h

pub keyed-without : (es : List Entry) (k : Key) → AreKeyed es → AreKeyed (without es k)
keyed-without [] k h = tt
keyed-without (e ∷ es) k h = go (not (key_eq e.key k)) (keyed-without es k h.2)
  where
    go : (b : Bool) → AreKeyed (without es k) → AreKeyed (cond b (e ∷ without es k) (without es k))
    go true rest = (h.0, ap is_some (entry-without es k e.key) ∙ none_either (key_eq k e.key) (entry_of es e.key) h.1, rest)
    go false rest = rest

-- ---- values of entries

pub entries-with_value : (P : Value → Type 0) (es : List Entry) (k : Key) (v : Value) → P v → AreEntries P es → AreEntries P (with_value es k v)
entries-with_value P [] k v p h = tt
entries-with_value P (e ∷ es) k v p h = go (key_eq e.key k) (entries-with_value P es k v p h.2)
  where
    go : (b : Bool) → AreEntries P (with_value es k v) → AreEntries P (cond b (record e { value = v } ∷ es) (e ∷ with_value es k v))
    go true rest = (h.0, p, h.2)
    go false rest = (h.0, h.1, rest)

entries-push : (P : Value → Type 0) (es : List Entry) (n : Entry) → AreEntries P es → P n.spelled → P n.value → AreEntries P (es ++ n ∷ [])
entries-push P [] n h p q = (p, q, tt)
entries-push P (e ∷ es) n h p q = (h.0, h.1, entries-push P es n h.2 p q)

pub entries-with_entry : (P : Value → Type 0) (es : List Entry) (k : Key) (spelled v : Value) → P spelled → P v → AreEntries P es → AreEntries P (with_entry es k spelled v)
entries-with_entry P es k spelled v p q h = go (has_key es k)
  where
    go : (b : Bool) → AreEntries P (cond b (with_value es k v) (es ++ record { key = k; spelled = spelled; value = v } ∷ []))
    go true = entries-with_value P es k v q h
    go false = entries-push P es (record { key = k; spelled = spelled; value = v }) h p q

pub entries-with_keyed : (P : Value → Type 0) (es : List Entry) (o : Option Key) (spelled v : Value) → P spelled → P v → AreEntries P es → AreEntries P (with_keyed es o spelled v)
entries-with_keyed P es None spelled v p q h = h
entries-with_keyed P es (Some k) spelled v p q h = entries-with_entry P es k spelled v p q h

pub entries-without : (P : Value → Type 0) (es : List Entry) (k : Key) → AreEntries P es → AreEntries P (without es k)
entries-without P [] k h = tt
entries-without P (e ∷ es) k h = go (not (key_eq e.key k)) (entries-without P es k h.2)
  where
    go : (b : Bool) → AreEntries P (without es k) → AreEntries P (cond b (e ∷ without es k) (without es k))
    go true rest = (h.0, h.1, rest)
    go false rest = rest

pub entries-weaker : (P Q : Value → Type 0) → ((x : Value) → P x → Q x) → (es : List Entry) → AreEntries P es → AreEntries Q es
entries-weaker P Q f [] h = tt
entries-weaker P Q f (e ∷ es) h = (f e.spelled h.0, f e.value h.1, entries-weaker P Q f es h.2)
