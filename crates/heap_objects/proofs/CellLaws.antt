-- What the writes of names, attributes and items leave in a cell.
use Rattle.std.proofs.Common.{◌≡◌, ◌≢◌, ℕ, zero, suc, ◌<◌, Bool, true, false, cond, List, [], ◌∷◌, ◌++◌, map, length, set, refl, sym, ap, ◌∙◌, arith, eq-eqb, eqb-true, ne_eqb}
use Rattle.std.specs.Prelude.{Option, Some, None, is_some, ◌==◌, ◌&&◌, ◌||◌, pos, negsuc, slice_get}
use Rattle.std.specs.Cmp.{nat_cmp_total}
use Rattle.std.specs.FinMap as fin
use Rattle.std.specs.List.{list_any}
use Rattle.std.proofs.lemmas.Bool.{false≢true, true≢false}
use Rattle.flow_base.specs.Same.{key_eq}
use Rattle.flow_base.specs.declared.key.Key.{Key, out-Key, roll-Key}
use Rattle.flow_base.specs.declared.key.Key.TheOpen as key
use Rattle.flow_base.specs.declared.key.Key.TheOpen.{Key-F}
use Rattle.flow_base.specs.declared.key.Key.TheViews.{out-roll-Key, roll-out-Key}
use Rattle.flow_base.specs.declared.loc.Loc.{Loc}
use Rattle.flow_base.specs.declared.loc.Loc.TheVariants as loc
use Rattle.flow_base.specs.declared.numbers.ObjRef.{ObjRef}
use Rattle.flow_base.specs.declared.numbers.Sym.{Sym}
use Rattle.flow_base.proofs.SameLaws.{same_key_true, true_same_key}
use Rattle.heap_objects.specs.Calls.{put_entry, put_item, remove_entry, store_attr, store_name}
use Rattle.heap_objects.specs.Changes.{after, put_change, remove_change}
use Rattle.heap_objects.specs.Entries.{entry_of, has_key, with_value, without}
use Rattle.heap_objects.specs.Names.{Names, SlotList, slot_value, with_name, with_slot}
use Rattle.heap_objects.specs.State.{content_in, entry_value, held, item, list_item, object_of, present_if}
use Rattle.heap_objects.specs.Storable.{HasAttrs, HoldsName}
use Rattle.heap_objects.specs.declared.object.Cell.{Cell}
use Rattle.heap_objects.specs.declared.object.Cell.TheVariants as cell
use Rattle.heap_objects.specs.declared.object.Content.{Content}
use Rattle.heap_objects.specs.declared.object.Content.TheVariants.{Absent, Held, Keys, Length, Present}
use Rattle.heap_objects.specs.declared.tree.Entry.{Entry}
use Rattle.heap_objects.specs.declared.value.Value.{Value}
use Rattle.heap_objects.proofs.EntryLaws.{entry-without, has_key-push, has_key-with_value, spelled-push, spelled-with_value, value-push, value-with_value}
use Rattle.heap_objects.proofs.SlotLaws.{is_at-eqb}
use Rattle.heap_objects.proofs.SymbolLaws.{flip_eqb}

held-cond : (b : Bool) (v w : Option Value) → held (cond b v w) ≡ cond b (held v) (held w)
held-cond true v w = refl
held-cond false v w = refl

pub name_value : (names : Names) (n m : Sym) (v : Option Value) → fin.get (with_name names n v) m.0 ≡ cond (n.0 == m.0) v (fin.get names m.0)
name_value names n m (Some v) = fin.get-insert nat_cmp_total names n.0 v m.0 ∙ ap (λ (b : Bool). cond b (Some v) (fin.get names m.0)) (is_at-eqb m.0 n.0 ∙ flip_eqb m.0 n.0)
name_value names n m None = fin.get-remove nat_cmp_total names n.0 m.0 ∙ ap (λ (b : Bool). cond b None (fin.get names m.0)) (is_at-eqb m.0 n.0 ∙ flip_eqb m.0 n.0)

slot_here : (s : Sym × Option Value) (ss : SlotList) (n m : Sym) (v : Option Value) (b : Bool) → s.0.0 ≡ n.0 → (s.0.0 == m.0) ≡ b
    → cond b v (slot_value ss m) ≡ cond (n.0 == m.0) v (cond b s.1 (slot_value ss m))
slot_here s ss n m v true e f = sym (ap (λ (b : Bool). cond b v s.1) (ap (λ (k : ℕ). k == m.0) (sym e) ∙ f))
slot_here s ss n m v false e f = sym (ap (λ (b : Bool). cond b v (slot_value ss m)) (ap (λ (k : ℕ). k == m.0) (sym e) ∙ f))

slot_behind : (s : Sym × Option Value) (ss : SlotList) (n m : Sym) (v : Option Value) (b : Bool) → (s.0.0 == n.0) ≡ false → (s.0.0 == m.0) ≡ b
    → slot_value (with_slot ss n v) m ≡ cond (n.0 == m.0) v (slot_value ss m) → cond b s.1 (slot_value (with_slot ss n v) m) ≡ cond (n.0 == m.0) v (cond b s.1 (slot_value ss m))
slot_behind s ss n m v true e f rest =
    let apart : n.0 ≢ m.0 = λ p. true≢false (sym f ∙ ap (λ (k : ℕ). s.0.0 == k) (sym p) ∙ e) in
    sym (ap (λ (b : Bool). cond b v s.1) (ne_eqb n.0 m.0 apart))
slot_behind s ss n m v false e f rest = rest

slot_head : (s : Sym × Option Value) (ss : SlotList) (n m : Sym) (v : Option Value) (b : Bool) → (s.0.0 == n.0) ≡ b
    → (list_any (λ s. s.0.0 == n.0) ss ≡ true → slot_value (with_slot ss n v) m ≡ cond (n.0 == m.0) v (slot_value ss m)) → (b || list_any (λ s. s.0.0 == n.0) ss) ≡ true
    → slot_value (cond b ((s.0, v) ∷ ss) (s ∷ with_slot ss n v)) m ≡ cond (n.0 == m.0) v (slot_value (s ∷ ss) m)
slot_head s ss n m v true e rest h = slot_here s ss n m v (s.0.0 == m.0) (eqb-true s.0.0 n.0 e) refl
slot_head s ss n m v false e rest h = slot_behind s ss n m v (s.0.0 == m.0) e refl (rest h)

slot_written : (slots : SlotList) (n m : Sym) (v : Option Value) → list_any (λ s. s.0.0 == n.0) slots ≡ true → slot_value (with_slot slots n v) m ≡ cond (n.0 == m.0) v (slot_value slots m)
slot_written [] n m v h = absurd (false≢true h)
slot_written (s ∷ ss) n m v h = slot_head s ss n m v (s.0.0 == n.0) refl (slot_written ss n m v) h

-- a name of the object itself
own_name : (o f : ObjRef) (n m : Sym) (x y : Content) → o ≡ f → cond (n.0 == m.0) x y ≡ cond ((o.0 == f.0) && (n.0 == m.0)) x y
own_name o f n m x y e = ap (λ (b : Bool). cond (b && (n.0 == m.0)) x y) (sym (eq-eqb o.0 f.0 (ap (λ (p : ObjRef). p.0) e)))

pub name_law : (c : Cell) (o : ObjRef) (n : Sym) (v : Option Value) (l : Loc) → HoldsName c n → o ≡ object_of l
    → content_in (λ _. store_name n v c) l ≡ after ((loc.Name o n, held v) ∷ []) (content_in (λ _. c)) l
name_law (cell.Global names) o n v (loc.Name f m) h e = ap held (name_value names n m v) ∙ held-cond (n.0 == m.0) v (fin.get names m.0) ∙ own_name o f n m (held v) (held (fin.get names m.0)) e
name_law (cell.Global names) o n v (loc.Attr f m) h e = refl
name_law (cell.Global names) o n v (loc.Item f k) h e = refl
name_law (cell.Global names) o n v (loc.Present f k) h e = refl
name_law (cell.Global names) o n v (loc.Shape f) h e = refl
name_law (cell.Frame slots) o n v (loc.Name f m) h e = ap held (slot_written slots n m v h) ∙ held-cond (n.0 == m.0) v (slot_value slots m) ∙ own_name o f n m (held v) (held (slot_value slots m)) e
name_law (cell.Frame slots) o n v (loc.Attr f m) h e = refl
name_law (cell.Frame slots) o n v (loc.Item f k) h e = refl
name_law (cell.Frame slots) o n v (loc.Present f k) h e = refl
name_law (cell.Frame slots) o n v (loc.Shape f) h e = refl
name_law (cell.List items) o n v l h e = absurd h
name_law (cell.Dict entries) o n v l h e = absurd h
name_law (cell.Attrs names) o n v l h e = absurd h
name_law cell.Nothing o n v l h e = absurd h

pub attr_law : (c : Cell) (o : ObjRef) (n : Sym) (v : Option Value) (l : Loc) → HasAttrs c → o ≡ object_of l
    → content_in (λ _. store_attr n v c) l ≡ after ((loc.Attr o n, held v) ∷ []) (content_in (λ _. c)) l
attr_law (cell.Attrs names) o n v (loc.Attr f m) h e = ap held (name_value names n m v) ∙ held-cond (n.0 == m.0) v (fin.get names m.0) ∙ own_name o f n m (held v) (held (fin.get names m.0)) e
attr_law (cell.Attrs names) o n v (loc.Name f m) h e = refl
attr_law (cell.Attrs names) o n v (loc.Item f k) h e = refl
attr_law (cell.Attrs names) o n v (loc.Present f k) h e = refl
attr_law (cell.Attrs names) o n v (loc.Shape f) h e = refl
attr_law (cell.Global names) o n v l h e = absurd h
attr_law (cell.Frame slots) o n v l h e = absurd h
attr_law (cell.List items) o n v l h e = absurd h
attr_law (cell.Dict entries) o n v l h e = absurd h
attr_law cell.Nothing o n v l h e = absurd h

-- ---- items of lists

item_here : (items : List Value) (i : ℕ) (v : Value) → i < length items → slice_get (set items i v) i ≡ Some v
item_here [] i v lt = absurd (omega arith)
item_here (x ∷ xs) zero v lt = refl
item_here (x ∷ xs) (suc i) v lt = item_here xs i v (omega arith)

item_there : (items : List Value) (i j : ℕ) (v : Value) → i ≢ j → slice_get (set items i v) j ≡ slice_get items j
item_there [] i j v other = refl
item_there (x ∷ xs) zero zero v other = absurd (other refl)
item_there (x ∷ xs) zero (suc j) v other = refl
item_there (x ∷ xs) (suc i) zero v other = refl
item_there (x ∷ xs) (suc i) (suc j) v other = item_there xs i j v (λ e. other (ap suc e))

length-put : (items : List Value) (i : ℕ) (v : Value) → length (set items i v) ≡ length items
length-put [] i v = refl
length-put (x ∷ xs) zero v = refl
length-put (x ∷ xs) (suc i) v = ap suc (length-put xs i v)

other_item : (items : List Value) (i : ℕ) (v : Value) (x : Key-F Key) → x ≢ key.Int (pos i) → list_item (set items i v) x ≡ list_item items x
other_item items i v key.Nil other = refl
other_item items i v (key.Int (pos j)) other = item_there items i j v (λ e. other (ap (λ (k : ℕ). key.Int (pos k)) (sym e)))
other_item items i v (key.Int (negsuc j)) other = refl
other_item items i v (key.Text t) other = refl
other_item items i v (key.Tuple ks) other = refl

item_at : (items : List Value) (i : ℕ) (v : Value) (k : Key) (b : Bool) → key_eq (roll-Key (key.Int (pos i))) k ≡ b → i < length items
    → list_item (set items i v) (out-Key k) ≡ cond b (Some v) (list_item items (out-Key k))
item_at items i v k true e lt =
    let same : out-Key k ≡ key.Int (pos i) = ap out-Key (sym (same_key_true (roll-Key (key.Int (pos i))) k e)) ∙ out-roll-Key (key.Int (pos i)) in
    ap (list_item (set items i v)) same ∙ item_here items i v lt
item_at items i v k false e lt =
    other_item items i v (out-Key k)
    (λ same. true≢false (sym (true_same_key (roll-Key (key.Int (pos i))) k (ap roll-Key (sym same) ∙ roll-out-Key k)) ∙ e))

pub own_key : (o f : ObjRef) (j k : Key) (x y : Content) → o ≡ f → cond (key_eq j k) x y ≡ cond ((o.0 == f.0) && key_eq j k) x y
own_key o f j k x y e = ap (λ (b : Bool). cond (b && key_eq j k) x y) (sym (eq-eqb o.0 f.0 (ap (λ (p : ObjRef). p.0) e)))

pub put_law : (items : List Value) (o : ObjRef) (i : ℕ) (v : Value) (l : Loc) → i < length items → o ≡ object_of l
    → content_in (λ _. put_item i v (cell.List items)) l ≡ after ((item o i, held (Some v)) ∷ []) (content_in (λ _. cell.List items)) l
put_law items o i v (loc.Name f m) lt e = refl
put_law items o i v (loc.Attr f m) lt e = refl
put_law items o i v (loc.Item f k) lt e =
    ap held (item_at items i v k (key_eq (roll-Key (key.Int (pos i))) k) refl lt) ∙ held-cond (key_eq (roll-Key (key.Int (pos i))) k) (Some v) (list_item items (out-Key k))
    ∙ own_key o f (roll-Key (key.Int (pos i))) k (held (Some v)) (held (list_item items (out-Key k))) e
put_law items o i v (loc.Present f k) lt e = refl
put_law items o i v (loc.Shape f) lt e = ap (λ (n : ℕ). Length n) (length-put items i v)

-- ---- entries of dictionaries

value_cond : (b : Bool) (o : Option Entry) → held (entry_value (cond b None o)) ≡ cond b Absent (held (entry_value o))
value_cond true o = refl
value_cond false o = refl

present_cond : (b c : Bool) → present_if (cond b true c) ≡ cond b Present (present_if c)
present_cond true c = refl
present_cond false c = refl

gone_cond : (b : Bool) (o : Option Entry) → present_if (is_some (cond b None o)) ≡ cond b Absent (present_if (is_some o))
gone_cond true o = refl
gone_cond false o = refl

pub own_shape : (o f : ObjRef) (x y : Content) → o ≡ f → x ≡ cond (o.0 == f.0) x y
own_shape o f x y e = sym (ap (λ (b : Bool). cond b x y) (eq-eqb o.0 f.0 (ap (λ (p : ObjRef). p.0) e)))

put_present : (es : List Entry) (o : ObjRef) (k : Key) (v : Value) (l : Loc) → has_key es k ≡ true → o ≡ object_of l
    → content_in (λ _. cell.Dict (with_value es k v)) l ≡ after ((loc.Item o k, Held v) ∷ []) (content_in (λ _. cell.Dict es)) l
put_present es o k v (loc.Name f m) h e = refl
put_present es o k v (loc.Attr f m) h e = refl
put_present es o k v (loc.Item f j) h e =
    ap held (value-with_value es k j v h) ∙ held-cond (key_eq k j) (Some v) (entry_value (entry_of es j)) ∙ own_key o f k j (Held v) (held (entry_value (entry_of es j))) e
put_present es o k v (loc.Present f j) h e = ap present_if (has_key-with_value es k j v)
put_present es o k v (loc.Shape f) h e = ap Keys (spelled-with_value es k v)

put_absent : (es : List Entry) (o : ObjRef) (n : Entry) (l : Loc) → has_key es n.key ≡ false → o ≡ object_of l
    → content_in (λ _. cell.Dict (es ++ n ∷ [])) l
    ≡ after ((loc.Item o n.key, Held n.value) ∷ (loc.Present o n.key, Present) ∷ (loc.Shape o, Keys (map (λ e. e.spelled) es ++ n.spelled ∷ [])) ∷ []) (content_in (λ _. cell.Dict es)) l
put_absent es o n (loc.Name f m) h e = refl
put_absent es o n (loc.Attr f m) h e = refl
put_absent es o n (loc.Item f j) h e =
    ap held (value-push es n j h) ∙ held-cond (key_eq n.key j) (Some n.value) (entry_value (entry_of es j)) ∙ own_key o f n.key j (Held n.value) (held (entry_value (entry_of es j))) e
put_absent es o n (loc.Present f j) h e =
    ap present_if (has_key-push es n j) ∙ present_cond (key_eq n.key j) (has_key es j) ∙ own_key o f n.key j Present (present_if (has_key es j)) e
put_absent es o n (loc.Shape f) h e = ap Keys (spelled-push es n) ∙ own_shape o f (Keys (map (λ e. e.spelled) es ++ n.spelled ∷ [])) (Keys (map (λ e. e.spelled) es)) e

entry_law : (es : List Entry) (o : ObjRef) (k : Key) (spelled v : Value) (l : Loc) (b : Bool) → has_key es k ≡ b → o ≡ object_of l
    → content_in (λ _. cell.Dict (cond b (with_value es k v) (es ++ record { key = k; spelled = spelled; value = v } ∷ []))) l
    ≡ after (put_change o k spelled v es b) (content_in (λ _. cell.Dict es)) l
entry_law es o k spelled v l true h e = put_present es o k v l h e
entry_law es o k spelled v l false h e = put_absent es o (record { key = k; spelled = spelled; value = v }) l h e

pub put_entry_law : (es : List Entry) (o : ObjRef) (k : Key) (spelled v : Value) (l : Loc) → o ≡ object_of l
    → content_in (λ _. put_entry k spelled v (cell.Dict es)) l ≡ after (put_change o k spelled v es (has_key es k)) (content_in (λ _. cell.Dict es)) l
put_entry_law es o k spelled v l e = entry_law es o k spelled v l (has_key es k) refl e

pub remove_law : (es : List Entry) (o : ObjRef) (k : Key) (l : Loc) → o ≡ object_of l
    → content_in (λ _. remove_entry k (cell.Dict es)) l ≡ after (remove_change o k es) (content_in (λ _. cell.Dict es)) l
remove_law es o k (loc.Name f m) e = refl
remove_law es o k (loc.Attr f m) e = refl
remove_law es o k (loc.Item f j) e =
    ap (λ (x : Option Entry). held (entry_value x)) (entry-without es k j) ∙ value_cond (key_eq k j) (entry_of es j) ∙ own_key o f k j Absent (held (entry_value (entry_of es j))) e
remove_law es o k (loc.Present f j) e =
    ap (λ (x : Option Entry). present_if (is_some x)) (entry-without es k j) ∙ gone_cond (key_eq k j) (entry_of es j) ∙ own_key o f k j Absent (present_if (has_key es j)) e
remove_law es o k (loc.Shape f) e = own_shape o f (Keys (map (λ e. e.spelled) (without es k))) (Keys (map (λ e. e.spelled) es)) e
