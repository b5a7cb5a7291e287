-- What keeps a state sound.
use Rattle.std.proofs.Common.{◌≡◌, ℕ, zero, suc, ◌<◌, Bool, true, false, cond, List, [], ◌∷◌, ◌++◌, length, map, take, set, refl, sym, ap, subst, ◌∙◌, ◌⊎◌, inl, inr}
use Rattle.std.specs.Prelude.{Option, Some, None, ◌==◌, slice_get}
use Rattle.std.specs.FinMap as fin
use Rattle.std.specs.List.{All}
use Rattle.std.specs.Ordering.{nat_cmp}
use Rattle.std.proofs.lemmas.List.Elements.{All-append, All-head, All-set, All-tail, All-take, All-weaker}
use Rattle.flow_base.specs.declared.event.Event.{Event}
use Rattle.flow_base.specs.declared.key.Key.{Key}
use Rattle.flow_base.specs.declared.loc.Loc.{Loc}
use Rattle.flow_base.specs.declared.loc.Loc.TheVariants as loc
use Rattle.flow_base.specs.declared.numbers.CodeRef.{CodeRef}
use Rattle.flow_base.specs.declared.numbers.ObjRef.{ObjRef}
use Rattle.flow_base.specs.declared.numbers.RunNo.{RunNo}
use Rattle.flow_base.specs.declared.numbers.Sym.{Sym}
use Rattle.heap_objects.specs.Calls.{clear_entries, dict_clear, dict_put, dict_remove, list_put, new_class, new_dict, new_frame, new_function, new_instance, new_list, put_at, put_entry, put_item, remove_entry, splice_items, spliced, store_attr, store_name, stored}
use Rattle.heap_objects.specs.Changes.{Keeps}
use Rattle.heap_objects.specs.Entries.{with_all, with_entry, with_keyed, without}
use Rattle.heap_objects.specs.Keyed.{key_of}
use Rattle.heap_objects.specs.Names.{Names, SlotList, new_slots, slot_value, with_name, with_slot}
use Rattle.heap_objects.specs.State.{State, begun, cell_in, changed, count_at, count_in, keys_at, keys_in, logged, logged_all, made, object_at, object_in, start, with_cell}
use Rattle.heap_objects.specs.WellFormed.{AreEntries, AreKeyed, Fits, Holds, IsBase, IsClassValue, IsFixed, IsFrame, IsNoFrame, IsSound, Refers, RefersIf, before}
use Rattle.heap_objects.specs.declared.object.Cell.{Cell}
use Rattle.heap_objects.specs.declared.object.Cell.TheVariants as cell
use Rattle.heap_objects.specs.declared.object.Node.{Node}
use Rattle.heap_objects.specs.declared.object.Object.{Object}
use Rattle.heap_objects.specs.declared.object.Object.TheVariants as object
use Rattle.heap_objects.specs.declared.tree.Entry.{Entry}
use Rattle.heap_objects.specs.declared.value.Value.{Value}
use Rattle.heap_objects.proofs.CellLaws.{name_value}
use Rattle.heap_objects.proofs.ChangeLaws.{changed_head}
use Rattle.heap_objects.proofs.KeptLaws.{KeepsSlots, attr_slots, clear_slots, item_slots, kept_cell, kept_made, name_slots, put_slots, remove_slots, splice_slots}
use Rattle.heap_objects.proofs.KeyedLaws.{entries-weaker, entries-with_entry, entries-with_keyed, entries-without, keyed-with_all, keyed-with_entry, keyed-without}
use Rattle.heap_objects.proofs.MadeLaws.{empty_slot}
use Rattle.heap_objects.proofs.RefersLaws.{More, before_more, class_value_more, frame_more, keeps_more, object_within, refers_more, whole_before}
use Rattle.heap_objects.proofs.SlotLaws.{none_some, same_some}

pub event_sound : (s : State) (e : Event) → IsSound s → IsSound (logged e s)
unfolding logged
event_sound s e h = record { fixed = h.fixed; fits = h.fits; held = h.held }

pub events_sound : (s : State) (es : List Event) → IsSound s → IsSound (logged_all es s)
unfolding logged_all
events_sound s es h = record { fixed = h.fixed; fits = h.fits; held = h.held }

pub begun_sound : (s : State) (run : RunNo) → IsSound s → IsSound (begun run s)
unfolding begun
begun_sound s run h = record { fixed = h.fixed; fits = h.fits; held = h.held }

-- ---- with more objects

fixed_more : (s t : State) (i : ℕ) (o : Object) → More (before s i) (before t i) → IsFixed s i o → IsFixed t i o
fixed_more s t i (object.Frame None) m h = h
fixed_more s t i (object.Frame (Some parent)) m h = frame_more (before s i) (before t i) parent m h
fixed_more s t i object.List m h = h
fixed_more s t i object.Dict m h = h
fixed_more s t i (object.Instance class) m h = class_value_more (before s i) (before t i) class m h
fixed_more s t i (object.Class name None) m h = h
fixed_more s t i (object.Class name (Some base)) m h = class_value_more (before s i) (before t i) base m h
fixed_more s t i (object.Function name code defaults parent) m h =
    (frame_more (before s i) (before t i) parent m h.0, All-weaker (Refers (before s i)) (Refers (before t i)) (λ x r. refers_more (before s i) (before t i) m x r) defaults h.1)

pub holds_more : (P Q : Value → Type 0) → ((x : Value) → P x → Q x) → (c : Cell) → Holds P c → Holds Q c
holds_more P Q f (cell.Global names) h = λ n x e. f x (h n x e)
holds_more P Q f (cell.Frame slots) h = λ n x e. f x (h n x e)
holds_more P Q f (cell.List items) h = All-weaker P Q f items h
holds_more P Q f (cell.Dict entries) h = entries-weaker P Q f entries h
holds_more P Q f (cell.Attrs names) h = λ n x e. f x (h n x e)
holds_more P Q f cell.Nothing h = h

held_more : (s t : State) (c : Cell) → Keeps s t → Holds (Refers (object_at s)) c → Holds (Refers (object_at t)) c
held_more s t c k h = holds_more (Refers (object_at s)) (Refers (object_at t)) (λ x r. refers_more (object_at s) (object_at t) (keeps_more s t k) x r) c h

still_fixed : (s t : State) (i : ℕ) (o : Object) → Keeps s t → IsFixed s i o → IsFixed t i o
still_fixed s t i o k h = fixed_more s t i o (before_more s t i (keeps_more s t k)) h

-- ---- with one cell changed

-- a node after a change of one cell, and the node before
pub record Was (f : Cell → Cell) (ns : List Node) (i : ℕ) (n : Node) : Type 0 where
  pub node : Node
  pub there : slice_get ns i ≡ Some node
  pub object : n.object ≡ node.object
  pub cell : (n.cell ≡ node.cell) ⊎ (n.cell ≡ f node.cell)

same_node : (f : Cell → Cell) (ns : List Node) (i : ℕ) (n : Node) → slice_get ns i ≡ Some n → Was f ns i n
same_node f ns i n e = record { node = n; there = e; object = refl; cell = inl refl }

pub was : (f : Cell → Cell) (ns : List Node) (j i : ℕ) (n : Node) → slice_get (changed f ns j) i ≡ Some n → Was f ns i n
was f [] j i n e = absurd (none_some n e)
was f (m ∷ ms) zero zero n e =
    let same : record m { cell = f m.cell } ≡ n = same_some (record m { cell = f m.cell }) n e in
    record { node = m; there = refl; object = ap (λ (x : Node). x.object) (sym same); cell = inr (ap (λ (x : Node). x.cell) (sym same)) }
was f (m ∷ ms) zero (suc i) n e = same_node f (m ∷ ms) (suc i) n e
was f (m ∷ ms) (suc j) zero n e = same_node f (m ∷ ms) zero n (ap (λ (x : List Node). slice_get x zero) (sym (changed_head f m ms j (slice_get ms j))) ∙ e)
was f (m ∷ ms) (suc j) (suc i) n e =
    let w = was f ms j i n (ap (λ (x : List Node). slice_get x (suc i)) (sym (changed_head f m ms j (slice_get ms j))) ∙ e) in
    record { node = w.node; there = w.there; object = w.object; cell = w.cell }

-- what a change does to a cell of any kind
pub record IsSafe (s : State) (f : Cell → Cell) : Type 0 where
  nothing : f cell.Nothing ≡ cell.Nothing
  slots : KeepsSlots f
  fits : (o : Object) (c : Cell) → Fits o c → Fits o (f c)
  held : (c : Cell) → Holds (Refers (object_at s)) c → Holds (Refers (object_at s)) (f c)

cell_sound : (s : State) (o : ObjRef) (f : Cell → Cell) → IsSafe s f → IsSound s → IsSound (with_cell o f s)
unfolding with_cell
cell_sound s o f safe h = go (kept_cell o f s safe.nothing safe.slots)
  where
    go : Keeps s (with_cell o f s) → IsSound (with_cell o f s)
    go k = record {
      fixed = λ i n e. let w = was f s.nodes o.0 i n e in
          subst (IsFixed (with_cell o f s) i) (sym w.object) (still_fixed s (with_cell o f s) i w.node.object k (h.fixed i w.node w.there));
      fits = λ i n e. let w = was f s.nodes o.0 i n e in
          subst (λ (x : Object). Fits x n.cell) (sym w.object)
          (elim w.cell [
            | inl same ↦ subst (Fits w.node.object) (sym same) (h.fits i w.node w.there)
            | inr new ↦ subst (Fits w.node.object) (sym new) (safe.fits w.node.object w.node.cell (h.fits i w.node w.there))
          ]);
      held = λ i n e. let w = was f s.nodes o.0 i n e in
          held_more s (with_cell o f s) n.cell k
          (elim w.cell [
            | inl same ↦ subst (Holds (Refers (object_at s))) (sym same) (h.held i w.node w.there)
            | inr new ↦ subst (Holds (Refers (object_at s))) (sym new) (safe.held w.node.cell (h.held i w.node w.there))
          ]);
    }

-- ---- writes

held_name : (P : Value → Type 0) (names : Names) (n : Sym) (v : Option Value) → ((x : Value) → v ≡ Some x → P x) → ((m : ℕ) (x : Value) → fin.get names m ≡ Some x → P x)
    → (m : ℕ) (x : Value) → fin.get (with_name names n v) m ≡ Some x → P x
held_name P names n v p h m x e = go (n.0 == m) (sym (name_value names n (record { 0 = m }) v) ∙ e)
  where
    go : (b : Bool) → cond b v (fin.get names m) ≡ Some x → P x
    go true is = p x is
    go false is = h m x is

slot_either : (slots : SlotList) (n m : Sym) (v : Option Value) (x : Value) → slot_value (with_slot slots n v) m ≡ Some x → (v ≡ Some x) ⊎ (slot_value slots m ≡ Some x)
slot_either [] n m v x e = inr e
slot_either (s ∷ ss) n m v x e = go (s.0.0 == n.0) (s.0.0 == m.0) refl (λ later. slot_either ss n m v x later) e
  where
    go : (b c : Bool) → (s.0.0 == m.0) ≡ c → (slot_value (with_slot ss n v) m ≡ Some x → (v ≡ Some x) ⊎ (slot_value ss m ≡ Some x)) → slot_value (cond b ((s.0, v) ∷ ss) (s ∷ with_slot ss n v)) m ≡ Some x → (v ≡ Some x) ⊎ (slot_value (s ∷ ss) m ≡ Some x)
    go true true is rest e = inl (ap (λ (b : Bool). cond b v (slot_value ss m)) (sym is) ∙ e)
    go true false is rest e = inr (ap (λ (b : Bool). cond b s.1 (slot_value ss m)) is ∙ ap (λ (b : Bool). cond b v (slot_value ss m)) (sym is) ∙ e)
    go false true is rest e = inr (ap (λ (b : Bool). cond b s.1 (slot_value ss m)) is ∙ ap (λ (b : Bool). cond b s.1 (slot_value (with_slot ss n v) m)) (sym is) ∙ e)
    go false false is rest e = elim (rest (ap (λ (b : Bool). cond b s.1 (slot_value (with_slot ss n v) m)) (sym is) ∙ e)) [
      | inl new ↦ inl new
      | inr old ↦ inr (ap (λ (b : Bool). cond b s.1 (slot_value ss m)) is ∙ old)
    ]

held_slot : (P : Value → Type 0) (slots : SlotList) (n : Sym) (v : Option Value) → ((x : Value) → v ≡ Some x → P x) → ((m : Sym) (x : Value) → slot_value slots m ≡ Some x → P x)
    → (m : Sym) (x : Value) → slot_value (with_slot slots n v) m ≡ Some x → P x
held_slot P slots n v p h m x e = elim (slot_either slots n m v x e) [ inl new ↦ p x new | inr old ↦ h m x old ]

global_fits : (o : Object) (a b : Names) → Fits o (cell.Global a) → Fits o (cell.Global b)
global_fits (object.Frame None) a b h = h
global_fits (object.Frame (Some p)) a b h = h
global_fits object.List a b h = h
global_fits o a b h = h

frame_fits : (o : Object) (a b : SlotList) → Fits o (cell.Frame a) → Fits o (cell.Frame b)
frame_fits (object.Frame None) a b h = h
frame_fits (object.Frame (Some p)) a b h = h
frame_fits object.List a b h = h
frame_fits o a b h = h

attrs_fits : (o : Object) (a b : Names) → Fits o (cell.Attrs a) → Fits o (cell.Attrs b)
attrs_fits (object.Frame None) a b h = h
attrs_fits (object.Frame (Some p)) a b h = h
attrs_fits object.List a b h = h
attrs_fits o a b h = h

list_fits : (o : Object) (a b : List Value) → Fits o (cell.List a) → Fits o (cell.List b)
list_fits (object.Frame None) a b h = h
list_fits (object.Frame (Some p)) a b h = h
list_fits object.List a b h = h
list_fits o a b h = h

dict_fits : (o : Object) (a b : List Entry) → (AreKeyed a → AreKeyed b) → Fits o (cell.Dict a) → Fits o (cell.Dict b)
dict_fits (object.Frame None) a b f h = h
dict_fits (object.Frame (Some p)) a b f h = h
dict_fits object.Dict a b f h = f h
dict_fits o a b f h = h

pub name_held : (P : Value → Type 0) (n : Sym) (v : Option Value) → ((x : Value) → v ≡ Some x → P x) → (c : Cell) → Holds P c → Holds P (store_name n v c)
name_held P n v r (cell.Global names) h = held_name P names n v r h
name_held P n v r (cell.Frame slots) h = held_slot P slots n v r h
name_held P n v r (cell.List items) h = h
name_held P n v r c h = h

name_safe : (s : State) (n : Sym) (v : Option Value) → RefersIf (object_at s) v → IsSafe s (store_name n v)
name_safe s n v r = record { nothing = refl; slots = name_slots n v; fits = fits; held = λ c h. name_held (Refers (object_at s)) n v r c h }
  where
    fits : (o : Object) (c : Cell) → Fits o c → Fits o (store_name n v c)
    fits o (cell.Global names) h = global_fits o names (with_name names n v) h
    fits o (cell.Frame slots) h = frame_fits o slots (with_slot slots n v) h
    fits o (cell.List items) h = h
    fits o c h = h

pub attr_held : (P : Value → Type 0) (n : Sym) (v : Option Value) → ((x : Value) → v ≡ Some x → P x) → (c : Cell) → Holds P c → Holds P (store_attr n v c)
attr_held P n v r (cell.Attrs names) h = held_name P names n v r h
attr_held P n v r (cell.List items) h = h
attr_held P n v r c h = h

attr_safe : (s : State) (n : Sym) (v : Option Value) → RefersIf (object_at s) v → IsSafe s (store_attr n v)
attr_safe s n v r = record { nothing = refl; slots = attr_slots n v; fits = fits; held = λ c h. attr_held (Refers (object_at s)) n v r c h }
  where
    fits : (o : Object) (c : Cell) → Fits o c → Fits o (store_attr n v c)
    fits o (cell.Attrs names) h = attrs_fits o names (with_name names n v) h
    fits o (cell.List items) h = h
    fits o c h = h

pub item_held : (P : Value → Type 0) (i : ℕ) (v : Value) → P v → (c : Cell) → Holds P c → Holds P (put_item i v c)
item_held P i v r (cell.List items) h = All-set P items i v r h
item_held P i v r (cell.Attrs names) h = h
item_held P i v r c h = h

item_safe : (s : State) (i : ℕ) (v : Value) → Refers (object_at s) v → IsSafe s (put_item i v)
item_safe s i v r = record { nothing = refl; slots = item_slots i v; fits = fits; held = λ c h. item_held (Refers (object_at s)) i v r c h }
  where
    fits : (o : Object) (c : Cell) → Fits o c → Fits o (put_item i v c)
    fits o (cell.List items) h = list_fits o items (set items i v) h
    fits o (cell.Attrs names) h = h
    fits o c h = h

pub splice_held : (P : Value → Type 0) (i : ℕ) (tail : List Value) → All P tail → (c : Cell) → Holds P c → Holds P (splice_items i tail c)
splice_held P i tail r (cell.List items) h = All-append P (take i items) tail (All-take P i items h) r
splice_held P i tail r (cell.Attrs names) h = h
splice_held P i tail r c h = h

splice_safe : (s : State) (i : ℕ) (tail : List Value) → All (Refers (object_at s)) tail → IsSafe s (splice_items i tail)
splice_safe s i tail r = record { nothing = refl; slots = splice_slots i tail; fits = fits; held = λ c h. splice_held (Refers (object_at s)) i tail r c h }
  where
    fits : (o : Object) (c : Cell) → Fits o c → Fits o (splice_items i tail c)
    fits o (cell.List items) h = list_fits o items (take i items ++ tail) h
    fits o (cell.Attrs names) h = h
    fits o c h = h

pub put_held : (P : Value → Type 0) (k : Key) (spelled v : Value) → P spelled → P v → (c : Cell) → Holds P c → Holds P (put_entry k spelled v c)
put_held P k spelled v r q (cell.Dict es) h = entries-with_entry P es k spelled v r q h
put_held P k spelled v r q (cell.Attrs names) h = h
put_held P k spelled v r q c h = h

put_safe : (s : State) (k : Key) (spelled v : Value) → key_of spelled ≡ Some k → Refers (object_at s) spelled → Refers (object_at s) v → IsSafe s (put_entry k spelled v)
put_safe s k spelled v is r q = record { nothing = refl; slots = put_slots k spelled v; fits = fits; held = λ c h. put_held (Refers (object_at s)) k spelled v r q c h }
  where
    fits : (o : Object) (c : Cell) → Fits o c → Fits o (put_entry k spelled v c)
    fits o (cell.Dict es) h = dict_fits o es (with_entry es k spelled v) (λ keyed. keyed-with_entry es k spelled v keyed is) h
    fits o (cell.Attrs names) h = h
    fits o c h = h

pub remove_held : (P : Value → Type 0) (k : Key) → (c : Cell) → Holds P c → Holds P (remove_entry k c)
remove_held P k (cell.Dict es) h = entries-without P es k h
remove_held P k (cell.Attrs names) h = h
remove_held P k c h = h

remove_safe : (s : State) (k : Key) → IsSafe s (remove_entry k)
remove_safe s k = record { nothing = refl; slots = remove_slots k; fits = fits; held = λ c h. remove_held (Refers (object_at s)) k c h }
  where
    fits : (o : Object) (c : Cell) → Fits o c → Fits o (remove_entry k c)
    fits o (cell.Dict es) h = dict_fits o es (without es k) (keyed-without es k) h
    fits o (cell.Attrs names) h = h
    fits o c h = h

pub clear_held : (P : Value → Type 0) → (c : Cell) → Holds P c → Holds P (clear_entries c)
clear_held P (cell.Dict es) h = tt
clear_held P (cell.Attrs names) h = h
clear_held P c h = h

clear_safe : (s : State) → IsSafe s clear_entries
clear_safe s = record { nothing = refl; slots = clear_slots; fits = fits; held = λ c h. clear_held (Refers (object_at s)) c h }
  where
    fits : (o : Object) (c : Cell) → Fits o c → Fits o (clear_entries c)
    fits o (cell.Dict es) h = dict_fits o es [] (λ keyed. tt) h
    fits o (cell.Attrs names) h = h
    fits o c h = h

pub store_sound : (s : State) (l : Loc) (v : Option Value) → IsSound s → RefersIf (object_at s) v → IsSound (stored l v s)
unfolding stored
store_sound s (loc.Name f n) v h r = event_sound _ _ (cell_sound s f (store_name n v) (name_safe s n v r) h)
store_sound s (loc.Attr o n) v h r = event_sound _ _ (cell_sound s o (store_attr n v) (attr_safe s n v r) h)
store_sound s (loc.Item o k) v h r = event_sound s _ h
store_sound s (loc.Present o k) v h r = event_sound s _ h
store_sound s (loc.Shape o) v h r = event_sound s _ h

pub item_sound : (s : State) (o : ObjRef) (i : ℕ) (v : Value) → IsSound s → Refers (object_at s) v → IsSound (list_put o i v s)
unfolding list_put
item_sound s o i v h r = event_sound _ _ (cell_sound s o (put_item i v) (item_safe s i v r) h)

pub splice_sound : (s : State) (o : ObjRef) (i : ℕ) (tail : List Value) → IsSound s → All (Refers (object_at s)) tail → IsSound (spliced o i tail s)
unfolding spliced
splice_sound s o i tail h r = events_sound _ _ (cell_sound s o (splice_items i tail) (splice_safe s i tail r) h)

pub put_key_sound : (s : State) (d : ObjRef) (k : Key) (spelled v : Value) → key_of spelled ≡ Some k → IsSound s → Refers (object_at s) spelled → Refers (object_at s) v → IsSound (dict_put d k spelled v s)
unfolding dict_put
put_key_sound s d k spelled v is h r q = events_sound _ _ (cell_sound s d (put_entry k spelled v) (put_safe s k spelled v is r q) h)

put_if : (s : State) (d : ObjRef) (o : Option Key) (spelled v : Value) → key_of spelled ≡ o → IsSound s → Refers (object_at s) spelled → Refers (object_at s) v → IsSound (put_at d o spelled v s)
unfolding put_at
put_if s d None spelled v is h r q = h
put_if s d (Some k) spelled v is h r q = put_key_sound s d k spelled v is h r q

pub put_sound : (s : State) (d : ObjRef) (spelled v : Value) → IsSound s → Refers (object_at s) spelled → Refers (object_at s) v → IsSound (put_at d (key_of spelled) spelled v s)
put_sound s d spelled v h r q = put_if s d (key_of spelled) spelled v refl h r q

pub remove_sound : (s : State) (d : ObjRef) (k : Key) → IsSound s → IsSound (dict_remove d k s)
unfolding dict_remove
remove_sound s d k h = events_sound _ _ (cell_sound s d (remove_entry k) (remove_safe s k) h)

pub clear_sound : (s : State) (d : ObjRef) → IsSound s → IsSound (dict_clear d s)
unfolding dict_clear
clear_sound s d h = events_sound _ _ (cell_sound s d clear_entries (clear_safe s) h)

-- ---- with one object more

pub pushed : (ns : List Node) (n : Node) (i : ℕ) (m : Node) → slice_get (ns ++ n ∷ []) i ≡ Some m → (slice_get ns i ≡ Some m) ⊎ ((i ≡ length ns) × (n ≡ m))
pushed [] n zero m e = inr (refl, same_some n m e)
pushed [] n (suc i) m e = absurd (none_some m e)
pushed (x ∷ xs) n zero m e = inl e
pushed (x ∷ xs) n (suc i) m e = elim (pushed xs n i m e) [ inl old ↦ inl old | inr new ↦ inr (ap suc new.0, new.1) ]

made_sound : (s : State) (o : Object) (c : Cell) → IsSound s → IsFixed s (length s.nodes) o → Fits o c → Holds (Refers (object_at s)) c → IsSound (made o c s)
unfolding made
made_sound s o c h fixed fits held = go (kept_made o c s)
  where
    node : Node
    node = record { object = o; cell = c }

    go : Keeps s (made o c s) → IsSound (made o c s)
    go k = record {
      fixed = λ i n e. elim (pushed s.nodes node i n e) [
        | inl old ↦ still_fixed s (made o c s) i n.object k (h.fixed i n old)
        | inr new ↦ subst (λ (j : ℕ). IsFixed (made o c s) j n.object) (sym new.0)
            (subst (λ (x : Node). IsFixed (made o c s) (length s.nodes) x.object) new.1 (still_fixed s (made o c s) (length s.nodes) o k fixed))
      ];
      fits = λ i n e. elim (pushed s.nodes node i n e) [
        | inl old ↦ h.fits i n old
        | inr new ↦ subst (λ (x : Node). Fits x.object x.cell) new.1 fits
      ];
      held = λ i n e. elim (pushed s.nodes node i n e) [
        | inl old ↦ held_more s (made o c s) n.cell k (h.held i n old)
        | inr new ↦ held_more s (made o c s) n.cell k (subst (λ (x : Node). Holds (Refers (object_at s)) x.cell) new.1 held)
      ];
    }

pub no_name : (m : ℕ) (x : Value) → fin.get {R = nat_cmp} fin.empty m ≡ Some x → ⊥
no_name m x e = none_some x (sym (fin.get-empty nat_cmp m) ∙ e)

pub frame_sound : (s : State) (parent : ObjRef) (names : List Sym) → IsSound s → IsFrame (object_at s parent) → IsSound (new_frame parent names s)
unfolding new_frame
frame_sound s parent names h is =
    made_sound s (object.Frame (Some parent)) (cell.Frame (new_slots names)) h (frame_more (object_at s) (before s (length s.nodes)) parent (whole_before s) is) tt
    (λ n x e. absurd (none_some x (sym (empty_slot names n) ∙ e)))

pub list_sound : (s : State) (items : List Value) → IsSound s → All (Refers (object_at s)) items → IsSound (new_list items s)
unfolding new_list
list_sound s items h r = events_sound _ _ (made_sound s object.List (cell.List items) h tt tt r)

pub with_all_held : (P : Value → Type 0) (es : List Entry) (keys values : List Value) → All P keys → All P values → AreEntries P es → AreEntries P (with_all es keys values)
with_all_held P es [] values p q h = h
with_all_held P es (k ∷ keys) [] p q h = h
with_all_held P es (k ∷ keys) (v ∷ values) p q h =
    with_all_held P (with_keyed es (key_of k) k v) keys values (All-tail P k keys p) (All-tail P v values q)
    (entries-with_keyed P es (key_of k) k v (All-head P k keys p) (All-head P v values q) h)

pub dict_sound : (s : State) (keys values : List Value) → IsSound s → All (Refers (object_at s)) keys → All (Refers (object_at s)) values → IsSound (new_dict keys values s)
unfolding new_dict
dict_sound s keys values h p q =
    events_sound _ _ (made_sound s object.Dict (cell.Dict (with_all [] keys values)) h tt (keyed-with_all [] keys values tt)
    (with_all_held (Refers (object_at s)) [] keys values p q tt))

pub instance_sound : (s : State) (class : Value) → IsSound s → IsClassValue (object_at s) class → IsSound (new_instance class s)
unfolding new_instance
instance_sound s class h is =
    made_sound s (object.Instance class) (cell.Attrs fin.empty) h (class_value_more (object_at s) (before s (length s.nodes)) class (whole_before s) is) tt (λ n x e. absurd (no_name n x e))

pub class_sound : (s : State) (name : Sym) (base : Option Value) → IsSound s → IsBase (object_at s) base → IsSound (new_class name base s)
unfolding new_class
class_sound s name None h is = made_sound s (object.Class name None) (cell.Attrs fin.empty) h tt tt (λ n x e. absurd (no_name n x e))
class_sound s name (Some base) h is =
    made_sound s (object.Class name (Some base)) (cell.Attrs fin.empty) h (class_value_more (object_at s) (before s (length s.nodes)) base (whole_before s) is) tt (λ n x e. absurd (no_name n x e))

pub function_sound : (s : State) (name : Sym) (code : CodeRef) (defaults : List Value) (parent : ObjRef) → IsSound s → All (Refers (object_at s)) defaults → IsFrame (object_at s parent)
    → IsSound (new_function name code defaults parent s)
unfolding new_function
function_sound s name code defaults parent h r is =
    made_sound s (object.Function name code defaults parent) cell.Nothing h
    (frame_more (object_at s) (before s (length s.nodes)) parent (whole_before s) is, All-weaker (Refers (object_at s)) (Refers (before s (length s.nodes))) (λ x q. refers_more _ _ (whole_before s) x q) defaults r)
    tt tt

-- ---- the start, and what a sound state tells

pub start_sound : IsSound start
unfolding start
start_sound = record {
  fixed = λ i n e. let at = only i n e in subst (λ (j : ℕ). IsFixed start j n.object) (sym at.0) (subst (λ (x : Node). IsFixed start 0 x.object) at.1 refl);
  fits = λ i n e. subst (λ (x : Node). Fits x.object x.cell) (only i n e).1 tt;
  held = λ i n e. subst (λ (x : Node). Holds (Refers (object_at start)) x.cell) (only i n e).1 (λ m x f. absurd (no_name m x f));
}
  where
    first : Node
    first = record { object = object.Frame None; cell = cell.Global fin.empty }

    only : (i : ℕ) (n : Node) → slice_get (first ∷ []) i ≡ Some n → (i ≡ 0) × (first ≡ n)
    only zero n e = (refl, same_some first n e)
    only (suc i) n e = absurd (none_some n e)

some_node : (o : Option Node) (x : Object) → object_in o ≡ Some x → (n : Node) × (o ≡ Some n) × (n.object ≡ x)
some_node None x e = absurd (none_some x e)
some_node (Some n) x e = (n, refl, same_some n.object x e)

spelled_count : (es : List Entry) → length es ≡ length (map (λ e. e.spelled) es)
spelled_count [] = refl
spelled_count (e ∷ es) = ap suc (spelled_count es)

keys_of_dict : (c : Cell) → Fits object.Dict c → count_in c ≡ length (keys_in c)
keys_of_dict (cell.Dict es) h = spelled_count es
keys_of_dict (cell.Global names) h = refl
keys_of_dict (cell.Frame slots) h = refl
keys_of_dict (cell.List items) h = absurd h
keys_of_dict (cell.Attrs names) h = refl
keys_of_dict cell.Nothing h = refl

-- the count of a dictionary is the number of its keys
pub sound_keys : (s : State) (d : ObjRef) → IsSound s → object_at s d ≡ Some object.Dict → count_at s d ≡ length (keys_at s d)
unfolding count_at keys_at
sound_keys s d h e =
    let at = some_node (slice_get s.nodes d.0) object.Dict e in
    ap (λ (o : Option Node). count_in (cell_in o)) at.1
    ∙ keys_of_dict at.0.cell (subst (λ (x : Object). Fits x at.0.cell) at.2 (h.fits d.0 at.0 at.1))
    ∙ ap (λ (o : Option Node). length (keys_in (cell_in o))) (sym at.1)

-- a reference in a value names an object that is there
pub refers_within : (s : State) (o : ObjRef) → IsNoFrame (object_at s o) → o.0 < length s.nodes
refers_within s o h = go (object_at s o) refl h
  where
    go : (p : Option Object) → object_at s o ≡ p → IsNoFrame p → o.0 < length s.nodes
    go None e never = absurd never
    go (Some x) e is = object_within s o x e
