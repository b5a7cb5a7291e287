-- What no call changes: the objects that are there, and the names of their slots.
use Rattle.std.proofs.Common.{◌≡◌, ℕ, zero, suc, ◌+◌, ◌<◌, ◌≤◌, Bool, true, false, cond, List, [], ◌∷◌, ◌++◌, length, set, refl, sym, ap, ◌∙◌, arith, ne_eqb}
use Rattle.std.specs.Prelude.{Option, Some, None, ◌==◌, slice_get}
use Rattle.flow_base.specs.declared.event.Event.{Event}
use Rattle.flow_base.specs.declared.key.Key.{Key}
use Rattle.flow_base.specs.declared.loc.Loc.{Loc}
use Rattle.flow_base.specs.declared.loc.Loc.TheVariants as loc
use Rattle.flow_base.specs.declared.numbers.ObjRef.{ObjRef}
use Rattle.flow_base.specs.declared.numbers.RunNo.{RunNo}
use Rattle.flow_base.specs.declared.numbers.Sym.{Sym}
use Rattle.heap_objects.specs.Calls.{clear_entries, dict_clear, dict_put, dict_remove, list_put, put_at, put_entry, put_item, remove_entry, splice_items, spliced, store_attr, store_name, stored}
use Rattle.heap_objects.specs.Changes.{Keeps}
use Rattle.heap_objects.specs.Names.{SlotList, slot_names, with_slot}
use Rattle.heap_objects.specs.State.{State, begun, cell_in, changed, changed_at, logged, logged_all, made, object_in, slots_at, slots_in, with_cell}
use Rattle.heap_objects.specs.declared.object.Cell.{Cell}
use Rattle.heap_objects.specs.declared.object.Cell.TheVariants as cell
use Rattle.heap_objects.specs.declared.object.Node.{Node}
use Rattle.heap_objects.specs.declared.object.Object.{Object}
use Rattle.heap_objects.specs.declared.value.Value.{Value}
use Rattle.heap_objects.proofs.ChangeLaws.{cell-changed, object-changed, suc_eqb, zero_suc}

-- ---- changes of one cell

set_length : (ns : List Node) (i : ℕ) (n : Node) → length (set ns i n) ≡ length ns
set_length [] i n = refl
set_length (m ∷ ms) zero n = refl
set_length (m ∷ ms) (suc i) n = ap suc (set_length ms i n)

at_length : (f : Cell → Cell) (ns : List Node) (i : ℕ) (o : Option Node) → length (changed_at f ns i o) ≡ length ns
at_length f ns i None = refl
at_length f ns i (Some n) = set_length ns i (record n { cell = f n.cell })

pub length-changed : (f : Cell → Cell) (ns : List Node) (i : ℕ) → length (changed f ns i) ≡ length ns
length-changed f ns i = at_length f ns i (slice_get ns i)

-- a change that leaves the names of slots
abbrev pub KeepsSlots : (Cell → Cell) → Type 0
KeepsSlots f = (c : Cell) → slots_in (f c) ≡ slots_in c

either_slots : (f : Cell → Cell) (c : Cell) (b : Bool) → KeepsSlots f → slots_in (cond b (f c) c) ≡ slots_in c
either_slots f c true h = h c
either_slots f c false h = refl

pub slots-changed : (f : Cell → Cell) (ns : List Node) (i j : ℕ) → f cell.Nothing ≡ cell.Nothing → KeepsSlots f
    → slots_in (cell_in (slice_get (changed f ns i) j)) ≡ slots_in (cell_in (slice_get ns j))
slots-changed f ns i j nothing h = ap slots_in (cell-changed f ns i j nothing) ∙ either_slots f (cell_in (slice_get ns j)) (i == j) h

names-with_slot : (slots : SlotList) (n : Sym) (v : Option Value) → slot_names (with_slot slots n v) ≡ slot_names slots
names-with_slot [] n v = refl
names-with_slot (s ∷ ss) n v = go (s.0.0 == n.0) (names-with_slot ss n v)
  where
    go : (b : Bool) → slot_names (with_slot ss n v) ≡ slot_names ss → slot_names (cond b ((s.0, v) ∷ ss) (s ∷ with_slot ss n v)) ≡ s.0 ∷ slot_names ss
    go true h = refl
    go false h = ap (λ (x : List Sym). s.0 ∷ x) h

pub name_slots : (n : Sym) (v : Option Value) → KeepsSlots (store_name n v)
name_slots n v (cell.Global names) = refl
name_slots n v (cell.Frame slots) = names-with_slot slots n v
name_slots n v (cell.List items) = refl
name_slots n v (cell.Dict entries) = refl
name_slots n v (cell.Attrs names) = refl
name_slots n v cell.Nothing = refl

pub attr_slots : (n : Sym) (v : Option Value) → KeepsSlots (store_attr n v)
attr_slots n v (cell.Global names) = refl
attr_slots n v (cell.Frame slots) = refl
attr_slots n v (cell.List items) = refl
attr_slots n v (cell.Dict entries) = refl
attr_slots n v (cell.Attrs names) = refl
attr_slots n v cell.Nothing = refl

pub item_slots : (i : ℕ) (v : Value) → KeepsSlots (put_item i v)
item_slots i v (cell.Global names) = refl
item_slots i v (cell.Frame slots) = refl
item_slots i v (cell.List items) = refl
item_slots i v (cell.Dict entries) = refl
item_slots i v (cell.Attrs names) = refl
item_slots i v cell.Nothing = refl

pub splice_slots : (i : ℕ) (tail : List Value) → KeepsSlots (splice_items i tail)
splice_slots i tail (cell.Global names) = refl
splice_slots i tail (cell.Frame slots) = refl
splice_slots i tail (cell.List items) = refl
splice_slots i tail (cell.Dict entries) = refl
splice_slots i tail (cell.Attrs names) = refl
splice_slots i tail cell.Nothing = refl

pub put_slots : (k : Key) (spelled v : Value) → KeepsSlots (put_entry k spelled v)
put_slots k spelled v (cell.Global names) = refl
put_slots k spelled v (cell.Frame slots) = refl
put_slots k spelled v (cell.List items) = refl
put_slots k spelled v (cell.Dict entries) = refl
put_slots k spelled v (cell.Attrs names) = refl
put_slots k spelled v cell.Nothing = refl

pub remove_slots : (k : Key) → KeepsSlots (remove_entry k)
remove_slots k (cell.Global names) = refl
remove_slots k (cell.Frame slots) = refl
remove_slots k (cell.List items) = refl
remove_slots k (cell.Dict entries) = refl
remove_slots k (cell.Attrs names) = refl
remove_slots k cell.Nothing = refl

pub clear_slots : KeepsSlots clear_entries
clear_slots (cell.Global names) = refl
clear_slots (cell.Frame slots) = refl
clear_slots (cell.List items) = refl
clear_slots (cell.Dict entries) = refl
clear_slots (cell.Attrs names) = refl
clear_slots cell.Nothing = refl

-- ---- states

same_count : (m n : ℕ) → m ≡ n → n ≤ m
same_count m n e = omega arith

pub kept_cell : (o : ObjRef) (f : Cell → Cell) (s : State) → f cell.Nothing ≡ cell.Nothing → KeepsSlots f → Keeps s (with_cell o f s)
unfolding with_cell
kept_cell o f s nothing h = record {
  count = same_count (length (changed f s.nodes o.0)) (length s.nodes) (length-changed f s.nodes o.0);
  objects = λ p lt. object-changed f s.nodes o.0 p.0;
  slots = λ p lt. slots-changed f s.nodes o.0 p.0 nothing h;
}

pub kept_event : (s : State) (e : Event) → Keeps s (logged e s)
unfolding logged
kept_event s e = record { count = omega arith; objects = λ o lt. refl; slots = λ o lt. refl }

pub kept_logged : (s t : State) (e : Event) → Keeps s t → Keeps s (logged e t)
unfolding logged
kept_logged s t e k = record { count = k.count; objects = λ o lt. k.objects o lt; slots = λ o lt. k.slots o lt }

pub kept_logged_all : (s t : State) (es : List Event) → Keeps s t → Keeps s (logged_all es t)
unfolding logged_all
kept_logged_all s t es k = record { count = k.count; objects = λ o lt. k.objects o lt; slots = λ o lt. k.slots o lt }

pub kept_run : (s : State) (run : RunNo) → Keeps s (begun run s)
unfolding begun
kept_run s run = record { count = omega arith; objects = λ o lt. refl; slots = λ o lt. refl }

pub kept_itself : (s : State) → Keeps s s
kept_itself s = record { count = omega arith; objects = λ o lt. refl; slots = λ o lt. refl }

pub kept_store : (s : State) (l : Loc) (v : Option Value) → Keeps s (stored l v s)
unfolding stored
kept_store s (loc.Name f n) v = kept_logged s (with_cell f (store_name n v) s) _ (kept_cell f (store_name n v) s refl (name_slots n v))
kept_store s (loc.Attr o n) v = kept_logged s (with_cell o (store_attr n v) s) _ (kept_cell o (store_attr n v) s refl (attr_slots n v))
kept_store s (loc.Item o k) v = kept_logged s s _ (kept_itself s)
kept_store s (loc.Present o k) v = kept_logged s s _ (kept_itself s)
kept_store s (loc.Shape o) v = kept_logged s s _ (kept_itself s)

pub kept_item : (s : State) (o : ObjRef) (i : ℕ) (v : Value) → Keeps s (list_put o i v s)
unfolding list_put
kept_item s o i v = kept_logged s (with_cell o (put_item i v) s) _ (kept_cell o (put_item i v) s refl (item_slots i v))

pub kept_splice : (s : State) (o : ObjRef) (i : ℕ) (tail : List Value) → Keeps s (spliced o i tail s)
unfolding spliced
kept_splice s o i tail = kept_logged_all s (with_cell o (splice_items i tail) s) _ (kept_cell o (splice_items i tail) s refl (splice_slots i tail))

pub kept_put : (s : State) (d : ObjRef) (k : Key) (spelled v : Value) → Keeps s (dict_put d k spelled v s)
unfolding dict_put
kept_put s d k spelled v = kept_logged_all s (with_cell d (put_entry k spelled v) s) _ (kept_cell d (put_entry k spelled v) s refl (put_slots k spelled v))

pub kept_put_at : (s : State) (d : ObjRef) (k : Option Key) (spelled v : Value) → Keeps s (put_at d k spelled v s)
unfolding put_at
kept_put_at s d None spelled v = kept_itself s
kept_put_at s d (Some k) spelled v = kept_put s d k spelled v

pub kept_remove : (s : State) (d : ObjRef) (k : Key) → Keeps s (dict_remove d k s)
unfolding dict_remove
kept_remove s d k = kept_logged_all s (with_cell d (remove_entry k) s) _ (kept_cell d (remove_entry k) s refl (remove_slots k))

pub kept_clear : (s : State) (d : ObjRef) → Keeps s (dict_clear d s)
unfolding dict_clear
kept_clear s d = kept_logged_all s (with_cell d clear_entries s) _ (kept_cell d clear_entries s refl clear_slots)

-- a change of one cell by a store of a name leaves the slots of every object
pub slots_of_change : (n : Sym) (v : Option Value) (ns ms : List Node) (i j : ℕ) → ms ≡ changed (store_name n v) ns i
    → slots_in (cell_in (slice_get ms j)) ≡ slots_in (cell_in (slice_get ns j))
slots_of_change n v ns ms i j e = ap (λ (x : List Node). slots_in (cell_in (slice_get x j))) e ∙ slots-changed (store_name n v) ns i j refl (name_slots n v)

-- so does an event
pub slots_logged : (s : State) (e : Event) (g : ObjRef) → slots_at (logged e s) g ≡ slots_at s g
unfolding logged
slots_logged s e g = refl

-- ---- with one object more

pub node-pushed : {T : Type 0} (g : Option Node → T) (ns : List Node) (n : Node) (i : ℕ) → g (slice_get (ns ++ n ∷ []) i) ≡ cond (i == length ns) (g (Some n)) (g (slice_get ns i))
node-pushed {T} g [] n zero = refl
node-pushed {T} g [] n (suc i) = sym (ap (λ (b : Bool). cond b (g (Some n)) (g None)) (ne_eqb (suc i) 0 (λ p. zero_suc i (sym p))))
node-pushed {T} g (m ∷ ms) n zero = sym (ap (λ (b : Bool). cond b (g (Some n)) (g (Some m))) (ne_eqb 0 (suc (length ms)) (λ p. zero_suc (length ms) p)))
node-pushed {T} g (m ∷ ms) n (suc i) = node-pushed g ms n i ∙ ap (λ (b : Bool). cond b (g (Some n)) (g (slice_get ms i))) (sym (suc_eqb i (length ms)))

length-pushed : (ns : List Node) (n : Node) → length (ns ++ n ∷ []) ≡ length ns + 1
length-pushed [] n = refl
length-pushed (m ∷ ms) n = omega (arith, length-pushed ms n)

pub apart_from : (i n : ℕ) → i < n → (i == n) ≡ false
apart_from i n lt = ne_eqb i n (λ e. omega arith)

below_pushed : {T : Type 0} (g : Option Node → T) (ns : List Node) (n : Node) (i : ℕ) → i < length ns → g (slice_get (ns ++ n ∷ []) i) ≡ g (slice_get ns i)
below_pushed {T} g ns n i lt = node-pushed g ns n i ∙ ap (λ (b : Bool). cond b (g (Some n)) (g (slice_get ns i))) (apart_from i (length ns) lt)

pub count-made : (object : Object) (c : Cell) (s : State) → length (made object c s).nodes ≡ length s.nodes + 1
unfolding made
count-made object c s = length-pushed s.nodes (record { object = object; cell = c })

more_count : (m n : ℕ) → m ≡ n + 1 → n ≤ m
more_count m n e = omega arith

pub kept_made : (object : Object) (c : Cell) (s : State) → Keeps s (made object c s)
unfolding made
kept_made object c s = record {
  count = more_count (length (s.nodes ++ record { object = object; cell = c } ∷ [])) (length s.nodes) (length-pushed s.nodes (record { object = object; cell = c }));
  objects = λ o lt. below_pushed object_in s.nodes (record { object = object; cell = c }) o.0 lt;
  slots = λ o lt. below_pushed (λ (n : Option Node). slots_in (cell_in n)) s.nodes (record { object = object; cell = c }) o.0 lt;
}
