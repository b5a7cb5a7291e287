-- What keeps a state well formed.
use Rattle.std.proofs.Common.{◌≡◌, ℕ, zero, suc, List, [], ◌∷◌, length, refl, sym, subst, ◌∙◌, inl, inr}
use Rattle.std.specs.Prelude.{IsTrue, Option, Some, None, slice_get}
use Rattle.std.specs.FinMap as fin
use Rattle.std.specs.List.{All}
use Rattle.std.proofs.lemmas.List.Elements.{All-weaker}
use Rattle.flow_base.specs.declared.event.Event.{Event}
use Rattle.flow_base.specs.declared.key.Key.{Key}
use Rattle.flow_base.specs.declared.loc.Loc.{Loc}
use Rattle.flow_base.specs.declared.loc.Loc.TheVariants as loc
use Rattle.flow_base.specs.declared.numbers.CodeRef.{CodeRef}
use Rattle.flow_base.specs.declared.numbers.ObjRef.{ObjRef}
use Rattle.flow_base.specs.declared.numbers.RunNo.{RunNo}
use Rattle.flow_base.specs.declared.numbers.Sym.{Sym}
use Rattle.heap_objects.specs.Calls.{clear_entries, dict_clear, dict_put, dict_remove, list_put, new_class, new_dict, new_frame, new_function, new_instance, new_list, put_at, put_entry, put_item, remove_entry, splice_items, spliced, store_attr, store_name, stored}
use Rattle.heap_objects.specs.Changes.{Keeps}
use Rattle.heap_objects.specs.Entries.{with_all}
use Rattle.heap_objects.specs.Keyed.{key_of}
use Rattle.heap_objects.specs.Names.{new_slots}
use Rattle.heap_objects.specs.State.{State, begun, logged, logged_all, made, object_at, start, with_cell}
use Rattle.heap_objects.specs.WellFormed.{AreSteady, FixedHolds, Holds, IsAllowed, IsAllowedIf, IsBase, IsClassValue, IsFrame, IsLawful, IsLawfulFunction, IsLawful_at, IsSound, IsWellFormed, Refers, Rules}
use Rattle.heap_objects.specs.declared.object.Cell.{Cell}
use Rattle.heap_objects.specs.declared.object.Cell.TheVariants as cell
use Rattle.heap_objects.specs.declared.object.Node.{Node}
use Rattle.heap_objects.specs.declared.object.Object.{Object}
use Rattle.heap_objects.specs.declared.object.Object.TheVariants as object
use Rattle.heap_objects.specs.declared.value.Value.{Value}
use Rattle.heap_objects.specs.declared.value.Value.TheOpen as v
use Rattle.heap_objects.specs.declared.value.Value.TheOpen.{Value-F}
use Rattle.heap_objects.proofs.KeptLaws.{attr_slots, clear_slots, item_slots, kept_cell, kept_event, kept_itself, kept_logged_all, kept_made, kept_run, name_slots, put_slots, remove_slots, splice_slots}
use Rattle.heap_objects.proofs.MadeLaws.{empty_slot}
use Rattle.heap_objects.proofs.RefersLaws.{every_more}
use Rattle.heap_objects.proofs.SlotLaws.{none_some, same_some}
use Rattle.heap_objects.proofs.SoundLaws.{attr_held, begun_sound, class_sound, clear_held, clear_sound, dict_sound, event_sound, events_sound, frame_sound, function_sound, holds_more, instance_sound, item_held, item_sound, list_sound, name_held, no_name, pushed, put_held, put_sound, remove_held, remove_sound, splice_held, splice_sound, start_sound, store_sound, was, with_all_held}

-- ---- with more objects

lawful_at : (rules : Rules) (s t : State) → AreSteady rules → Keeps s t → (y : Value-F Value) → IsLawful_at rules s y → IsLawful_at rules t y
lawful_at rules s t steady k v.Nil h = h
lawful_at rules s t steady k (v.Truth b) h = h
lawful_at rules s t steady k (v.Int n) h = h
lawful_at rules s t steady k (v.Text x) h = h
lawful_at rules s t steady k (v.Tuple ps kept) h = h
lawful_at rules s t steady k (v.Range a b c) h = h
lawful_at rules s t steady k (v.Builtin name) h = h
lawful_at rules s t steady k (v.Obj o) h = h
lawful_at rules s t steady k (v.Bound f o) h = h
lawful_at rules s t steady k (v.Method name receiver) h = steady.methods s t name receiver k h

lawful_more : (rules : Rules) (s t : State) → AreSteady rules → Keeps s t → (x : Value) → IsLawful rules s x → IsLawful rules t x
lawful_more rules s t steady k x h = record { parts = every_more (IsLawful_at rules s) (IsLawful_at rules t) (lawful_at rules s t steady k) x h.parts; nested = h.nested; within = h.within }

functions_more : (rules : Rules) (s t : State) → AreSteady rules → Keeps s t → (o : Object) → IsLawfulFunction rules s o → IsLawfulFunction rules t o
functions_more rules s t steady k (object.Frame parent) h = h
functions_more rules s t steady k object.List h = h
functions_more rules s t steady k object.Dict h = h
functions_more rules s t steady k (object.Instance class) h = h
functions_more rules s t steady k (object.Class name base) h = h
functions_more rules s t steady k (object.Function name code defaults parent) h = steady.codes s t name code (length defaults) parent k h

fixed_holds_more : (P Q : Value → Type 0) → ((x : Value) → P x → Q x) → (o : Object) → FixedHolds P o → FixedHolds Q o
fixed_holds_more P Q f (object.Frame parent) h = h
fixed_holds_more P Q f object.List h = h
fixed_holds_more P Q f object.Dict h = h
fixed_holds_more P Q f (object.Instance class) h = f class h
fixed_holds_more P Q f (object.Class name None) h = h
fixed_holds_more P Q f (object.Class name (Some base)) h = f base h
fixed_holds_more P Q f (object.Function name code defaults parent) h = All-weaker P Q f defaults h

-- what the nodes of a state keep by the rules as they stand in another
record AreLawful (rules : Rules) (s : State) (ns : List Node) : Type 0 where
  values : (i : ℕ) (n : Node) → slice_get ns i ≡ Some n → Holds (IsLawful rules s) n.cell
  fixed_values : (i : ℕ) (n : Node) → slice_get ns i ≡ Some n → FixedHolds (IsLawful rules s) n.object
  functions : (i : ℕ) (n : Node) → slice_get ns i ≡ Some n → IsLawfulFunction rules s n.object

formed_later : (rules : Rules) (s t : State) → AreSteady rules → Keeps s t → IsSound t → AreLawful rules s t.nodes → IsWellFormed rules t
formed_later rules s t steady k sound a = record {
  sound = sound;
  values = λ i n e. holds_more (IsLawful rules s) (IsLawful rules t) (λ x h. lawful_more rules s t steady k x h) n.cell (a.values i n e);
  fixed_values = λ i n e. fixed_holds_more (IsLawful rules s) (IsLawful rules t) (λ x h. lawful_more rules s t steady k x h) n.object (a.fixed_values i n e);
  functions = λ i n e. functions_more rules s t steady k n.object (a.functions i n e);
}

lawful_nodes : (rules : Rules) (s : State) → IsWellFormed rules s → AreLawful rules s s.nodes
lawful_nodes rules s h = record { values = λ i n e. h.values i n e; fixed_values = λ i n e. h.fixed_values i n e; functions = λ i n e. h.functions i n e }

pub event_formed : (rules : Rules) (s : State) (e : Event) → AreSteady rules → IsWellFormed rules s → IsWellFormed rules (logged e s)
unfolding logged
event_formed rules s e steady h = formed_later rules s (logged e s) steady (kept_event s e) (event_sound s e h.sound) (lawful_nodes rules s h)

events_formed : (rules : Rules) (s : State) (es : List Event) → AreSteady rules → IsWellFormed rules s → IsWellFormed rules (logged_all es s)
unfolding logged_all
events_formed rules s es steady h =
    formed_later rules s (logged_all es s) steady (kept_logged_all s s es (kept_itself s)) (events_sound s es h.sound) (lawful_nodes rules s h)

pub begun_formed : (rules : Rules) (s : State) (run : RunNo) → AreSteady rules → IsWellFormed rules s → IsWellFormed rules (begun run s)
unfolding begun
begun_formed rules s run steady h = formed_later rules s (begun run s) steady (kept_run s run) (begun_sound s run h.sound) (lawful_nodes rules s h)

-- ---- with one cell changed

cell_formed : (rules : Rules) (s : State) (o : ObjRef) (f : Cell → Cell) → AreSteady rules → Keeps s (with_cell o f s) → IsSound (with_cell o f s)
    → ((c : Cell) → Holds (IsLawful rules s) c → Holds (IsLawful rules s) (f c)) → IsWellFormed rules s → IsWellFormed rules (with_cell o f s)
unfolding with_cell
cell_formed rules s o f steady k sound held h = formed_later rules s (with_cell o f s) steady k sound (record {
  values = λ i n e. let w = was f s.nodes o.0 i n e in
      elim w.cell [
        | inl same ↦ subst (Holds (IsLawful rules s)) (sym same) (h.values i w.node w.there)
        | inr new ↦ subst (Holds (IsLawful rules s)) (sym new) (held w.node.cell (h.values i w.node w.there))
      ];
  fixed_values = λ i n e. let w = was f s.nodes o.0 i n e in subst (FixedHolds (IsLawful rules s)) (sym w.object) (h.fixed_values i w.node w.there);
  functions = λ i n e. let w = was f s.nodes o.0 i n e in subst (IsLawfulFunction rules s) (sym w.object) (h.functions i w.node w.there);
})

-- a state is sound before an event where it is after it
sound_before : (s : State) (e : Event) → IsSound (logged e s) → IsSound s
unfolding logged
sound_before s e h = record { fixed = h.fixed; fits = h.fits; held = h.held }

sound_before_all : (s : State) (es : List Event) → IsSound (logged_all es s) → IsSound s
unfolding logged_all
sound_before_all s es h = record { fixed = h.fixed; fits = h.fits; held = h.held }

refers_if : (rules : Rules) (s : State) (v : Option Value) → IsAllowedIf rules s v → (x : Value) → v ≡ Some x → Refers (object_at s) x
refers_if rules s v a x e = (a x e).refers

lawful_if : (rules : Rules) (s : State) (v : Option Value) → IsAllowedIf rules s v → (x : Value) → v ≡ Some x → IsLawful rules s x
lawful_if rules s v a x e = (a x e).lawful

all_refer : (rules : Rules) (s : State) (xs : List Value) → All (IsAllowed rules s) xs → All (Refers (object_at s)) xs
all_refer rules s xs a = All-weaker (IsAllowed rules s) (Refers (object_at s)) (λ x h. h.refers) xs a

all_lawful : (rules : Rules) (s : State) (xs : List Value) → All (IsAllowed rules s) xs → All (IsLawful rules s) xs
all_lawful rules s xs a = All-weaker (IsAllowed rules s) (IsLawful rules s) (λ x h. h.lawful) xs a

pub store_formed : (rules : Rules) (s : State) (l : Loc) (v : Option Value) → AreSteady rules → IsWellFormed rules s → IsAllowedIf rules s v → IsWellFormed rules (stored l v s)
unfolding stored
store_formed rules s (loc.Name f n) v steady h a =
    event_formed rules (with_cell f (store_name n v) s) _ steady
    (cell_formed rules s f (store_name n v) steady (kept_cell f (store_name n v) s refl (name_slots n v))
    (sound_before (with_cell f (store_name n v) s) _ (store_sound s (loc.Name f n) v h.sound (refers_if rules s v a))) (name_held (IsLawful rules s) n v (lawful_if rules s v a)) h)
store_formed rules s (loc.Attr o n) v steady h a =
    event_formed rules (with_cell o (store_attr n v) s) _ steady
    (cell_formed rules s o (store_attr n v) steady (kept_cell o (store_attr n v) s refl (attr_slots n v))
    (sound_before (with_cell o (store_attr n v) s) _ (store_sound s (loc.Attr o n) v h.sound (refers_if rules s v a))) (attr_held (IsLawful rules s) n v (lawful_if rules s v a)) h)
store_formed rules s (loc.Item o k) v steady h a = event_formed rules s _ steady h
store_formed rules s (loc.Present o k) v steady h a = event_formed rules s _ steady h
store_formed rules s (loc.Shape o) v steady h a = event_formed rules s _ steady h

pub item_formed : (rules : Rules) (s : State) (o : ObjRef) (i : ℕ) (v : Value) → AreSteady rules → IsWellFormed rules s → IsAllowed rules s v → IsWellFormed rules (list_put o i v s)
unfolding list_put
item_formed rules s o i v steady h a =
    event_formed rules (with_cell o (put_item i v) s) _ steady
    (cell_formed rules s o (put_item i v) steady (kept_cell o (put_item i v) s refl (item_slots i v))
    (sound_before (with_cell o (put_item i v) s) _ (item_sound s o i v h.sound a.refers)) (item_held (IsLawful rules s) i v a.lawful) h)

pub splice_formed : (rules : Rules) (s : State) (o : ObjRef) (i : ℕ) (tail : List Value) → AreSteady rules → IsWellFormed rules s → All (IsAllowed rules s) tail
    → IsWellFormed rules (spliced o i tail s)
unfolding spliced
splice_formed rules s o i tail steady h a =
    events_formed rules (with_cell o (splice_items i tail) s) _ steady
    (cell_formed rules s o (splice_items i tail) steady (kept_cell o (splice_items i tail) s refl (splice_slots i tail))
    (sound_before_all (with_cell o (splice_items i tail) s) _ (splice_sound s o i tail h.sound (all_refer rules s tail a))) (splice_held (IsLawful rules s) i tail (all_lawful rules s tail a)) h)

put_key_formed : (rules : Rules) (s : State) (d : ObjRef) (k : Key) (spelled v : Value) → AreSteady rules → IsSound (dict_put d k spelled v s) → IsWellFormed rules s
    → IsAllowed rules s spelled → IsAllowed rules s v → IsWellFormed rules (dict_put d k spelled v s)
unfolding dict_put
put_key_formed rules s d k spelled v steady sound h a b =
    events_formed rules (with_cell d (put_entry k spelled v) s) _ steady
    (cell_formed rules s d (put_entry k spelled v) steady (kept_cell d (put_entry k spelled v) s refl (put_slots k spelled v))
    (sound_before_all (with_cell d (put_entry k spelled v) s) _ sound) (put_held (IsLawful rules s) k spelled v a.lawful b.lawful) h)

put_if : (rules : Rules) (s : State) (d : ObjRef) (o : Option Key) (spelled v : Value) → AreSteady rules → IsSound (put_at d o spelled v s) → IsWellFormed rules s
    → IsAllowed rules s spelled → IsAllowed rules s v → IsWellFormed rules (put_at d o spelled v s)
unfolding put_at
put_if rules s d None spelled v steady sound h a b = h
put_if rules s d (Some k) spelled v steady sound h a b = put_key_formed rules s d k spelled v steady sound h a b

pub put_formed : (rules : Rules) (s : State) (d : ObjRef) (spelled v : Value) → AreSteady rules → IsWellFormed rules s → IsAllowed rules s spelled → IsAllowed rules s v
    → IsWellFormed rules (put_at d (key_of spelled) spelled v s)
put_formed rules s d spelled v steady h a b = put_if rules s d (key_of spelled) spelled v steady (put_sound s d spelled v h.sound a.refers b.refers) h a b

pub remove_formed : (rules : Rules) (s : State) (d : ObjRef) (k : Key) → AreSteady rules → IsWellFormed rules s → IsWellFormed rules (dict_remove d k s)
unfolding dict_remove
remove_formed rules s d k steady h =
    events_formed rules (with_cell d (remove_entry k) s) _ steady
    (cell_formed rules s d (remove_entry k) steady (kept_cell d (remove_entry k) s refl (remove_slots k))
    (sound_before_all (with_cell d (remove_entry k) s) _ (remove_sound s d k h.sound)) (remove_held (IsLawful rules s) k) h)

pub clear_formed : (rules : Rules) (s : State) (d : ObjRef) → AreSteady rules → IsWellFormed rules s → IsWellFormed rules (dict_clear d s)
unfolding dict_clear
clear_formed rules s d steady h =
    events_formed rules (with_cell d clear_entries s) _ steady
    (cell_formed rules s d clear_entries steady (kept_cell d clear_entries s refl clear_slots)
    (sound_before_all (with_cell d clear_entries s) _ (clear_sound s d h.sound)) (clear_held (IsLawful rules s)) h)

-- ---- with one object more

made_formed : (rules : Rules) (s : State) (o : Object) (c : Cell) → AreSteady rules → IsWellFormed rules s → IsSound (made o c s) → Holds (IsLawful rules s) c → FixedHolds (IsLawful rules s) o
    → IsLawfulFunction rules s o → IsWellFormed rules (made o c s)
unfolding made
made_formed rules s o c steady h sound held fixed function = formed_later rules s (made o c s) steady (kept_made o c s) sound (record {
  values = λ i n e. elim (pushed s.nodes node i n e) [
    | inl old ↦ h.values i n old
    | inr new ↦ subst (λ (x : Node). Holds (IsLawful rules s) x.cell) new.1 held
  ];
  fixed_values = λ i n e. elim (pushed s.nodes node i n e) [
    | inl old ↦ h.fixed_values i n old
    | inr new ↦ subst (λ (x : Node). FixedHolds (IsLawful rules s) x.object) new.1 fixed
  ];
  functions = λ i n e. elim (pushed s.nodes node i n e) [
    | inl old ↦ h.functions i n old
    | inr new ↦ subst (λ (x : Node). IsLawfulFunction rules s x.object) new.1 function
  ];
})
  where
    node : Node
    node = record { object = o; cell = c }

pub frame_formed : (rules : Rules) (s : State) (parent : ObjRef) (names : List Sym) → AreSteady rules → IsWellFormed rules s → IsFrame (object_at s parent)
    → IsWellFormed rules (new_frame parent names s)
unfolding new_frame
frame_formed rules s parent names steady h is =
    made_formed rules s (object.Frame (Some parent)) (cell.Frame (new_slots names)) steady h (frame_sound s parent names h.sound is)
    (λ n x e. absurd (none_some x (sym (empty_slot names n) ∙ e))) tt tt

pub list_formed : (rules : Rules) (s : State) (items : List Value) → AreSteady rules → IsWellFormed rules s → All (IsAllowed rules s) items → IsWellFormed rules (new_list items s)
unfolding new_list
list_formed rules s items steady h a =
    events_formed rules (made object.List (cell.List items) s) _ steady
    (made_formed rules s object.List (cell.List items) steady h (sound_before_all (made object.List (cell.List items) s) _ (list_sound s items h.sound (all_refer rules s items a)))
    (all_lawful rules s items a) tt tt)

pub dict_formed : (rules : Rules) (s : State) (keys values : List Value) → AreSteady rules → IsWellFormed rules s → All (IsAllowed rules s) keys → All (IsAllowed rules s) values
    → IsWellFormed rules (new_dict keys values s)
unfolding new_dict
dict_formed rules s keys values steady h a b =
    events_formed rules (made object.Dict (cell.Dict (with_all [] keys values)) s) _ steady
    (made_formed rules s object.Dict (cell.Dict (with_all [] keys values)) steady h
    (sound_before_all (made object.Dict (cell.Dict (with_all [] keys values)) s) _ (dict_sound s keys values h.sound (all_refer rules s keys a) (all_refer rules s values b)))
    (with_all_held (IsLawful rules s) [] keys values (all_lawful rules s keys a) (all_lawful rules s values b) tt) tt tt)

pub instance_formed : (rules : Rules) (s : State) (class : Value) → AreSteady rules → IsWellFormed rules s → IsClassValue (object_at s) class → IsLawful rules s class
    → IsWellFormed rules (new_instance class s)
unfolding new_instance
instance_formed rules s class steady h is lawful =
    made_formed rules s (object.Instance class) (cell.Attrs fin.empty) steady h (instance_sound s class h.sound is) (λ n x e. absurd (no_name n x e)) lawful tt

pub class_formed : (rules : Rules) (s : State) (name : Sym) (base : Option Value) → AreSteady rules → IsWellFormed rules s → IsBase (object_at s) base
    → ((x : Value) → base ≡ Some x → IsLawful rules s x) → IsWellFormed rules (new_class name base s)
unfolding new_class
class_formed rules s name None steady h is lawful =
    made_formed rules s (object.Class name None) (cell.Attrs fin.empty) steady h (class_sound s name None h.sound is) (λ n x e. absurd (no_name n x e)) tt tt
class_formed rules s name (Some base) steady h is lawful =
    made_formed rules s (object.Class name (Some base)) (cell.Attrs fin.empty) steady h (class_sound s name (Some base) h.sound is) (λ n x e. absurd (no_name n x e)) (lawful base refl) tt

pub function_formed : (rules : Rules) (s : State) (name : Sym) (code : CodeRef) (defaults : List Value) (parent : ObjRef) → AreSteady rules → IsWellFormed rules s
    → All (IsAllowed rules s) defaults → IsFrame (object_at s parent) → IsTrue (rules.is_code s name code (length defaults) parent)
    → IsWellFormed rules (new_function name code defaults parent s)
unfolding new_function
function_formed rules s name code defaults parent steady h a is known =
    made_formed rules s (object.Function name code defaults parent) cell.Nothing steady h (function_sound s name code defaults parent h.sound (all_refer rules s defaults a) is) tt
    (all_lawful rules s defaults a) known

-- ---- the start

pub start_formed : (rules : Rules) → IsWellFormed rules start
unfolding start
start_formed rules = record {
  sound = start_sound;
  values = λ i n e. subst (λ (x : Node). Holds (IsLawful rules start) x.cell) (only i n e) (λ m x f. absurd (no_name m x f));
  fixed_values = λ i n e. subst (λ (x : Node). FixedHolds (IsLawful rules start) x.object) (only i n e) tt;
  functions = λ i n e. subst (λ (x : Node). IsLawfulFunction rules start x.object) (only i n e) tt;
}
  where
    first : Node
    first = record { object = object.Frame None; cell = cell.Global fin.empty }

    only : (i : ℕ) (n : Node) → slice_get (first ∷ []) i ≡ Some n → first ≡ n
    only zero n e = same_some first n e
    only (suc i) n e = absurd (none_some n e)
