-- What the making of an object changes of a state.
use Rattle.std.proofs.Common.{◌≡◌, ◌≢◌, ℕ, Bool, true, false, cond, List, [], ◌∷◌, length, refl, sym, ap, subst, ◌∙◌, arith, eq-eqb, eqb-true}
use Rattle.std.specs.Prelude.{IfOk, OnOk, Option, Some, None, Result, Ok, Err, ◌==◌, slice_get}
use Rattle.std.specs.FinMap as fin
use Rattle.std.specs.Ordering.{nat_cmp}
use Rattle.std.proofs.lemmas.Bool.{true≢false}
use Rattle.std.proofs.lemmas.Option.{slice_get_past}
use Rattle.flow_base.specs.declared.event.Event.{Event}
use Rattle.flow_base.specs.declared.loc.Loc.{Loc}
use Rattle.flow_base.specs.declared.loc.Loc.TheVariants as loc
use Rattle.flow_base.specs.declared.numbers.CodeRef.{CodeRef}
use Rattle.flow_base.specs.declared.numbers.ObjRef.{ObjRef}
use Rattle.flow_base.specs.declared.numbers.Sym.{Sym}
use Rattle.heap_objects.specs.Calls.{new_class, new_dict, new_frame, new_function, new_instance, new_list}
use Rattle.heap_objects.specs.Changes.{Keeps, Made, after, dict_change, list_change}
use Rattle.heap_objects.specs.Entries.{with_all}
use Rattle.heap_objects.specs.Names.{SlotList, new_slots, slot_names, slot_value}
use Rattle.heap_objects.specs.State.{State, cell_at, cell_in, content, content_in, held, logged_all, made, next_object, object_in, object_of, slots_at, slots_in}
use Rattle.heap_objects.specs.declared.object.Cell.{Cell}
use Rattle.heap_objects.specs.declared.object.Cell.TheVariants as cell
use Rattle.heap_objects.specs.declared.object.Content.{Content}
use Rattle.heap_objects.specs.declared.object.Node.{Node}
use Rattle.heap_objects.specs.declared.object.Object.{Object}
use Rattle.heap_objects.specs.declared.object.Object.TheVariants as object
use Rattle.heap_objects.specs.declared.value.Value.{Value}
use Rattle.heap_objects.proofs.ChangeLaws.{AreOf, after_other, after_same, content_of}
use Rattle.heap_objects.proofs.EachKeyLaws.{dict_law, of_keys}
use Rattle.heap_objects.proofs.KeptLaws.{count-made, kept_logged_all, kept_made, node-pushed}
use Rattle.heap_objects.proofs.KeyedLaws.{keyed-with_all}
use Rattle.heap_objects.proofs.ListLaws.{list_law, of_both, of_items}
use Rattle.heap_objects.proofs.SlotLaws.{slot_names-new}

-- nothing is held at the next object
nothing_next : (s : State) → cell_at s (next_object s) ≡ cell.Nothing
nothing_next s = ap cell_in (slice_get_past s.nodes (length s.nodes) (omega arith))

-- An object that is made is these writes where it is so for its locations, which held nothing before.
pub wrote_made : (new : Object) (c : Cell) (ws : List (Loc × Content)) (s : State) → AreOf (next_object s) ws
    → ((l : Loc) → next_object s ≡ object_of l → content_in (λ _. c) l ≡ after ws (content_in (λ _. cell.Nothing)) l) → Made new (slots_in c) ws s (made new c s)
unfolding content made
wrote_made new c ws s of law = record {
  count = count-made new c s;
  objects = λ o. node-pushed object_in s.nodes node o.0;
  slots = λ o. node-pushed (λ (n : Option Node). slots_in (cell_in n)) s.nodes node o.0;
  contents = λ l. content_of (cell_at (made new c s)) l ∙ ap (λ (x : Cell). content_in (λ _. x) l) (node-pushed cell_in s.nodes node (object_of l).0) ∙ go l ((object_of l).0 == length s.nodes) refl;
}
  where
    node : Node
    node = record { object = new; cell = c }

    go : (l : Loc) (b : Bool) → ((object_of l).0 == length s.nodes) ≡ b
        → content_in (λ _. cond b c (cell_at s (object_of l))) l ≡ after ws (content_in (cell_at s)) l
    go l true e =
        let same : next_object s ≡ object_of l = ap (λ (n : ℕ). record { 0 = n }) (sym (eqb-true (object_of l).0 (length s.nodes) e)) in
        law l same
        ∙ after_same ws (content_in (λ _. cell.Nothing)) (content_in (cell_at s)) l
        (ap (λ (x : Cell). content_in (λ _. x) l) (sym (nothing_next s) ∙ ap (cell_at s) same) ∙ sym (content_of (cell_at s) l))
    go l false e =
        let other : next_object s ≢ object_of l = λ p. true≢false (sym (eq-eqb (object_of l).0 (length s.nodes) (ap (λ (x : ObjRef). x.0) (sym p))) ∙ e) in
        sym (content_of (cell_at s) l) ∙ sym (after_other (next_object s) ws (content_in (cell_at s)) (content_in (cell_at s)) l of other refl)

-- the slots of the object that was made
last_slots : (s : State) (new : Object) (c : Cell) → slots_at (made new c s) (next_object s) ≡ slots_in c
unfolding made
last_slots s new c =
    node-pushed (λ (n : Option Node). slots_in (cell_in n)) s.nodes (record { object = new; cell = c }) (length s.nodes)
    ∙ ap (λ (b : Bool). cond b (slots_in c) (slots_in (cell_in (slice_get s.nodes (length s.nodes))))) (eq-eqb (length s.nodes) (length s.nodes) refl)

-- with events behind it
made_logged : (new : Object) (names : List Sym) (ws : List (Loc × Content)) (s t : State) (es : List Event) → Made new names ws s t → Made new names ws s (logged_all es t)
unfolding logged_all content
made_logged new names ws s t es m = record { count = m.count; objects = λ o. m.objects o; slots = λ o. m.slots o; contents = λ l. m.contents l }

-- ---- frames, instances, classes and functions hold nothing when they are made

pub empty_slot : (names : List Sym) (n : Sym) → slot_value (new_slots names) n ≡ None
empty_slot [] n = refl
empty_slot (m ∷ ms) n = go (m.0 == n.0) (empty_slot ms n)
  where
    go : (b : Bool) → slot_value (new_slots ms) n ≡ None → cond b None (slot_value (new_slots ms) n) ≡ None
    go true h = refl
    go false h = h

frame_law : (names : List Sym) (l : Loc) → content_in (λ _. cell.Frame (new_slots names)) l ≡ content_in (λ _. cell.Nothing) l
frame_law names (loc.Name f n) = ap held (empty_slot names n)
frame_law names (loc.Attr o n) = refl
frame_law names (loc.Item o k) = refl
frame_law names (loc.Present o k) = refl
frame_law names (loc.Shape o) = refl

attrs_law : (l : Loc) → content_in (λ _. cell.Attrs fin.empty) l ≡ content_in (λ _. cell.Nothing) l
attrs_law (loc.Name f n) = refl
attrs_law (loc.Attr o n) = ap held (fin.get-empty nat_cmp n.0)
attrs_law (loc.Item o k) = refl
attrs_law (loc.Present o k) = refl
attrs_law (loc.Shape o) = refl

pub frame_made : (s : State) (parent : ObjRef) (names : List Sym) → Made (object.Frame (Some parent)) names [] s (new_frame parent names s)
unfolding new_frame
frame_made s parent names =
    subst (λ (x : List Sym). Made (object.Frame (Some parent)) x [] s (made (object.Frame (Some parent)) (cell.Frame (new_slots names)) s)) (slot_names-new names)
    (wrote_made (object.Frame (Some parent)) (cell.Frame (new_slots names)) [] s tt (λ l e. frame_law names l))

pub instance_made : (s : State) (class : Value) → Made (object.Instance class) [] [] s (new_instance class s)
unfolding new_instance
instance_made s class = wrote_made (object.Instance class) (cell.Attrs fin.empty) [] s tt (λ l e. attrs_law l)

pub class_made : (s : State) (name : Sym) (base : Option Value) → Made (object.Class name base) [] [] s (new_class name base s)
unfolding new_class
class_made s name base = wrote_made (object.Class name base) (cell.Attrs fin.empty) [] s tt (λ l e. attrs_law l)

pub function_made : (s : State) (name : Sym) (code : CodeRef) (defaults : List Value) (parent : ObjRef)
    → Made (object.Function name code defaults parent) [] [] s (new_function name code defaults parent s)
unfolding new_function
function_made s name code defaults parent = wrote_made (object.Function name code defaults parent) cell.Nothing [] s tt (λ l e. refl)

-- the slots of a frame that was made
pub slots_of_frame : {E : Type 0} (r : Result ObjRef E) (s t : State) (new : Object) (slots : SlotList) (names : List Sym) → slots ≡ new_slots names
    → OnOk r (t ≡ made new (cell.Frame slots) s) → IfOk r (λ o. o ≡ next_object s) → IfOk r (λ o. slots_at t o ≡ names)
slots_of_frame (Ok o) s t new slots names is made_so named =
    ap (λ (x : State). slots_at x o) made_so ∙ ap (slots_at (made new (cell.Frame slots) s)) named ∙ last_slots s new (cell.Frame slots) ∙ ap slot_names is ∙ slot_names-new names
slots_of_frame (Err e) s t new slots names is made_so named = tt

-- ---- lists and dictionaries

pub list_made : (s : State) (items : List Value) → Made object.List [] (list_change (next_object s) items) s (new_list items s)
unfolding new_list
list_made s items =
    made_logged object.List [] (list_change (next_object s) items) s (made object.List (cell.List items) s) _
    (wrote_made object.List (cell.List items) (list_change (next_object s) items) s
    (of_both (next_object s) _ _ (of_items (next_object s) items 0 (length items)) (refl, tt)) (λ l e. list_law items (next_object s) l e))

pub dict_made : (s : State) (keys values : List Value) → Made object.Dict [] (dict_change (next_object s) (with_all [] keys values)) s (new_dict keys values s)
unfolding new_dict
dict_made s keys values =
    made_logged object.Dict [] (dict_change (next_object s) (with_all [] keys values)) s (made object.Dict (cell.Dict (with_all [] keys values)) s) _
    (wrote_made object.Dict (cell.Dict (with_all [] keys values)) (dict_change (next_object s) (with_all [] keys values)) s
    (of_keys _ _ _ (next_object s) (with_all [] keys values)) (λ l e. dict_law (with_all [] keys values) (next_object s) l (keyed-with_all [] keys values tt) e))

-- ---- what is there stays there

pub kept_frame : (s : State) (parent : ObjRef) (names : List Sym) → Keeps s (new_frame parent names s)
unfolding new_frame
kept_frame s parent names = kept_made _ _ s

pub kept_instance : (s : State) (class : Value) → Keeps s (new_instance class s)
unfolding new_instance
kept_instance s class = kept_made _ _ s

pub kept_class : (s : State) (name : Sym) (base : Option Value) → Keeps s (new_class name base s)
unfolding new_class
kept_class s name base = kept_made _ _ s

pub kept_function : (s : State) (name : Sym) (code : CodeRef) (defaults : List Value) (parent : ObjRef) → Keeps s (new_function name code defaults parent s)
unfolding new_function
kept_function s name code defaults parent = kept_made _ _ s

pub kept_list : (s : State) (items : List Value) → Keeps s (new_list items s)
unfolding new_list
kept_list s items = kept_logged_all s (made object.List (cell.List items) s) _ (kept_made _ _ s)

pub kept_dict : (s : State) (keys values : List Value) → Keeps s (new_dict keys values s)
unfolding new_dict
kept_dict s keys values = kept_logged_all s (made object.Dict (cell.Dict (with_all [] keys values)) s) _ (kept_made _ _ s)
