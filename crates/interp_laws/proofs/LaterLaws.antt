-- What no operation takes back.
use Rattle.std.proofs.Common.{◌≡◌, ◌≤◌, ◌-◌, ◌∙◌, ℕ, Bool, true, false, cond, List, [], ◌∷◌, ◌++◌, length, Option, Some, None, Result, Ok, Err, refl, ap, sym, append_assoc, arith}
use Rattle.std.specs.Prelude.{nat_le}
use Rattle.std.proofs.lemmas.List.{append-nil}
use Rattle.flow_base.specs.declared.event.Event.{Event}
use Rattle.flow_base.specs.declared.event.Event.TheVariants as event
use Rattle.flow_base.specs.declared.event.ReadHow.{ReadHow}
use Rattle.flow_base.specs.declared.key.Key.{Key}
use Rattle.flow_base.specs.declared.loc.Loc.{Loc}
use Rattle.flow_base.specs.declared.loc.Loc.TheVariants as loc
use Rattle.flow_base.specs.declared.numbers.ObjRef.{ObjRef}
use Rattle.heap_objects.specs.Calls as calls
use Rattle.heap_objects.specs.Changes.{Keeps}
use Rattle.heap_objects.specs.Entries.{with_all}
use Rattle.heap_objects.specs.Keyed.{key_of}
use Rattle.heap_objects.specs.State.{State, cell_at, item, next_object, read_event, logged, logged_all, made, with_cell}
use Rattle.heap_objects.specs.declared.value.Value.{Value}
use Rattle.heap_objects.proofs.KeptLaws.{kept_event, kept_itself, kept_item, kept_put_at, kept_remove, kept_splice, kept_store}
use Rattle.heap_objects.proofs.MadeLaws.{kept_dict, kept_instance, kept_list}
use Rattle.interp_laws.proofs.Kept.{Kept, Makes, Raises, Reads, Writes, error_of_kept, error_with_kept}
use Rattle.interp_machine.specs.Later.{IsLater}
use Rattle.interp_machine.specs.Meaning.{dict_put, dict_remove, list_put, list_splice, load, new_dict, new_instance, new_list, present, shape, steps, store, with_heap, M, Outcome}
use Rattle.interp_machine.specs.declared.machine.Machine.{Machine}
use Rattle.interp_machine.specs.declared.stop.Stop.{Stop}
use Rattle.interp_machine.specs.declared.stop.Stop.TheVariants as stop

-- ---- states

pub keeps_then : (s t u : State) → Keeps s t → Keeps t u → Keeps s u
keeps_then s t u h k = record {
  count = omega (arith, h.count, k.count);
  objects = λ o lt. k.objects o (omega (arith, h.count)) ∙ h.objects o lt;
  slots = λ o lt. k.slots o (omega (arith, h.count)) ∙ h.slots o lt;
}

-- the events of the first are the first ones of the second
abbrev Adds : State → State → Type 0
Adds s t = (more : List Event) × (t.events ≡ s.events ++ more)

adds_then : (s t u : State) → Adds s t → Adds t u → Adds s u
adds_then s t u h k = (h.0 ++ k.0, k.1 ∙ ap (λ (es : List Event). es ++ k.0) h.1 ∙ append_assoc s.events h.0 k.0)

event_adds : (e : Event) (s : State) → Adds s (logged e s)
unfolding logged
event_adds e s = (e ∷ [], refl)

store_adds : (l : Loc) (v : Option Value) (s : State) → Adds s (calls.stored l v s)
unfolding calls.stored logged with_cell
store_adds (loc.Name f n) v s = (event.Write (loc.Name f n) ∷ [], refl)
store_adds (loc.Attr o n) v s = (event.Write (loc.Attr o n) ∷ [], refl)
store_adds (loc.Item o k) v s = (event.Write (loc.Item o k) ∷ [], refl)
store_adds (loc.Present o k) v s = (event.Write (loc.Present o k) ∷ [], refl)
store_adds (loc.Shape o) v s = (event.Write (loc.Shape o) ∷ [], refl)

item_adds : (o : ObjRef) (i : ℕ) (v : Value) (s : State) → Adds s (calls.list_put o i v s)
unfolding calls.list_put logged with_cell
item_adds o i v s = (event.Write (item o i) ∷ [], refl)

splice_adds : (o : ObjRef) (i : ℕ) (tail : List Value) (s : State) → Adds s (calls.spliced o i tail s)
unfolding calls.spliced logged_all with_cell
splice_adds o i tail s = (calls.splice_events o i tail (cell_at s o), refl)

put_adds : (d : ObjRef) (k : Option Key) (spelled v : Value) (s : State) → Adds s (calls.put_at d k spelled v s)
unfolding calls.put_at calls.dict_put logged_all with_cell
put_adds d None spelled v s = ([], sym (append-nil s.events))
put_adds d (Some k) spelled v s = (calls.put_events d k (cell_at s d), refl)

remove_adds : (d : ObjRef) (k : Key) (s : State) → Adds s (calls.dict_remove d k s)
unfolding calls.dict_remove logged_all with_cell
remove_adds d k s = (calls.remove_events d k (cell_at s d), refl)

list_adds : (items : List Value) (s : State) → Adds s (calls.new_list items s)
unfolding calls.new_list logged_all made
list_adds items s = (calls.item_writes (next_object s) 0 (length items) ++ event.Write (loc.Shape (next_object s)) ∷ [], refl)

dict_adds : (keys values : List Value) (s : State) → Adds s (calls.new_dict keys values s)
unfolding calls.new_dict logged_all made
dict_adds keys values s = (calls.entry_writes (next_object s) (with_all [] keys values), refl)

instance_adds : (class : Value) (s : State) → Adds s (calls.new_instance class s)
unfolding calls.new_instance made
instance_adds class s = ([], sym (append-nil s.events))

-- ---- machines

pub later_itself : (m : Machine) → IsLater m m
later_itself m = record { objects = kept_itself m.heap; events = ([], sym (append-nil m.heap.events)); left = omega arith; names = refl; depth = refl; out = refl }

pub later_then : (l m n : Machine) → IsLater l m → IsLater m n → IsLater l n
later_then l m n h k = record {
  objects = keeps_then l.heap m.heap n.heap h.objects k.objects;
  events = adds_then l.heap m.heap n.heap h.events k.events;
  left = omega (arith, h.left, k.left);
  names = k.names ∙ h.names;
  depth = k.depth ∙ h.depth;
  out = k.out ∙ h.out;
}

later_of : (m : Machine) (s : State) → Keeps m.heap s → Adds m.heap s → IsLater m (with_heap s m)
later_of m s h k = record { objects = h; events = k; left = omega arith; names = refl; depth = refl; out = refl }

same_heap : (m : Machine) (n : ℕ) → n ≤ m.left → IsLater m (record m { left = n })
same_heap m n le = record { objects = kept_itself m.heap; events = ([], sym (append-nil m.heap.events)); left = le; names = refl; depth = refl; out = refl }

steps_later : (n : ℕ) (m : Machine) → IsLater m (steps n m).1
unfolding steps
steps_later n m = go (nat_le n m.left)
  where
    go : (b : Bool) → IsLater m (cond {A = Outcome (Unit {0})} b (Ok tt, record m { left = m.left - n }) (Err stop.Steps, record m { left = 0 })).1
    go true = same_heap m (m.left - n) (omega arith)
    go false = same_heap m 0 (omega arith)

load_later : (l : Loc) (m : Machine) → IsLater m (load l m).1
unfolding load
load_later l m = later_of m _ (kept_event m.heap (event.Use l)) (event_adds (event.Use l) m.heap)

present_later : (d : ObjRef) (k : Key) (m : Machine) → IsLater m (present d k m).1
unfolding present
present_later d k m = later_of m _ (kept_event m.heap (event.Use (loc.Present d k))) (event_adds (event.Use (loc.Present d k)) m.heap)

shape_later : (how : ReadHow) (o : ObjRef) (m : Machine) → IsLater m (shape how o m).1
unfolding shape
shape_later how o m = later_of m _ (kept_event m.heap (read_event how (loc.Shape o))) (event_adds (read_event how (loc.Shape o)) m.heap)

store_later : (l : Loc) (v : Option Value) (m : Machine) → IsLater m (store l v m).1
unfolding store
store_later l v m = later_of m _ (kept_store m.heap l v) (store_adds l v m.heap)

item_later : (o : ObjRef) (i : ℕ) (v : Value) (m : Machine) → IsLater m (list_put o i v m).1
unfolding list_put
item_later o i v m = later_of m _ (kept_item m.heap o i v) (item_adds o i v m.heap)

splice_later : (o : ObjRef) (i : ℕ) (tail : List Value) (m : Machine) → IsLater m (list_splice o i tail m).1
unfolding list_splice
splice_later o i tail m = later_of m _ (kept_splice m.heap o i tail) (splice_adds o i tail m.heap)

put_later : (d : ObjRef) (k v : Value) (m : Machine) → IsLater m (dict_put d k v m).1
unfolding dict_put
put_later d k v m = later_of m _ (kept_put_at m.heap d (key_of k) k v) (put_adds d (key_of k) k v m.heap)

remove_later : (d : ObjRef) (k : Key) (m : Machine) → IsLater m (dict_remove d k m).1
unfolding dict_remove
remove_later d k m = later_of m _ (kept_remove m.heap d k) (remove_adds d k m.heap)

list_later : (items : List Value) (m : Machine) → IsLater m (new_list items m).1
unfolding new_list
list_later items m = later_of m _ (kept_list m.heap items) (list_adds items m.heap)

dict_later : (keys values : List Value) (m : Machine) → IsLater m (new_dict keys values m).1
unfolding new_dict
dict_later keys values m = later_of m _ (kept_dict m.heap keys values) (dict_adds keys values m.heap)

instance_later : (class : Value) (m : Machine) → IsLater m (new_instance class m).1
unfolding new_instance
instance_later class m = later_of m _ (kept_instance m.heap class) (instance_adds class m.heap)

-- of a value that is raised nothing is said
abbrev pub Any : Machine → Value → Type 0
Any m v = Unit {0}

nothing_said : {A : Type 0} (l m : Machine) (r : Result A Stop) → Raises (IsLater l) Any r m
nothing_said l m (Ok a) = tt
nothing_said l m (Err (stop.Raised v)) = tt
nothing_said l m (Err stop.Steps) = tt
nothing_said l m (Err stop.Range) = tt
nothing_said l m (Err stop.NoMemory) = tt

-- an operation after which every machine is later keeps what is later than another
keeps_later : {A : Type 0} (l : Machine) (p : M A) → ((m : Machine) → IsLater m (p m).1) → Kept (IsLater l) Any p
keeps_later l p h = record { kept = λ m i. later_then l m (p m).1 i (h m); raises = λ m i. nothing_said l (p m).1 (p m).0 }

instances_later : (l : Machine) (class : Value) → Kept (IsLater l) Any (new_instance class)
instances_later l class = keeps_later l _ (instance_later class)

stores_later : (l : Machine) (k : Loc) (v : Option Value) → Kept (IsLater l) Any (store k v)
stores_later l k v = keeps_later l _ (store_later k v)

makes_later : (l : Machine) (p : M ObjRef) → Kept (IsLater l) Any p → Makes (IsLater l) Any p
makes_later l p h = record { made = h; good = λ m i o e. tt }

pub later_reads : (l : Machine) → Reads (IsLater l) Any
later_reads l = record {
  steps_kept = λ n. keeps_later l _ (steps_later n);
  load_kept = λ k. keeps_later l _ (load_later k);
  present_kept = λ d k. keeps_later l _ (present_later d k);
  shape_kept = λ how o. keeps_later l _ (shape_later how o);
  error_of_made = λ what name. makes_later l _ (error_of_kept (IsLater l) Any (instances_later l) (stores_later l) what name);
}

pub later_writes : (l : Machine) → Writes (IsLater l) Any
later_writes l = record {
  list_put_kept = λ o i v. keeps_later l _ (item_later o i v);
  list_splice_kept = λ o i tail. keeps_later l _ (splice_later o i tail);
  dict_put_kept = λ d k v. keeps_later l _ (put_later d k v);
  dict_remove_kept = λ d k. keeps_later l _ (remove_later d k);
  new_list_kept = λ items. keeps_later l _ (list_later items);
  new_dict_kept = λ keys values. keeps_later l _ (dict_later keys values);
  error_with_made = λ c x. makes_later l _ (error_with_kept (IsLater l) Any (instances_later l) (stores_later l) c x);
}

-- what keeps all that primitive operations keep leaves a later machine
pub added : {A : Type 0} (p : M A) → ((l : Machine) → Kept (IsLater l) Any p) → (m : Machine) → IsLater m (p m).1
added p h m = (h m).kept m (later_itself m)
