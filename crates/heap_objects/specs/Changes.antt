-- What a call changes of a state, seen by locations.
use Rattle.std.specs.Prelude.{◌≡◌, ◌==◌, ◌<◌, ◌≤◌, ◌+◌, ◌-◌, ℕ, zero, suc, Bool, true, false, List, [], ◌∷◌, ◌++◌, length, map, max, Some, slice_get, if◌then◌else◌}
use Rattle.flow_base.specs.Same.{loc_eq}
use Rattle.flow_base.specs.declared.event.Event.{Event}
use Rattle.flow_base.specs.declared.event.Event.TheVariants as event
use Rattle.flow_base.specs.declared.key.Key.{Key}
use Rattle.flow_base.specs.declared.loc.Loc.{Loc}
use Rattle.flow_base.specs.declared.loc.Loc.TheVariants as loc
use Rattle.flow_base.specs.declared.numbers.ObjRef.{ObjRef}
use Rattle.flow_base.specs.declared.numbers.Sym.{Sym}
use Rattle.heap_objects.specs.Entries.{without}
use Rattle.heap_objects.specs.State.{State, content, held, item, object_at, slots_at}
use Rattle.heap_objects.specs.declared.object.Content.{Content}
use Rattle.heap_objects.specs.declared.object.Content.TheVariants as holds
use Rattle.heap_objects.specs.declared.object.Object.{Object}
use Rattle.heap_objects.specs.declared.tree.Entry.{Entry}
use Rattle.heap_objects.specs.declared.value.Value.{Value}

-- what locations hold after these writes, in order, where they held this before
abbrev pub after : List (Loc × Content) → (Loc → Content) → Loc → Content
after [] c l = c l
after (w ∷ ws) c l = after ws (λ k. if loc_eq w.0 k then w.1 else c k) l

-- the events that tell these writes
abbrev pub told : List (Loc × Content) → List Event
told ws = map (λ w. event.Write w.0) ws

-- the second state has the objects of the first, and its locations hold what they held but for these writes
pub record Wrote (ws : List (Loc × Content)) (s t : State) : Type 0 where
  pub objects : (o : ObjRef) → object_at t o ≡ object_at s o
  pub contents : (l : Loc) → content t l ≡ after ws (content s) l

-- the keys as they were first written
abbrev pub spellings : List Entry → List Value
spellings es = map (λ e. e.spelled) es

-- what a put at a key of a dictionary with these entries writes: the item, and where the key is new its presence and the shape
abbrev pub put_change : ObjRef → Key → Value → Value → List Entry → Bool → List (Loc × Content)
put_change d k spelled v es true = (loc.Item d k, holds.Held v) ∷ []
put_change d k spelled v es false = (loc.Item d k, holds.Held v) ∷ (loc.Present d k, holds.Present) ∷ (loc.Shape d, holds.Keys (spellings es ++ spelled ∷ [])) ∷ []

-- what a put reads before it writes
abbrev pub put_reads : ObjRef → Key → Bool → List Event
put_reads d k true = event.Place (loc.Present d k) ∷ []
put_reads d k false = event.Place (loc.Present d k) ∷ event.Place (loc.Shape d) ∷ []

-- what it writes where a key is taken out
abbrev pub remove_change : ObjRef → Key → List Entry → List (Loc × Content)
remove_change d k es = (loc.Item d k, holds.Absent) ∷ (loc.Present d k, holds.Absent) ∷ (loc.Shape d, holds.Keys (spellings (without es k))) ∷ []

-- so many items of a list from one on, where it has these items
abbrev pub item_changes : ObjRef → List Value → ℕ → ℕ → List (Loc × Content)
item_changes o items i zero = []
item_changes o items i (suc n) = (item o i, held (slice_get items i)) ∷ item_changes o items (suc i) n

-- the shape, unless the length is the same
abbrev pub length_change : ObjRef → ℕ → Bool → List (Loc × Content)
length_change o n true = []
length_change o n false = (loc.Shape o, holds.Length n) ∷ []

-- what a splice from a place on writes where the items are these before it and these after it
abbrev pub splice_change : ObjRef → ℕ → List Value → List Value → List (Loc × Content)
splice_change o i old new = item_changes o new i (max (length old) (length new) - i) ++ length_change o (length new) (length old == length new)

-- the item and the presence of each key in order, and then the shape
abbrev pub each_key : (Entry → Content) → Content → List Value → ObjRef → List Entry → List (Loc × Content)
each_key value shown keys d [] = (loc.Shape d, holds.Keys keys) ∷ []
each_key value shown keys d (e ∷ es) = (loc.Item d e.key, value e) ∷ (loc.Present d e.key, shown) ∷ each_key value shown keys d es

-- what is written where all keys of a dictionary with these entries are taken out
abbrev pub clear_change : ObjRef → List Entry → List (Loc × Content)
clear_change d es = each_key (λ _. holds.Absent) holds.Absent [] d es

-- what the making of a list with these items writes
abbrev pub list_change : ObjRef → List Value → List (Loc × Content)
list_change o items = item_changes o items 0 (length items) ++ (loc.Shape o, holds.Length (length items)) ∷ []

-- what the making of a dictionary with these entries writes
abbrev pub dict_change : ObjRef → List Entry → List (Loc × Content)
dict_change d es = each_key (λ e. holds.Held e.value) holds.Present (spellings es) d es

-- The second state has one object more than the first, which is this one and has slots with these names, and its locations
-- hold what they held but for these writes.
pub record Made (new : Object) (names : List Sym) (ws : List (Loc × Content)) (s t : State) : Type 0 where
  pub count : length t.nodes ≡ length s.nodes + 1
  pub objects : (o : ObjRef) → object_at t o ≡ (if o.0 == length s.nodes then Some new else object_at s o)
  pub slots : (o : ObjRef) → slots_at t o ≡ (if o.0 == length s.nodes then names else slots_at s o)
  pub contents : (l : Loc) → content t l ≡ after ws (content s) l

-- the objects of the first state are in the second, with their slots
pub record Keeps (s t : State) : Type 0 where
  pub count : length s.nodes ≤ length t.nodes
  pub objects : (o : ObjRef) → o.0 < length s.nodes → object_at t o ≡ object_at s o
  pub slots : (o : ObjRef) → o.0 < length s.nodes → slots_at t o ≡ slots_at s o
