-- What the events of a run say: which locations it read as they stood before it, and what each of its writes rests on.
use Rattle.std.specs.Prelude.{◌≡◌, ℕ, zero, suc, ◌+◌, ◌-◌, ◌<◌, slice_get, List, [], ◌∷◌, ◌++◌, reverse, Option, Some, None, if◌then◌else◌}
use Rattle.std.specs.List.{fold, flat_map, Contains}
use Rattle.flow_base.specs.Same.{loc_eq}
use Rattle.flow_base.specs.declared.loc.Loc.{Loc}
use Rattle.flow_base.specs.declared.event.Event.{Event}
use Rattle.flow_base.specs.declared.event.Event.TheVariants.{Use, Place, Write, Open, Close, CallIn, CallOut}
use Rattle.flow_base.specs.declared.event.How.{How}
use Rattle.flow_base.specs.declared.event.How.TheVariants.{Normal, Raise, Break, Continue, Return}
use Rattle.flow_base.specs.declared.event.ReadHow.{ReadHow}
use Rattle.flow_base.specs.declared.event.ReadHow.TheVariants.{Use as ByUse, Place as ByPlace}
pub use Rattle.trace_events.specs.declared.summary.Seen.{Seen}
pub use Rattle.trace_events.specs.declared.summary.Seen.TheVariants.{Before, Own}
pub use Rattle.trace_events.specs.declared.summary.StartRead.{StartRead}
pub use Rattle.trace_events.specs.declared.summary.Write.{Write as Written}

-- ---- what is kept of a run

-- its reads of what stood before it, and its writes, each with its place among the events, its location, and what was seen by
-- the uses gathered on the statements open there
pub record Summary : Type 0 where
  pub reads : List StartRead
  pub writes : List Written

-- the first that is there
abbrev pub or_else : {T : Type 0} → Option T → Option T → Option T
or_else (Some x) other = Some x
or_else None other = other

-- the place of the last write of the location
abbrev pub last_write : Loc → List Written → Option ℕ
last_write l [] = None
last_write l (w ∷ ws) = or_else (last_write l ws) (if loc_eq w.location l then Some w.place else None)

-- what a read of the location sees after these writes
abbrev pub seen_from : Loc → Option ℕ → Seen
seen_from l (Some place) = Own place
seen_from l None = Before l

abbrev pub seen_after : List Written → Loc → Seen
seen_after ws l = seen_from l (last_write l ws)

-- ---- one event after another

-- what the events so far leave: how many they are, the uses gathered on each open statement, the innermost first, how many
-- calls are open, and the start reads and the writes
pub record Reading : Type 0 where
  pub place : ℕ
  pub open_uses : List (List Seen)
  pub calls : ℕ
  pub reads : List StartRead
  pub writes : List Written

abbrev pub start : Reading
start = record { place = 0; open_uses = []; calls = 0; reads = []; writes = [] }

abbrev pub start_read : Seen → ReadHow → List StartRead
start_read (Before l) how = (record { location = l; how = how }) ∷ []
start_read (Own place) how = []

-- a use is gathered on the innermost open statement
abbrev pub gather : Seen → List (List Seen) → List (List Seen)
gather seen [] = []
gather seen (g ∷ gs) = (g ++ seen ∷ []) ∷ gs

-- the uses of a statement that ends go to the next one outwards
abbrev pub hand_out : List (List Seen) → List (List Seen)
hand_out [] = []
hand_out (g ∷ []) = []
hand_out (g ∷ outer ∷ gs) = (outer ++ g) ∷ gs

abbrev pub forget : List (List Seen) → List (List Seen)
forget [] = []
forget (g ∷ gs) = gs

-- unless it ends normally outside every call
abbrev pub close : How → ℕ → List (List Seen) → List (List Seen)
close Normal zero gs = forget gs
close Normal (suc calls) gs = hand_out gs
close Raise calls gs = hand_out gs
close Break calls gs = hand_out gs
close Continue calls gs = hand_out gs
close Return calls gs = hand_out gs

-- all gathered uses, those of the outermost statement first
abbrev pub all_uses : List (List Seen) → List Seen
all_uses gs = flat_map (λ g. g) (reverse gs)

abbrev pub step : Reading → Event → Reading
step r (Use l) = let seen = seen_after r.writes l in
    record r { place = r.place + 1; open_uses = gather seen r.open_uses; reads = r.reads ++ start_read seen ByUse }
step r (Place l) = record r { place = r.place + 1; reads = r.reads ++ start_read (seen_after r.writes l) ByPlace }
step r (Write l) =
    record r { place = r.place + 1; writes = r.writes ++ (record { place = r.place; location = l; uses = all_uses r.open_uses }) ∷ [] }
step r Open = record r { place = r.place + 1; open_uses = [] ∷ r.open_uses }
step r (Close how) = record r { place = r.place + 1; open_uses = close how r.calls r.open_uses }
step r CallIn = record r { place = r.place + 1; calls = r.calls + 1 }
step r CallOut = record r { place = r.place + 1; calls = r.calls - 1 }

abbrev pub reading_of : List Event → Reading
reading_of events = fold step start events

-- what is kept of a run with these events
abbrev pub summary_of : List Event → Summary
summary_of events = let r = reading_of events in record { reads = r.reads; writes = r.writes }

-- ---- events at places

abbrev pub IsAt : List Event → ℕ → Event → Type 0
IsAt events place event = slice_get events place ≡ Some event

abbrev pub read_event : Loc → ReadHow → Event
read_event l ByUse = Use l
read_event l ByPlace = Place l

-- at the place stands a read of the location, in this way, and at no earlier place a write of it
abbrev pub IsReadBeforeWrite : List Event → Loc → ReadHow → ℕ → Type 0
IsReadBeforeWrite events l how place = IsAt events place (read_event l how) × ((earlier : ℕ) → earlier < place → IsAt events earlier (Write l) → ⊥)

-- ---- reads of what stood before the run

-- the run read the location, in this way, before it wrote it
abbrev pub IsStartRead : List Event → Loc → ReadHow → Type 0
IsStartRead events l how = Contains (summary_of events).reads (record { location = l; how = how })

-- the run used the location before it wrote it
abbrev pub IsStartUse : List Event → Loc → Type 0
IsStartUse events l = IsStartRead events l ByUse
