-- What no operation takes back.
use Rattle.std.specs.Prelude.{◌≡◌, ◌≤◌, List, ◌++◌}
use Rattle.flow_base.specs.declared.event.Event.{Event}
use Rattle.heap_objects.specs.Changes.{Keeps}
use Rattle.interp_machine.specs.declared.machine.Machine.{Machine}

-- The second machine has the objects of the first with their slots, and behind its events others; no more steps are left, and the names,
-- what is open and what was printed are the same.
pub record IsLater (old new : Machine) : Type 0 where
  pub objects : Keeps old.heap new.heap
  pub events : (more : List Event) × (new.heap.events ≡ old.heap.events ++ more)
  pub left : new.left ≤ old.left
  pub names : new.names ≡ old.names
  pub depth : new.depth ≡ old.depth
  pub out : new.out ≡ old.out
