use Rattle.std.proofs.Common.{◌≡◌, take}
use Rattle.heap_objects.specs.Names.{new_slots}
use Rattle.heap_objects.specs.Places.{ArePlaces}
use Rattle.heap_objects.proofs.slots.Slots.new.Given as goal

abbrev pub invariant-loop-i : goal.invariant-loop-i
invariant-loop-i l = record { slots : l.slots.items ≡ new_slots (take l.i l.names); places : ArePlaces l.places l.slots.items }
