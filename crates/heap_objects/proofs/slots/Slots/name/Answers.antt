use Rattle.std.proofs.Common.{◌<◌, length, ap, ◌∙◌, sym}
use Rattle.heap_objects.specs.Names.{SlotList}
use Rattle.heap_objects.proofs.SlotLaws.{name_at-slot}
use Rattle.heap_objects.proofs.slots.Slots.name.Goals as goal

pub returns : goal.returns
returns c =
    let slots : SlotList = c.self.inside.slots.items in
    let within : c.args.at < length slots = rw c.self.view_is c.requires in
    rw (← c.self.view_is) (ap (λ p. p.0) c.index.ensures ∙ sym (name_at-slot slots c.args.at c.index.result.now within))
