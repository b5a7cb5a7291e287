use Rattle.std.proofs.Common.{◌<◌, length, ap, ◌∙◌, sym}
use Rattle.heap_objects.specs.Names.{SlotList, slot_value}
use Rattle.heap_objects.proofs.SlotLaws.{name_at-slot, slot_value-at}
use Rattle.heap_objects.proofs.slots.Slots.value.Goals as goal

pub returns : goal.returns
returns c =
    let slots : SlotList = c.self.inside.slots.items in
    let d = c.index.result.now in
    let within : c.args.at < length slots = rw c.self.view_is c.requires in
    rw (← c.self.view_is) (c.as_ref.ensures.value ∙ ap (λ p. p.1) c.index.ensures ∙ sym (slot_value-at slots c.args.at d c.self.invariant.distinct within)
    ∙ ap (slot_value slots) (sym (name_at-slot slots c.args.at d within)))
