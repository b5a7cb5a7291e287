use Rattle.std.proofs.Common.{◌<◌, length, ap, ◌∙◌, sym}
use Rattle.std.specs.Prelude.{Option}
use Rattle.flow_base.specs.declared.numbers.Sym.{Sym}
use Rattle.heap_objects.specs.Names.{SlotList, with_slot}
use Rattle.heap_objects.specs.declared.value.Value.{Value}
use Rattle.heap_objects.proofs.SlotLaws.{AreSlots-set, name_at-slot, with_slot-at}
use Rattle.heap_objects.proofs.slots.Slots.set_at.Goals as goal

pub invariant_of-self : goal.invariant_of-self
invariant_of-self c =
    let d : Sym × Option Value = (record { 0 = 0 }, c.args.value) in
    AreSlots-set c.self.inside.places c.self.inside.slots.items c.put.new.slots.items c.args.at d c.args.value c.self.invariant (c.put.ensures d)

pub returns : goal.returns
returns c =
    let d : Sym × Option Value = (record { 0 = 0 }, c.args.value) in
    let slots : SlotList = c.self.inside.slots.items in
    let within : c.args.at < length slots = rw c.self.view_is c.requires in
    rw (← c.self.view_is) (c.put.ensures d ∙ sym (with_slot-at slots c.args.at d c.args.value c.self.invariant.distinct within)
    ∙ ap (λ (n : Sym). with_slot slots n c.args.value) (sym (name_at-slot slots c.args.at d within)))
