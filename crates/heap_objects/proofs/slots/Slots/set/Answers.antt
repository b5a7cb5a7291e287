use Rattle.std.proofs.Common.{◌∙◌, sym, arith}
use Rattle.std.specs.Prelude.{Option}
use Rattle.flow_base.specs.declared.numbers.Sym.{Sym}
use Rattle.heap_objects.specs.declared.value.Value.{Value}
use Rattle.heap_objects.proofs.SlotLaws.{AreSlots-set, index_found, index_none}
use Rattle.heap_objects.proofs.slots.Slots.set.Goals as goal

pub put-requires : goal.put-requires
put-requires c = let f = index_found c.self.inside.places c.self.inside.slots.items c.args.name c.in-Some.at.now c.self.invariant.places c.in-Some.ensures.value in
    omega (arith, f.within)

pub invariant_of-self : goal.invariant_of-self
invariant_of-self c =
    let d : Sym × Option Value = (c.args.name, c.args.value) in
    AreSlots-set c.self.inside.places c.self.inside.slots.items c.put.new.slots.items c.in-Some.at.now d c.args.value c.self.invariant (c.put.ensures d)

pub returns-in-Some : goal.returns-in-Some
returns-in-Some c =
    let f = index_found c.self.inside.places c.self.inside.slots.items c.args.name c.in-Some.at.now c.self.invariant.places c.in-Some.ensures.value in
    let d : Sym × Option Value = (c.args.name, c.args.value) in
    rw (← c.self.view_is) (c.put.ensures d ∙ sym (f.written d c.args.value))

pub returns-in-None : goal.returns-in-None
returns-in-None c =
    let f = index_none c.self.inside.places c.self.inside.slots.items c.args.name c.self.invariant.places c.in-None.ensures.value in
    rw (← c.self.view_is) (sym (f.1 c.args.value))
