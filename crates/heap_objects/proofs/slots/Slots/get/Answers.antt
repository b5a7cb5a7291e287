use Rattle.std.proofs.Common.{ap, sym, ◌∙◌, arith}
use Rattle.heap_objects.proofs.SlotLaws.{index_found, index_none}
use Rattle.heap_objects.proofs.slots.Slots.get.Goals as goal

pub index-requires : goal.index-requires
index-requires c = let f = index_found c.self.inside.places c.self.inside.slots.items c.args.name c.in-Some.at.now c.self.invariant.places c.in-Some.ensures.value in
    omega (arith, f.within)

pub returns-in-Some : goal.returns-in-Some
returns-in-Some c =
    let f = index_found c.self.inside.places c.self.inside.slots.items c.args.name c.in-Some.at.now c.self.invariant.places c.in-Some.ensures.value in
    rw (← c.self.view_is) (rw (f.value c.index.result.now) (c.as_ref.ensures.value ∙ ap (λ p. p.1) c.index.ensures))

pub returns-in-None : goal.returns-in-None
returns-in-None c =
    let f = index_none c.self.inside.places c.self.inside.slots.items c.args.name c.self.invariant.places c.in-None.ensures.value in
    rw (← c.self.view_is) (sym f.0)
