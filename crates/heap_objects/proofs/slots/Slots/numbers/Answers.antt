use Rattle.std.proofs.Common.{ap, ◌∙◌, sym, nat_cmp}
use Rattle.std.specs.BTreeMap.{get}
use Rattle.std.specs.List.{list_any}
use Rattle.std.specs.Ordering.{eq_by_cmp}
use Rattle.std.specs.Option.{is_some}
use Rattle.heap_objects.specs.Names.{slot_value}
use Rattle.heap_objects.proofs.SlotLaws.{index_has}
use Rattle.heap_objects.proofs.SymbolLaws.{numbers_are}
use Rattle.heap_objects.proofs.slots.Slots.numbers.Goals as goal

pub returns : goal.returns
returns c =
    let places = c.self.inside.places in
    rw (← c.self.view_is) (numbers_are c.in_ok-numbers.numbers.items (slot_value c.self.inside.slots.items) (λ q. is_some (get nat_cmp places q))
    (rw c.in_ok-numbers.ensures.keys c.in_ok-numbers.ensures.ordered) (λ q. c.in_ok-numbers.ensures.all q ∙ ap (list_any (eq_by_cmp nat_cmp q)) (sym c.in_ok-numbers.ensures.keys))
    (λ n h. index_has places c.self.inside.slots.items n c.self.invariant.places h))
