use Rattle.std.proofs.Common.{ap, ◌∙◌}
use Rattle.heap_objects.specs.State.{State, slots_at}
use Rattle.heap_objects.proofs.KeptLaws.{slots_logged, slots_of_change}
use Rattle.heap_objects.proofs.heap.Heap.store_slot.Goals as goal

pub returns-clause-slots : goal.returns-clause-slots
returns-clause-slots c = λ g.
    slots_of_change _ _ c.self-2.inside.nodes.items c.set_slot.new.nodes.items _ g.0 c.set_slot.ensures
    ∙ ap (λ (s : State). slots_at s g) (c.self-2.view_is ∙ c.in_ok-log.ensures) ∙ slots_logged c.args.self.now _ g
