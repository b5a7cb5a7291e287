use Rattle.std.proofs.Common.{ap, ◌∙◌}
use Rattle.heap_objects.specs.State.{State, slots_at}
use Rattle.heap_objects.proofs.KeptLaws.{slots_logged}
use Rattle.heap_objects.proofs.heap.Heap.load_slot.Goals as goal

pub returns-clause-slots : goal.returns-clause-slots
returns-clause-slots c = λ g. ap (λ (s : State). slots_at s g) c.in_ok-read.ensures ∙ slots_logged c.args.self.now _ g
