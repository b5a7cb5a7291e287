use Rattle.heap_objects.proofs.MadeLaws.{slots_of_frame}
use Rattle.heap_objects.proofs.heap.Heap.new_frame.Goals as goal

pub returns-clause-slots : goal.returns-clause-slots
returns-clause-slots c = slots_of_frame c.make.result c.args.self.now c.make.new.self _ c.in_ok-slots.slots c.args.syms.now c.in_ok-slots.ensures c.make.ensures.made c.make.ensures.object
