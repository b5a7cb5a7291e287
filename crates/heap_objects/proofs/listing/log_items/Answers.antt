use Rattle.std.proofs.Common.{◌≡◌, ◌++◌, ◌∷◌, [], arith}
use Rattle.std.proofs.lemmas.Grind.{common_steps}
use Rattle.flow_base.specs.declared.event.Event.TheVariants.{Write}
use Rattle.heap_objects.specs.State.{item}
use Rattle.heap_objects.proofs.EventLaws.{writes-step}
use Rattle.heap_objects.proofs.listing.log_items.Goals as goal

pub loop-i-preserved : goal.loop-i-preserved
loop-i-preserved c =
    let pushed : c.push.new.self.items ≡ c.loop-i.events.items ++ Write (item c.args.o c.loop-i.i) ∷ [] = grind (arith, common_steps) in
    writes-step c.args.o c.loop-i.i c.args.to _ _ _ (omega arith) c.loop-i.invariant pushed
