use Rattle.std.proofs.Common.{◌≡◌, take, length, sym, subst, ap, ◌∙◌, arith, length-take}
use Rattle.trace_events.specs.Lawful.{IsAscendingFrom}
use Rattle.trace_events.specs.Trace.{Reading}
use Rattle.trace_events.proofs.Reading.{reading_of-ascending, reading_of-length}
use Rattle.trace_events.proofs.reader.summarize.Goals as goal

pub read-requires : goal.read-requires
read-requires c =
    let place : c.loop-event.reader.place ≡ length (take c.loop-event.event-index c.args.events.now) =
    ap (λ (r : Reading). r.place) c.loop-event.invariant ∙ reading_of-length (take c.loop-event.event-index c.args.events.now) in
    omega (arith, place, length-take c.loop-event.event-index c.args.events.now)

pub finish-requires : goal.finish-requires
finish-requires c =
    subst (λ (r : Reading). IsAscendingFrom 0 r.writes) (sym c.loop-event.invariant) (reading_of-ascending (take c.loop-event.event-index c.args.events.now))
