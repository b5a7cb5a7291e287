use Rattle.std.proofs.Common.{◌≡◌, ◌<◌, ◌∙◌, List, ap, get_or, length, subst}
use Rattle.trace_events.specs.declared.summary.Write.{Write}
use Rattle.version_store.proofs.Held.{found_at, hold_step}
use Rattle.version_store.proofs.followers.hold.Goals as goal

pub loop-i-preserved : goal.loop-i-preserved
loop-i-preserved c =
    let ws = c.args.s.now.writes in
    let i = c.loop-i.i in
    let x = c.other-item.result in
    let lt : i < length ws = subst (λ (ys : List Write). i < length ys) c.writes-other-items.ensures.writes c.loop-i-test.true in
    let is : x ≡ get_or ws i x = c.other-item.is ∙ ap (λ (ys : List Write). get_or ys i x) c.writes-other-items.ensures.writes in
    hold_step c.args.runs.now c.args.s.now c.args.reached.now c.args.write.now ws i x c.at.result.now
    c.args.held.now.items c.loop-i.held.items c.push_if.new.held.items c.rests-test.result lt is
    (c.at.ensures ∙ found_at c.args.runs.now c.args.run.0 i ws c.args.found.now x c.requires.next c.requires.found lt is)
    c.rests-test.ensures c.loop-i.invariant c.in_ok-push_if.ensures
