use Rattle.std.proofs.Common.{◌<◌, ◌∙◌, List, ap, get_or, length, subst}
use Rattle.trace_events.specs.declared.summary.Write.{Write}
use Rattle.version_store.proofs.Held.{follows_next}
use Rattle.version_store.proofs.followers.follow_run.Goals as goal

pub loop-write-preserved : goal.loop-write-preserved
loop-write-preserved c =
    let ws = c.args.s.now.writes in
    let i = c.loop-write.write-index in
    let w = c.write-item.result in
    follows_next c.args.runs.now c.args.s.now c.args.followers.now.held.items ws i w
    c.loop-write.followed.held.items c.follow_write.new.followed.held.items c.loop-write.followed.touched.items c.follow_write.new.followed.touched.items
    (subst (λ (ys : List Write). i < length ys) c.writes-write-items.ensures.writes c.loop-write-test.true)
    (c.write-item.is ∙ ap (λ (ys : List Write). get_or ys i w) c.writes-write-items.ensures.writes)
    c.loop-write.invariant c.in_ok-follow_write.ensures
