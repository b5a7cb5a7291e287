use Rattle.std.proofs.Common.{sym, ◌∙◌, arith}
use Rattle.heap_objects.proofs.EventLaws.{entries-step, entries-end}
use Rattle.heap_objects.proofs.keying.log_entries.Goals as goal

pub loop-i-preserved : goal.loop-i-preserved
loop-i-preserved c =
    entries-step c.args.d c.args.dict.now c.loop-i.i c.in-Some.entry.now _ _ _ c.in-Some.ensures c.loop-i.invariant c.in_ok-log_entry-in-Some.ensures

pub returns : goal.returns
returns c =
    c.in_ok-push.ensures.items ∙ sym (entries-end c.args.d c.args.dict.now c.loop-i.i _ _ (omega (arith, c.len-i-end.ensures)) c.loop-i.invariant)
