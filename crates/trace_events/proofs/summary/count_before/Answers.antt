use Rattle.std.proofs.Common.{◌+◌, ◌-◌, ◌/◌, ◌<◌, length, arith}
use Rattle.trace_events.proofs.Writes.{more_before}
use Rattle.trace_events.proofs.summary.count_before.Goals as goal

pub loop-low-preserved-then-writes-middle : goal.loop-low-preserved-then-writes-middle
loop-low-preserved-then-writes-middle c =
    let inside : c.loop-low.low + (c.loop-low.high - c.loop-low.low) / 2 < length c.args.writes.now =
    omega (arith, c.loop-low.invariant.ordered, c.loop-low.invariant.within, c.loop-low-test.true) in
    record {
      ordered = omega (arith, c.loop-low-test.true);
      within = c.loop-low.invariant.within;
      rest = more_before c.args.writes.now (c.loop-low.low + (c.loop-low.high - c.loop-low.low) / 2) c.args.place
          c.index-writes-middle.result c.requires inside c.if-writes-middle.true;
      next = c.loop-low.invariant.next;
    }
