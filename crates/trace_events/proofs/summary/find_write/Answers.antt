use Rattle.std.proofs.Common.{◌<◌, length, arith}
use Rattle.trace_events.proofs.Writes.{found_write, lacked_write, no_write_left}
use Rattle.trace_events.proofs.summary.find_write.Goals as goal

pub returns-then-index-writes : goal.returns-then-index-writes
returns-then-index-writes c = no_write_left c.args.writes.now c.count_before-index.result c.args.place (omega arith) c.count_before-index.ensures.rest

pub returns-then-writes-index : goal.returns-then-writes-index
returns-then-writes-index c =
    let inside : c.count_before-index.result < length c.args.writes.now = omega arith in (
      inside,
      found_write c.args.writes.now c.count_before-index.result c.args.place c.index-writes-index.result inside
          c.if-writes-index.true c.count_before-index.ensures.rest,
    )

pub returns-else-writes-index : goal.returns-else-writes-index
returns-else-writes-index c =
    let inside : c.count_before-index.result < length c.args.writes.now = omega arith in
    lacked_write c.args.writes.now c.count_before-index.result c.args.place c.index-writes-index.result c.requires inside
    c.if-writes-index.false (c.count_before-index.ensures.next c.index-writes-index.result inside) c.count_before-index.ensures.rest
