use Rattle.std.proofs.Common.{arith}
use Rattle.heap_objects.proofs.StartLaws.{below_middle, above_middle}
use Rattle.heap_objects.proofs.starts.before.Goals as goal

pub loop-low-preserved-then-starts-middle : goal.loop-low-preserved-then-starts-middle
loop-low-preserved-then-starts-middle c = record {
  order = omega arith;
  within = c.loop-low.invariant.within;
  below = below_middle c.args.starts.now c.args.object _ (record { 0 = 0 }, 0) c.requires (omega arith) c.if-starts-middle.true;
  above = c.loop-low.invariant.above;
}

pub loop-low-preserved : goal.loop-low-preserved
loop-low-preserved c = record {
  order = omega arith;
  within = omega arith;
  below = c.loop-low.invariant.below;
  above = above_middle c.args.starts.now c.args.object _ (record { 0 = 0 }, 0) c.requires c.if-starts-middle.false;
}
