use Rattle.std.proofs.Common.{ap, arith, length}
use Rattle.version_store.proofs.StaysKept.{touches_zero, touches_past}
use Rattle.version_store.proofs.store.Versions.touched.Goals as goal

pub returns-then-run-eq0 : goal.returns-then-run-eq0
returns-then-run-eq0 c = touches_zero c.args.self.now c.args.run.0 c.if-run-eq0.true

pub returns-then-run-len : goal.returns-then-run-len
returns-then-run-len c = touches_past c.args.self.now c.args.run.0 (omega (arith, c.len.ensures.len, c.if-run-len.true, ap length c.self.view_is))
