use Rattle.std.proofs.Common.{◌-◌, arith}
use Rattle.dependence_graph.proofs.Passes.{stale_step}
use Rattle.dependence_graph.proofs.graph.pass_run.Goals as goal

pub returns : goal.returns
returns c =
    stale_step c.args.versions.now (c.args.run.0 - 1) c.args.run.0 (omega arith) c.args.stale.now c.in_ok-fresh.fresh
    c.mark_listed.new.marks c.mark_all.new.marks c.touched.result.now c.requires.before c.touched.ensures c.in_ok-fresh.ensures c.in_ok-mark_listed.ensures c.in_ok-mark_all.ensures
