use Rattle.std.proofs.Common.{List, arith, sym, subst}
use Rattle.trace_events.specs.declared.version.Version.{Version}
use Rattle.trace_events.specs.History.{made_upto}
use Rattle.dependence_graph.specs.Visits.{AreGathered}
use Rattle.dependence_graph.proofs.Gathering.{gathered_all, gathered_first}
use Rattle.dependence_graph.proofs.SetLaws.{none_marked}
use Rattle.dependence_graph.proofs.gather.reached_from.Goals as goal

pub loop-left-init : goal.loop-left-init
loop-left-init c =
    subst (λ (l : List Version). AreGathered c.args.versions.now c.args.floor.0 c.args.target.now (made_upto c.args.versions.now c.min-left.result) c.mark_one.new.marks l)
    (sym c.new-found.ensures.items)
    (gathered_first c.args.versions.now c.args.floor.0 c.min-left.result c.args.target.now c.new-marks.result c.mark_one.new.marks
    (none_marked c.new-marks.result c.new-marks.ensures.empty) c.in_ok-mark_one.ensures (omega arith)
    (λ le. omega (arith, c.min-left.ensures, c.run.ensures, c.len.ensures.len)))

pub returns : goal.returns
returns c =
    gathered_all c.args.versions.now c.args.floor.0 c.loop-left.left c.args.target.now c.loop-left.marks c.loop-left.found.items
    c.loop-left-test.false c.requires.in_reach c.loop-left.invariant
