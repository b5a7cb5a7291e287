use Rattle.std.proofs.Common.{◌∙◌, arith, sym}
use Rattle.dependence_graph.proofs.WhySteps.{none_after, overwrite_next}
use Rattle.dependence_graph.proofs.why.first_overwrite.Goals as goal

pub loop-before-preserved : goal.loop-before-preserved
loop-before-preserved c =
    sym (overwrite_next c.args.versions.now c.loop-before.before c.args.last.0 c.args.version.now (omega (arith, c.loop-before-test.true, c.min-upto.ensures)) (sym c.wrote.ensures ∙ c.if-wrote.false))
    ∙ c.loop-before.invariant

pub returns : goal.returns
returns c = sym (none_after c.args.versions.now c.loop-before.before c.args.last.0 c.min-upto.result c.last_writer.result.0 c.args.version.now
    c.min-upto.ensures c.loop-before-test.false c.last_writer.ensures.last) ∙ c.loop-before.invariant
