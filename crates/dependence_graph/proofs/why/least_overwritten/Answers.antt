use Rattle.version_store.proofs.Lawful.{ascends}
use Rattle.dependence_graph.proofs.WhySteps.{overwritten_result}
use Rattle.dependence_graph.proofs.why.least_overwritten.Goals as goal

pub returns : goal.returns
returns c =
    overwritten_result c.args.names.now c.args.versions.now (ascends c.args.versions.now c.requires) c.args.last.0 c.args.version.now
    c.run-run.result.0 c.run-run.ensures c.in_ok-found.found.items c.deref.result.now c.in_ok-kept.kept.items c.deref-2.result.now
    c.deref.ensures.value c.deref-2.ensures.value c.in_ok-kept.ensures c.in_ok-found.ensures c.least_of.result c.least_of.ensures
