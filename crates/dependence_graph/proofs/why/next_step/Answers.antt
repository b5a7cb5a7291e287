use Rattle.std.proofs.Common.{◌∙◌, ap, sym}
use Rattle.dependence_graph.specs.Answer.{answer_of}
use Rattle.version_store.proofs.Lawful.{ascends}
use Rattle.dependence_graph.proofs.WhySteps.{near_run, why_first, why_next}
use Rattle.dependence_graph.proofs.why.next_step.Goals as goal

pub returns-in-Some : goal.returns-in-Some
returns-in-Some c =
    c.in_ok-answer.ensures
    ∙ sym (ap (answer_of c.args.versions.now) (why_first c.args.names.now c.args.versions.now (ascends c.args.versions.now c.requires) c.args.last.0 c.args.version.now c.in-Some.dep
    (sym c.in_ok-dep.ensures ∙ c.in-Some.is)))

pub returns-in-Some-2 : goal.returns-in-Some-2
returns-in-Some-2 c =
    let h = c.args.versions.now in
    let near = sym c.in_ok-near.ensures ∙ c.in-Some-2.is in (
      near_run c.args.names.now h (ascends h c.requires) c.args.version.now c.in-Some-2.near near,
      why_next c.args.names.now h (ascends h c.requires) c.args.last.0 c.args.version.now c.in-Some-2.near (sym c.in_ok-dep.ensures ∙ c.in_default.is) near,
    )
