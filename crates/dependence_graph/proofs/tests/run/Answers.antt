use Rattle.std.proofs.Common.{◌∙◌, ◌-◌, ap, length, subst, sym, take}
use Rattle.trace_events.specs.History.{History}
use Rattle.dependence_graph.specs.Marks.{IsExact}
use Rattle.dependence_graph.proofs.Exactness.{without_last}
use Rattle.dependence_graph.proofs.tests.run.Goals as goal

pub after_run-requires-clause-before : goal.after_run-requires-clause-before
after_run-requires-clause-before c =
    subst (λ (h : History). IsExact h c.args.graph.now.stale)
    (sym (ap (λ (h : History). take (length h - 1) h) c.in_ok-add_run.ensures.ok ∙ without_last c.args.versions.now c.in_ok-kept.kept))
    c.requires
