use Rattle.std.proofs.Common.{◌-◌, ℕ, arith, length, subst, sym}
use Rattle.trace_events.specs.History.{made_upto}
use Rattle.trace_events.specs.Staleness.{Stale}
use Rattle.dependence_graph.specs.Marks.{MarksExactly}
use Rattle.dependence_graph.proofs.Exactness.{exact_after, pass_from_exact}
use Rattle.version_store.proofs.Lawful.{ascends}
use Rattle.dependence_graph.proofs.graph.Graph.after_run.Goals as goal

pub pass_run-requires-clause-before : goal.pass_run-requires-clause-before
pass_run-requires-clause-before c =
    subst (λ (n : ℕ). MarksExactly (made_upto c.args.versions.now (n - 1)) (Stale c.args.versions.now (n - 1)) c.args.self.now.stale) (sym c.len.ensures.len)
    (pass_from_exact c.args.versions.now (ascends c.args.versions.now c.len.ensures.lawful) (length c.args.versions.now - 1) (omega arith) c.args.self.now.stale c.requires.before)

pub returns : goal.returns
returns c =
    exact_after c.args.versions.now (ascends c.args.versions.now c.len.ensures.lawful) c.len.result c.len.ensures.len c.pass_run.result c.pass_run.new.stale c.pass_run.ensures
