use Rattle.std.proofs.Common.{◌∙◌, ◌≤◌, ℕ, ap, inr, subst, sym}
use Rattle.trace_events.specs.History.{run_of}
use Rattle.version_store.proofs.Located.{last_writer_some, wrote_before}
use Rattle.version_store.proofs.store.Versions.last_writer.Goals as goal

pub returns-in-Some-current-clause-writer : goal.returns-in-Some-current-clause-writer
returns-in-Some-current-clause-writer c = inr
    (last_writer_some c.args.self.now c.args.v.now c.in-Some.location.now c.in-Some-current.run' c.in-Some-current.field-0-1 (sym c.in-Some.ensures) c.in-Some-current.ensures)

pub returns-in-Some-current-clause-last : goal.returns-in-Some-current-clause-last
returns-in-Some-current-clause-last c = λ m t.
    subst (λ (n : ℕ). m ≤ n) (ap run_of c.in-Some-current.ensures) (wrote_before c.args.self.now c.args.v.now c.in-Some.location.now m (sym c.in-Some.ensures) t)

pub returns-in-None-current-clause-last : goal.returns-in-None-current-clause-last
returns-in-None-current-clause-last c = λ m t.
    subst (λ (n : ℕ). m ≤ n) (ap run_of c.in-None-current.ensures) (wrote_before c.args.self.now c.args.v.now c.in-Some.location.now m (sym c.in-Some.ensures) t)
