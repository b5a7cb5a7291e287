use Rattle.std.proofs.Common.{◌+◌, arith}
use Rattle.trace_events.specs.History.{history_of}
use Rattle.trace_events.proofs.StepLaw.{stale_none, stale_kept, stale_own, own_stale, stale_next, next_stale}
use Rattle.std.proofs.Common.{refl}
use Rattle.trace_events.proofs.laws.staleness_law.Goals as goal

pub returns-clause-none : goal.returns-clause-none
returns-clause-none c = λ traces n v e s. stale_none (history_of traces) e s

pub returns-clause-stays : goal.returns-clause-stays
returns-clause-stays c = λ traces n v s. stale_kept (history_of traces) n (n + 1) (omega arith) s

pub returns-clause-own_run : goal.returns-clause-own_run
returns-clause-own_run c = λ traces n v r. (λ s. stale_own (history_of traces) n r s, λ s. own_stale (history_of traces) n v r s)

pub returns-clause-next_run : goal.returns-clause-next_run
returns-clause-next_run c = λ traces n v le. (λ s. stale_next (history_of traces) n (n + 1) refl s, λ s. next_stale (history_of traces) n v le s)
