use Rattle.std.proofs.Common.{◌+◌, arith}
use Rattle.std.specs.Prelude.{is_some}
use Rattle.std.proofs.lemmas.Bool.Decides.{same_from_decides}
use Rattle.trace_events.specs.Decided.{is_stale}
use Rattle.trace_events.specs.History.{history_of, run_of}
use Rattle.trace_events.specs.Why.{why_of}
use Rattle.trace_events.proofs.Ancestors.{writes_ascend}
use Rattle.trace_events.proofs.Reasons.{reason_says, reason_stale, stale_reason}
use Rattle.trace_events.proofs.StaleTest.{stale_within_true, true_stale_within}
use Rattle.trace_events.proofs.laws.why_law.Goals as goal

pub returns-clause-some : goal.returns-clause-some
returns-clause-some c = λ names traces n v.
    same_from_decides (is_some (why_of names (history_of traces) n v)) (is_stale (history_of traces) n v)
    (λ t. reason_stale names (history_of traces) (writes_ascend traces) (run_of v + 1) n v t, λ s. stale_reason names (history_of traces) (writes_ascend traces) (run_of v + 1) n v (omega arith) s)
    (λ t. stale_within_true (history_of traces) (writes_ascend traces) (run_of v + 1) n v t, λ s. true_stale_within (history_of traces) (writes_ascend traces) (run_of v + 1) (omega arith) s)

pub returns-clause-least : goal.returns-clause-least
returns-clause-least c = λ names traces n v reason e. reason_says names (history_of traces) (writes_ascend traces) (run_of v + 1) n v reason e
