use Rattle.std.proofs.Common.{◌+◌, arith}
use Rattle.trace_events.specs.Decided.{count_of_writes}
use Rattle.trace_events.specs.History.{history_of, run_of}
use Rattle.trace_events.proofs.Ancestors.{writes_ascend}
use Rattle.trace_events.proofs.Reached.{ancestor_listed, near_listed, near_within_near, reached_ancestor}
use Rattle.trace_events.proofs.StaleTest.{stale_within_true, true_stale_within}
use Rattle.trace_events.proofs.laws.decided_law.Goals as goal

pub returns-clause-ancestors : goal.returns-clause-ancestors
returns-clause-ancestors c = λ traces v u.
    (λ m. reached_ancestor (history_of traces) (count_of_writes (history_of traces)) v u m, λ a. ancestor_listed (history_of traces) (writes_ascend traces) a)

pub returns-clause-near : goal.returns-clause-near
returns-clause-near c = λ traces v u.
    (λ m. near_within_near (history_of traces) (count_of_writes (history_of traces)) v u m, λ n. near_listed (history_of traces) (writes_ascend traces) n)

pub returns-clause-stale : goal.returns-clause-stale
returns-clause-stale c = λ traces n v.
    (λ t. stale_within_true (history_of traces) (writes_ascend traces) (run_of v + 1) n v t, λ s. true_stale_within (history_of traces) (writes_ascend traces) (run_of v + 1) (omega arith) s)
