use Rattle.trace_events.proofs.Ancestors.{ancestor_itself, ancestor_older, ancestor_none, writes_ascend}
use Rattle.trace_events.specs.History.{history_of}
use Rattle.trace_events.proofs.laws.ancestors_law.Goals as goal

pub returns-clause-not_itself : goal.returns-clause-not_itself
returns-clause-not_itself c = λ traces v a. ancestor_itself (history_of traces) (writes_ascend traces) v a

pub returns-clause-older : goal.returns-clause-older
returns-clause-older c = λ traces v u a. ancestor_older (history_of traces) (writes_ascend traces) a

pub returns-clause-none : goal.returns-clause-none
returns-clause-none c = λ traces v u e a. ancestor_none (history_of traces) e a
