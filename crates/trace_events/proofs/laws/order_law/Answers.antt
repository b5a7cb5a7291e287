use Rattle.trace_events.proofs.ExactOrder.{exact_version}
use Rattle.trace_events.proofs.TotalOrder.{version_total}
use Rattle.trace_events.proofs.laws.order_law.Goals as goal

pub returns-clause-total : goal.returns-clause-total
returns-clause-total c = version_total

pub returns-clause-exact : goal.returns-clause-exact
returns-clause-exact c = exact_version
