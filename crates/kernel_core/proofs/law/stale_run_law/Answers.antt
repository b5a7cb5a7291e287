use Rattle.kernel_core.proofs.Shown.{stale_uses_outdated, stale_shown}
use Rattle.kernel_core.proofs.law.stale_run_law.Goals as goal

pub returns-clause-uses : goal.returns-clause-uses
returns-clause-uses c = stale_uses_outdated

pub returns-clause-reply : goal.returns-clause-reply
returns-clause-reply c = stale_shown
