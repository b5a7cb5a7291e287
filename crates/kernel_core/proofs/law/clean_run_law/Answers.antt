use Rattle.kernel_core.proofs.Shown.{clean_uses_another, clean_shown}
use Rattle.kernel_core.proofs.law.clean_run_law.Goals as goal

pub returns-clause-uses : goal.returns-clause-uses
returns-clause-uses c = clean_uses_another

pub returns-clause-reply : goal.returns-clause-reply
returns-clause-reply c = clean_shown
