use Rattle.kernel_cli.proofs.Logs.{stale_output, stale_uses}
use Rattle.kernel_cli.proofs.law.stale_log_law.Goals as goal

pub returns-clause-uses : goal.returns-clause-uses
returns-clause-uses c = stale_uses

pub returns-clause-replies : goal.returns-clause-replies
returns-clause-replies c = stale_output
