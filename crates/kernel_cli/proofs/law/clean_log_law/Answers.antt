use Rattle.kernel_cli.proofs.Logs.{clean_output, clean_uses}
use Rattle.kernel_cli.proofs.law.clean_log_law.Goals as goal

pub returns-clause-uses : goal.returns-clause-uses
returns-clause-uses c = clean_uses

pub returns-clause-replies : goal.returns-clause-replies
returns-clause-replies c = clean_output
