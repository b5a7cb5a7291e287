use Rattle.kernel_cli.proofs.Covered.{is_covered}
use Rattle.kernel_cli.proofs.serve.ipyflow.Goals as goal

pub returns-in-Some-Run-clause-clean : goal.returns-in-Some-Run-clause-clean
returns-in-Some-Run-clause-clean g c = is_covered c.clean_reply_law.ensures _ _
