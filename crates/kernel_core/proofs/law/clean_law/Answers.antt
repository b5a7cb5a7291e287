use Rattle.kernel_core.proofs.CleanRuns.{clean_has_no_stale_use, clean_leaves_no_stale, clean_names_no_stale}
use Rattle.kernel_core.proofs.law.clean_law.Goals as goal

pub returns-clause-uses : goal.returns-clause-uses
returns-clause-uses c = λ log b steps m. clean_has_no_stale_use log steps b m

pub returns-clause-leaves : goal.returns-clause-leaves
returns-clause-leaves c = λ log b steps m. clean_leaves_no_stale log steps b m

pub returns-clause-names : goal.returns-clause-names
returns-clause-names c = λ log b steps m. clean_names_no_stale log steps b m
