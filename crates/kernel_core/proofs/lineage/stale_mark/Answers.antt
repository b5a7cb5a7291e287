use Rattle.std.proofs.Common.{◌∙◌, None, sym}
use Rattle.kernel_core.proofs.ReasonLaws.{mark_of_answer}
use Rattle.kernel_core.proofs.lineage.stale_mark.Goals as goal

pub returns-in_default : goal.returns-in_default
returns-in_default c =
    mark_of_answer c.args.names.now c.args.versions.now c.args.version.now None (sym c.in_default.is ∙ c.in_ok-why.ensures)
