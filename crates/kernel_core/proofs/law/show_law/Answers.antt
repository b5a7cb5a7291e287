use Rattle.std.proofs.Common.{ap, sym, ◌∙◌}
use Rattle.kernel_core.specs.Answer.{shown}
use Rattle.kernel_core.proofs.ShowLaws.{accepted_again}
use Rattle.kernel_core.proofs.law.show_law.Goals as goal

pub returns-clause-again : goal.returns-clause-again
returns-clause-again c = accepted_again c.accepted_law.ensures.cell c.cell_law.ensures.sound c.print_law.ensures.parsed_again

pub returns-clause-same : goal.returns-clause-same
returns-clause-same c = λ cell text b e names.
    ap (shown cell) (accepted_again c.accepted_law.ensures.cell c.cell_law.ensures.sound c.print_law.ensures.parsed_again text b e names ∙ sym e)
