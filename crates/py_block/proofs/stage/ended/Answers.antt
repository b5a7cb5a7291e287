use Rattle.std.proofs.Common.{subst, Ok}
use Rattle.py_block.specs.Opened.{IsEnded}
use Rattle.py_block.proofs.Passing.{ended_some}
use Rattle.py_block.proofs.stage.ended.Goals as goal

pub returns-in-Some : goal.returns-in-Some
returns-in-Some c =
    ended_some c.args.last c.args.levels c.in-Some.cell c.requires
    (subst (λ z. IsEnded c.args.levels (Ok z)) c.in-Some.is c.in_ok-cell.ensures)
