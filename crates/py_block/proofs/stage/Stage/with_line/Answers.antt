use Rattle.std.proofs.Common.{subst}
use Rattle.py_block.specs.Pass.{IsRead}
use Rattle.py_block.proofs.Passing.{taken}
use Rattle.py_block.proofs.stage.Stage.with_line.Goals as goal

pub returns-in_ok-with-in-Ok : goal.returns-in_ok-with-in-Ok
returns-in_ok-with-in-Ok c =
    taken c.args.text.now c.args.tokens.now c.args.line c.args.self c.in_ok-with-in-Ok.field-0 c.in-Ok.read c.requires.within
    (subst (λ n. IsRead c.args.text.now c.args.tokens.now c.args.line n c.in-Ok.read) c.next_number-first.ensures c.in-Ok.ensures) c.in_ok-with-in-Ok.ensures
