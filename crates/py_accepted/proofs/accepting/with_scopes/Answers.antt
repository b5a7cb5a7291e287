use Rattle.py_accepted.proofs.AcceptedLaws.{accepted, has_node, refused}
use Rattle.py_accepted.proofs.accepting.with_scopes.Goals as goal

pub line_of-line-requires-clause-there : goal.line_of-line-requires-clause-there
line_of-line-requires-clause-there c =
    has_node c.args.text.now c.args.cell c.in-Err-At.node c.requires.spelled (rw c.in-Err-At.field-0-is at c.in-Err-At.ensures)

pub returns-in-Ok-clause-exact : goal.returns-in-Ok-clause-exact
returns-in-Ok-clause-exact c =
    let h = c.in-Ok.ensures in
    record {
      accepted = accepted c.numbered_law.ensures.same c.args.text.now c.args.cell c.requires.spelled h.0;
      numbered = c.requires.spelled.numbered;
      scopes = h.1;
    }

pub returns-in-Ok-line-clause-exact : goal.returns-in-Ok-line-clause-exact
returns-in-Ok-line-clause-exact c =
    refused c.numbered_law.ensures.same c.args.text.now c.args.cell c.requires.spelled c.in-Err-At.node c.in-Ok-line.line
    (rw c.in-Err-At.field-0-is at c.in-Err-At.ensures) c.in-Ok-line.ensures
