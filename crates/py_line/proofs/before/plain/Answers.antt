use Rattle.std.proofs.Common.{sym, ap, ◌∙◌}
use Rattle.py_line.specs.States.{goal_of, all_waiting}
use Rattle.py_line.specs.Views.{params_of}
use Rattle.py_line.specs.Waiting.{between}
use Rattle.py_line.proofs.Beginning.{plain_goes}
use Rattle.py_line.proofs.before.plain.Goals as goal

pub returns-clause-reads : goal.returns-clause-reads
returns-clause-reads c =
    plain_goes (goal_of c.args.waiting) (all_waiting c.args.waiting) c.args.rest.now (params_of c.args.s) c.args.x (sym c.is_none.ensures ∙ c.if-not-is_none.false)
    ∙ ap (λ s. between (goal_of c.args.waiting) (all_waiting c.args.waiting) (s, c.args.rest.now)) (sym c.in_ok-with_name.ensures)
