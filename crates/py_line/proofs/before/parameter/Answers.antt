use Rattle.std.proofs.Common.{sym, ap, ◌∙◌, subst}
use Rattle.py_line.specs.States.{Reads, goal_of, all_waiting, read_from}
use Rattle.py_line.specs.Views.{params_of}
use Rattle.py_line.specs.Waiting.{onward, plain_after}
use Rattle.py_line.specs.declared.frame.Rung.TheVariants as r
use Rattle.py_line.proofs.Beginning.{plain_next}
use Rattle.py_line.proofs.before.parameter.Goals as goal

pub returns-in_ok-copy-in-None-clause-reads : goal.returns-in_ok-copy-in-None-clause-reads
returns-in_ok-copy-in-None-clause-reads c =
    subst (Reads (λ s. read_from s.0 s.1.now) c.plain.result)
    (ap (λ x. onward (goal_of c.args.waiting) (all_waiting c.args.waiting) r.Expr (plain_after (params_of c.args.s) x c.in-Some.rest.now)) c.in_ok-copy-in-None.ensures
    ∙ sym (plain_next (goal_of c.args.waiting) (all_waiting c.args.waiting) c.args.tokens.now (params_of c.args.s) c.in-Some.x.now c.in-Some.rest.now
    (sym c.in-Some.ensures) (sym c.in-None.ensures)))
    c.plain.ensures.reads
