use Rattle.std.proofs.Common.{arith, ap, sym, subst}
use Rattle.py_line.specs.States.{Reads, all_waiting, goal_of, read_on}
use Rattle.py_line.specs.Views.{kept_of}
use Rattle.py_line.specs.Waiting.{rank}
use Rattle.py_line.proofs.Arriving.{split_arrives, none_waits}
use Rattle.py_line.proofs.phrase.onward.Goals as goal

pub returns-in-Some-clause-reads : goal.returns-in-Some-clause-reads
returns-in-Some-clause-reads c =
    subst (Reads (λ s. read_on s.0 s.1.now) c.settle.result)
    (sym (split_arrives (goal_of c.args.waiting) (goal_of c.split-outer.result.0) (all_waiting c.args.waiting) (all_waiting c.split-outer.result.0) c.split-outer.result.1 c.in-Some.frame
    c.args.rung (kept_of c.args.a, c.args.rest.now) c.split-outer.ensures.waiting c.in-Some.is c.split-outer.ensures.goal
    (let w = ap rank c.wanted-wanted.ensures in omega (arith, c.if-rank.false, c.rank.ensures, c.rank-2.ensures))))
    c.settle.ensures.reads

pub returns-in-None-clause-reads : goal.returns-in-None-clause-reads
returns-in-None-clause-reads c =
    none_waits (goal_of c.args.waiting) (all_waiting c.args.waiting) c.args.rung (kept_of c.args.a, c.args.rest.now) (c.split-outer.ensures.end c.in-None.is)
    (let w = ap rank c.wanted-wanted.ensures in omega (arith, c.if-rank.false, c.rank.ensures, c.rank-2.ensures))
