use Rattle.std.proofs.Common.{◌≡◌, ◌≢◌, ◌∙◌, Ok, Err, rules, arith, add-one}
use Rattle.std.specs.Prelude.{Some, None}
use Rattle.interp_machine.proofs.RunsLaws.{runs_as}
use Rattle.interp_ops.specs.Equality.{equal_below}
use Rattle.interp_ops.specs.Orders.{decided_at, less_below}
use Rattle.interp_ops.proofs.OrderLaws.{first_from_done, first_from_ends, first_from_more, first_from_stops, less_deeper}
use Rattle.interp_ops.proofs.orders.+less.Goals as goal

pub less_below-returns : goal.less_below-returns
less_below-returns t c =
    runs_as _ _ c.less_with.result c.less_with.new.m (less_deeper c.args.levels c.args.a.now c.args.b.now c.args.m.now (omega arith)) c.less_with.ensures

pub first_from-returns-in_err-answer : goal.first_from-returns-in_err-answer
first_from-returns-in_err-answer t c =
    let some : c.loop-left.left ≢ 0 = omega arith in
    let same : c.from_residual.result ≡ Err c.in_err-answer.field-0.0 = search rules in
    rw same (λ real. c.loop-left.invariant.meaning ∙ first_from_stops _ _ _ _ _ _ _ some (c.in_err-answer.ensures real))

pub first_from-returns-in-Some : goal.first_from-returns-in-Some
first_from-returns-in-Some t c =
    let some : c.loop-left.left ≢ 0 = omega arith in
    let given : decided_at (equal_below c.args.levels) (less_below c.args.levels) c.args.pair.now c.loop-left.at c.loop-left.m
    ≡ (Ok (Some c.in-Some.answer), c.decided_at.new.m) = search rules in
    c.loop-left.invariant.meaning ∙ first_from_ends _ _ _ _ _ _ _ some given

pub first_from-loop-left-preserved : goal.first_from-loop-left-preserved
first_from-loop-left-preserved t c =
    let some : c.loop-left.left ≢ 0 = omega arith in
    let given : decided_at (equal_below c.args.levels) (less_below c.args.levels) c.args.pair.now c.loop-left.at c.loop-left.m ≡ (Ok None, c.decided_at.new.m) = search rules in
    record {
      meaning = c.loop-left.invariant.meaning ∙ rw add-one (first_from_more _ _ _ _ _ _ some given);
      ends = omega arith;
    }

pub first_from-returns : goal.first_from-returns
first_from-returns t c =
    let none : c.loop-left.left ≡ 0 = omega arith in
    c.loop-left.invariant.meaning ∙ first_from_done _ _ _ _ _ none
