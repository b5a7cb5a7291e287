use Rattle.std.proofs.Common.{◌≡◌, ◌≢◌, ◌∙◌, true, false, Ok, Err, rules, arith, add-one}
use Rattle.interp_machine.proofs.RunsLaws.{runs_as}
use Rattle.interp_ops.specs.Equality.{equal_below, equal_place, equal_sides}
use Rattle.interp_ops.proofs.EqualLaws.{all_from_done, all_from_fails, all_from_more, all_from_stops, deeper}
use Rattle.interp_ops.proofs.equality.+equal.Goals as goal

pub equal_below-returns : goal.equal_below-returns
equal_below-returns t c =
    runs_as _ _ c.equal_with.result c.equal_with.new.m (deeper c.args.levels c.args.a.now c.args.b.now c.args.m.now (omega arith)) c.equal_with.ensures

pub equal_entries-returns-in_err-equal_place : goal.equal_entries-returns-in_err-equal_place
equal_entries-returns-in_err-equal_place t c =
    let some : c.loop-left.left ≢ 0 = omega arith in
    let same : c.from_residual.result ≡ Err c.in_err-equal_place.field-0.0 = search rules in
    rw same (λ real. c.loop-left.invariant.meaning ∙ all_from_stops _ _ _ _ _ _ some (c.in_err-equal_place.ensures real))

pub equal_entries-returns-then-not-branch : goal.equal_entries-returns-then-not-branch
equal_entries-returns-then-not-branch t c =
    let some : c.loop-left.left ≢ 0 = omega arith in
    let given : equal_place (equal_below c.args.levels) c.args.d c.args.e c.loop-left.at c.loop-left.m ≡ (Ok false, c.equal_place.new.m) = search rules in
    c.loop-left.invariant.meaning ∙ all_from_fails _ _ _ _ _ some given

pub equal_entries-loop-left-preserved : goal.equal_entries-loop-left-preserved
equal_entries-loop-left-preserved t c =
    let some : c.loop-left.left ≢ 0 = omega arith in
    let given : equal_place (equal_below c.args.levels) c.args.d c.args.e c.loop-left.at c.loop-left.m ≡ (Ok true, c.equal_place.new.m) = search rules in
    record {
      meaning = c.loop-left.invariant.meaning ∙ rw add-one (all_from_more _ _ _ _ _ some given);
      ends = omega arith;
    }

pub equal_entries-returns : goal.equal_entries-returns
equal_entries-returns t c =
    let none : c.loop-left.left ≡ 0 = omega arith in
    c.loop-left.invariant.meaning ∙ all_from_done _ _ _ _ none

pub equal_from-returns-in_err-equal_sides : goal.equal_from-returns-in_err-equal_sides
equal_from-returns-in_err-equal_sides t c =
    let some : c.loop-left.left ≢ 0 = omega arith in
    let same : c.from_residual.result ≡ Err c.in_err-equal_sides.field-0.0 = search rules in
    rw same (λ real. c.loop-left.invariant.meaning ∙ all_from_stops _ _ _ _ _ _ some (c.in_err-equal_sides.ensures real))

pub equal_from-returns-then-not-branch : goal.equal_from-returns-then-not-branch
equal_from-returns-then-not-branch t c =
    let some : c.loop-left.left ≢ 0 = omega arith in
    let given : equal_sides (equal_below c.args.levels) c.args.pair.now c.loop-left.at c.loop-left.m ≡ (Ok false, c.equal_sides.new.m) = search rules in
    c.loop-left.invariant.meaning ∙ all_from_fails _ _ _ _ _ some given

pub equal_from-loop-left-preserved : goal.equal_from-loop-left-preserved
equal_from-loop-left-preserved t c =
    let some : c.loop-left.left ≢ 0 = omega arith in
    let given : equal_sides (equal_below c.args.levels) c.args.pair.now c.loop-left.at c.loop-left.m ≡ (Ok true, c.equal_sides.new.m) = search rules in
    record {
      meaning = c.loop-left.invariant.meaning ∙ rw add-one (all_from_more _ _ _ _ _ some given);
      ends = omega arith;
    }

pub equal_from-returns : goal.equal_from-returns
equal_from-returns t c =
    let none : c.loop-left.left ≡ 0 = omega arith in
    c.loop-left.invariant.meaning ∙ all_from_done _ _ _ _ none
