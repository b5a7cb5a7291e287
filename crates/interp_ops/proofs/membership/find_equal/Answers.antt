use Rattle.std.proofs.Common.{◌≡◌, ◌≢◌, ◌∙◌, false, Some, Ok, rules, arith}
use Rattle.interp_machine.specs.Walks.{next}
use Rattle.interp_machine.proofs.RunsLaws.{runs_as}
use Rattle.interp_ops.specs.Equality.{equal}
use Rattle.interp_ops.specs.Operators.{find_equal}
use Rattle.interp_ops.proofs.FoundLaws.{found_more, found_err}
use Rattle.interp_ops.proofs.membership.find_equal.Goals as goal

pub returns-in_err-part_equal-in-Some : goal.returns-in_err-part_equal-in-Some
unfolding find_equal
returns-in_err-part_equal-in-Some c =
    let some : c.loop-turns.turns ≢ 0 = omega arith in
    let given : next c.loop-turns.rest c.loop-turns.m ≡ (Ok (Some c.in-Some.x, c.in_ok-part.after), c.next.new.m) = search rules in
    let all = found_err c.args.v.now c.in-Some.x c.loop-turns.turns _ _ _ _ c.part_equal.new.m c.in_err-part_equal-in-Some.field-0.0 some given in
    runs_as _ _ _ _ c.loop-turns.invariant (search (rules, all))

pub loop-turns-preserved : goal.loop-turns-preserved
loop-turns-preserved c =
    let some : c.loop-turns.turns ≢ 0 = omega arith in
    let given : next c.loop-turns.rest c.loop-turns.m ≡ (Ok (Some c.in-Some.x, c.in_ok-part.after), c.next.new.m) = search rules in
    let other : equal c.in-Some.x c.args.v.now c.next.new.m ≡ (Ok false, c.part_equal.new.m) = search rules in
    c.loop-turns.invariant ∙ found_more _ c.in-Some.x c.loop-turns.turns _ _ _ _ _ some given other
