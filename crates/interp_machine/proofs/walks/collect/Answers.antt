use Rattle.std.proofs.Common.{◌≡◌, ◌≢◌, ◌∙◌, Some, Ok, rules, arith}
use Rattle.interp_machine.specs.Walks.{next}
use Rattle.interp_machine.proofs.WalkLaws.{gather_more}
use Rattle.interp_machine.proofs.walks.collect.Goals as goal

pub loop-turns-preserved : goal.loop-turns-preserved
loop-turns-preserved c =
    let some : c.loop-turns.turns ≢ 0 = omega arith in
    let given : next c.loop-turns.rest c.loop-turns.m ≡ (Ok (Some c.in-Some.v, c.in_ok-part.after), c.next.new.m) = search rules in
    c.loop-turns.invariant ∙ gather_more c.loop-turns.turns _ _ _ _ c.in-Some.v _ _ some given c.in_ok-push-in-Some.ensures.items
