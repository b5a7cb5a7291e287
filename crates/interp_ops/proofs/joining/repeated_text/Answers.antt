use Rattle.std.proofs.Common.{◌≢◌, ◌∙◌, rules, arith}
use Rattle.interp_ops.proofs.Repeating.{repeated_more, repeated_turns}
use Rattle.interp_ops.proofs.joining.repeated_text.Goals as goal

pub loop-left-preserved : goal.loop-left-preserved
loop-left-preserved c =
    let some : c.loop-left.left ≢ 0 = omega arith in
    repeated_more c.loop-left.left _ _ _ some c.in_ok-all.ensures ∙ c.loop-left.invariant

pub returns : goal.returns
returns c = search (rules, repeated_turns)
