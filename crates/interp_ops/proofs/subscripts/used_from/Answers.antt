use Rattle.std.proofs.Common.{◌≡◌, ◌≢◌, ◌∙◌, Ok, rules, arith}
use Rattle.heap_objects.specs.State.{item}
use Rattle.interp_machine.specs.Meaning.{load, steps}
use Rattle.interp_ops.proofs.UsedLaws.{used_more}
use Rattle.interp_ops.proofs.subscripts.used_from.Goals as goal

pub loop-left-preserved : goal.loop-left-preserved
loop-left-preserved c =
    let some : c.loop-left.left ≢ 0 = omega arith in
    let given : load (item c.args.o c.loop-left.at) c.loop-left.m ≡ (Ok c.in_ok-found.found, c.load.new.self) = search rules in
    let took : steps 1 c.load.new.self ≡ (Ok tt, c.step.new.self) = search rules in
    c.loop-left.invariant ∙ used_more _ _ _ c.loop-left.left _ _ _ _ _ _ some given took c.in_ok-done.ensures c.in_ok-at.ensures
