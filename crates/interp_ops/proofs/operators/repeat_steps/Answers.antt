use Rattle.std.proofs.Common.{◌≡◌, ◌<◌, ◌+◌, ◌≤◌, ◌*◌, ◌^◌, rules, arith, length, ap}
use Rattle.interp_machine.specs.Meaning.{steps}
use Rattle.interp_machine.proofs.RunsLaws.{runs_as}
use Rattle.interp_ops.specs.Operators.{repeated}
use Rattle.interp_ops.proofs.Repeating.{length-repeated, steps_past}
use Rattle.interp_ops.proofs.operators.repeat_steps.Goals as goal

pub returns-in-Some : goal.returns-in-Some
returns-in-Some g c =
    let l = length-repeated c.args.count c.args.parts.now in
    let e : length (repeated c.args.count c.args.parts.now) ≡ c.in-Some.total = grind arith in
    runs_as _ _ _ _ (ap (λ n. steps n c.args.m.now) e) c.steps.ensures

pub returns-in-None : goal.returns-in-None
returns-in-None g c =
    let l = length-repeated c.args.count c.args.parts.now in
    let a : 2 ^ 128 ≤ length c.args.parts.now * c.args.count = grind (arith, c.in-None.ensures) in
    let b : c.args.m.now.left < 2 ^ 32 = search rules in
    let p : c.args.m.now.left < length (repeated c.args.count c.args.parts.now) = omega arith in
    let q : c.args.m.now.left < c.args.m.now.left + 1 = omega arith in
    runs_as _ _ _ _ (steps_past _ _ c.args.m.now p q) c.steps-in-None.ensures
