use Rattle.std.proofs.Common.{◌∙◌, ◌-ℤ◌, ap, arith}
use Rattle.std.specs.Prelude.{◌<ℤ◌, nat_abs}
use Rattle.std.proofs.lemmas.Int.{ints, to_z-of_z}
use mir.Syntax.{w128}
use mir.Val.{to_z, of_z}
use Rattle.interp_machine.proofs.RangeLaws.{steps_up}
use Rattle.interp_machine.proofs.walks.steps_in.Goals as goal

pub returns-then-to-from : goal.returns-then-to-from
returns-then-to-from c =
    let above : c.args.from <ℤ c.args.to = omega (arith, ints) in
    steps_up c.args.from c.args.to c.args.step c.abs_diff.result above c.requires
    (c.abs_diff.ensures
    ∙ ap (λ z. nat_abs (z -ℤ to_z w128 (of_z w128 c.args.from))) (to_z-of_z w128 c.args.to c.ranges.to)
    ∙ ap (λ z. nat_abs (c.args.to -ℤ z)) (to_z-of_z w128 c.args.from c.ranges.from))
