use Rattle.std.proofs.Common.{◌∙◌, rules, arith, SFits}
use Rattle.std.proofs.lemmas.Int.{to_z-of_z}
use mir.Syntax.{w128}
use Rattle.interp_ops.proofs.Leaps.{even_from, odd_from}
use Rattle.interp_ops.proofs.subscripts.member.Goals as goal

pub returns-then-i-eq0 : goal.returns-then-i-eq0
returns-then-i-eq0 c =
    let a : SFits w128 c.args.start = c.ranges.start in
    let d : SFits w128 c.args.step = c.ranges.step in
    let h : SFits w128 c.half_of.result = search rules in
    let l : SFits w128 c.in_ok-leap.leap = search rules in
    let m : SFits w128 c.in_ok-sum.field-0 = search rules in
    let e : SFits w128 c.in_ok-even.even = search rules in
    to_z-of_z w128 c.in_ok-even.even e ∙ even_from c.args.start c.args.step _ _ _ _ c.args.i c.half_of.ensures (simp to_z-of_z at c.in_ok-leap.ensures) (simp to_z-of_z at c.in_ok-sum.ensures) (simp to_z-of_z at c.in_ok-even.ensures) (omega arith)

pub returns : goal.returns
returns c =
    let a : SFits w128 c.args.start = c.ranges.start in
    let d : SFits w128 c.args.step = c.ranges.step in
    let h : SFits w128 c.half_of.result = search rules in
    let l : SFits w128 c.in_ok-leap.leap = search rules in
    let m : SFits w128 c.in_ok-sum.field-0 = search rules in
    let e : SFits w128 c.in_ok-even.even = search rules in
    let all = odd_from c.args.start c.args.step _ _ _ _ c.args.i c.half_of.ensures (simp to_z-of_z at c.in_ok-leap.ensures) (simp to_z-of_z at c.in_ok-sum.ensures) (simp to_z-of_z at c.in_ok-even.ensures) (omega arith) in
    simp (to_z-of_z, all) at c.sum-3.ensures
