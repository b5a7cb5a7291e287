use Rattle.std.proofs.Common.{◌≡◌, ◌≢◌, pos, ◌-ℤ◌, ◌<ℤ◌, Ok, ap, sym, ◌∙◌, arith, rules, FitsSigned, of_z}
use mir.Syntax.{w128}
use Rattle.std.proofs.lemmas.Int.{ints}
use Rattle.std.specs.Int.{int_div_euclid, int_rem_euclid}
use Rattle.py_scalars.specs.Exact.{exact, floor_quotient}
use Rattle.py_scalars.proofs.ExactNumbers.{as_itself, both_themselves, divided_fits, divided-exact, ok_or-exact, quotient_even, quotient_odd}
use Rattle.py_scalars.proofs.numbers.floor_div.Goals as goal

pub returns-then-wrapping_rem_euclid-eq0 : goal.returns-then-wrapping_rem_euclid-eq0
returns-then-wrapping_rem_euclid-eq0 c =
    let fits : FitsSigned w128 c.in-Some.quotient = search rules in
    let other : c.args.b ≢ pos 0 = λ e. c.if-b-eq0.false (ap (of_z w128) e) in
    let below : c.args.b <ℤ pos 0 = omega (arith, ints) in
    let rest : c.wrapping_rem_euclid.result ≡ pos 0 = omega (arith, ints) in
    let even = both_themselves int_rem_euclid c.args.a c.args.b _ c.ranges.a c.ranges.b c.wrapping_rem_euclid.ensures in
    let whole = both_themselves int_div_euclid c.args.a c.args.b _ c.ranges.a c.ranges.b c.in-Some.ensures.1 in
    ap (λ z. Ok z) (as_itself c.in-Some.quotient fits)
    ∙ divided_fits c.args.b _ c.in-Some.quotient other fits (whole ∙ quotient_even c.args.a c.args.b below (sym even ∙ rest))

pub returns : goal.returns
returns c =
    let fits : FitsSigned w128 c.in-Some.quotient = search rules in
    let other : c.args.b ≢ pos 0 = λ e. c.if-b-eq0.false (ap (of_z w128) e) in
    let below : c.args.b <ℤ pos 0 = omega (arith, ints) in
    let even = both_themselves int_rem_euclid c.args.a c.args.b _ c.ranges.a c.ranges.b c.wrapping_rem_euclid.ensures in
    let odd : int_rem_euclid c.args.a c.args.b ≢ pos 0 = λ e. c.if-wrapping_rem_euclid-eq0.false (ap (of_z w128) (even ∙ e)) in
    let whole = both_themselves int_div_euclid c.args.a c.args.b _ c.ranges.a c.ranges.b c.in-Some.ensures.1 in
    c.ok_or.ensures.value
    ∙ ok_or-exact _ _ c.checked_sub.ensures
    ∙ ap (λ z. exact (z -ℤ pos 1)) (as_itself c.in-Some.quotient fits ∙ whole)
    ∙ ap exact (quotient_odd c.args.a c.args.b below odd)
    ∙ sym (divided-exact c.args.b (floor_quotient c.args.a c.args.b) other)
