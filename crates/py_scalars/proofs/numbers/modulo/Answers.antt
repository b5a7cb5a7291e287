use Rattle.std.proofs.Common.{◌≡◌, ◌≢◌, pos, ◌+ℤ◌, ◌<ℤ◌, ◌≤ℤ◌, Ok, ap, sym, ◌∙◌, arith, rules, FitsSigned, of_z, to_z}
use mir.Syntax.{w128}
use Rattle.std.proofs.lemmas.Int.{ints}
use Rattle.std.specs.Int.{int_rem_euclid}
use Rattle.py_scalars.proofs.ExactNumbers.{as_itself, both_themselves, divided_fits, rest_even, rest_odd, sum_fits}
use Rattle.py_scalars.proofs.numbers.modulo.Goals as goal

pub returns-then-rest-eq0 : goal.returns-then-rest-eq0
returns-then-rest-eq0 c =
    let fits : FitsSigned w128 c.rem_euclid-rest.result = search rules in
    let other : c.args.b ≢ pos 0 = λ e. c.if-b-eq0.false (ap (of_z w128) e) in
    let below : c.args.b <ℤ pos 0 = omega (arith, ints) in
    let rest : c.rem_euclid-rest.result ≡ pos 0 = omega (arith, ints) in
    let even = both_themselves int_rem_euclid c.args.a c.args.b _ c.ranges.a c.ranges.b c.rem_euclid-rest.ensures.value in
    ap (λ z. Ok z) (as_itself c.rem_euclid-rest.result fits)
    ∙ divided_fits c.args.b _ c.rem_euclid-rest.result other fits (rest ∙ rest_even c.args.a c.args.b below (sym even ∙ rest))

pub returns : goal.returns
returns c =
    let rest = c.rem_euclid-rest.result in
    let fits : FitsSigned w128 c.rem_euclid-rest.result = search rules in
    let other : c.args.b ≢ pos 0 = λ e. c.if-b-eq0.false (ap (of_z w128) e) in
    let below : c.args.b <ℤ pos 0 = omega (arith, ints) in
    let even = both_themselves int_rem_euclid c.args.a c.args.b _ c.ranges.a c.ranges.b c.rem_euclid-rest.ensures.value in
    let odd : int_rem_euclid c.args.a c.args.b ≢ pos 0 = λ e. c.if-rest-eq0.false (ap (of_z w128) (even ∙ e)) in
    let from_zero : pos 0 ≤ℤ c.rem_euclid-rest.result = omega (arith, ints) in
    let sum : FitsSigned w128 (c.rem_euclid-rest.result +ℤ c.args.b) = sum_fits _ _ from_zero below fits c.ranges.b in
    ap (λ z. Ok (to_z w128 (of_z w128 (z +ℤ to_z w128 (of_z w128 c.args.b))))) (as_itself rest fits)
    ∙ ap (λ z. Ok (to_z w128 (of_z w128 (rest +ℤ z)))) (as_itself c.args.b c.ranges.b)
    ∙ ap (λ z. Ok z) (as_itself (rest +ℤ c.args.b) sum)
    ∙ divided_fits c.args.b _ (rest +ℤ c.args.b) other sum (ap (λ z. z +ℤ c.args.b) even ∙ rest_odd c.args.a c.args.b below odd)
