use Rattle.std.proofs.Common.{◌≡◌, ◌%◌, ◌==◌, pos, negsuc, cond, false, inl, inr, ap, sym, ◌∙◌, arith, of_z}
use mir.Syntax.{w128}
use Rattle.std.proofs.lemmas.Int.{ints}
use Rattle.std.proofs.lemmas.Bool.{eq-eqb, ne_eqb}
use Rattle.std.specs.Int.RustNames.{unsigned_abs}
use Rattle.std.specs.Int.{int_pow}
use Rattle.py_scalars.specs.Exact.{exact}
use Rattle.py_scalars.proofs.ExactNumbers.{as_itself, large_exponent, power_small, power_large, power_minus_one}
use Rattle.py_scalars.proofs.numbers.power.Goals as goal

pub returns-then-a-eq0 : goal.returns-then-a-eq0
returns-then-a-eq0 c =
    let is : c.args.a ≡ pos 0 = omega (arith, ints) in
    let far = large_exponent c.args.b c.ranges.b c.if-b-lt128.false c.requires in
    sym (ap exact (power_small c.args.a _ far (inl is) ∙ is))

pub returns-then-a-eq1 : goal.returns-then-a-eq1
returns-then-a-eq1 c =
    let is : c.args.a ≡ pos 1 = omega (arith, ints) in
    let far = large_exponent c.args.b c.ranges.b c.if-b-lt128.false c.requires in
    sym (ap exact (power_small c.args.a _ far (inr is) ∙ is))

pub returns-then-a-neminus1 : goal.returns-then-a-neminus1
returns-then-a-neminus1 c =
    let far = large_exponent c.args.b c.ranges.b c.if-b-lt128.false c.requires in
    sym (power_large c.args.a _ far (λ e. c.if-a-eq0.false (ap (of_z w128) e)) (λ e. c.if-a-eq1.false (ap (of_z w128) e)) (λ e. c.if-a-neminus1.true (ap (of_z w128) e)))

pub returns-then-b-eq0 : goal.returns-then-b-eq0
returns-then-b-eq0 c =
    let is : c.args.a ≡ negsuc 0 = omega (arith, ints) in
    let even : unsigned_abs c.args.b % 2 ≡ 0 = sym (ap (λ z. unsigned_abs z % 2) (as_itself c.args.b c.ranges.b)) ∙ c.if-b-eq0.true in
    sym (ap exact (ap (λ z. int_pow z (unsigned_abs c.args.b)) is ∙ power_minus_one (unsigned_abs c.args.b) ∙ ap (λ b. cond b (pos 1) (negsuc 0)) (eq-eqb _ _ even)))

pub returns : goal.returns
returns c =
    let is : c.args.a ≡ negsuc 0 = omega (arith, ints) in
    let odd : (unsigned_abs c.args.b % 2 == 0) ≡ false = ne_eqb _ _ (λ e. c.if-b-eq0.false (ap (λ z. unsigned_abs z % 2) (as_itself c.args.b c.ranges.b) ∙ e)) in
    sym (ap exact (ap (λ z. int_pow z (unsigned_abs c.args.b)) is ∙ power_minus_one (unsigned_abs c.args.b) ∙ ap (λ b. cond b (pos 1) (negsuc 0)) odd))
