use Rattle.std.proofs.Common.{◌+◌, ◌-◌, true, false, refl, sym, subst, arith}
use Rattle.std.proofs.lemmas.Bool.{false≢true}
use Rattle.py_scalars.specs.Plan.{IsPlan}
use Rattle.py_scalars.proofs.PlanLemmas.{IsPlan-periodic, IsPlan-long, repeats}
use Rattle.py_scalars.proofs.search.plan_at.Goals as goal

pub returns-then-eq : goal.returns-then-eq
returns-then-eq c =
    let part = c.args.part.now in
    let cut = c.args.suffix.start in
    let period = c.args.suffix.period in
    let fits = c.requires.fits in
    let agree = repeats part cut period (period + cut - period) true (omega arith) (omega arith) c.if-eq.ensures in
    IsPlan-periodic part cut period c.requires (agree.0 refl)

pub returns-else-eq : goal.returns-else-eq
returns-else-eq c =
    let part = c.args.part.now in
    let cut = c.args.suffix.start in
    let period = c.args.suffix.period in
    let fits = c.requires.fits in
    let agree = repeats part cut period (period + cut - period) false (omega arith) (omega arith) c.if-eq.ensures in
    subst (λ shift. IsPlan part cut shift 0) (sym c.max.ensures) (IsPlan-long part cut period c.requires (λ all. false≢true (agree.1 all)))
