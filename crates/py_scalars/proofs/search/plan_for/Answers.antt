use Rattle.std.proofs.Common.{true, false, length, arith}
use Rattle.memchr.proofs.lemmas.CriticalLemmas.{IsCutPlace-of}
use Rattle.py_scalars.specs.Plan.{Precedes, point_of}
use Rattle.py_scalars.proofs.PlanLemmas.{Precedes-trans, Precedes-irrefl, Precedes-opposed}
use Rattle.py_scalars.proofs.search.plan_for.Goals as goal

pub plan_at-requires : goal.plan_at-requires
plan_at-requires c =
    let least = c.greatest_suffix-least.ensures in
    let most = c.greatest_suffix-most.ensures in
    let fits = least.fits in
    let some = least.some in
    IsCutPlace-of (Precedes true) (Precedes false) (Precedes-trans true) (Precedes-irrefl true) (Precedes-irrefl false)
    (λ a b p q. Precedes-opposed a b q p) (point_of c.args.part.now) (length c.args.part.now) _ _ (omega arith) least.greatest most.greatest (omega arith) _ least

pub plan_at-requires-else-least-most : goal.plan_at-requires-else-least-most
plan_at-requires-else-least-most c =
    let least = c.greatest_suffix-least.ensures in
    let most = c.greatest_suffix-most.ensures in
    let fits = most.fits in
    let some = most.some in
    IsCutPlace-of (Precedes false) (Precedes true) (Precedes-trans false) (Precedes-irrefl false) (Precedes-irrefl true)
    Precedes-opposed (point_of c.args.part.now) (length c.args.part.now) _ _ (omega arith) most.greatest least.greatest (omega arith) _ most
