use Rattle.std.proofs.Common.{◌≡◌, ◌+◌, ◌-◌, ◌<◌, length, refl, sym, subst, ◌∙◌, arith}
use Rattle.std.proofs.lemmas.Bool.{false≢true}
use Rattle.memchr.proofs.lemmas.SuffixLemmas.{IsScan, IsScan-accept, IsScan-skip, IsScan-push, IsScan-block, IsScan-end}
use Rattle.py_scalars.specs.Plan.{Precedes, point_of}
use Rattle.py_scalars.proofs.PlanLemmas.{Precedes-trans, Precedes-irrefl, Precedes-neither, Precedes-read, point_read}
use Rattle.py_scalars.proofs.search.greatest_suffix.Goals as goal

pub loop-rival-preserved-then-precedes : goal.loop-rival-preserved-then-precedes
loop-rival-preserved-then-precedes c =
    let part = c.args.part.now in
    let reversed = c.args.reversed in
    let s = c.loop-rival in
    let inside = c.loop-rival-test.true in
    let fewer : s.start + s.same < length part = omega arith in
    let moved : s.rival + s.same + 1 ≡ s.rival + (s.same + 1) = omega arith in
    subst (λ k. IsScan (Precedes reversed) (point_of part) (length part) s.start (k - s.start) k 0) moved
    (IsScan-skip (Precedes reversed) (Precedes-trans reversed) (Precedes-irrefl reversed) (point_of part) (length part) s.invariant inside
    (Precedes-read reversed part (s.rival + s.same) (s.start + s.same) _ _ inside fewer c.index-part-rival.is c.index-part-start.is (c.if-precedes.ensures.0 refl)))

pub loop-rival-preserved-then-precedes-2 : goal.loop-rival-preserved-then-precedes-2
loop-rival-preserved-then-precedes-2 c =
    let part = c.args.part.now in
    let reversed = c.args.reversed in
    let s = c.loop-rival in
    let inside = c.loop-rival-test.true in
    let fewer : s.start + s.same < length part = omega arith in
    IsScan-accept (Precedes reversed) (Precedes-trans reversed) (Precedes-irrefl reversed) (point_of part) (length part) s.invariant inside
    (Precedes-read reversed part (s.start + s.same) (s.rival + s.same) _ _ fewer inside c.index-part-start.is c.index-part-rival.is (c.if-precedes-2.ensures.0 refl))

pub loop-rival-preserved-then-same-period : goal.loop-rival-preserved-then-same-period
loop-rival-preserved-then-same-period c =
    let part = c.args.part.now in
    let reversed = c.args.reversed in
    let s = c.loop-rival in
    let inside = c.loop-rival-test.true in
    let fewer : s.start + s.same < length part = omega arith in
    let alike = Precedes-neither reversed _ _ (λ h. false≢true (c.if-precedes-2.ensures.1 h)) (λ h. false≢true (c.if-precedes.ensures.1 h)) in
    IsScan-block (Precedes reversed) (Precedes-trans reversed) (Precedes-irrefl reversed) (point_of part) (length part) s.invariant inside
    (sym (point_read part (s.start + s.same) _ fewer c.index-part-start.is) ∙ alike ∙ point_read part (s.rival + s.same) _ inside c.index-part-rival.is)
    c.if-same-period.true

pub loop-rival-preserved : goal.loop-rival-preserved
loop-rival-preserved c =
    let part = c.args.part.now in
    let reversed = c.args.reversed in
    let s = c.loop-rival in
    let inside = c.loop-rival-test.true in
    let fewer : s.start + s.same < length part = omega arith in
    let short = s.invariant.short in
    let differs = c.if-same-period.false in
    let alike = Precedes-neither reversed _ _ (λ h. false≢true (c.if-precedes-2.ensures.1 h)) (λ h. false≢true (c.if-precedes.ensures.1 h)) in
    IsScan-push (Precedes reversed) (Precedes-trans reversed) (Precedes-irrefl reversed) (point_of part) (length part) s.invariant inside
    (sym (point_read part (s.start + s.same) _ fewer c.index-part-start.is) ∙ alike ∙ point_read part (s.rival + s.same) _ inside c.index-part-rival.is)
    (omega arith)

pub returns : goal.returns
returns c =
    let reversed = c.args.reversed in
    let s = c.loop-rival in
    let within = s.invariant.within in
    let ended = c.loop-rival-test.false in
    IsScan-end (Precedes reversed) (Precedes-trans reversed) (Precedes-irrefl reversed) (point_of c.args.part.now) (length c.args.part.now) s.invariant (omega arith)
