use Rattle.std.proofs.Common.{◌≡◌, ◌+◌, ◌-◌, ◌≤◌, length, true, false, refl, sym, ◌∙◌, ap, arith}
use Rattle.std.proofs.lemmas.Bool.{false≢true}
use Rattle.memchr.proofs.lemmas.FindLemmas.{Nowhere-then}
use Rattle.memchr.proofs.lemmas.SearchLemmas.{Nowhere-right, Nowhere-left, Nowhere-end}
use Rattle.py_scalars.specs.Plan.{point_of}
use Rattle.py_scalars.proofs.PlanLemmas.{Stands, first_stands, nowhere_stands, slices_agree, matches_right, matches_whole, matches_kept}
use Rattle.py_scalars.proofs.search.first_from.Goals as goal

pub loop-at-preserved-then-end-part : goal.loop-at-preserved-then-end-part
loop-at-preserved-then-end-part c =
    let part = c.args.part.now in
    let text = c.args.text.now in
    let cut = c.args.plan.cut in
    let old = c.loop-at.invariant in
    let at = c.loop-at.at in
    let behind = old.behind in
    let end = c.matched_to-end.result in
    let ends = c.matched_to-end.ensures in
    let below = c.if-end-part.true in
    let start_is = c.max.ensures in
    let low : cut ≤ end = omega (arith, ends.low) in
    let right = matches_right part text at cut c.loop-at.known c.max.result end start_is old.front ends.same in
    let here = Nowhere-right (point_of part) (length part) (point_of text) (length text) cut c.requires.plan.critical at end low below right (ends.differs below) in
    record {
      behind = omega arith;
      within = omega arith;
      before = Nowhere-then old.before here;
      inside = omega arith;
      front = λ k l. absurd (omega arith);
    }

pub returns-then-eq-clause-value : goal.returns-then-eq-clause-value
returns-then-eq-clause-value c =
    let part = c.args.part.now in
    let text = c.args.text.now in
    let cut = c.args.plan.cut in
    let old = c.loop-at.invariant in
    let at = c.loop-at.at in
    let skipped = c.min-known_front.result in
    let skipped_is = c.min-known_front.ensures in
    let below = c.requires.plan.below in
    let ends = c.matched_to-end.ensures in
    let agree = slices_agree part text skipped (at + skipped) (cut - skipped) (at + cut - (at + skipped)) true (omega arith) (omega arith) (omega arith) c.if-eq.ensures in
    let stands = matches_whole part text at cut c.loop-at.known c.max.result c.matched_to-end.result c.max.ensures old.front ends.same skipped skipped_is (omega arith) (omega arith) (agree.0 refl) in
    first_stands part text c.args.from at old.behind (omega arith) old.before stands

pub loop-at-preserved : goal.loop-at-preserved
loop-at-preserved c =
    let part = c.args.part.now in
    let text = c.args.text.now in
    let cut = c.args.plan.cut in
    let shift = c.args.plan.shift in
    let kept = c.args.plan.kept in
    let plan = c.requires.plan in
    let moves = plan.moves in
    let fits = plan.fits in
    let old = c.loop-at.invariant in
    let at = c.loop-at.at in
    let behind = old.behind in
    let skipped = c.min-known_front.result in
    let skipped_is = c.min-known_front.ensures in
    let below = plan.below in
    let ends = c.matched_to-end.ensures in
    let full : length part ≤ c.matched_to-end.result = omega arith in
    let agree = slices_agree part text skipped (at + skipped) (cut - skipped) (at + cut - (at + skipped)) false (omega arith) (omega arith) (omega arith) c.if-eq.ensures in
    let right = matches_right part text at cut c.loop-at.known c.max.result c.matched_to-end.result c.max.ensures old.front ends.same in
    let stands_not : Stands part text at → ⊥ = λ occurs. false≢true (agree.1 (λ k l.
    let there : at + (skipped + k) ≡ at + skipped + k = omega arith in
    sym (occurs.reads (skipped + k) (omega arith)) ∙ ap (point_of text) there)) in
    let here = Nowhere-left (point_of part) (length part) (point_of text) (length text) cut shift plan.critical plan.least at (λ k a b. right k a (omega arith)) stands_not in
    record {
      behind = omega arith;
      within = omega arith;
      before = Nowhere-then old.before here;
      inside = omega arith;
      front = matches_kept part text at cut c.loop-at.known c.max.result c.matched_to-end.result c.max.ensures old.front ends.same shift kept plan full;
    }

pub returns-clause-value : goal.returns-clause-value
returns-clause-value c =
    let part = c.args.part.now in
    let text = c.args.text.now in
    nowhere_stands part text c.args.from c.requires.start
    (Nowhere-then c.loop-at.invariant.before (Nowhere-end (point_of part) (length part) (point_of text) (length text) c.loop-at.at c.loop-at-test.false))
