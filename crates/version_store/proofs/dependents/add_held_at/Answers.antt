use Rattle.std.proofs.Common.{◌+◌, take, get_or, subst, List, ℕ}
use Rattle.std.specs.Prelude.{◌==◌}
use Rattle.std.specs.List.{Contains}
use Rattle.std.proofs.lemmas.List.{get_or_default, take_all}
use Rattle.version_store.specs.Dependents.{held_among, AddsAll}
use Rattle.version_store.proofs.PlaceSets.{adds_if, among_before, among_here, among_next}
use Rattle.version_store.proofs.dependents.add_held_at.Goals as goal

pub loop-pair-preserved : goal.loop-pair-preserved
loop-pair-preserved c =
    let pairs = c.args.pairs.now in
    let i = c.loop-pair.pair-index in
    let zero : ℕ × ℕ = (0, 0) in
    let pair = get_or pairs i zero in
    let lt = c.loop-pair-test.true in
    let is = get_or_default pairs i zero pair lt in
    adds_if c.args.reached.now c.loop-pair.reached c.add_if.new.self c.args.run pair.1 (pair.0 == c.args.place)
    (λ v. Contains (held_among c.args.run c.args.place (take i pairs)) v)
    (λ v. Contains (held_among c.args.run c.args.place (take (i + 1) pairs)) v)
    (among_before c.args.run c.args.place pairs i pair lt is)
    (among_here c.args.run c.args.place pairs i pair lt is)
    (among_next c.args.run c.args.place pairs i pair lt is)
    c.loop-pair.invariant c.in_ok-add_if.ensures

pub returns : goal.returns
returns c = subst (λ (es : List (ℕ × ℕ)). AddsAll c.args.reached.now c.loop-pair.reached (λ v. Contains (held_among c.args.run c.args.place es) v))
    (take_all c.loop-pair.pair-index c.args.pairs.now c.loop-pair-test.false) c.loop-pair.invariant
