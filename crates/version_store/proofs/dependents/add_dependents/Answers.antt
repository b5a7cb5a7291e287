use Rattle.std.proofs.Common.{◌≡◌, ◌+◌, ℕ, List, [], inl, inr, sym, subst, get_or, take, ⊎_elim}
use Rattle.std.proofs.lemmas.List.{get_or_default}
use Rattle.std.specs.List.{Contains}
use Rattle.flow_base.specs.declared.numbers.RunNo.{RunNo}
use Rattle.trace_events.specs.declared.version.Version.{Version}
use Rattle.trace_events.specs.declared.version.Version.TheVariants.{Written}
use Rattle.trace_events.specs.History.{deps}
use Rattle.version_store.specs.Dependents.{IsListed}
use Rattle.version_store.proofs.PlaceSets.{adds_if, adds_none, adds_same, all_listed, listed_before, listed_here, listed_next, no_listed}
use Rattle.version_store.proofs.dependents.add_dependents.Goals as goal

pub loop-at-init : goal.loop-at-init
loop-at-init c = adds_none c.args.reached.now (λ v. IsListed [] v × Contains (deps c.args.runs.now v) c.args.on.now) (λ v p. no_listed v p.0)

pub loop-at-preserved : goal.loop-at-preserved
loop-at-preserved c =
    let places = c.listed_with-at-items.result.now in
    let i = c.loop-at.at-index in
    let zero : RunNo × ℕ = (record { 0 = 0 }, 0) in
    let at = get_or places i zero in
    let lt = c.loop-at-test.true in
    let is = get_or_default places i zero at lt in
    let on = c.args.on.now in
    let h = c.args.runs.now in
    adds_if c.args.reached.now c.loop-at.reached c.add_if.new.self at.0 at.1 c.rests_directly-test.result
    (λ v. IsListed (take i places) v × Contains (deps h v) on)
    (λ v. IsListed (take (i + 1) places) v × Contains (deps h v) on)
    (λ v p. (listed_before places i at lt is v p.0, p.1))
    (λ t. (listed_here places i at lt is, c.rests_directly-test.ensures.0 t))
    (λ v q. ⊎_elim
    (λ (o : IsListed (take i places) v). inl (o, q.1))
    (λ (e : v ≡ Written at.0 at.1). inr (c.rests_directly-test.ensures.1 (subst (λ (w : Version). Contains (deps h w) on) e q.1), e))
    (listed_next places i at lt is v q.0))
    c.loop-at.invariant c.in_ok-add_if.ensures

pub returns : goal.returns
returns c =
    let places = c.listed_with-at-items.result.now in
    adds_same c.args.reached.now c.loop-at.reached
    (λ v. IsListed (take c.loop-at.at-index places) v × Contains (deps c.args.runs.now v) c.args.on.now)
    (λ v. Contains (deps c.args.runs.now v) c.args.on.now)
    (λ v p. p.1)
    (λ v d. (
      all_listed places c.loop-at.at-index v c.loop-at-test.false
          (subst (λ (ps : List (RunNo × ℕ)). IsListed ps v) (sym c.listed_with-at-items.ensures) (c.requires v c.args.on.now d)),
      d,
    ))
    c.loop-at.invariant
