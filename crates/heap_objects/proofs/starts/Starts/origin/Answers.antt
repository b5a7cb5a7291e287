use Rattle.std.proofs.Common.{◌≡◌, ◌-◌, suc, ℕ, ap, sym, ◌∙◌, subst, List, arith}
use Rattle.flow_base.specs.declared.numbers.RunNo.{RunNo}
use Rattle.heap_objects.specs.Starts.{IsBefore}
use Rattle.heap_objects.specs.State.{origin_from}
use Rattle.heap_objects.proofs.StartLaws.{origin_at, origin_first}
use Rattle.heap_objects.proofs.starts.Starts.origin.Goals as goal

pub returns-then-before-eq0 : goal.returns-then-before-eq0
returns-then-before-eq0 c =
    let items : List (RunNo × ℕ) = c.self.inside.starts.items in
    let b : IsBefore items c.args.object c.before-before.result = subst (λ (x : List (RunNo × ℕ)). IsBefore x c.args.object c.before-before.result) c.as_slice.ensures.value c.before-before.ensures in
    sym (origin_first items c.args.object (subst (IsBefore items c.args.object) c.if-before-eq0.true b))
    ∙ ap (λ (x : List (RunNo × ℕ)). origin_from (record { 0 = 0 }, 0) x c.args.object) c.self.view_is

pub returns : goal.returns
returns c =
    let items : List (RunNo × ℕ) = c.self.inside.starts.items in
    let b : IsBefore items c.args.object c.before-before.result = subst (λ (x : List (RunNo × ℕ)). IsBefore x c.args.object c.before-before.result) c.as_slice.ensures.value c.before-before.ensures in
    let n : ℕ = c.before-before.result - 1 in
    let after : c.before-before.result ≡ suc n = omega (arith, c.if-before-eq0.false) in
    let start : RunNo × ℕ = c.index-start.result.now in
    ap (λ (k : ℕ). (start.0, k)) c.saturating_sub.ensures
    ∙ ap (λ (s : RunNo × ℕ). (s.0, c.args.object - s.1)) c.index-start.ensures
    ∙ sym (origin_at items c.args.object c.before-before.result n start b after)
    ∙ ap (λ (x : List (RunNo × ℕ)). origin_from (record { 0 = 0 }, 0) x c.args.object) c.self.view_is
