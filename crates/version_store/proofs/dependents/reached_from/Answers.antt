use Rattle.std.proofs.Common.{List, ℕ, ◌<◌, ◌≤◌, length, subst}
use Rattle.std.specs.List.{Contains}
use Rattle.flow_base.specs.declared.numbers.RunNo.{RunNo}
use Rattle.version_store.specs.Dependents.{held_at, AddsAll}
use Rattle.version_store.proofs.Reaching.{reached_all, reached_begun, reached_more}
use Rattle.version_store.proofs.dependents.reached_from.Goals as goal

pub loop-next-init : goal.loop-next-init
loop-next-init c =
    reached_begun c.args.runs.now c.args.held.now c.args.from.now c.add_held.new.reached c.add_dependents.new.reached
    (subst (λ (ps : List (RunNo × ℕ)). AddsAll ps c.add_held.new.reached (λ v. Contains (held_at c.args.held.now c.args.from.now) v)) c.new-reached.ensures c.in_ok-add_held.ensures)
    c.in_ok-add_dependents.ensures

pub loop-next-preserved : goal.loop-next-preserved
loop-next-preserved c =
    reached_more c.args.runs.now c.args.held.now c.args.from.now c.loop-next.reached c.go_on.new.reached c.loop-next.next c.loop-next.invariant
    (subst (λ (ps : List (RunNo × ℕ)). c.loop-next.next < length ps) c.as_slice.ensures c.loop-next-test.true) c.in_ok-go_on.ensures

pub returns : goal.returns
returns c = reached_all c.args.runs.now c.args.held.now c.args.from.now c.loop-next.reached c.loop-next.next c.loop-next.invariant
    (subst (λ (ps : List (RunNo × ℕ)). length ps ≤ c.loop-next.next) c.as_slice.ensures c.loop-next-test.false)
