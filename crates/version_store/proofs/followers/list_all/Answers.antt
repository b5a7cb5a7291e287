use Rattle.std.proofs.Common.{◌≡◌, ◌<◌, ◌≤◌, ◌∙◌, ℕ, List, ap, arith, get_or, length, subst}
use Rattle.trace_events.specs.declared.summary.Write.{Write}
use Rattle.std.specs.List.{Contains}
use Rattle.flow_base.specs.declared.numbers.RunNo.{RunNo}
use Rattle.version_store.specs.Dependents.{listed_at, run_after}
use Rattle.version_store.specs.Hash.{hash_version}
use Rattle.version_store.proofs.Held.{found_at, in_first, lists_more}
use Rattle.version_store.proofs.PlaceSets.{grows_further}
use Rattle.version_store.proofs.followers.list_all.Goals as goal

pub returns-in_err-list_write-clause-grown : goal.returns-in_err-list_write-clause-grown
returns-in_err-list_write-clause-grown c =
    grows_further c.args.index.now c.loop-i.index c.list_write.new.index c.loop-i.invariant.grown c.in_err-list_write.ensures.grown

pub loop-i-preserved : goal.loop-i-preserved
loop-i-preserved c =
    let ws = c.args.s.now.writes in
    let i = c.loop-i.i in
    let w = c.write-item.result in
    let lt : i < length ws = subst (λ (ys : List Write). i < length ys) c.writes-write-items.ensures.writes c.loop-i-test.true in
    let at : w ≡ get_or ws i w = c.write-item.is ∙ ap (λ (ys : List Write). get_or ys i w) c.writes-write-items.ensures.writes in
    record {
      grown = grows_further c.args.index.now c.loop-i.index c.list_write.new.index c.loop-i.invariant.grown c.in_ok-list_write.ensures.grown;
      listed = λ h next is.
          let run_is : c.args.run.0 ≡ run_after h = omega arith in
          lists_more h c.loop-i.index c.list_write.new.index ws i w c.at.result.now lt at
          (c.at.ensures ∙ found_at h c.args.run.0 i ws c.args.found.now w next is lt at)
          (c.loop-i.invariant.listed h next is) c.in_ok-list_write.ensures.grown
          (λ u d. subst (λ (n : ℕ). let r : RunNo = record { 0 = n } in Contains (listed_at c.list_write.new.index (hash_version u)) (r, c.write-item.result.place)) run_is (c.in_ok-list_write.ensures.listed u d));
    }

pub returns-clause-listed : goal.returns-clause-listed
returns-clause-listed c = λ h next is w u x d. c.loop-i.invariant.listed h next is w u (in_first c.args.s.now.writes c.loop-i.i w (subst (λ (ys : List Write). length ys ≤ c.loop-i.i) c.writes-write-items.ensures.writes c.loop-i-test.false) x) d
