use Rattle.std.proofs.Common.{◌≡◌, ◌-◌, IfOk, List, ℕ, ap, length, take, drop, subst, ◌∙◌, arith}
use Rattle.py_scalars.specs.Search.{pieces}
use Rattle.py_scalars.proofs.SearchLemmas.{split_step, split_end}
use Rattle.py_scalars.proofs.search.split.Goals as goal

pub loop-at-preserved : goal.loop-at-preserved
loop-at-preserved c = (
  omega (arith, ap length c.as_slice-text.ensures, ap length c.as_slice-wanted.ensures, c.in-Some.ensures.within),
  split_step c.args.part.now c.args.t.now _ _ c.loop-at.from c.in-Some.at c.len.result c.loop-at.texts.items _ _ c.in_ok-part.field-0 c.as_slice-text.ensures c.as_slice-wanted.ensures c.len.ensures c.requires c.in-Some.ensures.value c.in_ok-part.ensures c.in_ok-push.ensures.items c.loop-at.invariant.1,
)

pub returns : goal.returns
returns c =
    let t = c.args.t.now in
    let from = c.loop-at.from in
    let all : c.push-2.new.self.items ≡ pieces c.args.part.now c.args.t.now = split_end c.args.part.now t _ _ from c.loop-at.texts.items _ _ c.in_ok-part-2.field-0 c.as_slice-text.ensures c.as_slice-wanted.ensures c.in_default.ensures.value (c.in_ok-part-2.ensures ∙ ap (λ n. take (n - from) (drop from t)) c.len-2.ensures) c.in_ok-push-2.ensures.items c.loop-at.invariant.1 in
    subst (λ (x : List (List ℕ)). IfOk c.from_vec.result (λ s. s ≡ x)) all c.from_vec.ensures
