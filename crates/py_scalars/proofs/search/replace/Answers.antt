use Rattle.std.proofs.Common.{◌≡◌, ◌<◌, ◌++◌, IfOk, List, ℕ, ap, length, subst, ◌∙◌, arith}
use Rattle.std.proofs.lemmas.List.{take_rest}
use Rattle.py_scalars.specs.Search.{pieces, joined}
use Rattle.py_scalars.proofs.SearchLemmas.{replace_step, replace_end, replaced-filled}
use Rattle.py_scalars.proofs.search.replace.Goals as goal

pub loop-at-preserved : goal.loop-at-preserved
loop-at-preserved c =
    let filled : 0 < length c.args.a.now = omega arith in (
      omega (arith, ap length c.as_slice-wanted.ensures, c.in-Some.ensures.within),
      replace_step c.args.a.now c.as_slice-text.result.now _ c.args.b.now _ c.loop-at.from c.in-Some.at c.len-in-Some.result c.loop-at.out.items _ _ _ c.as_slice-wanted.ensures c.as_slice.ensures c.len-in-Some.ensures filled c.in-Some.ensures.value c.in_ok-extend_from_slice.ensures.items c.in_ok-extend_from_slice-2.ensures.items c.loop-at.invariant.1,
    )

pub returns : goal.returns
returns c =
    let text = c.as_slice-text.result.now in
    let filled : length c.args.a.now ≡ 0 → ⊥ = λ e. omega arith in
    let all : c.extend_from_slice-2.new.self.items ≡ joined c.args.b.now (pieces c.args.a.now c.as_slice-text.result.now) = replace_end c.args.a.now text _ c.args.b.now c.loop-at.from c.loop-at.out.items _ _ c.as_slice-wanted.ensures c.in_default.ensures.value (c.in_ok-extend_from_slice-3.ensures.items ∙ ap (λ (t : List ℕ). c.loop-at.out.items ++ t) (take_rest text c.loop-at.from)) c.loop-at.invariant.1 in
    subst (λ (x : List ℕ). IfOk c.from_points.result (λ s. s ≡ x)) (all ∙ ap (λ (t : List ℕ). joined c.args.b.now (pieces c.args.a.now t)) c.as_slice-text.ensures ∙ replaced-filled c.args.a.now c.args.b.now c.args.t.now filled) c.from_points.ensures
