use Rattle.std.proofs.Common.{◌≡◌, ◌<◌, ◌≤◌, ℕ, List, false, length, get_or, take, ap, sym, ◌∙◌, arith}
use Rattle.std.proofs.lemmas.List.{get_or_default, take_all}
use Rattle.heap_objects.specs.Stamps.{has_stamp, without_first}
use Rattle.heap_objects.proofs.StampLaws.{none-before, without-at, without-none}
use Rattle.heap_objects.proofs.stamps.Stamps.remove.Goals as goal

pub loop-i-preserved : goal.loop-i-preserved
loop-i-preserved c =
    let items : List ℕ = c.loop-i.self-inside.list.items in
    let inside : c.loop-i.i < length items = omega (arith, c.len-i-end.ensures, ap length c.loop-i.invariant.0, ap length c.self.view_is) in
    let within : c.loop-i.i < length c.args.self.now = omega (arith, inside, ap length c.loop-i.invariant.0) in (
      c.loop-i.invariant.0,
      none-before c.args.self.now c.loop-i.i c.args.stamp within
          (λ e. c.if-index-stamp.false (c.index.ensures ∙ get_or_default items c.loop-i.i c.index.result.now c.args.stamp inside ∙ ap (λ (x : List ℕ). get_or x c.loop-i.i c.args.stamp) c.loop-i.invariant.0 ∙ e))
          c.loop-i.invariant.1,
    )

pub returns-then-index-stamp : goal.returns-then-index-stamp
returns-then-index-stamp c =
    let items : List ℕ = c.loop-i.self-inside.list.items in
    let inside : c.loop-i.i < length items = omega (arith, c.len-i-end.ensures, ap length c.loop-i.invariant.0, ap length c.self.view_is) in
    let here : get_or items c.loop-i.i c.args.stamp ≡ c.args.stamp =
    get_or_default items c.loop-i.i c.args.stamp c.index.result.now inside ∙ sym c.index.ensures ∙ c.if-index-stamp.true in
    let none : has_stamp (take c.loop-i.i items) c.args.stamp ≡ false = ap (λ (x : List ℕ). has_stamp (take c.loop-i.i x) c.args.stamp) c.loop-i.invariant.0 ∙ c.loop-i.invariant.1 in
    c.remove.ensures.items ∙ without-at items c.loop-i.i c.args.stamp inside here none ∙ ap (λ (x : List ℕ). without_first x c.args.stamp) c.loop-i.invariant.0

pub returns : goal.returns
returns c =
    let past : length c.args.self.now ≤ c.loop-i.i = omega (arith, c.len-i-end.ensures, ap length c.self.view_is) in
    c.loop-i.invariant.0
    ∙ sym (without-none c.args.self.now c.args.stamp (ap (λ (x : List ℕ). has_stamp x c.args.stamp) (sym (take_all c.loop-i.i c.args.self.now past)) ∙ c.loop-i.invariant.1))
