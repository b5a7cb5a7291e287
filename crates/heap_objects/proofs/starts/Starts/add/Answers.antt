use Rattle.std.proofs.Common.{◌≡◌, ℕ, ◌<◌, ◌≤◌, ◌-◌, get_or, length, arith, refl, sym, subst, List}
use Rattle.flow_base.specs.declared.numbers.RunNo.{RunNo}
use Rattle.heap_objects.specs.Starts.{AreAscending}
use Rattle.heap_objects.proofs.StartLaws.{ascending_push}
use Rattle.heap_objects.proofs.starts.Starts.add.Goals as goal

pub invariant_of-self : goal.invariant_of-self
invariant_of-self c = subst AreAscending (sym c.in_err-push.ensures.items) c.self.invariant

pub invariant_of-self-2 : goal.invariant_of-self-2
invariant_of-self-2 c =
    let items : List (RunNo × ℕ) = c.self.inside.starts.items in
    let same : c.as_slice-2.result.now ≡ items = c.as_slice-2.ensures.value in
    let below : (i : ℕ) (d : RunNo × ℕ) → i < length items → (get_or items i d).1 < c.args.object = λ i d lt.
    let within : i < c.before-2.result = omega (arith, c.len.ensures, lt) in
    let least : (get_or items i d).1 ≤ c.args.object - 1 = subst (λ (x : List (RunNo × ℕ)). (get_or x i d).1 ≤ c.args.object - 1) same (c.before-2.ensures.below i d within) in
    omega (arith, least) in
    subst AreAscending (sym c.in_ok-push.ensures.items) (ascending_push items (c.args.run, c.args.object) c.args.object c.self.invariant refl below)
