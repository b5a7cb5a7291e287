use Rattle.std.proofs.Common.{rules, ◌≡◌, ◌≢◌, ◌∙◌, refl, sym, Some}
use Rattle.exceptions_core.proofs.UnderLaws.{of_equal, under_parent}
use Rattle.exceptions_core.specs.Classes.{below, parent}
use Rattle.exceptions_core.proofs.class.+matches.Goals as goal

pub returns-then-eq : goal.returns-then-eq
returns-then-eq t c = let e : c.args.c ≡ c.args.of = search rules in (λ _. of_equal c.args.c c.args.of e, λ _. refl)

pub returns-in-Some : goal.returns-in-Some
returns-in-Some t c =
    let apart : c.args.c ≢ c.args.of = search rules in
    let above : parent c.args.c ≡ Some c.in-Some.above = sym c.parent.ensures ∙ c.in-Some.is in (
      λ h. below above (c.matches.ensures.0 h),
      λ u. c.matches.ensures.1 (under_parent c.args.c c.in-Some.above c.args.of apart above u),
    )
