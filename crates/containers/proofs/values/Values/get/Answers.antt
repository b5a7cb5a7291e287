use Rattle.std.proofs.Common.{ℕ, ap, sym, ◌∙◌}
use Rattle.std.specs.Ordering.{nat_cmp}
use Rattle.std.specs.Cmp.{nat_cmp_total}
use Rattle.std.specs.FinMap as map
use Rattle.containers.specs.declared.values.Values.{Values}
use Rattle.containers.proofs.Keyed.{get-keyed}
use Rattle.containers.proofs.values.Values.get.Goals as goal

pub returns : goal.returns
returns c =
    c.copied.ensures
    ∙ c.get.ensures.value
    ∙ sym (get-keyed nat_cmp (λ (k : ℕ). k) nat_cmp_total c.self.inside.numbers.entries c.args.s.0)
    ∙ ap (λ (m : Values). map.get m c.args.s.0) c.self.view_is
