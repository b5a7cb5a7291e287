use Rattle.std.proofs.Common.{ap, sym, ◌∙◌}
use Rattle.std.specs.Cmp.{nat_cmp_total}
use Rattle.std.specs.FinMap as map
use Rattle.heap_objects.specs.Names.{Names}
use Rattle.heap_objects.proofs.named.Named.get.Goals as goal

pub returns : goal.returns
returns c =
    c.get.ensures.value
    ∙ sym (map.get-from_entries nat_cmp_total c.self.inside.held.entries c.args.name.0)
    ∙ ap (λ (m : Names). map.get m c.args.name.0) c.self.view_is
