use Rattle.std.proofs.Common.{ap, sym, ◌∙◌}
use Rattle.std.specs.Ordering.{nat_cmp}
use Rattle.std.specs.Cmp.{nat_cmp_total}
use Rattle.std.specs.FinMap as map
use Rattle.py_scope.proofs.RunTable.{get_entry}
use Rattle.py_scope.proofs.codes.Codes.get.Goals as goal

pub returns : goal.returns
returns c =
    c.get.ensures.value
    ∙ sym (get_entry nat_cmp nat_cmp_total c.self.inside.codes.entries c.args.run.0)
    ∙ ap (λ m. map.get m c.args.run.0) c.self.view_is
