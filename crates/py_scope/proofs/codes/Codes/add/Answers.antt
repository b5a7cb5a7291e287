use Rattle.std.proofs.Common.{ap, ◌∙◌}
use Rattle.std.specs.Ordering.{nat_cmp}
use Rattle.std.specs.Cmp.{nat_cmp_total}
use Rattle.std.specs.FinMap as map
use Rattle.std.specs.FinMap.{nat_cmp-IsAntisymmetric}
use Rattle.py_scope.proofs.RunTable.{insert_one}
use Rattle.py_scope.proofs.codes.Codes.add.Goals as goal

pub returns-clause-ok : goal.returns-clause-ok
returns-clause-ok c =
    ap (λ es. map.from_entries es) c.in_ok-insert.ensures.entries
    ∙ insert_one nat_cmp nat_cmp_total nat_cmp-IsAntisymmetric c.self.inside.codes.entries c.args.run.0 c.args.coded
    ∙ ap (λ m. map.insert m c.args.run.0 c.args.coded) c.self.view_is
