use Rattle.std.proofs.Common.{◌∙◌, ◌||◌, ap}
use Rattle.kernel_core.specs.Marking.{has_name}
use Rattle.kernel_core.specs.Naming.{binds}
use Rattle.kernel_core.proofs.LineageLaws.{has_name-insert}
use Rattle.kernel_core.proofs.lineage.add_bound.Goals as goal

pub returns-in_ok-set : goal.returns-in_ok-set
returns-in_ok-set c other =
    ap (λ m. has_name m other) c.in_ok-set.ensures.ok
    ∙ has_name-insert c.args.bound.now _ _ other
    ∙ ap (λ o. binds o other || has_name c.args.bound.now other) c.in-Some.ensures
