use Rattle.std.proofs.Common.{◌∙◌, Some, ap, sym}
use Rattle.std.specs.Prelude.{option_map}
use Rattle.kernel_core.specs.Marking.{all_written, written}
use Rattle.kernel_core.proofs.LineageLaws.{least_onto, least_onto-none, least_popped}
use Rattle.kernel_core.proofs.lineage.least.Goals as goal

pub loop-version-init : goal.loop-version-init
loop-version-init c names = least_onto-none names (all_written c.args.stale.items)

pub loop-version-preserved : goal.loop-version-preserved
loop-version-preserved c names =
    let best = option_map written c.loop-version.best in
    ap (λ v. least_onto names (all_written c.pop.new.self.items) (Some v)) (c.lesser.ensures names)
    ∙ sym (least_popped names c.pop.new.self.items c.in-Some.version best)
    ∙ ap (λ ps. least_onto names (all_written ps) best) (sym c.in-Some.ensures.items)
    ∙ c.loop-version.invariant names
