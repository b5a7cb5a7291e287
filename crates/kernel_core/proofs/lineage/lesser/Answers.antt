use Rattle.std.proofs.Common.{◌≡◌, ◌∙◌, true, false, sym, refl}
use Rattle.std.specs.Ordering.{is_lt}
use Rattle.trace_events.specs.Order.{version_cmp}
use Rattle.kernel_core.specs.Marking.{written}
use Rattle.kernel_core.proofs.lineage.lesser.Goals as goal

pub returns-then-is_before : goal.returns-then-is_before
returns-then-is_before c names =
    let before : is_lt (version_cmp names (written c.in-Some.other) (written c.args.version)) ≡ true = sym (c.is_before.ensures names) ∙ c.if-is_before.true in
    rw (c.in-Some.is, before) refl

pub returns-else-is_before : goal.returns-else-is_before
returns-else-is_before c names =
    let before : is_lt (version_cmp names (written c.in-Some.other) (written c.args.version)) ≡ false = sym (c.is_before.ensures names) ∙ c.if-is_before.false in
    rw (c.in-Some.is, before) refl
