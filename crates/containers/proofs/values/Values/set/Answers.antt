use Rattle.std.proofs.Common.{◌≡◌, ℕ, ℤ, ap, ◌∙◌}
use Rattle.std.specs.Ordering.{nat_cmp}
use Rattle.std.specs.Cmp.{nat_cmp_total}
use Rattle.std.specs.BTreeMap.{insert_entry}
use Rattle.std.specs.FinMap as map
use Rattle.std.specs.FinMap.{nat_cmp-IsAntisymmetric}
use Rattle.std.proofs.lemmas.Int.{to_z-of_z}
use mir.Syntax.{w128}
use mir.Val.{to_z, of_z}
use Rattle.containers.specs.declared.values.Values.{Values}
use Rattle.containers.proofs.Keyed.{insert-keyed, keyed}
use Rattle.containers.proofs.values.Values.set.Goals as goal

pub returns-clause-ok : goal.returns-clause-ok
returns-clause-ok c =
    let key : ℕ → ℕ = λ k. k in
    let entries = c.self.inside.numbers.entries in
    let same : to_z w128 (of_z w128 c.args.n) ≡ c.args.n = to_z-of_z w128 c.args.n c.ranges.n in
    ap (λ es. map.from_entries (keyed nat_cmp key es)) c.in_ok-insert.ensures.entries
    ∙ ap (λ (n : ℤ). map.from_entries {R = nat_cmp} (keyed nat_cmp key (insert_entry nat_cmp entries c.args.s.0 n))) same
    ∙ insert-keyed nat_cmp key nat_cmp_total nat_cmp-IsAntisymmetric entries c.args.s.0 c.args.n
    ∙ ap (λ (m : Values). map.insert m c.args.s.0 c.args.n) c.self.view_is
