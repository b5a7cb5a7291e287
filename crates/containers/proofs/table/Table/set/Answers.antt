use Rattle.std.proofs.Common.{List, ℕ, ap, ◌∙◌, Vec, Global}
use Rattle.std.specs.Ordering.{nat_cmp}
use Rattle.std.specs.Cmp.Lexicographic.{slice_cmp, nat_list_cmp_total}
use Rattle.std.specs.FinMap as map
use Rattle.std.specs.FinMap.{slice_cmp-IsAntisymmetric, nat_cmp-IsAntisymmetric}
use Rattle.containers.proofs.Keyed.{insert-keyed, keyed}
use Rattle.containers.proofs.table.Table.set.Goals as goal

pub returns-clause-ok : goal.returns-clause-ok
returns-clause-ok g c =
    let key : Vec ℕ Global → List ℕ = λ k. k.items in
    let order = slice_cmp nat_cmp in
    ap (λ es. map.from_entries (keyed order key es)) c.in_ok-insert.ensures.entries
    ∙ insert-keyed order key nat_list_cmp_total (slice_cmp-IsAntisymmetric nat_cmp-IsAntisymmetric) c.self.inside.cells.entries c.in_ok-key.key c.args.value
    ∙ ap (λ m. map.insert m c.in_ok-key.key.items c.args.value) c.self.view_is
    ∙ ap (λ (k : List ℕ). map.insert c.args.self.now k c.args.value) (c.in_ok-key.ensures.items ∙ c.as_slice.ensures)
