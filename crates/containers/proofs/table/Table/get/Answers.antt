use Rattle.std.proofs.Common.{List, ℕ, ap, sym, ◌∙◌, Vec, Global}
use Rattle.std.specs.Ordering.{nat_cmp}
use Rattle.std.specs.Cmp.Lexicographic.{slice_cmp, nat_list_cmp_total}
use Rattle.std.specs.BTreeMap.{get_by}
use Rattle.std.specs.FinMap as map
use Rattle.containers.proofs.Keyed.{get-keyed}
use Rattle.containers.proofs.table.Table.get.Goals as goal

pub returns : goal.returns
returns g c =
    c.get.ensures.value
    ∙ ap (λ (q : List ℕ). get_by (λ (k : Vec ℕ Global). slice_cmp nat_cmp q k.items) c.self.inside.cells) c.as_slice.ensures
    ∙ sym (get-keyed (slice_cmp nat_cmp) (λ (k : Vec ℕ Global). k.items) nat_list_cmp_total c.self.inside.cells.entries c.args.cell.now)
    ∙ ap (λ m. map.get m c.args.cell.now) c.self.view_is
