use Rattle.std.proofs.Common.{ap, sym, ◌∙◌}
use Rattle.heap_objects.specs.Rows.{row_of, rows}
use Rattle.heap_objects.specs.declared.tree.Tree.{Tree}
use Rattle.heap_objects.proofs.RowLaws.{row_of-left, row_of-right}
use Rattle.heap_objects.proofs.tree.Tree.+find.Goals as goal

pub returns-then-stamp-mark : goal.returns-then-stamp-mark
returns-then-stamp-mark t c =
    let h = rw c.in-Branch.is at c.requires in
    c.find.ensures
    ∙ ap (λ (x : Tree). row_of (rows x) c.args.stamp) c.deref.ensures
    ∙ sym (row_of-left c.in-Branch.mark.split (rows c.in-Branch.left.value) (rows c.in-Branch.right.value) c.args.stamp h.2 c.if-stamp-mark.true)
    ∙ ap (λ (x : Tree). row_of (rows x) c.args.stamp) (sym c.in-Branch.is)

pub returns-else-stamp-mark : goal.returns-else-stamp-mark
returns-else-stamp-mark t c =
    let h = rw c.in-Branch.is at c.requires in
    c.find-else-stamp-mark.ensures
    ∙ ap (λ (x : Tree). row_of (rows x) c.args.stamp) c.deref-else-stamp-mark.ensures
    ∙ sym (row_of-right c.in-Branch.mark.split (rows c.in-Branch.left.value) (rows c.in-Branch.right.value) c.args.stamp h.1 c.if-stamp-mark.false)
    ∙ ap (λ (x : Tree). row_of (rows x) c.args.stamp) (sym c.in-Branch.is)
