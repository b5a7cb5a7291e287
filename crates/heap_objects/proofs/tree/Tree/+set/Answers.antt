use Rattle.std.proofs.Common.{◌≡◌, ◌+◌, ◌++◌, List, length, ap, sym, ◌∙◌}
use Rattle.heap_objects.specs.Rows.{with_stamp, rows}
use Rattle.heap_objects.specs.declared.tree.Row.{Row}
use Rattle.heap_objects.specs.declared.tree.Tree.{Tree}
use Rattle.heap_objects.proofs.RowLaws.{AllBelow-with_stamp, AllFrom-with_stamp, length-with_stamp, with_stamp-left, with_stamp-right}
use Rattle.heap_objects.proofs.tree.Tree.+set.Goals as goal

pub returns-then-stamp-mark-clause-tree : goal.returns-then-stamp-mark-clause-tree
returns-then-stamp-mark-clause-tree t c =
    let h = rw c.in-Branch.is at c.requires in
    let left : List Row = rows c.in-Branch.left.value in
    let now : rows c.set.new.self ≡ with_stamp left c.args.stamp c.args.value =
    c.set.ensures.rows ∙ ap (λ (x : Tree). with_stamp (rows x) c.args.stamp c.args.value) c.deref_mut.ensures.value in (
      h.0 ∙ ap (λ n. n + length (rows c.in-Branch.right.value)) (sym (ap length now ∙ length-with_stamp left c.args.stamp c.args.value)),
      rw now (AllBelow-with_stamp _ left c.args.stamp c.args.value h.1),
      h.2,
      c.set.ensures.tree,
      h.4,
    )

pub returns-then-stamp-mark-clause-rows : goal.returns-then-stamp-mark-clause-rows
returns-then-stamp-mark-clause-rows t c =
    let h = rw c.in-Branch.is at c.requires in
    let left : List Row = rows c.in-Branch.left.value in
    let right : List Row = rows c.in-Branch.right.value in
    let now : rows c.set.new.self ≡ with_stamp left c.args.stamp c.args.value =
    c.set.ensures.rows ∙ ap (λ (x : Tree). with_stamp (rows x) c.args.stamp c.args.value) c.deref_mut.ensures.value in
    ap (λ (x : List Row). x ++ right) now
    ∙ sym (with_stamp-left c.in-Branch.mark.split left right c.args.stamp c.args.value h.2 c.if-stamp-mark.true)
    ∙ ap (λ (x : Tree). with_stamp (rows x) c.args.stamp c.args.value) (sym c.in-Branch.is)

pub returns-else-stamp-mark-clause-tree : goal.returns-else-stamp-mark-clause-tree
returns-else-stamp-mark-clause-tree t c =
    let h = rw c.in-Branch.is at c.requires in
    let right : List Row = rows c.in-Branch.right.value in
    let now : rows c.set-else-stamp-mark.new.self ≡ with_stamp right c.args.stamp c.args.value =
    c.set-else-stamp-mark.ensures.rows ∙ ap (λ (x : Tree). with_stamp (rows x) c.args.stamp c.args.value) c.deref_mut-else-stamp-mark.ensures.value in (
      h.0 ∙ ap (λ n. length (rows c.in-Branch.left.value) + n) (sym (ap length now ∙ length-with_stamp right c.args.stamp c.args.value)),
      h.1,
      rw now (AllFrom-with_stamp _ right c.args.stamp c.args.value h.2),
      h.3,
      c.set-else-stamp-mark.ensures.tree,
    )

pub returns-else-stamp-mark-clause-rows : goal.returns-else-stamp-mark-clause-rows
returns-else-stamp-mark-clause-rows t c =
    let h = rw c.in-Branch.is at c.requires in
    let left : List Row = rows c.in-Branch.left.value in
    let right : List Row = rows c.in-Branch.right.value in
    let now : rows c.set-else-stamp-mark.new.self ≡ with_stamp right c.args.stamp c.args.value =
    c.set-else-stamp-mark.ensures.rows ∙ ap (λ (x : Tree). with_stamp (rows x) c.args.stamp c.args.value) c.deref_mut-else-stamp-mark.ensures.value in
    ap (λ (x : List Row). left ++ x) now
    ∙ sym (with_stamp-right c.in-Branch.mark.split left right c.args.stamp c.args.value h.1 c.if-stamp-mark.false)
    ∙ ap (λ (x : Tree). with_stamp (rows x) c.args.stamp c.args.value) (sym c.in-Branch.is)
