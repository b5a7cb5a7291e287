use Rattle.std.proofs.Common.{◌≡◌, ◌++◌, ◌∷◌, [], List, length, ap, ◌∙◌, arith, length-append}
use Rattle.heap_objects.specs.Rows.{AllFrom, rows}
use Rattle.heap_objects.specs.declared.tree.Row.{Row}
use Rattle.heap_objects.specs.declared.tree.Tree.{Tree}
use Rattle.heap_objects.proofs.RowLaws.{AllBelow-right, AllFrom-append}
use Rattle.heap_objects.proofs.tree.Tree.+push.Goals as goal

pub push-requires : goal.push-requires
push-requires t c =
    let h = rw c.in-Branch.is at c.requires.tree in
    let last = rw c.in-Branch.is at c.requires.last in
    let fits = rw c.in-Branch.is at c.requires.fits in
    let size = rw c.in-Branch.is at c.decreases in
    let left : List Row = rows c.in-Branch.field-0.value in
    let right : List Row = rows c.in-Branch.right.value in
    rw c.deref_mut.ensures.value
    (omega (arith, size), (h.4, (AllBelow-right c.args.row.stamp left right last, omega (arith, length-append left right, fits))))

pub returns-in_ok-push-in-Branch-clause-tree : goal.returns-in_ok-push-in-Branch-clause-tree
returns-in_ok-push-in-Branch-clause-tree t c =
    let h = rw c.in-Branch.is at c.requires.tree in
    let left : List Row = rows c.in-Branch.field-0.value in
    let right : List Row = rows c.in-Branch.right.value in
    let now : rows c.push.new.self ≡ right ++ c.args.row ∷ [] = c.in_ok-push-in-Branch.ensures.ok ∙ ap (λ (x : Tree). rows x ++ c.args.row ∷ []) c.deref_mut.ensures.value in
    let from : AllFrom c.in-Branch.mark.split (right ++ c.args.row ∷ []) = AllFrom-append _ right (c.args.row ∷ []) h.2 (c.if-row-mark.true, tt) in
    (omega (arith, h.0, ap length now, length-append right (c.args.row ∷ [])), h.1, rw now from, h.3, c.in_ok-push-in-Branch.ensures.tree)
