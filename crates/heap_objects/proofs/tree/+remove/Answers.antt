use Rattle.std.proofs.Common.{◌≡◌, ◌++◌, List, length, ap, sym, ◌∙◌, arith, length-append}
use Rattle.heap_objects.specs.Rows.{rows, without_stamp}
use Rattle.heap_objects.specs.declared.tree.Row.{Row}
use Rattle.heap_objects.specs.declared.tree.Tree.{Tree}
use Rattle.heap_objects.proofs.RowLaws.{AllBelow-without_stamp, AllFrom-without_stamp, length-without_stamp, without_stamp-left, without_stamp-right}
use Rattle.heap_objects.proofs.tree.+remove.Goals as goal

pub Tree::remove-remove_side-requires : goal.Tree::remove-remove_side-requires
Tree::remove-remove_side-requires t c =
    let h = rw c.in-Branch.is at c.requires.tree in
    let fits = rw c.in-Branch.is at c.requires.fits in
    let size = rw c.in-Branch.is at c.decreases in
    let left : List Row = rows c.in-Branch.left.value in
    let right : List Row = rows c.in-Branch.right.value in
    rw (c.deref_mut.ensures.value, c.deref_mut-in-Branch.ensures.value)
    (omega (arith, size), (h.3, (h.4, (h.1, (h.2, omega (arith, length-append left right, fits))))))

pub Tree::remove-overflow_add-mark : goal.Tree::remove-overflow_add-mark
Tree::remove-overflow_add-mark t c =
    let fits = rw c.in-Branch.is at c.requires.fits in
    let left : List Row = rows c.in-Branch.left.value in
    let right : List Row = rows c.in-Branch.right.value in
    let now : rows c.remove_side.new.left ++ rows c.remove_side.new.right ≡ without_stamp (left ++ right) c.args.stamp =
    rw (← c.deref_mut.ensures.value, ← c.deref_mut-in-Branch.ensures.value) c.remove_side.ensures.rows in
    let lefts : c.len.result ≡ length (rows c.remove_side.new.left) = c.len.ensures ∙ ap (λ (x : Tree). length (rows x)) c.deref.ensures in
    let rights : c.len-in-Branch.result ≡ length (rows c.remove_side.new.right) = c.len-in-Branch.ensures ∙ ap (λ (x : Tree). length (rows x)) c.deref-in-Branch.ensures in
    omega (arith, fits, lefts, rights, ap length now, length-append (rows c.remove_side.new.left) (rows c.remove_side.new.right), length-without_stamp (left ++ right) c.args.stamp)

pub remove_side-remove-requires : goal.remove_side-remove-requires
remove_side-remove-requires t c = (omega (arith, c.decreases), (c.requires.left, omega (arith, c.requires.fits)))

pub remove_side-remove-requires-else-stamp-split : goal.remove_side-remove-requires-else-stamp-split
remove_side-remove-requires-else-stamp-split t c = (omega (arith, c.decreases), (c.requires.right, omega (arith, c.requires.fits)))

pub remove_side-returns-then-stamp-split-clause-below : goal.remove_side-returns-then-stamp-split-clause-below
remove_side-returns-then-stamp-split-clause-below t c = rw c.remove.ensures.rows (AllBelow-without_stamp c.args.split (rows c.args.left.now) c.args.stamp c.requires.below)

pub remove_side-returns-then-stamp-split-clause-rows : goal.remove_side-returns-then-stamp-split-clause-rows
remove_side-returns-then-stamp-split-clause-rows t c =
    let left : List Row = rows c.args.left.now in
    let right : List Row = rows c.args.right.now in
    ap (λ (x : List Row). x ++ right) c.remove.ensures.rows ∙ sym (without_stamp-left c.args.split left right c.args.stamp c.requires.from c.if-stamp-split.true)

pub remove_side-returns-else-stamp-split-clause-from : goal.remove_side-returns-else-stamp-split-clause-from
remove_side-returns-else-stamp-split-clause-from t c =
    rw c.remove-else-stamp-split.ensures.rows (AllFrom-without_stamp c.args.split (rows c.args.right.now) c.args.stamp c.requires.from)

pub remove_side-returns-else-stamp-split-clause-rows : goal.remove_side-returns-else-stamp-split-clause-rows
remove_side-returns-else-stamp-split-clause-rows t c =
    let left : List Row = rows c.args.left.now in
    let right : List Row = rows c.args.right.now in
    ap (λ (x : List Row). left ++ x) c.remove-else-stamp-split.ensures.rows ∙ sym (without_stamp-right c.args.split left right c.args.stamp c.requires.below c.if-stamp-split.false)
