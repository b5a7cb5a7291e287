use Rattle.std.proofs.Common.{◌+◌, ◌*◌}
use Rattle.heap_objects.specs.Rows.{size_of}
use Rattle.heap_objects.proofs.tree.+remove.Given as goal

abbrev pub decreases-Tree::remove : goal.decreases-Tree::remove
decreases-Tree::remove l = 2 * size_of l.self.now

abbrev pub decreases-remove_side : goal.decreases-remove_side
decreases-remove_side l = 2 * (size_of l.left.now + size_of l.right.now) + 1
