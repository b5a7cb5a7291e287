use Rattle.heap_objects.specs.Rows.{size_of}
use Rattle.heap_objects.proofs.tree.Tree.+push.Given as goal

abbrev pub decreases-push : goal.decreases-push
decreases-push l = size_of l.self.now
