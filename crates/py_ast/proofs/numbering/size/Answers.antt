use Rattle.py_ast.proofs.NodeLists.{counted_is_size, counted_is_some}
use Rattle.py_ast.proofs.numbering.size.Goals as goal

pub returns-in-Some : goal.returns-in-Some
returns-in-Some c =
    counted_is_size c.args.c.now c.counted_block.result c.in-Some.last c.requires
    (rw c.as_slice.ensures at c.counted_block.ensures) c.in-Some.is

pub returns-in-None : goal.returns-in-None
returns-in-None c =
    counted_is_some c.args.c.now c.counted_block.result c.requires
    (rw c.as_slice.ensures at c.counted_block.ensures) c.in-None.is
