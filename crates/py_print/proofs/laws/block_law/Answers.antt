use Rattle.py_ast.specs.Lawful.{top}
use Rattle.py_print.proofs.BlockLaws.{block_stands}
use Rattle.py_print.proofs.laws.block_law.Goals as goal

pub returns : goal.returns
returns c = record { stands = block_stands top }
