use Rattle.py_block.proofs.Law.{stands_accepted, one_block, run_begins, begins_run}
use Rattle.py_block.proofs.Means.{accepted_stands}
use Rattle.py_block.proofs.laws.block_law.Goals as goal

pub returns-clause-read : goal.returns-clause-read
returns-clause-read c = stands_accepted

pub returns-clause-stands : goal.returns-clause-stands
returns-clause-stands c = accepted_stands

pub returns-clause-one_block : goal.returns-clause-one_block
returns-clause-one_block c = one_block

pub returns-clause-begins : goal.returns-clause-begins
returns-clause-begins c = run_begins

pub returns-clause-runs : goal.returns-clause-runs
returns-clause-runs c = begins_run
