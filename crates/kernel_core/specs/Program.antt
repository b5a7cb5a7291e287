-- What a cell with an accepted text runs.
use Rattle.std.specs.Prelude.{ℕ, List, [], Option, Some, None, Result, Ok, Err, if◌then◌else◌}
use Rattle.py_accepted.specs.Accepted.{cell_of}
use Rattle.py_ast.specs.Statement.{Block}
use Rattle.py_block.specs.Parsed.{Fault}
use Rattle.plain_cells.specs.Plain.{is_plain, names_in}

-- a plain cell is run as it stands, and another one is not run
abbrev pub program_in : Result Block Fault → Option Block
program_in (Ok b) = if is_plain b then Some b else None
program_in (Err fault) = None

unfoldable pub program_of : List ℕ → Option Block
program_of text = program_in (cell_of text)

-- the names in what is run, in the order in which they stand in it
abbrev pub names_of : Option Block → List (List ℕ)
names_of None = []
names_of (Some b) = names_in b
