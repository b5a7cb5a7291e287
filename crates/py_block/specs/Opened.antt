-- What contracts see of the levels while the lines of a cell are put into them.
use Rattle.std.specs.Prelude.{◌≡◌, ℕ, ◌++◌, List, [], Bool, true, false, map, Option, Some, None, Result, Ok, Err}
use Rattle.flow_base.specs.declared.no_memory.NoMemory.{NoMemory}
use Rattle.py_ast.specs.Nodes.{nodes_of_cell, number_of}
use Rattle.py_ast.specs.Statement.{view_cell}
use Rattle.py_ast.specs.declared.cell.Cell.{Cell}
use Rattle.py_grammar.specs.Blocks.{Placed}
use Rattle.py_line.specs.Form.{line_of, numbers_of_form}
use Rattle.py_line.specs.declared.form.LineForm.{LineForm}
use Rattle.py_block.specs.Machine as machine
use Rattle.py_block.specs.Machine.{State, step, accepted}

-- the open levels, and the numbers that the nodes in them hold, in the order of the text
pub record Opened : Type 0 where
  pub state : State
  pub numbers : List ℕ

abbrev pub start : Opened
start = record { state = machine.start; numbers = [] }

abbrev pub placed : ℕ → LineForm → Placed
placed deep form = record { deep = deep; line = line_of form }

-- a line was placed at its depth, behind all others; or it may not stand there
abbrev pub IsPlaced : Opened → ℕ → LineForm → Result Bool NoMemory → Opened → Type 0
IsPlaced before deep form (Ok true) after =
    (step before.state (placed deep form) ≡ Some after.state) × (after.numbers ≡ before.numbers ++ numbers_of_form form)
IsPlaced before deep form (Ok false) after = step before.state (placed deep form) ≡ None
IsPlaced before deep form (Err fault) after = Unit {0}

-- the cell that the levels are when no more lines follow, or that they may not end there
abbrev pub IsEnded : Opened → Result (Option Cell) NoMemory → Type 0
IsEnded o (Ok (Some c)) = (accepted o.state ≡ Some (view_cell c)) × (map number_of (nodes_of_cell c) ≡ o.numbers)
IsEnded o (Ok None) = accepted o.state ≡ None
IsEnded o (Err fault) = Unit {0}
