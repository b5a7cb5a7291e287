-- How the scopes of a cell are put together, node by node.
use Rattle.std.specs.Prelude.{◌≡◌, ℕ, List, [], ◌∷◌, ◌++◌, Option, Some, None, Result, Ok, Err}
use Rattle.py_ast.specs.declared.cell.Cell.{Cell}
use Rattle.py_scope.specs.Chart.{Spot, cell_code, faults_at, seat_of}
use Rattle.py_scope.specs.Faults.{faults_of, least, least_with}
use Rattle.py_scope.specs.declared.chart.Seat.{Seat}
use Rattle.py_scope.specs.declared.fault.ScopeFault.{ScopeFault}
use Rattle.py_scope.specs.declared.fault.ScopeFault.TheVariants.{At, NoMemory}

-- what is kept of some nodes, and the first fault so far
pub record Built : Type 0 where
  pub seats : List Seat
  pub fault : Option ℕ

-- before the nodes of a cell
abbrev pub before_nodes : Cell → Built
before_nodes c = record { seats = []; fault = least (faults_of [] (cell_code c)) }

abbrev pub with_spot : Built → Spot → Built
with_spot built spot = record { seats = built.seats ++ seat_of spot ∷ []; fault = least_with built.fault (faults_at spot) }

abbrev pub with_spots : Built → List Spot → Built
with_spots built [] = built
with_spots built (spot ∷ spots) = with_spots (with_spot built spot) spots

abbrev pub Finishes : Built → Result (List Seat) ScopeFault → Type 0
Finishes built (Ok seats) = (built.fault ≡ None) × (seats ≡ built.seats)
Finishes built (Err (At node)) = built.fault ≡ Some node
Finishes built (Err NoMemory) = ⊥
