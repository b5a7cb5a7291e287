-- What the walk through all nodes of a cell has found.
use Rattle.std.proofs.Common.{◌≡◌, ℕ, List, [], ◌∷◌, ◌++◌, map, refl, sym, ap, ◌∙◌, append_assoc, append-nil, Option, None, Result, Ok, Err}
use Rattle.std.specs.List.{flat_map}
use Rattle.py_ast.specs.declared.cell.Cell.{Cell}
use Rattle.py_scope.specs.Building.{Built, Finishes, before_nodes, with_spot, with_spots}
use Rattle.py_scope.specs.Chart.{Gives, Spot, cell_code, faults_at, first_fault, seat_of, seats_of_cell, spots_of_cell}
use Rattle.py_scope.specs.Faults.{faults_of, least_with, lesser}
use Rattle.py_scope.specs.declared.chart.Seat.{Seat}
use Rattle.py_scope.specs.declared.fault.ScopeFault.{ScopeFault}
use Rattle.py_scope.specs.declared.fault.ScopeFault.TheVariants.{At, NoMemory}

least_with_append : (m : Option ℕ) (xs ys : List ℕ) → least_with m (xs ++ ys) ≡ least_with (least_with m xs) ys
least_with_append m [] ys = refl
least_with_append m (x ∷ xs) ys = least_with_append (lesser m x) xs ys

seats_built : (built : Built) (spots : List Spot) → (with_spots built spots).seats ≡ built.seats ++ map seat_of spots
seats_built built [] = sym (append-nil built.seats)
seats_built built (spot ∷ spots) = seats_built (with_spot built spot) spots
    ∙ append_assoc built.seats (seat_of spot ∷ []) (map seat_of spots)

fault_built : (built : Built) (spots : List Spot) → (with_spots built spots).fault ≡ least_with built.fault (flat_map faults_at spots)
fault_built built [] = refl
fault_built built (spot ∷ spots) =
    fault_built (with_spot built spot) spots ∙ sym (least_with_append built.fault (faults_at spot) (flat_map faults_at spots))

pub seats_found : (c : Cell) → (with_spots (before_nodes c) (spots_of_cell c)).seats ≡ seats_of_cell c
seats_found c = seats_built (before_nodes c) (spots_of_cell c)

pub fault_found : (c : Cell) → (with_spots (before_nodes c) (spots_of_cell c)).fault ≡ first_fault c
fault_found c =
    fault_built (before_nodes c) (spots_of_cell c)
    ∙ sym (least_with_append None (faults_of [] (cell_code c)) (flat_map faults_at (spots_of_cell c)))

pub finished : (c : Cell) (built : Built) (result : Result (List Seat) ScopeFault) → built ≡ with_spots (before_nodes c) (spots_of_cell c)
    → Finishes built result → Gives c result
finished c built (Ok seats) e h = (
  sym (fault_found c) ∙ sym (ap (λ (b : Built). b.fault) e) ∙ h.0,
  h.1 ∙ ap (λ (b : Built). b.seats) e
      ∙ seats_found c,
)
finished c built (Err (At node)) e h = sym (fault_found c) ∙ sym (ap (λ (b : Built). b.fault) e) ∙ h
finished c built (Err NoMemory) e h = absurd h
