-- What is shown is accepted again, by the laws of what is accepted and of what is printed.
use Rattle.std.proofs.Common.{◌≡◌, ◌↔◌, ℕ, List, [], subst}
use Rattle.std.specs.Prelude.{Ok}
use Rattle.py_accepted.specs.Accepted.{cell_of}
use Rattle.py_ast.specs.Statement.{Block}
use Rattle.py_block.specs.Cell.{IsParsed, SpellsText}
use Rattle.py_block.specs.Parsed.{parsed}
use Rattle.py_numbered.specs.Numbered.{numbered}
use Rattle.py_print.specs.Printed.{printed}
use Rattle.py_print.specs.Spelled.{HasOwnNames}
use Rattle.py_scope.specs.Chart.{faults_of_cell}

module _ (accepted : (text : List ℕ) (b : Block) → (cell_of text ≡ Ok b) ↔ ((parsed text ≡ Ok b) × (faults_of_cell (numbered b) ≡ [])))
    (sound : (text : List ℕ) → IsParsed text (parsed text))
    (parsed_again : (text : List ℕ) (b : Block) → SpellsText text b → HasOwnNames b → parsed (printed b) ≡ Ok b) where
  pub accepted_again : (text : List ℕ) (b : Block) → cell_of text ≡ Ok b → HasOwnNames b → cell_of (printed b) ≡ Ok b
  accepted_again text b e names =
      let p = (accepted text b).0 e in
      let spells : SpellsText text b = subst (IsParsed text) p.0 (sound text) in
      (accepted (printed b) b).1 (parsed_again text b spells names, p.1)
