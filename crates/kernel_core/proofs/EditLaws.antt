-- The state after an edit is what the longer log comes to.
use Rattle.std.proofs.Common.{◌≡◌, ◌∙◌, ℕ, List, [], ◌∷◌, ◌++◌, ap, sym}
use Rattle.std.specs.Prelude.{Result, Ok}
use Rattle.std.proofs.lemmas.List.Sums.{fold-append}
use Rattle.py_accepted.specs.Accepted.{cell_of}
use Rattle.py_ast.specs.Statement.{Block}
use Rattle.py_block.specs.Parsed.{Fault}
use Rattle.kernel_core.specs.declared.accepted.Accepted.{Accepted}
use Rattle.kernel_core.specs.declared.accepted.Accepted.TheVariants.{Edit}
use Rattle.kernel_core.specs.declared.state.State.{State}
use Rattle.kernel_core.specs.Program.{program_in, program_of}
use Rattle.kernel_core.specs.State.{after, edited, empty_state, put_text, state_of}

pub edited_more : (log : List Accepted) (s : State) (cell text : List ℕ) (b : Block) → s ≡ state_of log → cell_of text ≡ Ok b
    → put_text s cell text (program_of text) ≡ state_of (log ++ Edit cell text ∷ [])
unfolding program_of
edited_more log s cell text b same is =
    ap (λ (answer : Result Block Fault). put_text s cell text (program_in answer)) is
    ∙ ap (edited s cell text) (sym is)
    ∙ ap (λ (t : State). edited t cell text (cell_of text)) same
    ∙ sym (fold-append after empty_state log (Edit cell text ∷ []))
