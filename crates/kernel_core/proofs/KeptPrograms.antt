-- What a cell that is kept runs, and how it is shown.
use Rattle.std.proofs.Common.{◌≡◌, ℕ, Bool, cond, List, ap, sym, ◌∙◌}
use Rattle.std.specs.Prelude.{Some, None, Ok}
use Rattle.py_accepted.specs.Accepted.{cell_of}
use Rattle.py_ast.specs.Statement.{Block}
use Rattle.plain_cells.specs.Plain.{is_plain}
use Rattle.kernel_core.specs.Program.{program_in, program_of}

pub program_is : (text : List ℕ) (b : Block) (plain : Bool) → cell_of text ≡ Ok b → plain ≡ is_plain b → program_of text ≡ cond plain (Some b) None
unfolding program_of
program_is text b plain accepted is = ap program_in accepted ∙ ap (λ (p : Bool). cond p (Some b) None) (sym is)
