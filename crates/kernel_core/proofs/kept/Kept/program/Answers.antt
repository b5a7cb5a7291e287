use Rattle.std.proofs.Common.{Bool, cond, ap, sym, ◌∙◌}
use Rattle.std.specs.Prelude.{Some, None}
use Rattle.py_ast.specs.Statement.{view_cell}
use Rattle.kernel_core.specs.Program.{program_of}
use Rattle.kernel_core.proofs.KeptPrograms.{program_is}
use Rattle.kernel_core.proofs.kept.Kept.program.Goals as goal

pub returns-then-self : goal.returns-then-self
returns-then-self c =
    sym (program_is c.self.inside.text (view_cell c.self.inside.cell) c.self.inside.plain c.self.invariant.0 c.self.invariant.1
    ∙ ap (λ (p : Bool). cond p (Some (view_cell c.self.inside.cell)) None) c.if-self.true)
    ∙ ap program_of c.self.view_is

pub returns-else-self : goal.returns-else-self
returns-else-self c =
    sym (program_is c.self.inside.text (view_cell c.self.inside.cell) c.self.inside.plain c.self.invariant.0 c.self.invariant.1
    ∙ ap (λ (p : Bool). cond p (Some (view_cell c.self.inside.cell)) None) c.if-self.false)
    ∙ ap program_of c.self.view_is
