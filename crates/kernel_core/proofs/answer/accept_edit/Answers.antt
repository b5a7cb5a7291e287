use Rattle.std.proofs.Common.{◌≡◌, ◌∙◌, ℕ, List, [], ◌∷◌, ◌++◌, ap, sym}
use Rattle.py_ast.specs.Statement.{view_cell}
use Rattle.kernel_core.specs.declared.accepted.Accepted.TheVariants.{Edit}
use Rattle.kernel_core.specs.Program.{program_of}
use Rattle.kernel_core.specs.State.{put_text, state_of}
use Rattle.kernel_core.proofs.EditLaws.{edited_more}
use Rattle.kernel_core.proofs.answer.accept_edit.Goals as goal

pub returns-clause-state : goal.returns-clause-state
returns-clause-state c =
    let text : c.new-kept.result ≡ c.args.text.now = c.new-kept.ensures ∙ c.in_ok-copy.ensures in
    let longer : c.push.new.self ≡ c.args.log.now ++ Edit c.args.cell.now c.args.text.now ∷ [] =
    c.in_ok-push.ensures.ok
    ∙ ap (λ (cell : List ℕ). c.args.log.now ++ Edit cell c.in_ok-copy-4.field-0 ∷ []) c.in_ok-copy-3.ensures
    ∙ ap (λ (text : List ℕ). c.args.log.now ++ Edit c.args.cell.now text ∷ []) c.in_ok-copy-4.ensures in
    c.in_ok-edit.ensures
    ∙ ap (λ (kept : List ℕ). put_text c.args.state.now c.args.cell.now kept (program_of kept)) text
    ∙ edited_more c.args.log.now c.args.state.now c.args.cell.now c.args.text.now (view_cell c.args.spelled) c.requires.same c.requires.accepted
    ∙ ap state_of (sym longer)
