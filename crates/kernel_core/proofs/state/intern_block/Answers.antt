use Rattle.std.proofs.Common.{◌≡◌, ◌∙◌, ◌+◌, ◌∷◌, drop, ap, sym}
use Rattle.std.proofs.lemmas.List.{drop_more}
use Rattle.py_ast.specs.Statement.{view_stmt, view_block}
use Rattle.py_ast.specs.declared.stmt.Stmt.{Stmt}
use Rattle.plain_cells.specs.Plain.{assigned, names_in, names_read}
use Rattle.kernel_core.specs.State.{with_names}
use Rattle.kernel_core.proofs.NamingLaws.{names_first}
use Rattle.kernel_core.proofs.state.intern_block.Goals as goal

pub loop-s-preserved : goal.loop-s-preserved
loop-s-preserved c =
    let item = c.s-item.result in
    let more = drop (c.loop-s.s-index + 1) c.args.statements.now in
    let all : drop c.loop-s.s-index c.args.statements.now ≡ item ∷ more =
    drop_more c.args.statements.now c.loop-s.s-index item c.loop-s-test.true ∙ ap (λ (s : Stmt). s ∷ more) (sym c.s-item.is) in
    c.loop-s.invariant
    ∙ ap (λ statements. with_names c.loop-s.names (names_in (view_block statements))) all
    ∙ names_first c.loop-s.names item more
    ∙ ap (λ table. with_names (with_names table (names_read (assigned (view_stmt item)))) (names_in (view_block more))) (sym c.in_ok-intern_bound.ensures)
    ∙ ap (λ table. with_names table (names_in (view_block more))) (sym c.in_ok-intern_used.ensures)
