use Rattle.std.proofs.Common.{◌≡◌, ◌∙◌, ◌+◌, ◌∷◌, ◌++◌, drop, ap, sym, append_assoc}
use Rattle.std.proofs.lemmas.List.{drop_more}
use Rattle.py_ast.specs.Statement.{view_stmt, view_block}
use Rattle.py_ast.specs.declared.stmt.Stmt.{Stmt}
use Rattle.plain_cells.specs.Plain.{assigned, names_read}
use Rattle.kernel_core.specs.Marking.{has_name, live_in}
use Rattle.kernel_core.proofs.LineageLaws.{live_at_start, live_by, live_step}
use Rattle.kernel_core.proofs.lineage.live_names.Goals as goal

pub loop-s-init : goal.loop-s-init
loop-s-init c =
    ap (λ xs. xs ++ live_by (has_name c.new-bound.result) (view_block c.args.statements.now)) c.new-live.ensures.items
    ∙ ap (λ m. live_by (has_name m) (view_block c.args.statements.now)) c.new-bound.ensures
    ∙ live_at_start _ (view_block c.args.statements.now)

pub loop-s-preserved : goal.loop-s-preserved
loop-s-preserved c =
    let bound = c.loop-s.bound in
    let item = c.s-item.result in
    let more = drop (c.loop-s.s-index + 1) c.args.statements.now in
    let all : drop c.loop-s.s-index c.args.statements.now ≡ item ∷ more =
    drop_more c.args.statements.now c.loop-s.s-index item c.loop-s-test.true ∙ ap (λ (s : Stmt). s ∷ more) (sym c.s-item.is) in
    let first = live_in (has_name bound) (names_read (assigned (view_stmt item))) in
    let later = live_by (has_name c.add_bound.new.bound) (view_block more) in
    ap (λ xs. xs ++ later) c.in_ok-add_used.ensures
    ∙ append_assoc c.loop-s.live.items first later
    ∙ ap (λ xs. c.loop-s.live.items ++ xs)
    (sym (live_step (has_name bound) (has_name c.add_bound.new.bound) item more c.in_ok-add_bound.ensures)
    ∙ ap (λ statements. live_by (has_name bound) (view_block statements)) (sym all))
    ∙ c.loop-s.invariant
