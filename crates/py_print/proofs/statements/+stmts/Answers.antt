use Rattle.std.proofs.Common.{◌+◌, map, ap, ◌∙◌}
use Rattle.py_ast.specs.View.{view}
use Rattle.py_ast.specs.Statement.{branches_of, handlers_of, view_block}
use Rattle.py_ast.specs.declared.stmt.Branch.{out-Branch}
use Rattle.py_grammar.specs.Line as l
use Rattle.py_grammar.specs.declared.mark.Mark.{Mark}
use Rattle.py_print.specs.Forms.{view_branch, view_handler, word_and}
use Rattle.py_print.specs.Printed.{catches, lines_of, tests}
use Rattle.py_print.specs.Writing.{with_header, with_lines}
use Rattle.py_print.proofs.PrintStatements.{block_step, catches_step, tests_step}
use Rattle.py_print.proofs.statements.+stmts.Goals as goal

pub print_block-loop-s-preserved : goal.print_block-loop-s-preserved
print_block-loop-s-preserved t c =
    block_step c.args.deep c.loop-s.s-index c.loop-s.w c.print_stmt.new.w c.args.all.now c.s-item.result
    (with_lines c.args.w.now (lines_of c.args.deep (view_block c.args.all.now))) c.loop-s-test.true c.s-item.is c.in_ok-print_stmt.ensures
    c.loop-s.invariant

pub print_tests-loop-b-preserved : goal.print_tests-loop-b-preserved
print_tests-loop-b-preserved t c =
    let deep = c.args.deep in
    let y = c.b-item.result in
    tests_step deep c.loop-b.b-index c.loop-b.first c.loop-b.w c.print_branch.new.w c.args.all.now y
    (with_lines c.args.w.now (tests l.if deep (branches_of (map view_branch c.args.all.now)))) c.loop-b-test.true c.b-item.is
    (c.in_ok-print_branch.ensures
    ∙ ap (λ (z : Mark). with_lines (with_header c.loop-b.w deep (word_and z (view (out-Branch y).test))) (lines_of (deep + 1) (view_block (out-Branch y).body)))
    c.test_word.ensures)
    c.loop-b.invariant

pub print_handlers-loop-h-preserved : goal.print_handlers-loop-h-preserved
print_handlers-loop-h-preserved t c =
    catches_step c.args.deep c.loop-h.h-index c.loop-h.w c.print_handler.new.w c.args.all.now c.h-item.result
    (with_lines c.args.w.now (catches c.args.deep (handlers_of (map view_handler c.args.all.now)))) c.loop-h-test.true c.h-item.is
    c.in_ok-print_handler.ensures c.loop-h.invariant
