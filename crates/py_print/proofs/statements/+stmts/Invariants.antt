use Rattle.std.proofs.Common.{◌≡◌, drop, map}
use Rattle.py_ast.specs.Statement.{branches_of, handlers_of, view_block}
use Rattle.py_grammar.specs.Line as l
use Rattle.py_print.specs.Forms.{view_branch, view_handler}
use Rattle.py_print.specs.Printed.{catches, lines_of, tests}
use Rattle.py_print.specs.Writing.{with_lines}
use Rattle.py_print.proofs.PrintStatements.{test_header}
use Rattle.py_print.proofs.statements.+stmts.Given as goal

abbrev pub invariant-print_block-loop-s : goal.invariant-print_block-loop-s
invariant-print_block-loop-s r = with_lines r.w (lines_of r.deep (view_block (drop r.s-index r.all)))
    ≡ with_lines r.initial.w (lines_of r.deep (view_block r.all))

abbrev pub invariant-print_tests-loop-b : goal.invariant-print_tests-loop-b
invariant-print_tests-loop-b r = with_lines r.w (tests (test_header r.first) r.deep (branches_of (map view_branch (drop r.b-index r.all))))
    ≡ with_lines r.initial.w (tests l.if r.deep (branches_of (map view_branch r.all)))

abbrev pub invariant-print_handlers-loop-h : goal.invariant-print_handlers-loop-h
invariant-print_handlers-loop-h r = with_lines r.w (catches r.deep (handlers_of (map view_handler (drop r.h-index r.all))))
    ≡ with_lines r.initial.w (catches r.deep (handlers_of (map view_handler r.all)))
