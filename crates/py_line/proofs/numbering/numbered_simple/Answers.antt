use Rattle.std.proofs.Common.{◌∙◌, option_map}
use Rattle.py_ast.specs.View.{view, views}
use Rattle.py_line.proofs.NumberedStmts.{numbered_Assert, numbered_Assign, numbered_Augment, numbered_Break, numbered_Continue, numbered_Del, numbered_Expr, numbered_Global, numbered_Nonlocal, numbered_Pass, numbered_Raise, numbered_Return}
use Rattle.py_line.proofs.numbering.numbered_simple.Goals as goal

pub returns-in_ok-e-in-Expr-clause-is : goal.returns-in_ok-e-in-Expr-clause-is
returns-in_ok-e-in-Expr-clause-is c = rw c.in-Expr.is (numbered_Expr c.args.next (view c.in-Expr.e) c.in_ok-e-in-Expr.e c.in_ok-e-in-Expr.ensures.is)

pub returns-in_ok-target-in-Del-clause-is : goal.returns-in_ok-target-in-Del-clause-is
returns-in_ok-target-in-Del-clause-is c = rw c.in-Del.is (numbered_Del c.args.next (view c.in-Del.target) c.in_ok-target-in-Del.target c.in_ok-target-in-Del.ensures.is)

pub returns-in_ok-e-in-Return-clause-is : goal.returns-in_ok-e-in-Return-clause-is
returns-in_ok-e-in-Return-clause-is c = rw c.in-Return.is (numbered_Return c.args.next (option_map view c.in-Return.e) c.in_ok-e-in-Return.e c.in_ok-e-in-Return.ensures.is)

pub returns-in_ok-e-in-Raise-clause-is : goal.returns-in_ok-e-in-Raise-clause-is
returns-in_ok-e-in-Raise-clause-is c = rw c.in-Raise.is (numbered_Raise c.args.next (option_map view c.in-Raise.e) c.in_ok-e-in-Raise.e c.in_ok-e-in-Raise.ensures.is)

pub returns-in-Pass-clause-is : goal.returns-in-Pass-clause-is
returns-in-Pass-clause-is c = rw c.in-Pass.is (numbered_Pass c.args.next)

pub returns-in-Break-clause-is : goal.returns-in-Break-clause-is
returns-in-Break-clause-is c = rw c.in-Break.is (numbered_Break c.args.next)

pub returns-in-Continue-clause-is : goal.returns-in-Continue-clause-is
returns-in-Continue-clause-is c = rw c.in-Continue.is (numbered_Continue c.args.next)

pub returns-in_ok-copied-in-Global-clause-is : goal.returns-in_ok-copied-in-Global-clause-is
returns-in_ok-copied-in-Global-clause-is c = rw c.in-Global.is (numbered_Global c.args.next c.in-Global.names.items c.in_ok-copied-in-Global.field-0 (c.in_ok-copied-in-Global.ensures ∙ c.as_slice-in-Global.ensures.value))

pub returns-in_ok-copied-in-Nonlocal-clause-is : goal.returns-in_ok-copied-in-Nonlocal-clause-is
returns-in_ok-copied-in-Nonlocal-clause-is c = rw c.in-Nonlocal.is (numbered_Nonlocal c.args.next c.in-Nonlocal.names.items c.in_ok-copied-in-Nonlocal.field-0 (c.in_ok-copied-in-Nonlocal.ensures ∙ c.as_slice-in-Nonlocal.ensures.value))

pub returns-in_ok-e-in-Assign-clause-is : goal.returns-in_ok-e-in-Assign-clause-is
returns-in_ok-e-in-Assign-clause-is c = rw c.in-Assign.is (numbered_Assign c.args.next c.in_ok-targets-in-Assign.after (views c.in-Assign.targets.items) (view c.in-Assign.e) c.in_ok-targets-in-Assign.targets c.in_ok-e-in-Assign.e
    (rw c.as_slice.ensures.value at c.in_ok-targets-in-Assign.ensures.is) (rw c.as_slice.ensures.value at c.in_ok-targets-in-Assign.ensures.after) c.in_ok-e-in-Assign.ensures.is)

pub returns-in_ok-e-in-Augment-clause-is : goal.returns-in_ok-e-in-Augment-clause-is
returns-in_ok-e-in-Augment-clause-is c = rw c.in-Augment.is (numbered_Augment c.args.next c.in_ok-place-in-Augment.after (view c.in-Augment.place) (view c.in-Augment.e) c.in-Augment.op c.in_ok-place-in-Augment.place c.in_ok-e-in-Augment.e
    c.in_ok-place-in-Augment.ensures.is c.in_ok-place-in-Augment.ensures.after c.in_ok-e-in-Augment.ensures.is)

pub returns-in_ok-message-in-Assert-clause-is : goal.returns-in_ok-message-in-Assert-clause-is
returns-in_ok-message-in-Assert-clause-is c = rw c.in-Assert.is (numbered_Assert c.args.next c.in_ok-test-in-Assert.after (view c.in-Assert.test) (option_map view c.in-Assert.message) c.in_ok-test-in-Assert.test c.in_ok-message-in-Assert.message
    c.in_ok-test-in-Assert.ensures.is c.in_ok-test-in-Assert.ensures.after c.in_ok-message-in-Assert.ensures.is)
