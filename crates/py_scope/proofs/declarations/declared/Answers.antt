use Rattle.py_scope.proofs.Going.{goes_on, with_names_append}
use Rattle.py_scope.specs.NameLists.{with_names}
use Rattle.py_scope.specs.Scopes.{declared, declared_in}
use Rattle.py_scope.proofs.declarations.declared.Goals as goal

pub loop-mark-preserved : goal.loop-mark-preserved
loop-mark-preserved c =
    goes_on with_names with_names_append (declared_in c.args.way) c.loop-mark.mark-index c.loop-mark.names c.add_declared.new.names
    (declared c.args.way c.args.marks.now) c.args.marks.now c.mark-item.result c.loop-mark-test.true c.mark-item.is
    c.in_ok-add_declared.ensures
    c.loop-mark.invariant
