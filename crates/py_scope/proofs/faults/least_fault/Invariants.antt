use Rattle.std.proofs.Common.{◌≡◌, drop, []}
use Rattle.py_scope.specs.Faults.{faults_from, least_with}
use Rattle.py_scope.proofs.faults.least_fault.Given as goal

abbrev pub invariant-loop-mark : goal.invariant-loop-mark
invariant-loop-mark l =
    least_with l.seen.least (faults_from l.kind l.known-inside.names l.round l.seen.globals l.seen.nonlocals (drop l.mark-index l.marks))
    ≡ least_with l.initial.seen.least (faults_from l.kind l.known-inside.names l.round [] [] l.marks)
