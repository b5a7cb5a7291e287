use Rattle.std.proofs.Common.{◌≡◌, ◌*◌, ◌++◌, replicate}
use Rattle.py_print.proofs.writer.Writer.indent.Given as goal

abbrev pub invariant-loop : goal.invariant-loop
invariant-loop l = l.self-inside.points.items ≡ l.initial.self-inside.points.items ++ replicate (4 * l.counter) 32
