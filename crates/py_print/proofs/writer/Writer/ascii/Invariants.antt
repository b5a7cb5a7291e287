use Rattle.std.proofs.Common.{◌≡◌, ◌++◌, take}
use Rattle.py_print.proofs.writer.Writer.ascii.Given as goal

abbrev pub invariant-loop-b : goal.invariant-loop-b
invariant-loop-b l = l.self-inside.points.items ≡ l.initial.self-inside.points.items ++ take l.b-index l.text
