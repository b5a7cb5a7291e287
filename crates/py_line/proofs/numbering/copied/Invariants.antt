use Rattle.std.proofs.Common.{◌≡◌, take}
use Rattle.py_line.proofs.numbering.copied.Given as goal

abbrev pub invariant-loop-name : goal.invariant-loop-name
invariant-loop-name l = l.done.items ≡ take l.name-index l.names
