use Rattle.std.proofs.Common.{◌≡◌, take}
use Rattle.exceptions_core.proofs.class.spells.Given as goal

abbrev pub invariant-loop-i : goal.invariant-loop-i
invariant-loop-i l = take l.i l.name ≡ take l.i l.word-2
