use Rattle.std.proofs.Common.{◌≡◌, drop}
use Rattle.interp_machine.specs.Symbols.{class_among}
use Rattle.interp_machine.proofs.symbols.class_among.Given as goal

abbrev pub invariant-loop-c : goal.invariant-loop-c
invariant-loop-c l = class_among (drop l.c-index l.classes) l.s ≡ class_among l.classes l.s
