use Rattle.std.proofs.Common.{◌≡◌, drop}
use Rattle.exceptions_core.specs.Classes.{first_named}
use Rattle.exceptions_core.proofs.class.first_named.Given as goal

abbrev pub invariant-loop-c : goal.invariant-loop-c
invariant-loop-c l = first_named l.name (drop l.c-index l.classes) ≡ first_named l.name l.classes
