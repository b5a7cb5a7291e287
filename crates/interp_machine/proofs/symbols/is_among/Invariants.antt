use Rattle.std.proofs.Common.{◌≡◌, drop}
use Rattle.interp_machine.specs.Symbols.{is_among}
use Rattle.interp_machine.proofs.symbols.is_among.Given as goal

abbrev pub invariant-loop-n : goal.invariant-loop-n
invariant-loop-n l = is_among (drop l.n-index l.numbers) l.s ≡ is_among l.numbers l.s
