use Rattle.std.proofs.Common.{◌≡◌, [], map, drop}
use Rattle.interp_machine.specs.Symbols.{interned}
use Rattle.interp_machine.proofs.symbols.names_of.Given as goal

abbrev pub invariant-loop-word : goal.invariant-loop-word
invariant-loop-word l = interned l.names (map (λ w. w.now) (drop l.word-index l.words)) ≡ interned [] (map (λ w. w.now) l.words)
