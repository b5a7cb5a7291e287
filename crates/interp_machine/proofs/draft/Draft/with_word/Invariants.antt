use Rattle.std.proofs.Common.{◌≡◌, ◌++◌, drop}
use Rattle.interp_machine.proofs.draft.Draft.with_word.Given as goal

abbrev pub invariant-loop-byte : goal.invariant-loop-byte
invariant-loop-byte l = l.points.items ++ drop l.byte-index l.byte-items ≡ l.fn.self ++ l.word
