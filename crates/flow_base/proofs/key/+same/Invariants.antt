use Rattle.std.proofs.Common.{◌≡◌, take}
use Rattle.flow_base.proofs.key.+same.Given as goal

abbrev pub invariant-same_keys-loop-i : goal.invariant-same_keys-loop-i
invariant-same_keys-loop-i l = take l.i l.s ≡ take l.i l.t
