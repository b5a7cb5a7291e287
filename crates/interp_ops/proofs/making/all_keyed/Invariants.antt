use Rattle.std.proofs.Common.{◌≡◌, drop}
use Rattle.interp_ops.specs.Making.{all_keyed}
use Rattle.interp_ops.proofs.making.all_keyed.Given as goal

abbrev pub invariant-loop-k : goal.invariant-loop-k
invariant-loop-k l = all_keyed (drop l.k-index l.keys) ≡ all_keyed l.keys
