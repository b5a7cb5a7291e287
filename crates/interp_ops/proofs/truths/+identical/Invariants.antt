use Rattle.std.proofs.Common.{◌≡◌, map, drop}
use Rattle.interp_ops.specs.Truths.{all_pass, identical}
use Rattle.interp_ops.proofs.truths.+identical.Given as goal

abbrev pub invariant-all_identical-loop-x : goal.invariant-all_identical-loop-x
invariant-all_identical-loop-x l = all_pass (map identical l.xs) l.ys ≡ all_pass (map identical (drop l.x-index l.xs)) l.rest
