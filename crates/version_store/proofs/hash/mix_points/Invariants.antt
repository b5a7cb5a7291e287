use Rattle.std.proofs.Common.{◌≡◌, take}
use Rattle.version_store.specs.Hash.{mix_all}
use Rattle.version_store.proofs.hash.mix_points.Given as goal

abbrev pub invariant-loop-point : goal.invariant-loop-point
invariant-loop-point l = l.mixed ≡ mix_all l.m (take l.point-index l.points)
