use Rattle.std.proofs.Common.{◌≡◌, take}
use Rattle.heap_objects.specs.Hash.{mix_all}
use Rattle.heap_objects.proofs.hash.mix_points.Given as goal

abbrev pub invariant-loop-point : goal.invariant-loop-point
invariant-loop-point l = l.mixed ≡ mix_all l.m (take l.point-index l.points)
