use Rattle.std.proofs.Common.{take}
use Rattle.version_store.specs.Dependents.{Follows}
use Rattle.version_store.proofs.followers.follow_run.Given as goal

abbrev pub invariant-loop-write : goal.invariant-loop-write
invariant-loop-write l = Follows l.runs l.s l.followers.held.items (take l.write-index l.s.writes) l.followed.held.items l.followed.touched.items
