use Rattle.std.proofs.Common.{◌≡◌, ◌++◌, drop}
use Rattle.kernel_core.specs.Marking.{has_name, live_in}
use Rattle.kernel_core.proofs.lineage.add_live.Given as goal

abbrev pub invariant-loop-name : goal.invariant-loop-name
invariant-loop-name l = l.live.items ++ live_in (has_name l.bound) (drop l.name-index l.used) ≡ l.fn.live.items ++ live_in (has_name l.bound) l.used
